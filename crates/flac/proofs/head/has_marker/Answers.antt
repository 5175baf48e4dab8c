use Rattle.std.proofs.Common.{◌∙◌, ap, sym, arith}
use Rattle.flac.proofs.Heads.{no_marker, marker_is}
use Rattle.flac.proofs.head.has_marker.Goals as goal

pub returns-then-end-start-clause-told : goal.returns-then-end-start-clause-told
returns-then-end-start-clause-told g c = λ told all. no_marker (g.S.Source.bytes c.args.source.now) c.args.start (omega (arith, all))

pub returns-clause-told : goal.returns-clause-told
returns-clause-told g c = λ told all.
    c.eq.ensures ∙ marker_is (g.S.Source.bytes c.args.source.now) c.read_bytes.new.buffer c.args.start (omega (arith, all))
    (c.in_ok-read_bytes.ensures.read told)
