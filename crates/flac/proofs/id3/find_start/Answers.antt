use Rattle.std.proofs.Common.{◌∙◌, ap, sym, arith}
use Rattle.flac.specs.Id3.{tag_len}
use Rattle.flac.proofs.Heads.{no_tag, start_is}
use Rattle.flac.proofs.id3.find_start.Goals as goal

pub returns-then-end-lt-TAG_HEAD_LEN-clause-start : goal.returns-then-end-lt-TAG_HEAD_LEN-clause-start
returns-then-end-lt-TAG_HEAD_LEN-clause-start g c = λ told all. no_tag _ (omega (arith, all))

pub returns-clause-start : goal.returns-clause-start
returns-clause-start g c = λ told all.
    c.len_by.ensures.len ∙ start_is (g.S.Source.bytes c.args.source.now) c.read_bytes.new.buffer (c.in_ok-read_bytes.ensures.read told)
