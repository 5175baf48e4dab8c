use Rattle.std.proofs.Common.{◌≡◌, ◌+◌, ◌*◌, ◌<◌, ◌≤◌, ◌∙◌, ap, length, arith, take, slice_range}
use Rattle.flac.specs.Reader.{IsReaderOf, all_samples}
use Rattle.flac.proofs.Turns.{piece_shown}
use Rattle.flac.proofs.reader.FlacReader.read.Goals as goal

pub returns-clause-samples : goal.returns-clause-samples
returns-clause-samples g c = λ told known.
    let all = c.len-end.ensures told in
    let same = c.in_ok-find.ensures.same in
    let knows : IsReaderOf (g.S.Source.bytes c.args.source.now) c.find.new.self = c.in_ok-find.ensures.knows told all known in
    let copied = rw (same.0, same.1) at (c.copy.ensures.samples (g.S.Source.bytes c.args.source.now) knows) in
    let few = rw same.0 at c.copy.ensures.limited in
    copied ∙ piece_shown c.args.self.now.info (all_samples c.args.self.now.info c.args.self.now.start (g.S.Source.bytes
    c.args.source.now)) c.args.from c.copy.result (λ some. few some (c.is_past.ensures.before c.if-is_past.false some))
