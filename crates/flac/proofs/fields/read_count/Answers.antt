use Rattle.std.proofs.Common.{◌∙◌, ap, sym, Some, arith}
use Rattle.flac.proofs.FieldList.{no_count, count_is}
use Rattle.flac.proofs.fields.read_count.Goals as goal

pub returns-then-end-at-lt-NUMBER_LEN-clause-count : goal.returns-then-end-at-lt-NUMBER_LEN-clause-count
returns-then-end-at-lt-NUMBER_LEN-clause-count g c = λ told within. no_count _ _ _ (omega arith) within c.requires

pub returns-clause-count : goal.returns-clause-count
returns-clause-count g c = λ told within.
    ap Some c.from.ensures ∙ ap Some c.from_le_bytes.ensures
    ∙ count_is (g.S.Source.bytes c.args.source.now) c.read_bytes.new.buffer c.args.at c.args.end (omega arith) within
    (c.in_ok-read_bytes.ensures.read told)
