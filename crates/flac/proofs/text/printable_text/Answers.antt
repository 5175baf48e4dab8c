use Rattle.std.proofs.Common.{◌∙◌, sym}
use Rattle.flac.proofs.TextTests.{printable_utf8}
use Rattle.flac.proofs.text.printable_text.Goals as goal

pub returns-in-Err : goal.returns-in-Err
returns-in-Err c = absurd (c.in-Err.ensures.cases.0 (printable_utf8 c.args.bytes.now (sym c.is_printable.ensures ∙
    c.if-not-is_printable.false)))
