use Rattle.std.proofs.Common.{ap}
use Rattle.std.specs.Prelude.{string_bytes}
use Rattle.id3_tags.specs.Strings.{texts_by_order}
use Rattle.id3_tags.proofs.Pushes.{give_more}
use Rattle.id3_tags.proofs.strings.unit_texts.Goals as goal

pub strings-preserved : goal.strings-preserved
strings-preserved c =
    let low = c.is_low_first-low_first.ensures in
    give_more string_bytes _ _ _ _ _ _ _ c.in_ok-push.ensures.items (rw low at c.in_ok-unit_text.ensures)
    (rw low (ap (texts_by_order c.strings.low_first) c.in-Some.ensures.parts)) c.strings.invariant
