use Rattle.std.proofs.Common.{map, ap}
use Rattle.std.specs.Prelude.{string_bytes}
use Rattle.id3_tags.specs.Strings.{kept}
use Rattle.id3_tags.proofs.Pushes.{give_more, give_last}
use Rattle.id3_tags.proofs.strings.byte_texts.Goals as goal

pub strings-preserved : goal.strings-preserved
strings-preserved c = give_more string_bytes _ _ _ _ _ _ _ c.in_ok-push.ensures.items c.in_ok-kept.ensures (ap (map kept)
    c.in-Some.ensures.parts) c.strings.invariant

pub returns : goal.returns
returns c = give_last string_bytes _ _ _ _ _ _ c.in_ok-push-2.ensures.items c.in_ok-kept-2.ensures (ap (map kept)
    c.in_default.ensures.parts) c.strings.invariant
