-- The numbers of the refusals, and when each comes.
use Rattle.std.specs.Prelude.{ℕ}
use Rattle.id3_tags.specs.declared.refusal.TagError.{TagError}
use Rattle.id3_tags.specs.declared.refusal.TagError.TheVariants.{NoMemory, NotTag, ReadFault, Unwritable}

abbrev pub number_of : TagError → ℕ
number_of NoMemory = 7
number_of ReadFault = 15
number_of NotTag = 71
number_of Unwritable = 72

-- Memory was wanting, or the source failed: no verdict on the bytes.
abbrev pub Fails : Type 0 → TagError → Type 0
Fails fault NoMemory = Unit {0}
Fails fault ReadFault = fault
Fails fault NotTag = ⊥
Fails fault Unwritable = ⊥

-- Memory was wanting, the source failed, or there is no tag.
abbrev pub Refuses : Type 0 → Type 0 → TagError → Type 0
Refuses none fault NoMemory = Unit {0}
Refuses none fault ReadFault = fault
Refuses none fault NotTag = none
Refuses none fault Unwritable = ⊥
