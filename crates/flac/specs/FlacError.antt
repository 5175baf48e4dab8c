-- The numbers of the refusals, and which of them are verdicts on the file.
use Rattle.std.specs.Prelude.{◌≡◌, ℕ, Result, Ok, Err}
use Rattle.flac.specs.declared.refusal.FlacError.{FlacError}
use Rattle.flac.specs.declared.refusal.FlacError.TheVariants.{NoMemory, ReadFault, NotFlac, BadStreamInfo, Unsupported, DamagedBlock, TooManyBlocks, BrokenFrame}

abbrev pub number_of : FlacError → ℕ
number_of NoMemory = 7
number_of ReadFault = 15
number_of NotFlac = 80
number_of BadStreamInfo = 81
number_of (Unsupported rate channels bits) = 82
number_of DamagedBlock = 83
number_of TooManyBlocks = 84
number_of BrokenFrame = 85

-- an error that is a verdict on the file
abbrev pub IsVerdict : FlacError → Type 0
IsVerdict NoMemory = ⊥
IsVerdict ReadFault = ⊥
IsVerdict NotFlac = Unit {0}
IsVerdict BadStreamInfo = Unit {0}
IsVerdict (Unsupported rate channels bits) = Unit {0}
IsVerdict DamagedBlock = Unit {0}
IsVerdict TooManyBlocks = Unit {0}
IsVerdict BrokenFrame = Unit {0}

-- Memory was wanting, the source failed, or this is the refusal.
abbrev pub Refuses : {A : Type 0} → Result A FlacError → Type 0 → FlacError → Type 0
Refuses reading fault NoMemory = Unit {0}
Refuses reading fault ReadFault = fault
Refuses reading fault NotFlac = reading ≡ Err NotFlac
Refuses reading fault BadStreamInfo = reading ≡ Err BadStreamInfo
Refuses reading fault (Unsupported rate channels bits) = reading ≡ Err (Unsupported rate channels bits)
Refuses reading fault DamagedBlock = reading ≡ Err DamagedBlock
Refuses reading fault TooManyBlocks = reading ≡ Err TooManyBlocks
Refuses reading fault BrokenFrame = reading ≡ Err BrokenFrame

-- Memory was wanting, or the source failed: no verdict on the file.
abbrev pub Fails : Type 0 → FlacError → Type 0
Fails fault NoMemory = Unit {0}
Fails fault ReadFault = fault
Fails fault NotFlac = ⊥
Fails fault BadStreamInfo = ⊥
Fails fault (Unsupported rate channels bits) = ⊥
Fails fault DamagedBlock = ⊥
Fails fault TooManyBlocks = ⊥
Fails fault BrokenFrame = ⊥
