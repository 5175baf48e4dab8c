-- The refusals of a shared stage, and their numbers.
use Rattle.std.specs.Prelude.{ℕ}
use Rattle.live_stage.specs.declared.refusal.LiveError.{LiveError}
use Rattle.live_stage.specs.declared.refusal.LiveError.TheVariants as turns
use Rattle.stage_workers.specs.declared.refusal.StageError.{StageError}
use Rattle.stage_workers.specs.declared.refusal.StageError.TheVariants.{Broken, NoMemory, Rewound, NumbersSpent}
use Rattle.stage_workers.specs.declared.refusal.SettleError.{SettleError}
use Rattle.stage_workers.specs.declared.refusal.SettleError.TheVariants.{ShareMismatch, ReceiptMismatch}

-- a turn's refusal, as a shared stage has it
abbrev pub refused_by : LiveError → StageError
refused_by turns.Broken = Broken
refused_by turns.NoMemory = NoMemory
refused_by turns.NumbersSpent = NumbersSpent

abbrev pub number_of : StageError → ℕ
number_of Broken = 42
number_of NoMemory = 43
number_of (Rewound seen found) = 44
number_of NumbersSpent = 49

abbrev pub settle_number_of : SettleError → ℕ
settle_number_of (ShareMismatch kind) = 45
settle_number_of (ReceiptMismatch event) = 46
