-- The refusals: their numbers, and which one a call answers.
use Rattle.std.specs.Prelude.{◌≡◌, ℕ, Option, Some, None, Result, Err, IsOk, IsOkUnless}
use Rattle.play_queue.specs.declared.refusal.QueueError.{QueueError}
use Rattle.play_queue.specs.declared.refusal.QueueError.TheVariants.{BadIndex, NoSuchSong, QueueFull, IdsSpent, NoCurrentSong, NoMemory}

abbrev pub number_of : QueueError → ℕ
number_of BadIndex = 22
number_of NoSuchSong = 23
number_of QueueFull = 24
number_of IdsSpent = 25
number_of NoCurrentSong = 55
number_of NoMemory = 7

-- a call is refused by this, or else it succeeds
abbrev pub Answers : {T E : Type 0} → Option E → Result T E → Type 0
Answers None r = IsOk r
Answers (Some e) r = r ≡ Err e

-- a call is refused by this, or else by another refusal alone
abbrev pub AnswersUnless : {T E : Type 0} → E → Option E → Result T E → Type 0
AnswersUnless other None r = IsOkUnless r other
AnswersUnless other (Some e) r = r ≡ Err e

-- a call is refused by this, or else by want of memory alone
abbrev pub AnswersIfMemory : {T : Type 0} → Option QueueError → Result T QueueError → Type 0
AnswersIfMemory refusal r = AnswersUnless NoMemory refusal r
