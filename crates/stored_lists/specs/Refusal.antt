-- The refusals: their numbers, and which one a call answers.
use Rattle.std.specs.Prelude.{◌≡◌, ℕ, Option, Some, None, Result, Err, IsOk, IsOkUnless}
use Rattle.stored_lists.specs.declared.refusal.ListsError.{ListsError}
use Rattle.stored_lists.specs.declared.refusal.ListsError.TheVariants.{BadIndex, BadName, NoSuchList, ListExists, ListsFull, NoMemory}

abbrev pub number_of : ListsError → ℕ
number_of BadIndex = 22
number_of BadName = 26
number_of NoSuchList = 27
number_of ListExists = 28
number_of ListsFull = 29
number_of NoMemory = 7

-- a call is refused by this, or else it succeeds
abbrev pub Answers : {T E : Type 0} → Option E → Result T E → Type 0
Answers None r = IsOk r
Answers (Some e) r = r ≡ Err e

-- a call is refused by this, or else by another refusal alone
abbrev pub AnswersUnless : {T E : Type 0} → E → Option E → Result T E → Type 0
AnswersUnless other None r = IsOkUnless r other
AnswersUnless other (Some e) r = r ≡ Err e

-- a call is refused by this, or else by want of memory alone
abbrev pub AnswersIfMemory : {T : Type 0} → Option ListsError → Result T ListsError → Type 0
AnswersIfMemory refusal r = AnswersUnless NoMemory refusal r
