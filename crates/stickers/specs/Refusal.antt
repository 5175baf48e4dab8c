-- The refusals: their numbers, and which one a call answers.
use Rattle.std.specs.Prelude.{◌≡◌, ℕ, Option, Some, None, Result, Err, IsOk, IsOkUnless}
use Rattle.stickers.specs.declared.refusal.StickersError.{StickersError}
use Rattle.stickers.specs.declared.refusal.StickersError.TheVariants.{NoSuchSticker, BadStickerName, StickersFull, NoMemory}

abbrev pub number_of : StickersError → ℕ
number_of NoSuchSticker = 30
number_of BadStickerName = 31
number_of StickersFull = 32
number_of NoMemory = 7

-- a call is refused by this, or else it succeeds
abbrev pub Answers : {T E : Type 0} → Option E → Result T E → Type 0
Answers None r = IsOk r
Answers (Some e) r = r ≡ Err e

-- a call is refused by this, or else by another refusal alone
abbrev pub AnswersUnless : {T E : Type 0} → E → Option E → Result T E → Type 0
AnswersUnless other None r = IsOkUnless r other
AnswersUnless other (Some e) r = r ≡ Err e

-- a call is refused by this, or else by want of memory alone
abbrev pub AnswersIfMemory : {T : Type 0} → Option StickersError → Result T StickersError → Type 0
AnswersIfMemory refusal r = AnswersUnless NoMemory refusal r
