-- The numbers of the refusals.
use Rattle.std.specs.Prelude.{◌≡◌, ℕ, Option, Some, None, Result, Ok, Err, IsOkUnless}
use Rattle.player_core.specs.declared.refusal.PlayerError.{PlayerError}
use Rattle.player_core.specs.declared.refusal.PlayerError.TheVariants.{BadIndex, NoSuchSong, NotPlaying, NoMemory}

abbrev pub number_of : PlayerError → ℕ
number_of BadIndex = 22
number_of NoSuchSong = 23
number_of NotPlaying = 33
number_of NoMemory = 7

-- what a definition refuses by
abbrev pub refusal_of : {T : Type 0} → Result T PlayerError → Option PlayerError
refusal_of (Ok value) = None
refusal_of (Err e) = Some e

-- a call is refused by this, or else by want of memory alone
abbrev pub AnswersIfMemory : {T : Type 0} → Option PlayerError → Result T PlayerError → Type 0
AnswersIfMemory None r = IsOkUnless r NoMemory
AnswersIfMemory (Some e) r = r ≡ Err e
