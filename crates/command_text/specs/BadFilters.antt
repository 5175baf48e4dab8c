-- What makes words no filter stands in one word, or they end too early.
use Rattle.std.specs.Prelude.{◌≡◌, ◌⊎◌, ℕ, List, ◌∷◌, ◌++◌, length, Err}
use Rattle.profile.specs.declared.profile.Profile.{Profile}
use Rattle.filter_expr.specs.Words.{Refusal, filter_of}
use Rattle.filter_expr.specs.Words.Refusal.{BadFilter, UnknownTag, TooDeep}
use Rattle.command_text.specs.Counts.{Word}

-- the refusal's place is in the word of this number; an unknown tag is told by its name alone
abbrev pub IsInWord : Refusal → ℕ → Type 0
IsInWord (BadFilter word byte) number = word ≡ number
IsInWord (UnknownTag name) number = Unit {0}
IsInWord (TooDeep word byte) number = word ≡ number

-- a word is the fault, and whatever stands behind it, the words are refused so
pub record HasFault (profile : Profile) (words : List Word) (refusal : Refusal) : Type 0 where
  pub front : List Word
  pub word : Word
  pub behind : List Word
  pub whole : words ≡ front ++ word ∷ behind
  pub place : IsInWord refusal (length front)
  pub stays : (more : List Word) → filter_of profile (front ++ word ∷ more) ≡ Err refusal

-- the fault is that no more words stand there
abbrev pub EndsEarly : List Word → Refusal → Type 0
EndsEarly words refusal = refusal ≡ BadFilter (length words) 0

abbrev pub IsRefusedSo : Profile → List Word → Refusal → Type 0
IsRefusedSo profile words refusal = EndsEarly words refusal ⊎ HasFault profile words refusal
