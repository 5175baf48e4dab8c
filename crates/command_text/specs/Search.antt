-- How the words of a search part, whether they are good or not: a filter's words, and behind them `sort TAG`, `window START:END` and, where
-- songs are added, `position PLACE`, in this order, each of which may be left out. The place of a fault is the count of the words up to it.
use Rattle.std.specs.Prelude.{◌≡◌, ◌≢◌, ◌⊎◌, ℕ, ◌+◌, List, [], ◌∷◌, ◌++◌, length, codes, Bool, true, false}
use Rattle.std.specs.Prelude.{Option, Some, None, Result, Ok, Err}
use Rattle.profile.specs.declared.profile.Profile.{Profile}
use Rattle.profile.specs.declared.profile.Profile.TheVariants.{Named, Wide}
use Rattle.filter_expr.specs.declared.case.Case.{Case}
use Rattle.filter_expr.specs.declared.order.SortOrder.{SortOrder}
use Rattle.filter_expr.specs.Parts.{opening, begins_so}
use Rattle.filter_expr.specs.SortWord.{sort_order}
use Rattle.filter_expr.specs.Tree.{Tree}
use Rattle.command_text.specs.declared.command.finding.FindingCommand.{FindingCommand}
use Rattle.command_text.specs.declared.command.finding.FindingCommand.TheVariants as commands
use Rattle.command_text.specs.declared.command.finding.Search.{Search}
use Rattle.command_text.specs.declared.refusal.CommandRefusal.{CommandRefusal}
use Rattle.command_text.specs.declared.refusal.CommandRefusal.TheVariants.{BadArgument, WrongCount}
use Rattle.command_text.specs.Arguments.{target_of, window_of}
use Rattle.command_text.specs.Counts.{◌>>=◌, Word, optional}
use Rattle.command_text.specs.Finding.{begins_part}
use Rattle.command_text.specs.NameArguments.{told, filter_argument}

-- what stands in the place of each part; words that are in none of them are left at the end
pub record Parts : Type 0 where
  pub filter : List Word
  pub sort : Option Word
  pub window : Option Word
  pub position : Option Word
  pub rest : List Word

-- a part as it stands among the words: its name and its value, or nothing
abbrev pub words_of : Word → Option Word → List Word
words_of name None = []
words_of name (Some value) = name ∷ value ∷ []

-- the words behind each part
abbrev pub behind_window : Parts → List Word
behind_window p = words_of (codes "position") p.position ++ p.rest

abbrev pub behind_sort : Parts → List Word
behind_sort p = words_of (codes "window") p.window ++ behind_window p

abbrev pub behind_filter : Parts → List Word
behind_filter p = words_of (codes "sort") p.sort ++ behind_sort p

-- a part is left out only where its name and a value don't stand
abbrev pub IsNext : Word → Option Word → List Word → Type 0
IsNext name None behind = (value : Word) (more : List Word) → behind ≢ name ∷ value ∷ more
IsNext name (Some value) behind = Unit {0}

-- pairs of a tag and a value, of which no tag is a part's name
abbrev pub ArePairs : Bool → List Word → Type 0
ArePairs adds [] = Unit {0}
ArePairs adds (word ∷ []) = ⊥
ArePairs adds (tag ∷ value ∷ words) = (begins_part adds tag ≡ false) × ArePairs adds words

-- pairs end where a part begins, or there is no further pair
abbrev pub EndsPairs : Bool → List Word → Type 0
EndsPairs adds [] = Unit {0}
EndsPairs adds (word ∷ []) = Unit {0}
EndsPairs adds (name ∷ value ∷ words) = begins_part adds name ≡ true

-- one word that is an expression
abbrev pub IsExpression : List Word → Type 0
IsExpression filter = (word : Word) × (filter ≡ word ∷ []) × (begins_so opening word ≡ true)

-- a pair, whatever its tag, and all pairs behind it up to a part
pub record IsPairs (adds : Bool) (filter behind : List Word) : Type 0 where
  pub tag : Word
  pub value : Word
  pub pairs : List Word
  pub whole : filter ≡ tag ∷ value ∷ pairs
  pub bare : begins_so opening tag ≡ false
  pub are_pairs : ArePairs adds pairs
  pub ends : EndsPairs adds behind

-- In the wide profile: an expression or a pair, whatever its tag, and all expressions and pairs behind it up to a part.
abbrev pub IsOne : List Word → Type 0
IsOne filter = IsExpression filter ⊎ ((tag value : Word) × (filter ≡ tag ∷ value ∷ []) × (begins_so opening tag ≡ false))

abbrev pub AreMixed : Bool → List Word → Type 0
AreMixed adds [] = Unit {0}
AreMixed adds (word ∷ []) = begins_so opening word ≡ true
AreMixed adds (word ∷ other ∷ words) =
    ((begins_so opening word ≡ true) × AreMixed adds (other ∷ words))
    ⊎ ((begins_so opening word ≡ false) × (begins_part adds word ≡ false) × AreMixed adds words)

abbrev pub EndsMixed : Bool → List Word → Type 0
EndsMixed adds [] = Unit {0}
EndsMixed adds (word ∷ []) = begins_so opening word ≡ false
EndsMixed adds (name ∷ value ∷ words) = (begins_so opening name ≡ false) × (begins_part adds name ≡ true)

pub record IsMixed (adds : Bool) (filter behind : List Word) : Type 0 where
  pub first : List Word
  pub more : List Word
  pub whole : filter ≡ first ++ more
  pub one : IsOne first
  pub are_mixed : AreMixed adds more
  pub ends : EndsMixed adds behind

-- a filter that a profile knows
abbrev pub IsFilter : Profile → Bool → List Word → List Word → Type 0
IsFilter Named adds filter behind = IsExpression filter ⊎ IsPairs adds filter behind
IsFilter Wide adds filter behind = IsMixed adds filter behind

-- only where songs are added a position may stand
abbrev pub IsPosition : Bool → Option Word → List Word → Type 0
IsPosition true position rest = IsNext (codes "position") position rest
IsPosition false position rest = position ≡ None

-- the words part so
pub record ArePartedSo (profile : Profile) (adds : Bool) (words : List Word) (p : Parts) : Type 0 where
  pub whole : words ≡ p.filter ++ behind_filter p
  pub filter : IsFilter profile adds p.filter (behind_filter p)
  pub sort : IsNext (codes "sort") p.sort (behind_sort p)
  pub window : IsNext (codes "window") p.window (behind_window p)
  pub position : IsPosition adds p.position p.rest

-- how many words stand before each part
abbrev pub before_window : Parts → ℕ
before_window p = length p.filter + length (words_of (codes "sort") p.sort)

abbrev pub before_position : Parts → ℕ
before_position p = before_window p + length (words_of (codes "window") p.window)

abbrev pub before_rest : Parts → ℕ
before_rest p = before_position p + length (words_of (codes "position") p.position)

abbrev pub sort_value : Profile → Option Word → Result (Option SortOrder) CommandRefusal
sort_value profile None = Ok None
sort_value profile (Some word) = told (sort_order profile word) >>= λ order. Ok (Some order)

-- what the parts say, or the first fault from left to right
abbrev pub search_of : Profile → Case → Parts → Result Search CommandRefusal
search_of profile case p = do
  filter ← filter_argument profile p.filter
  sort ← sort_value profile p.sort
  window ← optional (before_window p + 2) window_of p.window
  Ok (record { case = case; filter = filter; sort = sort; window = window })

-- the first word that is in no part is a fault
abbrev pub no_rest : {A : Type 0} → ℕ → List Word → A → Result A CommandRefusal
no_rest before [] value = Ok value
no_rest before (word ∷ words) value = Err (BadArgument (before + 1))

abbrev pub found_by : Profile → Case → Parts → Result FindingCommand CommandRefusal
found_by profile case p = search_of profile case p >>= λ x. no_rest (before_rest p) p.rest (commands.Find x)

abbrev pub added_by : Profile → Case → Parts → Result FindingCommand CommandRefusal
added_by profile case p =
    search_of profile case p >>= λ x. optional (before_position p + 2) target_of p.position
    >>= λ to. no_rest (before_rest p) p.rest (commands.Add x to)

-- words that come two by two
abbrev pub AreTwoByTwo : List Word → Type 0
AreTwoByTwo [] = Unit {0}
AreTwoByTwo (word ∷ []) = ⊥
AreTwoByTwo (word ∷ other ∷ words) = AreTwoByTwo words

-- the words part so, and those that are in no part come two by two: else their count is wrong
pub record AreSearch (profile : Profile) (adds : Bool) (words : List Word) (p : Parts) : Type 0 where
  pub parted : ArePartedSo profile adds words p
  pub even : AreTwoByTwo p.rest

-- the answer to words: what their parts say, or a wrong count where they don't part so
abbrev pub IsAnswer :
    Profile → Bool → (Parts → Result FindingCommand CommandRefusal) → List Word → Result FindingCommand CommandRefusal → Type 0
IsAnswer profile adds says words answer =
    ((p : Parts) × AreSearch profile adds words p × (answer ≡ says p))
    ⊎ (((p : Parts) → AreSearch profile adds words p → ⊥) × (answer ≡ Err WrongCount))

-- expressions and pairs in any order
abbrev pub ArePartsAlone : List Word → Type 0
ArePartsAlone [] = Unit {0}
ArePartsAlone (word ∷ []) = begins_so opening word ≡ true
ArePartsAlone (word ∷ other ∷ words) =
    ((begins_so opening word ≡ true) × ArePartsAlone (other ∷ words)) ⊎ ((begins_so opening word ≡ false) × ArePartsAlone words)

-- the words of a filter behind which nothing stands
abbrev pub IsAlone : Profile → List Word → Type 0
IsAlone profile [] = ⊥
IsAlone Named (word ∷ words) =
    ((begins_so opening word ≡ true) × (words ≡ [])) ⊎ ((begins_so opening word ≡ false) × AreTwoByTwo (word ∷ words))
IsAlone Wide (word ∷ words) = ArePartsAlone (word ∷ words)

-- what they say, or a wrong count where they are none
abbrev pub IsAnswerAlone : Profile → List Word → Result Tree CommandRefusal → Type 0
IsAnswerAlone profile words answer =
    (IsAlone profile words × (answer ≡ filter_argument profile words)) ⊎ ((IsAlone profile words → ⊥) × (answer ≡ Err WrongCount))
