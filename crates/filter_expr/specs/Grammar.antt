-- Which texts are expressions, and of which trees: by the parts that a text is put together from.
use Rattle.std.specs.Prelude.{◌≡◌, ◌≢◌, ◌⊎◌, ◌↔◌, ℕ, zero, suc, ◌<◌, List, [], ◌∷◌, ◌++◌, length, Bool, true, false, Some, Ok}
use Rattle.std.specs.Prelude.{codes, map}
use Rattle.std.specs.Char.{to_ascii_lowercase}
use Rattle.std.specs.List.{list_all}
use Rattle.std.specs.Str.{is_utf8}
use Rattle.profile.specs.declared.profile.Profile.{Profile}
use Rattle.profile.specs.declared.profile.Profile.TheVariants.{Named, Wide}
use Rattle.filter_expr.specs.declared.name.Key.TheVariants as keys
use Rattle.filter_expr.specs.declared.operator.Operator.{Operator}
use Rattle.filter_expr.specs.declared.operator.Operator.TheVariants as operators
use Rattle.filter_expr.specs.declared.subject.AudioFormat.{AudioFormat}
use Rattle.filter_expr.specs.declared.subject.Subject.{Subject}
use Rattle.filter_expr.specs.Formats.{format_in}
use Rattle.filter_expr.specs.Names.{key_named}
use Rattle.filter_expr.specs.Parts.{opening, closing, exclamation, backslash, is_blank, is_quote}
use Rattle.filter_expr.specs.Reading.{is_file, test_tree, is_good_value, most_open, whole}
use Rattle.filter_expr.specs.Times.{time_in}
use Rattle.filter_expr.specs.Tree.{Tree}
use Rattle.filter_expr.specs.Tree.Tree.{Base, Since, Format, Not, And}

abbrev pub AreBlanks : List ℕ → Type 0
AreBlanks gap = list_all is_blank gap ≡ true

-- one blank at least
abbrev pub IsGap : List ℕ → Type 0
IsGap gap = AreBlanks gap × (0 < length gap)

-- Between quotes a byte stands for itself, but for the quote and a backslash, and any byte may stand behind a backslash.
abbrev pub Escapes : ℕ → List ℕ → List ℕ → Type 0
Escapes quote [] inside = inside ≡ []
Escapes quote (b ∷ value) inside =
    (rest : List ℕ) × Escapes quote value rest
    × (((inside ≡ b ∷ rest) × (b ≢ quote) × (b ≢ backslash)) ⊎ (inside ≡ backslash ∷ b ∷ rest))

-- a value in quotes of one kind
pub record SpellsValue (text value : List ℕ) : Type 0 where
  pub quote : ℕ
  pub inside : List ℕ
  pub a_quote : is_quote quote ≡ true
  pub escaped : Escapes quote value inside
  pub utf8 : is_utf8 value ≡ true
  pub parts : text ≡ quote ∷ (inside ++ quote ∷ [])

-- a sign, with blanks around it or not
abbrev pub IsSign : List ℕ → List ℕ → Type 0
IsSign sign middle = (before after : List ℕ) × AreBlanks before × AreBlanks after × (middle ≡ before ++ (sign ++ after))

-- lowercase letters, written in any case
abbrev pub AreLetters : List ℕ → List ℕ → Type 0
AreLetters word letters = map to_ascii_lowercase letters ≡ word

-- a word between blanks
abbrev pub IsSpaced : List ℕ → List ℕ → Type 0
IsSpaced word middle =
    (before letters after : List ℕ) × IsGap before × AreLetters word letters × IsGap after × (middle ≡ before ++ (letters ++ after))

-- in the wide profile: what stands between a tag, or a file, and its value
abbrev pub IsWideOperator : Operator → List ℕ → Type 0
IsWideOperator operators.Equal middle = IsSign (codes "==") middle
IsWideOperator operators.Unequal middle = IsSign (codes "!=") middle
IsWideOperator operators.Like middle = IsSign (codes "=~") middle
IsWideOperator operators.Unlike middle = IsSign (codes "!~") middle
IsWideOperator operators.Contains middle = IsSpaced (codes "contains") middle
IsWideOperator operators.Begins middle = IsSpaced (codes "starts_with") middle
IsWideOperator operators.Lacks middle =
    (before letters after : List ℕ) × AreBlanks before × AreLetters (codes "contains") letters × IsGap after
    × (middle ≡ before ++ (exclamation ∷ (letters ++ after)))

-- in the named subset: what stands between a tag and its value, which may be `==` alone
abbrev pub IsNamedOperator : Bool → Operator → List ℕ → Type 0
IsNamedOperator only operators.Equal middle =
    (before after : List ℕ) × AreBlanks before × AreBlanks after × (middle ≡ before ++ (codes "==" ++ after))
IsNamedOperator true operators.Unequal middle = ⊥
IsNamedOperator false operators.Unequal middle =
    (before after : List ℕ) × AreBlanks before × AreBlanks after × (middle ≡ before ++ (codes "!=" ++ after))
IsNamedOperator true operators.Contains middle = ⊥
IsNamedOperator false operators.Contains middle =
    (before after : List ℕ) × IsGap before × IsGap after × (middle ≡ before ++ (codes "contains" ++ after))
IsNamedOperator only operators.Lacks middle = ⊥
IsNamedOperator only operators.Begins middle = ⊥
IsNamedOperator only operators.Like middle = ⊥
IsNamedOperator only operators.Unlike middle = ⊥

abbrev pub IsOperator : Profile → Subject → Operator → List ℕ → Type 0
IsOperator Named subject operator middle = IsNamedOperator (is_file subject) operator middle
IsOperator Wide subject operator middle = IsWideOperator operator middle

-- `base V`
pub record SpellsBase (profile : Profile) (tree : Tree) (text : List ℕ) : Type 0 where
  pub name : List ℕ
  pub gap : List ℕ
  pub quoted : List ℕ
  pub value : List ℕ
  pub named : key_named profile name ≡ Some keys.Base
  pub blanks : AreBlanks gap
  pub spelled : SpellsValue quoted value
  pub parts : text ≡ name ++ (gap ++ quoted)
  pub says : tree ≡ Base value

-- `modified-since V`
pub record SpellsSince (profile : Profile) (tree : Tree) (text : List ℕ) : Type 0 where
  pub name : List ℕ
  pub gap : List ℕ
  pub quoted : List ℕ
  pub value : List ℕ
  pub time : ℕ
  pub named : key_named profile name ≡ Some keys.Since
  pub blanks : AreBlanks gap
  pub spelled : SpellsValue quoted value
  pub read : time_in value ≡ Some time
  pub parts : text ≡ name ++ (gap ++ quoted)
  pub says : tree ≡ Since time

-- how a format is compared: `==`, or `=~` with stars
abbrev pub IsFormatSign : Bool → List ℕ → Type 0
IsFormatSign false middle = IsSign (codes "==") middle
IsFormatSign true middle = IsSign (codes "=~") middle

-- `AudioFormat == V` and its kin
pub record SpellsFormat (profile : Profile) (tree : Tree) (text : List ℕ) : Type 0 where
  pub name : List ℕ
  pub stars : Bool
  pub middle : List ℕ
  pub quoted : List ℕ
  pub value : List ℕ
  pub format : AudioFormat
  pub named : key_named profile name ≡ Some keys.Format
  pub compared : IsFormatSign stars middle
  pub spelled : SpellsValue quoted value
  pub read : format_in stars value ≡ Some format
  pub parts : text ≡ name ++ (middle ++ quoted)
  pub says : tree ≡ Format format

-- `TAG == V` and its kin
pub record SpellsTest (profile : Profile) (tree : Tree) (text : List ℕ) : Type 0 where
  pub name : List ℕ
  pub subject : Subject
  pub middle : List ℕ
  pub operator : Operator
  pub quoted : List ℕ
  pub value : List ℕ
  pub named : key_named profile name ≡ Some (keys.Of subject)
  pub compared : IsOperator profile subject operator middle
  pub spelled : SpellsValue quoted value
  pub good : is_good_value operator value ≡ true
  pub parts : text ≡ name ++ (middle ++ quoted)
  pub says : tree ≡ test_tree subject operator value

-- `!EXPR`
pub record SpellsNegation (spells : Tree → List ℕ → Type 0) (tree : Tree) (text : List ℕ) : Type 0 where
  pub inner : Tree
  pub gap : List ℕ
  pub spelling : List ℕ
  pub blanks : AreBlanks gap
  pub spelled : spells inner spelling
  pub parts : text ≡ exclamation ∷ (gap ++ spelling)
  pub says : tree ≡ Not inner

-- an EXPR, and so many others behind it, each behind an AND between blanks
abbrev pub SpellsGroup : (Tree → List ℕ → Type 0) → ℕ → Tree → List ℕ → Type 0
SpellsGroup spells zero tree text = spells tree text
SpellsGroup spells (suc others) tree text =
    (left right : Tree) × (first before after last : List ℕ) × SpellsGroup spells others left first × IsGap before × IsGap after
    × spells right last × (text ≡ first ++ (before ++ (codes "AND" ++ (after ++ last)))) × (tree ≡ And left right)

-- what stands between parentheses
abbrev pub SpellsInside : Profile → (Tree → List ℕ → Type 0) → Tree → List ℕ → Type 0
SpellsInside profile spells tree text =
    (SpellsBase profile tree text ⊎ (SpellsSince profile tree text ⊎ (SpellsFormat profile tree text ⊎ SpellsTest profile tree text)))
    ⊎ (SpellsNegation spells tree text ⊎ ((others : ℕ) × SpellsGroup spells others tree text))

-- between parentheses, and blanks within them
pub record IsEnclosed (spells : List ℕ → Type 0) (text : List ℕ) : Type 0 where
  pub before : List ℕ
  pub inside : List ℕ
  pub after : List ℕ
  pub blanks_before : AreBlanks before
  pub blanks_after : AreBlanks after
  pub spelled : spells inside
  pub parts : text ≡ opening ∷ (before ++ (inside ++ (after ++ closing ∷ [])))

-- an EXPR of a tree, in which at most so many parentheses are open at once
unfoldable pub Spells : Profile → ℕ → Tree → List ℕ → Type 0
Spells profile zero tree text = ⊥
Spells profile (suc room) tree text = IsEnclosed (SpellsInside profile (Spells profile room) tree) text

-- in the wide profile blanks may stand behind it
abbrev pub SpellsWord : Profile → Tree → List ℕ → Type 0
SpellsWord Named tree word = Spells Named most_open tree word
SpellsWord Wide tree word = (text after : List ℕ) × Spells Wide most_open tree text × AreBlanks after × (word ≡ text ++ after)

-- a word is read as an expression just where it spells it
abbrev pub IsReadAsSpelled : Type 0
IsReadAsSpelled = (profile : Profile) (word : List ℕ) (tree : Tree) → (whole profile word ≡ Ok tree) ↔ SpellsWord profile tree word

-- a word spells one expression at most
abbrev pub SpellsOnce : Type 0
SpellsOnce =
    (profile : Profile) (word : List ℕ) (tree other : Tree) → SpellsWord profile tree word → SpellsWord profile other word
    → tree ≡ other
