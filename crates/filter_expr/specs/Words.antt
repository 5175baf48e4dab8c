-- The filter that the words of a command spell, or the first refusal from the left.
use Rattle.std.specs.Prelude.{◌≡◌, ℕ, zero, suc, ◌+◌, ◌-◌, List, [], ◌∷◌, length, drop, Result, Ok, Err, Option, Some, None, if◌then◌else◌}
use Rattle.std.specs.Str.{is_utf8}
use Rattle.profile.specs.declared.profile.Profile.{Profile}
use Rattle.profile.specs.declared.profile.Profile.TheVariants.{Named, Wide}
use Rattle.filter_expr.specs.declared.name.Key.{Key}
use Rattle.filter_expr.specs.declared.name.Key.TheVariants as keys
use Rattle.filter_expr.specs.declared.subject.Comparison.{Comparison}
use Rattle.filter_expr.specs.declared.subject.Comparison.TheVariants.{Pair, WidePair}
use Rattle.filter_expr.specs.declared.refusal.FilterError.{FilterError}
use Rattle.filter_expr.specs.declared.refusal.FilterError.TheVariants as errors
use Rattle.filter_expr.specs.declared.parts.Stop.{Stop}
use Rattle.filter_expr.specs.declared.parts.Stop.TheVariants as stops
use Rattle.filter_expr.specs.Names.{key_named}
use Rattle.filter_expr.specs.Parts.{Fault, opening, begins_so}
use Rattle.filter_expr.specs.Parts.Fault.{Bad, Unknown, Deep}
use Rattle.filter_expr.specs.Reading.{whole}
use Rattle.filter_expr.specs.Times.{time_in}
use Rattle.filter_expr.specs.Tree.{Tree}
use Rattle.filter_expr.specs.Tree.Tree.{Test, Base, Since, And}

-- Why words spell no filter: from this byte of this word on no filter goes on so, no tag has this name, or one parenthesis more is open at
-- this byte than may be. Words and bytes count from 0.
pub data Refusal : Type 0 where
  BadFilter : ℕ → ℕ → Refusal
  UnknownTag : List ℕ → Refusal
  TooDeep : ℕ → ℕ → Refusal

infixl 10 ◌>>=◌
abbrev pub ◌>>=◌ : {A B : Type 0} → Result A Refusal → (A → Result B Refusal) → Result B Refusal
(Ok x) >>= f = f x
(Err e) >>= f = Err e

-- a fault in this word
abbrev pub in_word : ℕ → List ℕ → Fault → Refusal
in_word number word (Bad left) = BadFilter number (length word - left)
in_word number word (Unknown name) = UnknownTag name
in_word number word (Deep left) = TooDeep number (length word - left)

abbrev pub read_in_word : ℕ → List ℕ → Result Tree Fault → Result Tree Refusal
read_in_word number word (Ok tree) = Ok tree
read_in_word number word (Err fault) = Err (in_word number word fault)

-- one word that is an expression
abbrev pub alone : List (List ℕ) → Tree → Result Tree Refusal
alone [] tree = Ok tree
alone (word ∷ words) tree = Err (BadFilter 1 0)

abbrev pub since_pair : ℕ → Option ℕ → Result Tree Refusal
since_pair number None = Err (BadFilter number 0)
since_pair number (Some time) = Ok (Since time)

-- how a pair compares
abbrev pub paired : Profile → Comparison
paired Named = Pair
paired Wide = WidePair

-- what a value says, whose word has this number; a format isn't said so
abbrev pub pair_tree : Profile → ℕ → Key → List ℕ → Result Tree Refusal
pair_tree profile number keys.Base value = Ok (Base value)
pair_tree profile number (keys.Of subject) value = Ok (Test subject (paired profile) value)
pair_tree profile number keys.Since value = since_pair number (time_in value)
pair_tree profile number keys.Format value = Err (BadFilter number 0)

abbrev pub keyed : Option Key → List ℕ → Result Key Refusal
keyed None name = Err (UnknownTag name)
keyed (Some key) name = Ok key

-- the pair of a tag and a value, whose words have this number and the next
unfoldable pub pair_of : Profile → ℕ → List ℕ → List ℕ → Result Tree Refusal
pair_of profile number name value = do
  key ← keyed (key_named profile name) name
  if is_utf8 value then pair_tree profile (number + 1) key value else Err (BadFilter (number + 1) 0)

-- a tag without a value
unfoldable pub half_pair : Profile → ℕ → List ℕ → Result Tree Refusal
half_pair profile number name = keyed (key_named profile name) name >>= λ key. Err (BadFilter (number + 1) 0)

-- the pair in front
abbrev pub pair_at : Profile → ℕ → List (List ℕ) → Result Tree Refusal
pair_at profile number [] = Err (BadFilter number 0)
pair_at profile number (name ∷ []) = half_pair profile number name
pair_at profile number (name ∷ value ∷ words) = pair_of profile number name value

-- what holds beside the pairs behind it, the first of which has this number
unfoldable pub more_pairs : Profile → ℕ → Tree → List (List ℕ) → Result Tree Refusal
more_pairs profile number tree [] = Ok tree
more_pairs profile number tree (name ∷ []) = half_pair profile number name
more_pairs profile number tree (name ∷ value ∷ words) =
    pair_of profile number name value >>= λ pair. more_pairs profile (number + 2) (And tree pair) words

unfoldable pub pairs_of : Profile → List (List ℕ) → Result Tree Refusal
pairs_of profile words = pair_at profile 0 words >>= λ pair. more_pairs profile 2 pair (drop 2 words)

-- of the named subset: a word that begins with a parenthesis is an expression, and stands alone; others are pairs, which hold together
unfoldable pub named_filter_of : List (List ℕ) → Result Tree Refusal
named_filter_of [] = Err (BadFilter 0 0)
named_filter_of (word ∷ words) =
    if begins_so opening word then (read_in_word 0 word (whole Named word) >>= alone words) else pairs_of Named (word ∷ words)

-- of the wide profile: a word that begins with a parenthesis is an expression, another one begins a pair; the word has this number
abbrev pub part_of : ℕ → List (List ℕ) → Result Tree Refusal
part_of number [] = Err (BadFilter number 0)
part_of number (word ∷ words) =
    if begins_so opening word then read_in_word number word (whole Wide word) else pair_at Wide number (word ∷ words)

-- how many words it takes
abbrev pub part_length : List (List ℕ) → ℕ
part_length [] = 0
part_length (word ∷ words) = if begins_so opening word then 1 else 2

-- what holds beside the parts behind it, the first of which has this number; a list has no more of them than words
unfoldable pub more_parts : ℕ → ℕ → Tree → List (List ℕ) → Result Tree Refusal
more_parts zero number tree words = Ok tree
more_parts (suc most) number tree [] = Ok tree
more_parts (suc most) number tree (word ∷ words) =
    part_of number (word ∷ words)
    >>= λ part. more_parts most (number + part_length (word ∷ words)) (And tree part) (drop (part_length (word ∷ words)) (word ∷ words))

unfoldable pub wide_filter_of : List (List ℕ) → Result Tree Refusal
wide_filter_of words = part_of 0 words >>= λ part. more_parts (length words) (part_length words) part (drop (part_length words) words)

unfoldable pub filter_of : Profile → List (List ℕ) → Result Tree Refusal
filter_of Named words = named_filter_of words
filter_of Wide words = wide_filter_of words

-- what a call answered is what the words spell, unless it found no memory
abbrev pub Refuses : {Y : Type 0} → FilterError → Result Y Refusal → Type 0
Refuses (errors.BadFilter place) read = read ≡ Err (BadFilter place.word place.byte)
Refuses (errors.UnknownTag name) read = read ≡ Err (UnknownTag name.now)
Refuses (errors.TooDeep place) read = read ≡ Err (TooDeep place.word place.byte)
Refuses errors.NoMemory read = Unit {0}

abbrev pub Gives : {X Y : Type 0} → (X → Y) → Result X FilterError → Result Y Refusal → Type 0
Gives view (Ok x) read = read ≡ Ok (view x)
Gives view (Err error) read = Refuses error read

-- why a word of this number wasn't read
abbrev pub error_in : ℕ → List ℕ → Stop → FilterError
error_in number word (stops.Bad left) = errors.BadFilter (record { word = number; byte = length word - left })
error_in number word (stops.Unknown name) = errors.UnknownTag name
error_in number word (stops.Deep left) = errors.TooDeep (record { word = number; byte = length word - left })
error_in number word stops.NoMemory = errors.NoMemory

abbrev pub number_of : FilterError → ℕ
number_of (errors.BadFilter place) = 19
number_of (errors.UnknownTag name) = 20
number_of (errors.TooDeep place) = 21
number_of errors.NoMemory = 7
