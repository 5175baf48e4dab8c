-- The rows that a filter denotes, once exact and once folded.
use Rattle.std.specs.Prelude.{ℕ, Bool, true, false, not, ◌==◌, ◌&&◌, ◌||◌, List, [], ◌∷◌, map, Option, Some, None}
use Rattle.std.specs.List.{list_any}
use Rattle.std.specs.Str.{bytes_eq}
use Rattle.song_db.specs.Place.{is_below}
use Rattle.song_db.specs.Row.{Row}
use Rattle.song_files.specs.Tags.{TagText, texts_of}
use Rattle.regular_expr.specs.Patterns.{is_found}
use Rattle.filter_expr.specs.declared.case.Case.{Case}
use Rattle.filter_expr.specs.declared.case.Case.TheVariants.{Exact, Folded}
use Rattle.filter_expr.specs.declared.subject.Subject.{Subject}
use Rattle.filter_expr.specs.declared.subject.Subject.TheVariants.{OfTag, Any, AnyText, File}
use Rattle.filter_expr.specs.declared.subject.AudioFormat.{AudioFormat}
use Rattle.filter_expr.specs.declared.subject.Comparison.{Comparison}
use Rattle.filter_expr.specs.declared.subject.Comparison.TheVariants.{Equals, Contains, Begins, Pair, WidePair}
use Rattle.filter_expr.specs.declared.subject.Sample.{Sample}
use Rattle.filter_expr.specs.declared.subject.Sample.TheVariants.{Bits8, Bits16, Bits24, Bits32, Float, Dsd}
use Rattle.filter_expr.specs.Fallback.{told_tag}
use Rattle.filter_expr.specs.Folding.{folded, in_case}
use Rattle.filter_expr.specs.Times.{known_time, is_since}
use Rattle.filter_expr.specs.Tree.{Tree}
use Rattle.filter_expr.specs.Tree.Tree.{Test, Like, Base, Since, Format, Not, And}

abbrev pub begins_with : List ℕ → List ℕ → Bool
begins_with [] text = true
begins_with (p ∷ part) [] = false
begins_with (p ∷ part) (t ∷ text) = t == p && begins_with part text

-- the part stands somewhere in the text
abbrev pub occurs_in : List ℕ → List ℕ → Bool
occurs_in part [] = begins_with part []
occurs_in part (t ∷ text) = begins_with part (t ∷ text) || occurs_in part text

-- A text against a value that isn't empty. A pair asks for equality where the case counts, and else for containment.
abbrev pub is_like : Case → Comparison → List ℕ → List ℕ → Bool
is_like case Equals value text = bytes_eq (in_case case text) (in_case case value)
is_like case Contains value text = occurs_in (in_case case value) (in_case case text)
is_like case Begins value text = begins_with (in_case case value) (in_case case text)
is_like Exact Pair value text = bytes_eq text value
is_like Exact WidePair value text = bytes_eq text value
is_like Folded Pair value text = occurs_in (folded value) (folded text)
is_like Folded WidePair value text = occurs_in (folded value) (folded text)

-- a folded text against a folded value that isn't empty
abbrev pub compared : Comparison → List ℕ → List ℕ → Bool
compared Equals value text = bytes_eq text value
compared Contains value text = occurs_in value text
compared Begins value text = begins_with value text
compared Pair value text = occurs_in value text
compared WidePair value text = occurs_in value text

abbrev pub is_absent : List (List ℕ) → Bool
is_absent [] = true
is_absent (text ∷ texts) = false

-- The empty value is contained in each text. Of a tag, and of all of the named subset, it also is where there is none.
abbrev pub holds_empty : Subject → List (List ℕ) → Bool
holds_empty AnyText texts = not (is_absent texts)
holds_empty subject texts = true

-- it is equal where there is no text, but no text among others is missing
abbrev pub equals_empty : Subject → List (List ℕ) → Bool
equals_empty AnyText texts = false
equals_empty subject texts = is_absent texts

-- the empty value
abbrev pub passes_empty : Case → Subject → Comparison → List (List ℕ) → Bool
passes_empty case subject Equals texts = equals_empty subject texts
passes_empty case subject Contains texts = holds_empty subject texts
passes_empty case subject Begins texts = holds_empty subject texts
passes_empty case subject Pair texts = equals_empty subject texts
passes_empty Exact subject WidePair texts = equals_empty subject texts
passes_empty Folded subject WidePair texts = holds_empty subject texts

-- one of the texts is like the value
abbrev pub passes : Case → Subject → Comparison → List ℕ → List (List ℕ) → Bool
passes case subject comparison [] texts = passes_empty case subject comparison texts
passes case subject comparison (v ∷ value) texts = list_any (is_like case comparison (v ∷ value)) texts

abbrev pub is_folded : Case → Bool
is_folded Exact = false
is_folded Folded = true

-- the pattern of a text stands in one of the texts; that of the empty one stands in each
abbrev pub passes_like : Bool → Subject → List ℕ → List (List ℕ) → Bool
passes_like fold subject [] texts = holds_empty subject texts
passes_like fold subject (v ∷ source) texts = list_any (is_found fold (v ∷ source)) texts

-- what a filter sees of a song: its URI, its tags, when its file was changed last, and of its sound frames a second and channels
pub record Song : Type 0 where
  pub uri : List ℕ
  pub tags : List TagText
  pub modified : Option ℕ
  pub rate : ℕ
  pub channels : ℕ

abbrev pub song_of : Row → Song
song_of row = record {
  uri = row.uri;
  tags = row.tags;
  modified = known_time row.stamp;
  rate = row.rate;
  channels = row.channels;
}

-- the texts that a test looks at: those that are told for one tag, those of all tags, or the URI
abbrev pub texts_for : Subject → Song → List (List ℕ)
texts_for (OfTag tag) song = texts_of song.tags (told_tag song.tags tag)
texts_for Any song = map (λ (t : TagText). t.text) song.tags
texts_for AnyText song = map (λ (t : TagText). t.text) song.tags
texts_for File song = song.uri ∷ []

-- a test of a song
abbrev pub does_hold : Case → Subject → Comparison → List ℕ → Song → Bool
does_hold case subject comparison value song = passes case subject comparison value (texts_for subject song)

abbrev pub does_match : Case → Subject → List ℕ → Song → Bool
does_match case subject source song = passes_like (is_folded case) subject source (texts_for subject song)

-- a number, or any
abbrev pub fits : Option ℕ → ℕ → Bool
fits None number = true
fits (Some wanted) number = number == wanted

-- songs have samples of 16 bits
abbrev pub fits_16_bits : Option Sample → Bool
fits_16_bits None = true
fits_16_bits (Some Bits16) = true
fits_16_bits (Some sample) = false

abbrev pub has_format : AudioFormat → Song → Bool
has_format format song = fits format.rate song.rate && (fits_16_bits format.sample && fits format.channels song.channels)

-- the song of this URI, the songs under this folder, or all
abbrev pub is_at : List ℕ → List ℕ → Bool
is_at [] uri = true
is_at (b ∷ base) uri = bytes_eq (b ∷ base) uri || is_below (b ∷ base) uri

abbrev pub denotes : Case → Tree → Song → Bool
denotes case (Test subject comparison value) song = does_hold case subject comparison value song
denotes case (Like subject source) song = does_match case subject source song
denotes case (Base base) song = is_at base song.uri
denotes case (Since time) song = is_since time song.modified
denotes case (Format format) song = has_format format song
denotes case (Not tree) song = not (denotes case tree song)
denotes case (And left right) song = denotes case left song && denotes case right song

-- whether a row is among the rows that the filter denotes
abbrev pub is_match : Case → Tree → Row → Bool
is_match case tree row = denotes case tree (song_of row)
