-- The tags of a song: texts in the order of their tags' numbers, those of one tag in the order in which they were found.
use Rattle.std.specs.Prelude.{◌≡◌, ℕ, ◌≤◌, List, length, true, Option, map, option_map, filter, find, nat_lt, insert, if◌then◌else◌}
use Rattle.std.specs.List.{All, position_or_len}
use Rattle.std.specs.List.Sorted.{IsNonDecreasingBy}
use Rattle.song_files.specs.Limits.{MAX_TAGS}
use Rattle.song_files.specs.Tag.{is_tag, number_of}
use Rattle.song_files.specs.Text.{is_tag_text}
use Rattle.song_files.specs.declared.tag.Tag.{Tag}

-- a text, and what it tells of its song
pub record TagText : Type 0 where
  pub tag : Tag
  pub text : List ℕ

-- the texts of one tag
abbrev pub texts_of : List TagText → Tag → List (List ℕ)
texts_of tags tag = map (λ (t : TagText). t.text) (filter (λ (t : TagText). is_tag t.tag tag) tags)

-- the first of them
abbrev pub first_text : List TagText → Tag → Option (List ℕ)
first_text tags tag = option_map (λ (t : TagText). t.text) (find (λ (t : TagText). is_tag t.tag tag) tags)

-- how many texts stand before one of this tag: those of tags with the same or a lower number
abbrev pub place_for : List TagText → Tag → ℕ
place_for tags tag = position_or_len (λ (t : TagText). nat_lt (number_of tag) (number_of t.tag)) tags

abbrev pub with_text : List TagText → Tag → List ℕ → List TagText
with_text tags tag text = insert tags (place_for tags tag) (record { tag = tag; text = text })

-- with one more text, which is passed by where there are as many as there may be
abbrev pub added : List TagText → Tag → List ℕ → List TagText
added tags tag text = if nat_lt (length tags) MAX_TAGS then with_text tags tag text else tags

-- what every song's tags are
pub record AreTags (tags : List TagText) : Type 0 where
  pub ordered : IsNonDecreasingBy (λ (t : TagText). number_of t.tag) tags
  pub texts : All (λ (t : TagText). is_tag_text t.text ≡ true) tags
  pub few : length tags ≤ MAX_TAGS
