-- The texts of a frame.
use Rattle.std.specs.Prelude.{ℕ, List, [], ◌∷◌, drop, take, Bool, ◌==◌, ◌&&◌, ◌||◌, nat_le, length, codes, slice_index, if◌then◌else◌}
use Rattle.std.specs.Str.{bytes_eq}
use Rattle.id3_tags.specs.Strings.{texts_in}

-- A text, with the id of its frame. COMM has a language and a short description, TXXX a description and UFID an owner,
-- which is given as one; elsewhere the language is `XXX` and the description is empty.
pub record FrameText : Type 0 where
  pub id : List ℕ
  pub language : List ℕ
  pub description : List ℕ
  pub value : List ℕ

abbrev pub is_comment : List ℕ → Bool
is_comment id = bytes_eq id (codes "COMM")

abbrev pub is_owned : List ℕ → Bool
is_owned id = bytes_eq id (codes "UFID")

-- in these frames the first string is the description
abbrev pub is_described : List ℕ → Bool
is_described id = bytes_eq id (codes "TXXX") || is_comment id || is_owned id

-- the ids of text frames begin with T
abbrev pub is_text : List ℕ → Bool
is_text id = slice_index id 0 == 84 || is_comment id || is_owned id

-- the values that aren't empty, one behind the other
abbrev pub labelled : List ℕ → List ℕ → List ℕ → List (List ℕ) → List FrameText
labelled id language description [] = []
labelled id language description (v ∷ values) =
    if length v == 0 then labelled id language description values
    else record { id = id; language = language; description = description; value = v } ∷ labelled id language description values

-- the texts behind the description
abbrev pub described : List ℕ → List ℕ → List (List ℕ) → List FrameText
described id language [] = []
described id language (d ∷ values) = labelled id language d values

abbrev pub language_in : List ℕ → List ℕ → List ℕ
language_in id bytes = if is_comment id && nat_le 3 (length bytes) then take 3 bytes else codes "XXX"

-- the strings of a frame: a comment has its language behind the encoding, and an identifier has no encoding
abbrev pub strings_of : List ℕ → List ℕ → List (List ℕ)
strings_of id [] = []
strings_of id (encoding ∷ bytes) =
    if is_owned id then texts_in 0 (encoding ∷ bytes)
    else if is_comment id then texts_in encoding (drop 3 bytes)
    else texts_in encoding bytes

-- the texts of the frame with this id and data
abbrev pub texts_of : List ℕ → List ℕ → List FrameText
texts_of id bytes =
    if is_described id then described id (language_in id (drop 1 bytes)) (strings_of id bytes)
    else labelled id (codes "XXX") [] (strings_of id bytes)
