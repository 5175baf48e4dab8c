-- The comments of a VORBIS_COMMENT block (RFC 9639, section 8.6): a vendor's text, the number of fields, and each field,
-- each text behind its length. A field is `NAME=value`.
use Rattle.std.specs.Prelude.{ℕ, zero, suc, ◌+◌, ◌==◌, ◌&&◌, nat_lt, nat_le, min, List, [], ◌∷◌, length, take, drop, map, Bool}
use Rattle.std.specs.Prelude.{Option, Some, None, option_and_then, if◌then◌else◌}
use Rattle.std.specs.Option.{option_map_or}
use Rattle.std.specs.Char.{to_ascii_uppercase}
use Rattle.std.specs.List.{before_first, find, filter_map, list_all}
use Rattle.song_files.specs.Text.{is_tag_text}
use Rattle.flac.specs.Blocks.{body_of}
use Rattle.flac.specs.Limits.{MAX_FIELDS, MAX_FIELD_BYTES, MAX_COMMENTS}
use Rattle.flac.specs.Numbers.{le32}
use Rattle.flac.specs.declared.blocks.BlockHead.{BlockHead}

-- a comment: its name in ASCII upper case, and its value
pub record CommentText : Type 0 where
  pub name : List ℕ
  pub value : List ℕ

-- what stands before the first `=`
abbrev pub name_in : List ℕ → List ℕ
name_in field = before_first (λ b. b == 61) field

-- what stands behind it
abbrev pub value_in : List ℕ → List ℕ
value_in field = drop (length (name_in field) + 1) field

-- printable ASCII
abbrev pub is_printable : List ℕ → Bool
is_printable text = list_all (λ b. nat_le 32 b && nat_le b 126) text

-- a field of at most 1,024 bytes with a name and a value that is the text of a tag
abbrev pub is_comment : List ℕ → Bool
is_comment field =
    nat_le (length field) MAX_FIELD_BYTES && nat_lt 0 (length (name_in field)) && is_printable (name_in field) && is_tag_text
    (value_in field)

-- the comment of a field; others are passed by
unfoldable pub comment_of : List ℕ → Option CommentText
comment_of field = if is_comment field then Some (record {
  name = map to_ascii_uppercase (name_in field);
  value = value_in field;
}) else None

-- a number of four bytes, if they stand there
unfoldable pub count_in : List ℕ → Option ℕ
count_in bytes = if nat_le 4 (length bytes) then Some (le32 bytes) else None

-- the length of a text that stands behind it, if it stands there whole
unfoldable pub text_len_in : List ℕ → Option ℕ
text_len_in bytes = option_and_then (λ len. if nat_le (4 + len) (length bytes) then Some len else None) (count_in bytes)

-- so many texts, one behind the other, up to the first that doesn't stand there whole
unfoldable pub texts_in : ℕ → List ℕ → List (List ℕ)
texts_in zero bytes = []
texts_in (suc more) bytes =
    option_map_or (λ len. take len (drop 4 bytes) ∷ texts_in more (drop (4 + len) bytes)) (text_len_in bytes) []

-- the fields behind the vendor's text and their number, of which the first 65,536 are looked at
unfoldable pub fields_in : List ℕ → List (List ℕ)
fields_in body = option_map_or (λ vendor. option_map_or (λ count. texts_in (min count MAX_FIELDS) (drop (8 + vendor) body)) (count_in
    (drop (4 + vendor) body)) []) (text_len_in body) []

-- of the fields that are comments the first 256 are kept
abbrev pub kept_of : List (List ℕ) → List CommentText
kept_of fields = take MAX_COMMENTS (filter_map comment_of fields)

-- where a block is damaged, the comments before the damage are told
abbrev pub comments_in : List ℕ → List CommentText
comments_in body = kept_of (fields_in body)

-- VORBIS_COMMENT has type 4
abbrev pub is_comments : BlockHead → Bool
is_comments block = block.kind == 4

abbrev pub comments_at : List ℕ → Option BlockHead → List CommentText
comments_at file None = []
comments_at file (Some block) = comments_in (body_of file block)

-- the comments of the first such block
abbrev pub comments_of : List ℕ → List BlockHead → List CommentText
comments_of file blocks = comments_at file (find is_comments blocks)
