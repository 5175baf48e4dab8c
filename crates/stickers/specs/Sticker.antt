-- The stickers as one list, rising by URI and name, with one value for each URI and name.
use Rattle.std.specs.Prelude.{◌≡◌, ℕ, ◌≤◌, Bool, not, ◌&&◌, ◌==◌, nat_le, List, [], ◌∷◌, length, filter, map, find}
use Rattle.std.specs.Prelude.{Option, Some, None, is_some, IsTrue, if◌then◌else◌}
use Rattle.std.specs.declared.cmp.Ordering.{Ordering}
use Rattle.std.specs.declared.cmp.Ordering.TheVariants.{Less}
use Rattle.std.specs.Option.{option_map}
use Rattle.std.specs.Ordering.{nat_cmp, ordering_then, match_ordering}
use Rattle.std.specs.Cmp.Lexicographic.{slice_cmp}
use Rattle.std.specs.List.{AllByRecursion, flat_map}
use Rattle.std.specs.Str.{bytes_eq}
use Rattle.stickers.specs.Limits.{MAX_STICKERS}
use Rattle.stickers.specs.declared.refusal.StickersError.{StickersError}
use Rattle.stickers.specs.declared.refusal.StickersError.TheVariants.{NoSuchSticker, BadStickerName, StickersFull}
use Rattle.song_db.specs.Uri.{is_uri}
use Rattle.stickers.specs.Name.{is_good_name}
use Rattle.stickers.specs.Value.{is_good_value}
use Rattle.stickers.specs.Named.{Values, Songs}

-- a value that a song has under a name
pub record Sticker : Type 0 where
  pub uri : List ℕ
  pub name : List ℕ
  pub value : List ℕ

-- by the bytes of the URI, and then by those of the name
abbrev pub compare : Sticker → Sticker → Ordering
compare s t = ordering_then (slice_cmp nat_cmp s.uri t.uri) (slice_cmp nat_cmp s.name t.name)

-- a sticker in its place; the one that has its URI and name gives way to it
abbrev pub placed : Sticker → List Sticker → List Sticker
placed s [] = s ∷ []
placed s (t ∷ ts) = match_ordering (compare s t) (s ∷ t ∷ ts) (s ∷ ts) (t ∷ placed s ts)

-- each sticker is before the later ones
abbrev pub IsRisingFrom : Sticker → List Sticker → Type 0
IsRisingFrom s ts = AllByRecursion (λ t. compare s t ≡ Less) ts

abbrev pub AreRising : List Sticker → Type 0
AreRising [] = Unit {0}
AreRising (s ∷ ts) = IsRisingFrom s ts × AreRising ts

abbrev pub is_of_song : List ℕ → Sticker → Bool
is_of_song uri s = bytes_eq uri s.uri

abbrev pub is_at : List ℕ → List ℕ → Sticker → Bool
is_at uri name s = bytes_eq uri s.uri && bytes_eq name s.name

-- with a value under a URI and a name
abbrev pub with_sticker : List Sticker → List ℕ → List ℕ → List ℕ → List Sticker
with_sticker all uri name value = placed (record { uri = uri; name = name; value = value }) all

-- without the value under a URI and a name
abbrev pub without_sticker : List Sticker → List ℕ → List ℕ → List Sticker
without_sticker all uri name = filter (λ s. not (is_at uri name s)) all

-- without all stickers of a song
abbrev pub without_song : List Sticker → List ℕ → List Sticker
without_song all uri = filter (λ s. not (is_of_song uri s)) all

-- the value under a URI and a name
abbrev pub value_at : List Sticker → List ℕ → List ℕ → Option (List ℕ)
value_at all uri name = option_map (λ s. s.value) (find (is_at uri name) all)

-- the stickers of a song
abbrev pub stickers_of : List Sticker → List ℕ → List Sticker
stickers_of all uri = filter (is_of_song uri) all

-- the URI has the form of one, and name and value are such as stickers may have
pub record IsSticker (s : Sticker) : Type 0 where
  pub good_uri : IsTrue (is_uri s.uri)
  pub good_name : IsTrue (is_good_name s.name)
  pub good_value : IsTrue (is_good_value s.value)

-- the limit on stickers, and their form and order
pub record IsWithinLimits (all : List Sticker) : Type 0 where
  pub few : length all ≤ MAX_STICKERS
  pub good : AllByRecursion IsSticker all
  pub rising : AreRising all

-- the stickers with their count
pub record IsCounted (all : List Sticker) (count : ℕ) : Type 0 where
  pub counted : count ≡ length all
  pub within : IsWithinLimits all

-- no sticker can have the name
abbrev pub find_refusal : List ℕ → Option StickersError
find_refusal name = if not (is_good_name name) then Some BadStickerName else None

-- no sticker can have the name, or this song has none of it
abbrev pub get_refusal : List Sticker → List ℕ → List ℕ → Option StickersError
get_refusal all uri name =
    if not (is_good_name name) then Some BadStickerName
    else if not (is_some (value_at all uri name)) then Some NoSuchSticker
    else None

abbrev pub set_refusal : List Sticker → List ℕ → List ℕ → Option StickersError
set_refusal all uri name =
    if not (is_good_name name) then Some BadStickerName
    else if not (is_some (value_at all uri name)) && nat_le MAX_STICKERS (length all) then Some StickersFull
    else None

-- the song has no sticker
abbrev pub delete_all_refusal : List Sticker → List ℕ → Option StickersError
delete_all_refusal all uri = if length (stickers_of all uri) == 0 then Some NoSuchSticker else None

-- one song's stickers, and those of all songs, as one list
abbrev pub sticker : List ℕ → List ℕ × List ℕ → Sticker
sticker uri v = record { uri = uri; name = v.0; value = v.1 }

abbrev pub in_song : List ℕ × Values → List Sticker
in_song song = map (sticker song.0) song.1

abbrev pub flat : Songs → List Sticker
flat songs = flat_map in_song songs
