-- A snapshot that is handed over in pieces.
use Rattle.std.specs.Prelude.{◌≡◌, ◌≢◌, ◌≤◌, ◌+◌, ℕ, Bool, List, [], ◌++◌, length, fold, bit_xor}
use Rattle.std.specs.Prelude.{unwrap_or, Option, Some, None, if◌then◌else◌, vec_capacity}
use Rattle.std.specs.Global.{Vec}
use Rattle.std.specs.List.{flat_map}
use Rattle.profile.specs.declared.profile.Profile.{Profile}
use Rattle.profile.specs.declared.profile.Profile.TheVariants.{Named, Wide}
use Rattle.stickers.specs.Named.{Values, Songs}
use Rattle.stickers.specs.Sticker.{Sticker, flat, in_song}
use Rattle.stored_lists.specs.Lists.{Stored}
use Rattle.stored_lists.specs.Times.{Times}
use Rattle.player_core.specs.Place.{PlaceState}
use Rattle.state_codec.specs.Appended.{IsShortSticker}
use Rattle.state_codec.specs.Checksum.{with_byte, ONES}
use Rattle.state_codec.specs.Longest.{longest_sticker}
use Rattle.state_codec.specs.Spelling.{playlist_bytes, sticker_bytes}
use Rattle.state_codec.specs.SpellingFields.{text_bytes, u32_bytes}
use Rattle.state_codec.specs.SpellingTimes.{times_head}

-- how many bytes a piece has at most
abbrev pub longest_piece : ℕ
longest_piece = 65536

-- and how many at least, unless it is the last one
abbrev pub shortest_piece : ℕ
shortest_piece = 32768

-- the front of the bytes that were left, and the rest of them
pub record IsPiece (left piece rest : List ℕ) : Type 0 where
  pub parted : left ≡ piece ++ rest
  pub fits : length piece ≤ longest_piece
  pub full : rest ≢ [] → shortest_piece ≤ length piece

-- how many bytes an item of a snapshot has at most, which goes whole into one piece: as many as a row of the wide profile
abbrev pub longest_item : ℕ
longest_item = 31065

-- what was handed over stands behind the bytes from before, and the rest is left
pub record HandsOver (before after : Vec ℕ) (left rest : List ℕ) : Type 0 where
  pub items : after.items ++ rest ≡ before.items ++ left
  pub capacity : vec_capacity after ≡ vec_capacity before
  pub few : length after.items ≤ length before.items + longest_item

-- nothing was left
pub record HadNone (before after : Vec ℕ) (old new : List ℕ) : Type 0 where
  pub none : old ≡ []
  pub still_none : new ≡ []
  pub same : after.items ≡ before.items

-- what is left of the playlists: songs of the one that was begun, and others
abbrev pub lists_left : List (List ℕ) → Stored → List ℕ
lists_left songs lists = flat_map text_bytes songs ++ flat_map playlist_bytes lists

-- a playlist whose name is no longer than names may be, and with no more songs than all playlists have
pub record IsListItem (list : List ℕ × List (List ℕ)) : Type 0 where
  pub name : length list.0 ≤ 256
  pub songs : length list.1 ≤ 65536

-- the stickers that are left: those of a song that was begun, and those of others
abbrev pub stickers_in : List ℕ → Option Values → Songs → List Sticker
stickers_in uri values songs = in_song (uri, unwrap_or values []) ++ flat songs

-- a sticker that takes no more bytes than stickers may
pub record IsStickerItem (sticker : Sticker) : Type 0 where
  pub short : IsShortSticker sticker
  pub fits : length (sticker_bytes sticker) ≤ longest_sticker

-- the number of fields, and what stands in front of the times, where both are kept
abbrev pub front_of_fields : Option Times → Option PlaceState → List ℕ
front_of_fields None place = []
front_of_fields (Some times) None = []
front_of_fields (Some times) (Some place) = times_head times place

-- the bytes, and their checksum where the profile asks for one, which has come so far
abbrev pub sealed_from : Profile → ℕ → List ℕ → List ℕ
sealed_from Named sum bytes = bytes
sealed_from Wide sum bytes = bytes ++ u32_bytes (bit_xor (fold with_byte sum bytes) ONES)

-- what is left of a snapshot whose parts and fields have these bytes left
abbrev pub snapshot_left : Bool → Profile → ℕ → List ℕ → List ℕ
snapshot_left has_ended profile sum parts = if has_ended then [] else sealed_from profile sum parts
