-- What is kept of the daemon's state on disk.
use Rattle.std.specs.Prelude.{◌≡◌, ℕ, ◌<◌, ◌≤◌, ◌^◌, List, [], length, slice_index, false, IsTrue, Option, Some, None}
use Rattle.std.specs.List.{All, AllByRecursion}
use Rattle.std.specs.Str.{is_utf8}
use Rattle.play_queue.specs.declared.entry.Entry.{Entry}
use Rattle.play_queue.specs.Queue.{QueueState, IsQueue}
use Rattle.player_core.specs.Place.{PlaceState, no_place, IsPlace}
use Rattle.player_core.specs.declared.options.Options.{Options}
use Rattle.player_core.specs.declared.options.Single.TheVariants.{Off}
use Rattle.profile.specs.declared.profile.Profile.{Profile}
use Rattle.profile.specs.declared.profile.Profile.TheVariants.{Named, Wide}
use Rattle.song_db.specs.Change.{IsDatabase, has_uri}
use Rattle.song_db.specs.Row.{Row, is_kept_by}
use Rattle.state_codec.specs.Changes.{IsSavedRow}
use Rattle.stickers.specs.Sticker.{Sticker, IsWithinLimits as AreStickers}
use Rattle.stored_lists.specs.Lists.{Stored, IsRising, IsWithinLimits as AreLists}
use Rattle.stored_lists.specs.Times.{Times, AreTimes}

pub record SavedState : Type 0 where
  pub profile : Profile
  pub key : List ℕ
  pub order : ℕ
  pub volume : ℕ
  pub options : Options
  pub songs : List Row
  pub queue : QueueState
  pub lists : Stored
  pub stickers : List Sticker
  pub place : Option PlaceState
  pub changed : Option Times

-- the key of the random order has so many bytes
abbrev pub key_len : ℕ
key_len = 32

abbrev pub IsBytes : List ℕ → Type 0
IsBytes bytes = (i : ℕ) → slice_index bytes i < 256

-- an entry is of a song that has a row
pub record IsSavedEntry (songs : List Row) (entry : Entry) : Type 0 where
  pub has_row : IsTrue (has_uri songs entry.uri)
  pub priority : entry.priority < 256

-- a playlist's name is text; that its songs have rows isn't asked
abbrev pub IsSavedList : List ℕ × List (List ℕ) → Type 0
IsSavedList list = IsTrue (is_utf8 list.0)

-- a sticker is of a song that has a row
pub record IsSavedSticker (songs : List Row) (sticker : Sticker) : Type 0 where
  pub has_row : IsTrue (has_uri songs sticker.uri)
  pub name : IsTrue (is_utf8 sticker.name)
  pub value : IsTrue (is_utf8 sticker.value)

-- the songs, each of whose rows is one of the program's
pub record AreSavedSongs (songs : List Row) : Type 0 where
  pub database : IsDatabase songs
  pub rows : All IsSavedRow songs

-- each row is one that the profile keeps
abbrev pub AreKeptSongs : Profile → List Row → Type 0
AreKeptSongs profile songs = All (λ row. IsTrue (is_kept_by profile row)) songs

pub record IsSavedQueue (songs : List Row) (saved : QueueState) : Type 0 where
  pub queue : IsQueue saved
  pub entries : All (IsSavedEntry songs) saved.entries

pub record AreSavedLists (lists : Stored) : Type 0 where
  pub rising : IsRising lists
  pub within : AreLists lists
  pub texts : AllByRecursion IsSavedList lists

pub record AreSavedStickers (songs : List Row) (stickers : List Sticker) : Type 0 where
  pub within : AreStickers stickers
  pub each : AllByRecursion (IsSavedSticker songs) stickers

-- the player's place is kept under the wide profile alone
abbrev pub IsSavedPlace : Profile → Option PlaceState → Type 0
IsSavedPlace Named None = Unit {0}
IsSavedPlace Named (Some place) = ⊥
IsSavedPlace Wide None = ⊥
IsSavedPlace Wide (Some place) = IsPlace place

-- so are the times of the playlists' last change
abbrev pub AreSavedTimes : Profile → Option Times → Type 0
AreSavedTimes Named None = Unit {0}
AreSavedTimes Named (Some times) = ⊥
AreSavedTimes Wide None = ⊥
AreSavedTimes Wide (Some times) = AreTimes times

pub record IsSavedState (s : SavedState) : Type 0 where
  pub key_len : length s.key ≡ key_len
  pub key_bytes : IsBytes s.key
  pub order : s.order < 2 ^ 64
  pub volume : s.volume ≤ 100
  pub songs : AreSavedSongs s.songs
  pub kept : AreKeptSongs s.profile s.songs
  pub queue : IsSavedQueue s.songs s.queue
  pub lists : AreSavedLists s.lists
  pub stickers : AreSavedStickers s.songs s.stickers
  pub place : IsSavedPlace s.profile s.place
  pub changed : AreSavedTimes s.profile s.changed

abbrev pub first_place : Profile → Option PlaceState
first_place Named = None
first_place Wide = Some no_place

abbrev pub first_times : Profile → Option Times
first_times Named = None
first_times Wide = Some []

-- the state of a new journal
abbrev pub fresh : Profile → List ℕ → SavedState
fresh profile key =
    record {
      profile = profile;
      key = key;
      order = 0;
      volume = 100;
      options = record { repeat = false; random = false; single = Off; consume = Off };
      songs = [];
      queue = record { entries = []; version = 1; next_id = 1 };
      lists = [];
      stickers = [];
      place = first_place profile;
      changed = first_times profile;
    }

-- the state as the wide profile takes it: it keeps all that the other one does, and from now on the player's place and the playlists' times
abbrev pub widened_from : Profile → SavedState → SavedState
widened_from Named s = record s { profile = Wide; place = Some no_place; changed = Some [] }
widened_from Wide s = s

abbrev pub widened : SavedState → SavedState
widened s = widened_from s.profile s
