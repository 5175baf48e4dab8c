-- Sets of subsystems.
use Rattle.std.specs.Prelude.{ℕ, Bool, true, false, ◌||◌, ◌&&◌, not, List, [], ◌∷◌, Option, Some, codes, filter, if◌then◌else◌}
use Rattle.std.specs.Option.{option_map}
use Rattle.std.specs.List.{list_any}
use Rattle.std.specs.Str.{bytes_eq}
use Rattle.idle_masks.specs.declared.subsystem.Subsystem.{Subsystem}
use Rattle.idle_masks.specs.declared.subsystem.Subsystem.TheVariants.{Database, Update, StoredPlaylist, Playlist, Player, Mixer, Options}
use Rattle.idle_masks.specs.declared.subsystem.Subsystem.TheVariants.{Sticker, Subscription, Message}
use Rattle.idle_masks.specs.declared.subsystem.Subsystems.{Subsystems}
use Rattle.idle_masks.specs.Subsystem.{in_printed_order, subsystem_named}

-- whether the set has the subsystem
abbrev pub contains : Subsystems → Subsystem → Bool
contains set Database = set.database
contains set Update = set.update
contains set StoredPlaylist = set.stored_playlist
contains set Playlist = set.playlist
contains set Player = set.player
contains set Mixer = set.mixer
contains set Options = set.options
contains set Sticker = set.sticker
contains set Subscription = set.subscription
contains set Message = set.message

-- the set of those that pass a test
abbrev pub set_of : (Subsystem → Bool) → Subsystems
set_of test = record {
  database = test Database;
  update = test Update;
  stored_playlist = test StoredPlaylist;
  playlist = test Playlist;
  player = test Player;
  mixer = test Mixer;
  options = test Options;
  sticker = test Sticker;
  subscription = test Subscription;
  message = test Message;
}

-- no subsystem
abbrev pub none : Subsystems
none = set_of (λ _. false)

-- all ten
abbrev pub every : Subsystems
every = set_of (λ _. true)

-- one alone
abbrev pub only : Subsystem → Subsystems
only Database = record none { database = true }
only Update = record none { update = true }
only StoredPlaylist = record none { stored_playlist = true }
only Playlist = record none { playlist = true }
only Player = record none { player = true }
only Mixer = record none { mixer = true }
only Options = record none { options = true }
only Sticker = record none { sticker = true }
only Subscription = record none { subscription = true }
only Message = record none { message = true }

-- what either has
abbrev pub union : Subsystems → Subsystems → Subsystems
union s t = set_of (λ x. contains s x || contains t x)

-- what both have
abbrev pub intersection : Subsystems → Subsystems → Subsystems
intersection s t = set_of (λ x. contains s x && contains t x)

-- what s has and t has not
abbrev pub difference : Subsystems → Subsystems → Subsystems
difference s t = set_of (λ x. contains s x && not (contains t x))

-- no subsystem is in the set
abbrev pub is_empty : Subsystems → Bool
is_empty set = not (list_any (contains set) in_printed_order)

-- the set's subsystems as an answer of `idle` names them
abbrev pub listed : Subsystems → List Subsystem
listed set = filter (contains set) in_printed_order

-- the names that `idle` takes and never reports
abbrev pub unreported_names : List (List ℕ)
unreported_names = codes "output" ∷ codes "partition" ∷ codes "neighbor" ∷ codes "mount" ∷ []

-- the word is one of these
abbrev pub is_unreported_name : List ℕ → Bool
is_unreported_name word = list_any (λ name. bytes_eq name word) unreported_names

-- what a word of `idle` asks for, where it is a name that `idle` takes
abbrev pub mask_named : List ℕ → Option Subsystems
mask_named word = if is_unreported_name word then Some none else option_map only (subsystem_named word)
