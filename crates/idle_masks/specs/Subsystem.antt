-- The subsystems of the MPD protocol that are reported, their order and their names.
use Rattle.std.specs.Prelude.{ℕ, List, [], ◌∷◌, Option, codes, find}
use Rattle.std.specs.Str.{bytes_eq}
use Rattle.idle_masks.specs.declared.subsystem.Subsystem.{Subsystem}
use Rattle.idle_masks.specs.declared.subsystem.Subsystem.TheVariants.{Database, Update, StoredPlaylist, Playlist, Player, Mixer, Options}
use Rattle.idle_masks.specs.declared.subsystem.Subsystem.TheVariants.{Sticker, Subscription, Message}

-- all of them, as an answer of `idle` names them
abbrev pub in_printed_order : List Subsystem
in_printed_order = Database ∷ Update ∷ StoredPlaylist ∷ Playlist ∷ Player ∷ Mixer ∷ Options ∷ Sticker ∷ Subscription ∷ Message ∷ []

-- the bytes of the name
abbrev pub name_of : Subsystem → List ℕ
name_of Database = codes "database"
name_of Update = codes "update"
name_of StoredPlaylist = codes "stored_playlist"
name_of Playlist = codes "playlist"
name_of Player = codes "player"
name_of Mixer = codes "mixer"
name_of Options = codes "options"
name_of Sticker = codes "sticker"
name_of Subscription = codes "subscription"
name_of Message = codes "message"

-- the subsystem whose name is the word
abbrev pub subsystem_named : List ℕ → Option Subsystem
subsystem_named word = find (λ s. bytes_eq (name_of s) word) in_printed_order
