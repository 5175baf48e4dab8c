-- The next song.
use Rattle.std.specs.Prelude.{ℕ, Bool, not, ◌==◌, ◌||◌, List, map, filter, Option, Some, None, position, option_map, if◌then◌else◌}
use Rattle.std.specs.List.{list_any}
use Rattle.play_queue.specs.declared.entry.Entry.{Entry}
use Rattle.play_queue.specs.Entries.{Uris}
use Rattle.player_core.specs.declared.block.Block.{Block}
use Rattle.player_core.specs.declared.choice.Choice.{Choice}
use Rattle.player_core.specs.declared.settings.PlaySettings.{PlaySettings}
use Rattle.player_core.specs.Words.{word, next_order}
use Rattle.player_core.specs.RandomOrder.{Drawn, random_order, first_of}
use Rattle.player_core.specs.Staying.{all_staying, staying_behind, first_id}

-- an entry, as it is drawn under an order number
abbrev pub drawn_by : List ℕ → ℕ → Entry → Drawn
drawn_by key order entry = (entry.id, entry.priority, word key order entry.id)

-- the least of some entries in random order
abbrev pub least : List ℕ → ℕ → List Entry → Option ℕ
least key order entries = first_of (random_order (map (drawn_by key order) entries))

-- an entry is left in its random round: it is neither the current one nor played
abbrev pub is_left : ℕ → List ℕ → Entry → Bool
is_left current played entry = not (entry.id == current || list_any (λ id. entry.id == id) played)

abbrev pub nothing : Choice
nothing = record { id = None; order = None }

-- what was found, without a new random round
abbrev pub this_round : Option ℕ → Choice
this_round found = record { id = found; order = None }

-- a random round begins with what was found; with nothing none begins
abbrev pub new_round : ℕ → Option ℕ → Choice
new_round order None = nothing
new_round order (Some id) = record { id = Some id; order = Some order }

-- what was found, or else another choice
abbrev pub or_else : Option ℕ → Choice → Choice
or_else None other = other
or_else (Some id) other = this_round (Some id)

-- without random: the first of those behind, and with repeat the first of all
abbrev pub in_row : Bool → List Entry → List Entry → Choice
in_row repeat behind all = or_else (first_id behind) (if repeat then this_round (first_id all) else nothing)

-- a new random round, of all
abbrev pub round_again : PlaySettings → List Entry → Choice
round_again settings all = new_round (next_order settings.order) (least settings.key (next_order settings.order) all)

-- with random: the least of those that are left of the round, and with repeat a new round
abbrev pub at_random : PlaySettings → ℕ → List ℕ → List Entry → Choice
at_random settings current played all =
    or_else (least settings.key settings.order (filter (is_left current played) all))
    (if settings.options.repeat then round_again settings all else nothing)

-- the next song after the current one, whose position and id these are, among the entries that stay
abbrev pub chosen : PlaySettings → List Entry → Block → Uris → List ℕ → ℕ → ℕ → Choice
chosen settings entries block dropped played at current =
    if settings.options.random then at_random settings current played (all_staying block dropped entries)
    else in_row settings.options.repeat (staying_behind block dropped at entries) (all_staying block dropped entries)

-- the song that is played first: position 0, or the least of a new random round
abbrev pub first_chosen : PlaySettings → List Entry → Choice
first_chosen settings entries = if settings.options.random then round_again settings entries else this_round (first_id entries)

-- the position and the id of the current entry
abbrev pub placed : List Entry → Option ℕ → Option (ℕ × ℕ)
placed entries None = None
placed entries (Some id) = option_map (λ at. (at, id)) (position (λ entry. entry.id == id) entries)
