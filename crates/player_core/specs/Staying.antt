-- What leaves the queue in one edit, and what stays: a block of positions leaves, and the entries of dropped URIs.
use Rattle.std.specs.Prelude.{ℕ, ◌+◌, Bool, ◌&&◌, ◌||◌, nat_lt, nat_le, List, [], ◌∷◌, drop, Option, Some, None, if◌then◌else◌}
use Rattle.play_queue.specs.declared.entry.Entry.{Entry}
use Rattle.play_queue.specs.Entries.{Uris, is_among}
use Rattle.player_core.specs.declared.block.Block.{Block}

-- the entry at a position leaves
abbrev pub takes : Block → Uris → ℕ → Entry → Bool
takes block dropped at entry = nat_le block.start at && nat_lt at block.end || is_among dropped entry.uri

-- what stays of entries whose first one stands at a position
abbrev pub staying : Block → Uris → ℕ → List Entry → List Entry
staying block dropped at [] = []
staying block dropped at (entry ∷ entries) =
    if takes block dropped at entry then staying block dropped (at + 1) entries else entry ∷ staying block dropped (at + 1) entries

abbrev pub all_staying : Block → Uris → List Entry → List Entry
all_staying block dropped entries = staying block dropped 0 entries

-- what stays behind a position
abbrev pub staying_behind : Block → Uris → ℕ → List Entry → List Entry
staying_behind block dropped at entries = staying block dropped (at + 1) (drop (at + 1) entries)

abbrev pub first_id : List Entry → Option ℕ
first_id [] = None
first_id (entry ∷ entries) = Some entry.id
