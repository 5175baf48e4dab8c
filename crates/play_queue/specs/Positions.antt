-- The positions of entries by their ids.
use Rattle.std.specs.Prelude.{ℕ, ◌==◌, List, [], ◌∷◌, Option, Some, None, Result, Ok, Err, position}
use Rattle.std.specs.declared.vec.Vec.{Vec}
use Rattle.std.specs.declared.alloc.Global.{Global}
use Rattle.play_queue.specs.declared.entry.Entry.{Entry}

-- an answer by its list of positions
abbrev pub items_of : Result (Vec ℕ Global) ℕ → Result (List ℕ) ℕ
items_of (Ok positions) = Ok positions.items
items_of (Err id) = Err id

-- the position of the entry with an id, if there is one
abbrev pub position_of : List Entry → ℕ → Option ℕ
position_of entries id = position (λ entry. entry.id == id) entries

-- a position in front of those that were found
abbrev pub in_front : ℕ → Result (List ℕ) ℕ → Result (List ℕ) ℕ
in_front at (Ok positions) = Ok (at ∷ positions)
in_front at (Err id) = Err id

-- an id's position in front of those of the ids behind it, or the id where it has none
abbrev pub position_or_id : ℕ → Option ℕ → Result (List ℕ) ℕ → Result (List ℕ) ℕ
position_or_id id None others = Err id
position_or_id id (Some at) others = in_front at others

-- the positions of the entries with these ids, in the order of the ids; or the first id that no entry has
abbrev pub positions_of : List Entry → List ℕ → Result (List ℕ) ℕ
positions_of entries [] = Ok []
positions_of entries (id ∷ ids) = position_or_id id (position_of entries id) (positions_of entries ids)
