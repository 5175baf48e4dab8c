-- Reading the records one after the other, as a loop does.
use Rattle.std.proofs.Common.{ℕ, List, ◌++◌, Result, Ok, Err}

-- what was read before, and what is still read
abbrev pub with_front : List (List ℕ) → Result (List (List ℕ)) ℕ → Result (List (List ℕ)) ℕ
with_front front (Ok bodies) = Ok (front ++ bodies)
with_front front (Err offset) = Err offset
