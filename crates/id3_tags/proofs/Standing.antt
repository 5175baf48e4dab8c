-- Bytes that stand in a file.
use Rattle.std.proofs.Common.{◌≡◌, ℕ, ◌+◌, ◌≤◌, List, ◌++◌, length, take, drop, slice_range, sym, ap, ◌∙◌, arith}
use Rattle.std.proofs.lemmas.List.{length-append, take_at, drop_at}
use Rattle.song_files.proofs.Ranges.{take-range, drop-range}
use Rattle.id3_tags.specs.Writing.{Stands}

-- the front stands there
pub stands_front : (file : List ℕ) (at : ℕ) (xs ys : List ℕ) → Stands file at (xs ++ ys) → Stands file at xs
stands_front file at xs ys stands =
    let few : length xs ≤ length (xs ++ ys) = omega (arith, length-append xs ys) in
    sym (take-range file at (length xs) (length (xs ++ ys)) few) ∙ ap (take (length xs)) stands ∙ take_at xs ys (length xs) (omega arith)

-- and the rest behind it
pub stands_back : (file : List ℕ) (at : ℕ) (xs ys : List ℕ) → Stands file at (xs ++ ys) → Stands file (at + length xs) ys
stands_back file at xs ys stands =
    let few : length xs ≤ length (xs ++ ys) = omega (arith, length-append xs ys) in
    let end : at + length xs + length ys ≡ at + length (xs ++ ys) = omega (arith, length-append xs ys) in
    ap (slice_range file (at + length xs)) end ∙ sym (drop-range file at (length xs) (length (xs ++ ys)) few)
    ∙ ap (drop (length xs)) stands ∙ drop_at xs ys (length xs) (omega arith)
