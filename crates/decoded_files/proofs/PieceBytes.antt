-- Parts of a piece.
use Rattle.std.proofs.Common.{◌≡◌, ℕ, ◌+◌, ◌-◌, ◌<◌, ◌≤◌, List, [], length, take, drop, arith, ap, ◌∙◌, sym, refl, slice_range, nat_le, Bool, true, false, cond, Ok, Err, OnOk}
use Rattle.std.specs.Prelude.{Result}
use Rattle.std.proofs.lemmas.Bool.Decides.{nat_tests}
use Rattle.std.proofs.lemmas.List.{length-drop}
use Rattle.song_files.proofs.Ranges.{drop-range, take-range}
use Rattle.decoded_files.specs.Pieces.{Piece, IsPieceAt, bytes_from}

-- the end of a piece
end_of : (file piece : List ℕ) (start at skip : ℕ) → at ≡ start + skip → skip ≤ length piece
    → IsPieceAt file start piece → IsPieceAt file at (drop skip piece)
end_of file piece start at skip place few is =
    let len : length (drop skip piece) ≡ length piece - skip = length-drop skip piece in
    let e : start + length piece ≡ at + length (drop skip piece) = omega (arith, len, place, few) in
    ap (drop skip) is ∙ drop-range file start skip (length piece) few ∙ ap (λ k. slice_range file k (start + length piece)) (sym place)
    ∙ ap (slice_range file at) e

some_skipped : (n skip len : ℕ) → len ≡ n - skip → 0 < len → skip ≤ n
some_skipped n skip len is some = omega arith

from_place : (file bytes : List ℕ) (start at : ℕ) (b : Bool) → nat_le start at ≡ b → IsPieceAt file start bytes
    → 0 < length (cond b (drop (at - start) bytes) []) → IsPieceAt file at (cond b (drop (at - start) bytes) [])
from_place file bytes start at false tells is some = absurd (omega arith)
from_place file bytes start at true tells is some =
    let le : start ≤ at = grind (arith, nat_tests) in
    let place : at ≡ start + (at - start) = omega (arith, le) in
    end_of file bytes start at (at - start) place
    (some_skipped (length bytes) (at - start) _ (length-drop (at - start) bytes) some) is

-- what a piece has from a place on, where that is anything
pub bytes_from_is : (file : List ℕ) (piece : Piece) (at : ℕ) → IsPieceAt file piece.start piece.bytes → 0 < length (bytes_from piece at)
    → IsPieceAt file at (bytes_from piece at)
unfolding bytes_from
bytes_from_is file piece at is some = from_place file piece.bytes piece.start at (nat_le piece.start at) refl is some

-- what is copied to the front of a buffer
pub front_is : (file bytes new : List ℕ) (at n : ℕ) → n ≤ length bytes → IsPieceAt file at bytes → take n new ≡ take n bytes
    → take n new ≡ slice_range file at (at + n)
front_is file bytes new at n few is same = same ∙ ap (take n) is ∙ take-range file at n (length bytes) few

first_there : (bytes : List ℕ) (start at : ℕ) (b : Bool) → nat_le start at ≡ b → start ≡ at → 0 < length bytes
    → 0 < length (cond b (drop (at - start) bytes) [])
first_there bytes start at false tells is some = absurd (grind (arith, nat_tests))
first_there bytes start at true tells is some = omega (arith, length-drop (at - start) bytes, is, some)

-- a piece that begins at a place has bytes from there on
pub some_there : {E : Type 0} (r : Result (Unit {0}) E) (piece : Piece) (at : ℕ) → OnOk r (piece.start ≡ at) → OnOk r (0 < length piece.bytes)
    → OnOk r (0 < length (bytes_from piece at))
unfolding bytes_from
some_there (Ok u) piece at is some = first_there piece.bytes piece.start at (nat_le piece.start at) refl is some
some_there (Err e) piece at is some = tt
