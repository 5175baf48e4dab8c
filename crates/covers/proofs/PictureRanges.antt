-- A chunk of a picture, as a range of the file.
use Rattle.std.proofs.Common.{◌≡◌, ℕ, ◌+◌, ◌-◌, ◌≤◌, min, List, [], length, take, drop, slice_range, arith, ap, ◌∙◌, sym, inl, inr}
use Rattle.std.proofs.lemmas.Bool.{cases_lt}
use Rattle.std.proofs.lemmas.List.{take_all, drop_all, length-take}
use Rattle.song_files.proofs.Ranges.{range_is, take-range, drop-range}
use Rattle.covers.specs.Chunks.{chunk_of}

length_range : (file : List ℕ) (at n : ℕ) → length (slice_range file at (at + n)) ≤ n
length_range file at n = rw (range_is file at n) (omega (arith, length-take n (drop at file)))

none_behind : (file : List ℕ) (first len offset limit : ℕ) → len ≤ offset
    → slice_range file (first + len) (first + len + 0) ≡ chunk_of (slice_range file first (first + len)) offset limit
none_behind file first len offset limit past =
    let none : drop offset (slice_range file first (first + len)) ≡ [] =
    drop_all offset (slice_range file first (first + len)) (omega (arith, length_range file first len)) in
    range_is file (first + len) 0 ∙ sym (ap (take limit) none ∙ take_all limit [] (omega arith))

-- as many as are allowed, where there are more
front_of_rest : (file : List ℕ) (first len offset limit : ℕ) → offset ≤ len → limit ≤ len - offset
    → slice_range file (first + offset) (first + offset + limit) ≡ chunk_of (slice_range file first (first + len)) offset limit
front_of_rest file first len offset limit within few =
    let e : first + len ≡ first + offset + (len - offset) = omega arith in
    sym (ap (take limit) (drop-range file first offset len within) ∙ ap (λ end. take limit (slice_range file (first + offset) end)) e
    ∙ take-range file (first + offset) limit (len - offset) few)

-- all that there are
whole_rest : (file : List ℕ) (first len offset limit : ℕ) → offset ≤ len → len - offset ≤ limit
    → slice_range file (first + offset) (first + offset + (len - offset)) ≡ chunk_of (slice_range file first (first + len)) offset limit
whole_rest file first len offset limit within few =
    let e : first + len ≡ first + offset + (len - offset) = omega arith in
    sym (ap (take limit) (drop-range file first offset len within ∙ ap (slice_range file (first + offset)) e)
    ∙ take_all limit (slice_range file (first + offset) (first + offset + (len - offset)))
    (omega (arith, length_range file (first + offset) (len - offset))))

rest_is : (file : List ℕ) (first len offset limit count : ℕ) → offset ≤ len → count ≡ min (len - offset) limit
    → slice_range file (first + offset) (first + offset + count) ≡ chunk_of (slice_range file first (first + len)) offset limit
rest_is file first len offset limit count within is = elim (cases_lt limit (len - offset)) as (λ _. slice_range file (first + offset)
    (first + offset + count) ≡ chunk_of (slice_range file first (first + len)) offset limit) [
      | inl few ↦ (let e : count ≡ limit = omega arith in rw e (front_of_rest file first len offset limit within (omega arith)))
      | inr all ↦ (let e : count ≡ len - offset = omega arith in rw e (whole_rest file first len offset limit within (omega arith)))
    ]

pub chunk_is : (file : List ℕ) (first len offset limit begin count : ℕ) → begin ≡ min offset len → count ≡ min (len - begin) limit
    → slice_range file (first + begin) (first + begin + count) ≡ chunk_of (slice_range file first (first + len)) offset limit
chunk_is file first len offset limit begin count at is = elim (cases_lt offset len) as (λ _. slice_range file (first + begin)
    (first + begin + count) ≡ chunk_of (slice_range file first (first + len)) offset limit) [
      | inl within ↦ (let e : begin ≡ offset = omega arith in rw e (rest_is file first len offset limit count (omega arith) (omega arith)))
      | inr past ↦ (let e : begin ≡ len = omega arith in let f : count ≡ 0 = omega arith in rw (e, f) (none_behind file first len offset
          limit (omega arith)))
    ]
