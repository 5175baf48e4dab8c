-- The list of chunks, one chunk at a time.
use Rattle.std.proofs.Common.{◌≡◌, ◌<◌, ◌≤◌, ℕ, zero, suc, ◌+◌, ◌-◌, List, [], ◌∷◌, length, take, drop, arith, ap, ◌∙◌}
use Rattle.std.proofs.Common.{sym, refl, slice_range, nat_lt, true, false, min, lit≤, inl, inr, lit<}
use Rattle.std.specs.Int.{w32, from_le_bytes}
use Rattle.std.proofs.lemmas.Bool.{cases_lt}
use Rattle.std.proofs.lemmas.List.{drop_all, take_all, take-take, drop-take, drop-drop, length-take, length-drop}
use Rattle.std.proofs.lemmas.Bool.Decides.{nat_tests}
use Rattle.wave_pcm.specs.ChunkHead.{chunk_at}
use Rattle.wave_pcm.specs.declared.chunks.ChunkHead.{ChunkHead}
use Rattle.wave_pcm.specs.Chunks.{Chunk, chunks_after, chunks_in, chunk_of, size_in, padded}

pub chunks_after-drop : (skip at : ℕ) (bytes : List ℕ) → chunks_after skip at bytes ≡ chunks_after 0 (at + skip) (drop skip bytes)
unfolding chunks_after
chunks_after-drop zero at [] = refl
chunks_after-drop (suc skip) at [] = refl
chunks_after-drop zero at (b ∷ bytes) = let e : at + 0 ≡ at = omega arith in rw e refl
chunks_after-drop (suc skip) at (b ∷ bytes) = let e : at + 1 + skip ≡ at + suc skip = omega arith in chunks_after-drop skip (at +
    1) bytes ∙ ap (λ k. chunks_after 0 k (drop skip bytes)) e

-- no room for a head
pub chunks_none : (at : ℕ) (bytes : List ℕ) → length bytes < 8 → chunks_after 0 at bytes ≡ []
unfolding chunks_after
chunks_none at [] short = refl
chunks_none at (b ∷ bytes) short = let e : nat_lt (length bytes) 7 ≡ true = grind (arith, nat_tests) in rw e refl

skipped : (at k b : ℕ) (bytes : List ℕ) → chunks_after (7 + k) (at + 1) bytes ≡ chunks_after 0 (at + (8 + k)) (drop (8 + k) (b ∷ bytes))
skipped at k b bytes =
    let more : 8 + k ≡ suc (7 + k) = omega arith in
    let place : at + 1 + (7 + k) ≡ at + (8 + k) = omega arith in
    chunks_after-drop (7 + k) (at + 1) bytes ∙ ap (λ i. chunks_after 0 i (drop (7 + k) bytes)) place
    ∙ ap (λ i. chunks_after 0 (at + (8 + k)) (drop i (b ∷ bytes))) (sym more)

-- the first chunk, and those behind it
pub chunks_first : (at : ℕ) (bytes : List ℕ) → 8 ≤ length bytes
    → chunks_after 0 at bytes ≡ chunk_of at bytes ∷ chunks_after 0 (at + (8 + padded (size_in bytes))) (drop (8 + padded (size_in
    bytes)) bytes)
unfolding chunks_after
chunks_first at [] long = absurd (omega arith)
chunks_first at (b ∷ bytes) long = let e : nat_lt (length bytes) 7 ≡ false = grind (arith, nat_tests) in rw e (ap (λ cs. chunk_of
    at (b ∷ bytes) ∷ cs) (skipped at (padded (size_in (b ∷ bytes))) b bytes))

-- the first four bytes alone count
pub le_bytes-take : (xs : List ℕ) → from_le_bytes w32 (take 4 xs) ≡ from_le_bytes w32 xs
le_bytes-take [] = refl
le_bytes-take (a ∷ []) = refl
le_bytes-take (a ∷ b ∷ []) = refl
le_bytes-take (a ∷ b ∷ c ∷ []) = refl
le_bytes-take (a ∷ b ∷ c ∷ d ∷ xs) = refl

-- the size in the head, from its eight bytes
size_in-take : (bytes : List ℕ) → size_in (take 8 bytes) ≡ size_in bytes
size_in-take bytes = sym (le_bytes-take (drop 4 (take 8 bytes))) ∙ ap (λ xs. from_le_bytes w32 (take 4 xs)) (drop-take 4 4 bytes)
    ∙ ap (from_le_bytes w32) (take-take 4 4 (drop 4 bytes) (lit≤ tt)) ∙ le_bytes-take (drop 4 bytes)

-- a front of a front
pub take_front : (m n : ℕ) (xs : List ℕ) → take m (take n xs) ≡ take (min m n) xs
take_front m n xs = elim (cases_lt m n) as (λ _. take m (take n xs) ≡ take (min m n) xs) [
  | inl few ↦ (let e : min m n ≡ m = omega arith in rw e (take-take m n xs (omega arith)))
  | inr more ↦ (let e : min m n ≡ n = omega arith in rw e (take_all m (take n xs) (omega (arith, length-take n xs))))
]

-- the data of the first chunk, as a range of the file
body_in : (file : List ℕ) (at end size : ℕ) → at + 8 ≤ end
    → take size (drop 8 (slice_range file at end)) ≡ slice_range file (at + 8) (at + 8 + min size (end - at - 8))
body_in file at end size room =
    let n : end - at ≡ 8 + (end - at - 8) = omega arith in
    let m : at + 8 + min size (end - at - 8) - (at + 8) ≡ min size (end - at - 8) = omega arith in
    ap (λ k. take size (drop 8 (take k (drop at file)))) n
    ∙ ap (take size) (drop-take 8 (end - at - 8) (drop at file) ∙ ap (take (end - at - 8)) (drop-drop 8 at file))
    ∙ take_front size (end - at - 8) (drop (at + 8) file)
    ∙ ap (λ k. take k (drop (at + 8) file)) (sym m)

-- the chunks behind the first, where its pad byte is in the range
rest_in : (file : List ℕ) (at end n : ℕ) → at + n ≤ end
    → chunks_after 0 (at + n) (drop n (slice_range file at end)) ≡ chunks_in file (at + n) end
rest_in file at end n within =
    let e : end - at ≡ n + (end - (at + n)) = omega arith in
    ap (λ k. chunks_after 0 (at + n) (drop n (take k (drop at file)))) e
    ∙ ap (chunks_after 0 (at + n)) (drop-take n (end - (at + n)) (drop at file) ∙ ap (take (end - (at + n))) (drop-drop n at file))

-- and where the range ends first
rest_past : (file : List ℕ) (at end n place : ℕ) → end ≤ at + n
    → chunks_after 0 place (drop n (slice_range file at end)) ≡ chunks_in file end end
rest_past file at end n place past =
    let left : drop n (slice_range file at end) ≡ [] = drop_all n (slice_range file at end) (omega (
      arith,
      length-take (end - at)
          (drop at file),
    )) in
    let right : slice_range file end end ≡ [] = (let z : end - end ≡ 0 = omega arith in rw z refl) in
    ap (chunks_after 0 place) left ∙ chunks_none place [] (lit< tt) ∙ sym (ap (chunks_after 0 end) right ∙ chunks_none end [] (lit< tt))

-- no chunk where there is no room for a head
pub no_chunk : (file : List ℕ) (at end : ℕ) → end < at + 8 → chunks_in file at end ≡ []
no_chunk file at end short = chunks_none at (slice_range file at end) (omega (arith, length-take (end - at) (drop at file)))

abbrev record_of : List ℕ → ℕ → List ℕ → Chunk
record_of id first body = record { id = id; first = first; body = body }

rest_of : (file : List ℕ) (at end p : ℕ) → at + 8 ≤ end
    → chunks_after 0 (at + (8 + p)) (drop (8 + p) (slice_range file at end)) ≡ chunks_in file (at + 8 + min p (end - at - 8)) end
rest_of file at end p room = elim (cases_lt (end - at - 8) p) as (λ _. chunks_after 0 (at + (8 + p)) (drop (8 + p) (slice_range
    file at end)) ≡ chunks_in file (at + 8 + min p (end - at - 8)) end) [
      | inl past ↦ (let e : at + 8 + min p (end - at - 8) ≡ end = omega arith in rw e (rest_past file at end (8 + p) (at + (8 + p))
          (omega arith)))
      | inr fits ↦ (let e : at + 8 + min p (end - at - 8) ≡ at + (8 + p) = omega arith in rw e (rest_in file at end (8 + p) (omega arith)))
    ]

head_is : (file : List ℕ) (at end : ℕ) → at + 8 ≤ end → slice_range file at (at + 8) ≡ take 8 (slice_range file at end)
head_is file at end room = let e : at + 8 - at ≡ 8 = omega arith in ap (λ k. take k (drop at file)) e
    ∙ sym (take-take 8 (end - at) (drop at file) (omega arith))

first_of : (file front : List ℕ) (at end size : ℕ) → at + 8 ≤ end
    → record_of front (at + 8) (take size (drop 8 (slice_range file at end))) ∷ chunks_after 0 (at + (8 + padded size)) (drop (8 +
    padded size) (slice_range file at end))
    ≡ record_of front (at + 8) (slice_range file (at + 8) (at + 8 + min size (end - at - 8))) ∷ chunks_in file (at + 8 + min
    (padded size) (end - at - 8)) end
first_of file front at end size room =
    ap (λ b. record_of front (at + 8) b ∷ chunks_after 0 (at + (8 + padded size)) (drop (8 + padded size) (slice_range file at
    end))) (body_in file at end size room)
    ∙ ap (λ cs. record_of front (at + 8) (slice_range file (at + 8) (at + 8 + min size (end - at - 8))) ∷ cs) (rest_of file at end
    (padded size) room)

-- the first chunk of a range, by the eight bytes of its head, and those behind it
pub next_chunk : (file head : List ℕ) (at end : ℕ) → at + 8 ≤ end → end ≤ length file → head ≡ slice_range file at (at + 8)
    → chunks_in file at end ≡ record {
      id = take 4 head;
      first = at + 8;
      body = slice_range file (at + 8) (at + 8 + min (size_in
          head) (end - at - 8));
    }
    ∷ chunks_in file (at + 8 + min (padded (size_in head)) (end - at - 8)) end
next_chunk file head at end room within read =
    let front : take 8 (slice_range file at end) ≡ head = sym (read ∙ head_is file at end room) in
    let ids : take 4 (slice_range file at end) ≡ take 4 head = sym (take-take 4 8 (slice_range file at end) (lit≤ tt))
    ∙ ap (take 4) front in
    let size : size_in (slice_range file at end) ≡ size_in head = sym (size_in-take (slice_range file at end)) ∙ ap size_in front in
    chunks_first at (slice_range file at end) (omega (arith, length-take (end - at) (drop at file), length-drop at file))
    ∙ first_of file (take 4 (slice_range file at end)) at end (size_in (slice_range file at end)) room
    ∙ ap (λ i. record_of i (at + 8) (slice_range file (at + 8) (at + 8 + min (size_in (slice_range file at end)) (end - at - 8))) ∷
    chunks_in file (at + 8 + min (padded (size_in (slice_range file at end))) (end - at - 8)) end) ids
    ∙ ap (λ n. record_of (take 4 head) (at + 8) (slice_range file (at + 8) (at + 8 + min n (end - at - 8))) ∷ chunks_in file (at +
    8 + min (padded n) (end - at - 8)) end) size

-- the same, by the head's fields
pub next_head : (file bytes : List ℕ) (at end : ℕ) (head : ChunkHead) → at + 8 ≤ end → end ≤ length file
    → bytes ≡ slice_range file at (at + 8)
    → head.id ≡ take 4 bytes → head.first ≡ at + 8 → head.len ≡ min (size_in bytes) (end - at - 8)
    → head.next ≡ at + 8 + min (padded (size_in bytes)) (end - at - 8)
    → chunks_in file at end ≡ chunk_at file head ∷ chunks_in file head.next end
next_head file bytes at end head room within read id first len next = rw (id, first, len, next) (next_chunk file bytes at end room
    within read)
