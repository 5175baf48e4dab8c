-- The head of a file: what is spelled is read, and what is read was spelled.
use Rattle.std.proofs.Common.{◌≡◌, ◌⊎◌, inl, inr, ℕ, ◌+◌, ◌-◌, ◌^◌, ◌<◌, ◌≤◌, Bool, true, false, not, cond, eqb, ltb, List, ◌∷◌, ◌++◌}
use Rattle.std.proofs.Common.{length, length-append, length-drop, length-take, take, drop, arith, refl, sym, ap, subst, ◌∙◌}
use Rattle.std.specs.Prelude.{slice_index, slice_range, bytes_eq}
use Rattle.std.specs.Int.{w32, w64, from_le_bytes, to_le_bytes}
use Rattle.std.proofs.lemmas.Bool.{cases_lt, and_parts, and_left, and_right, both_ways, not-true, not-false, ltb-false, le-ltb, lt-ltb}
use Rattle.std.proofs.lemmas.Bool.{eqb-true, eq-eqb, ne_eqb, cases_eq}
use Rattle.std.proofs.lemmas.List.{take-append-drop, length-take-le, get_or-take, take-take, drop-take, drop-drop, drop_more}
use Rattle.std.proofs.lemmas.Nat.{le_bytes_4, le_bytes_8, from_le_bytes-to_le_bytes_4, from_le_bytes-to_le_bytes_8}
use Rattle.std.proofs.lemmas.Slice.Eq.{bytes_eq-Decides}
use Rattle.play_journal.specs.Content.{old_layout, second_layout, third_layout, IsKnownLayout}
use Rattle.play_journal.specs.File.{open_gate, name, head, IsShut, IsOpenAt}
use Rattle.play_journal.specs.Reading.{Front, Closed, Bad, Open, number_at, is_open, is_known_layout, front}
use Rattle.play_journal.proofs.RecordLaws.{IsBytes, IsBytes-drop, IsBytes-take, number_below_4}

number_below_8 : (bytes : List ℕ) → IsBytes bytes → from_le_bytes w64 bytes < 2 ^ 64
number_below_8 bytes fits = omega (arith, fits 0, fits 1, fits 2, fits 3, fits 4, fits 5, fits 6, fits 7)

pub head_number_8 : (at : ℕ) (bytes : List ℕ) → IsBytes bytes → number_at w64 at bytes < 2 ^ 64
head_number_8 at bytes fits = number_below_8 (take (at + 8 - at) (drop at bytes)) (IsBytes-take (at + 8 - at) (drop at bytes)
    (IsBytes-drop at bytes fits))

pub head_number_4 : (at : ℕ) (bytes : List ℕ) → IsBytes bytes → number_at w32 at bytes < 2 ^ 32
head_number_4 at bytes fits = number_below_4 (take (at + 4 - at) (drop at bytes)) (IsBytes-take (at + 4 - at) (drop at bytes)
    (IsBytes-drop at bytes fits))

-- ---- what is spelled

pub length-head : (layout generation base size : ℕ) → length (head layout generation base size) ≡ 31
unfolding head
length-head layout generation base size = refl

pub spelled_rest : (layout generation base size : ℕ) (rest : List ℕ) → drop 32 (open_gate ∷ head layout generation base size ++ rest) ≡ rest
unfolding head
spelled_rest layout generation base size rest = refl

pub spelled_layout : (layout generation base size : ℕ) (rest : List ℕ) → layout < 2 ^ 32
    → number_at w32 8 (open_gate ∷ head layout generation base size ++ rest) ≡ layout
unfolding head
spelled_layout layout generation base size rest fits = from_le_bytes-to_le_bytes_4 layout fits

pub spelled_generation : (layout generation base size : ℕ) (rest : List ℕ) → generation < 2 ^ 64
    → number_at w64 12 (open_gate ∷ head layout generation base size ++ rest) ≡ generation
unfolding head
spelled_generation layout generation base size rest fits = from_le_bytes-to_le_bytes_8 generation fits

pub spelled_base : (layout generation base size : ℕ) (rest : List ℕ) → base < 2 ^ 64
    → number_at w64 20 (open_gate ∷ head layout generation base size ++ rest) ≡ base
unfolding head
spelled_base layout generation base size rest fits = from_le_bytes-to_le_bytes_8 base fits

pub spelled_size : (layout generation base size : ℕ) (rest : List ℕ) → size < 2 ^ 32
    → number_at w32 28 (open_gate ∷ head layout generation base size ++ rest) ≡ size
unfolding head
spelled_size layout generation base size rest fits = from_le_bytes-to_le_bytes_4 size fits

spelled_old : (generation base size : ℕ) (rest : List ℕ) → ltb (length (open_gate ∷ head old_layout generation base size
    ++ rest)) 32 ≡ false
    → front (open_gate ∷ head old_layout generation base size ++ rest) ≡ Open (from_le_bytes w64 (to_le_bytes w64 generation))
unfolding front head
spelled_old generation base size rest long = rw long refl

spelled_second : (generation base size : ℕ) (rest : List ℕ) → ltb (length (open_gate ∷ head second_layout generation base size
    ++ rest)) 32 ≡ false
    → front (open_gate ∷ head second_layout generation base size ++ rest) ≡ Open (from_le_bytes w64 (to_le_bytes w64 generation))
unfolding front head
spelled_second generation base size rest long = rw long refl

spelled_third : (generation base size : ℕ) (rest : List ℕ) → ltb (length (open_gate ∷ head third_layout generation base size
    ++ rest)) 32 ≡ false
    → front (open_gate ∷ head third_layout generation base size ++ rest) ≡ Open (from_le_bytes w64 (to_le_bytes w64 generation))
unfolding front head
spelled_third generation base size rest long = rw long refl

head_long : (layout generation base size : ℕ) (rest : List ℕ) → ltb (length (open_gate ∷ head layout generation base size
    ++ rest)) 32 ≡ false
head_long layout generation base size rest =
    le-ltb (length (open_gate ∷ head layout generation base size ++ rest)) 32 (omega (
      arith,
      length-append (head layout generation base size) rest,
      length-head layout generation base size,
    ))

spelled_front : (layout generation base size : ℕ) (rest : List ℕ) → IsKnownLayout layout
    → front (open_gate ∷ head layout generation base size ++ rest) ≡ Open (from_le_bytes w64 (to_le_bytes w64 generation))
spelled_front layout generation base size rest (inl is) = ap (λ (n : ℕ). front (open_gate ∷ head n generation base size ++ rest)) is
    ∙ spelled_old generation base size rest (head_long old_layout generation base size rest)
spelled_front layout generation base size rest (inr (inl is)) = ap (λ (n : ℕ). front (open_gate ∷ head n generation base size ++ rest)) is
    ∙ spelled_second generation base size rest (head_long second_layout generation base size rest)
spelled_front layout generation base size rest (inr (inr is)) = ap (λ (n : ℕ). front (open_gate ∷ head n generation base size ++ rest)) is
    ∙ spelled_third generation base size rest (head_long third_layout generation base size rest)

pub front-open : (layout generation base size : ℕ) (rest : List ℕ) → IsKnownLayout layout → generation < 2 ^ 64
    → front (open_gate ∷ head layout generation base size ++ rest) ≡ Open generation
front-open layout generation base size rest known fits =
    spelled_front layout generation base size rest known ∙ ap Open (from_le_bytes-to_le_bytes_8 generation fits)

pub front-open_at : (bytes : List ℕ) (generation : ℕ) → IsOpenAt bytes generation → front bytes ≡ Open generation
front-open_at bytes generation opened =
    ap front opened.spelled ∙ front-open opened.layout generation opened.base opened.size opened.rest opened.known opened.generation_fits

is_open-shut : (bytes : List ℕ) → IsShut bytes → is_open bytes ≡ false
is_open-shut bytes (inl short) = and_left (not (ltb (length bytes) 32)) (eqb (slice_index bytes 0) open_gate) (ap not (lt-ltb
    (length bytes) 32 short))
is_open-shut bytes (inr closed) = and_right (not (ltb (length bytes) 32)) (eqb (slice_index bytes 0) open_gate) (ne_eqb
    (slice_index bytes 0) open_gate closed)

pub front-shut : (bytes : List ℕ) → IsShut bytes → front bytes ≡ Closed
unfolding front
front-shut bytes shut = rw (is_open-shut bytes shut) refl

-- ---- what is read

known_layout : (layout : ℕ) → is_known_layout layout ≡ true → IsKnownLayout layout
known_layout layout is = elim (cases_eq layout old_layout) [
  | inl old ↦ inl old
  | inr other ↦ elim (cases_eq layout second_layout) [
    | inl second ↦ inr (inl second)
    | inr neither ↦ inr (inr (eqb-true layout third_layout (rw (ne_eqb layout old_layout other, ne_eqb layout second_layout neither)
        at is)))
  ]
]

pub known_fits : (layout : ℕ) → IsKnownLayout layout → layout < 2 ^ 32
known_fits layout (inl old) = omega (arith, old)
known_fits layout (inr (inl second)) = omega (arith, second)
known_fits layout (inr (inr third)) = omega (arith, third)

-- which tests a file passes before it counts as open
pub record Passed (bytes : List ℕ) (generation : ℕ) : Type 0 where
  pub long : 32 ≤ length bytes
  pub gate : slice_index bytes 0 ≡ open_gate
  pub named : slice_range bytes 1 8 ≡ name
  pub layout : IsKnownLayout (number_at w32 8 bytes)
  pub numbered : number_at w64 12 bytes ≡ generation

chosen_when : (b : Bool) (x y z : Front) → cond b x y ≡ z → ((b ≡ true) × (x ≡ z)) ⊎ ((b ≡ false) × (y ≡ z))
chosen_when true x y z is = inl (refl, is)
chosen_when false x y z is = inr (refl, is)

-- the fronts of a file that is open and one that isn't differ
not_bad : (offset generation : ℕ) → Bad offset ≡ Open generation → ⊥
not_bad offset generation is = cc

not_closed : (generation : ℕ) → Closed ≡ Open generation → ⊥
not_closed generation is = cc

same_generation : (a b : ℕ) → Open a ≡ Open b → a ≡ b
same_generation a b is = cc

pub passed : (bytes : List ℕ) (generation : ℕ) → front bytes ≡ Open generation → Passed bytes generation
unfolding front
passed bytes generation is = elim (chosen_when (not (is_open bytes)) _ _ _ is) [
  | inl shut ↦ absurd (not_closed generation shut.1)
  | inr opened ↦ elim (chosen_when (not (bytes_eq (slice_range bytes 1 8) name)) _ _ _ opened.1) [
    | inl unnamed ↦ absurd (not_bad 1 generation unnamed.1)
    | inr has_name ↦ elim (chosen_when (not (is_known_layout (number_at w32 8 bytes))) _ _ _ has_name.1) [
      | inl other ↦ absurd (not_bad 8 generation other.1)
      | inr known ↦
          let both = and_parts (not (ltb (length bytes) 32)) (eqb (slice_index bytes 0) open_gate) (not-false (is_open bytes) opened.0) in
          record {
            long = ltb-false (length bytes) 32 (not-true (ltb (length bytes) 32) both.0);
            gate = eqb-true (slice_index bytes 0) open_gate both.1;
            named = (bytes_eq-Decides (slice_range bytes 1 8) name).0 (not-false (bytes_eq (slice_range bytes 1 8) name) has_name.0);
            layout = known_layout (number_at w32 8 bytes) (not-false (is_known_layout (number_at w32 8 bytes)) known.0);
            numbered = same_generation (number_at w64 12 bytes) generation known.1;
          }
    ]
  ]
]

-- a list is a part of it and what follows the part
part : (from count : ℕ) (bytes : List ℕ) → drop from bytes ≡ take count (drop from bytes) ++ drop (from + count) bytes
part from count bytes = sym (take-append-drop count (drop from bytes))
    ∙ ap (λ (l : List ℕ). take count (drop from bytes) ++ l) (drop-drop count from bytes)

pub spelled_head : (bytes : List ℕ) (generation : ℕ) → IsBytes bytes → Passed bytes generation
    → bytes ≡ open_gate ∷ head (number_at w32 8 bytes) generation (number_at w64 20 bytes) (number_at w32 28 bytes) ++ drop 32 bytes
unfolding head
spelled_head bytes generation fits passed =
    let base : ℕ = number_at w64 20 bytes in
    let size : ℕ = number_at w32 28 bytes in
    let first : bytes ≡ open_gate ∷ drop 1 bytes = drop_more bytes 0 0 (omega (arith, passed.long))
    ∙ ap (λ (n : ℕ). n ∷ drop 1 bytes) passed.gate in
    let named : drop 1 bytes ≡ name ++ drop 8 bytes = part 1 7 bytes ∙ ap (λ (l : List ℕ). l ++ drop 8 bytes) passed.named in
    let layout : ℕ = number_at w32 8 bytes in
    let layout_field : take 4 (drop 8 bytes) ≡ to_le_bytes w32 layout =
    sym (le_bytes_4 (take 4 (drop 8 bytes)) layout (length-take-le 4 (drop 8 bytes) (omega (arith, length-drop 8 bytes, passed.long)))
    (IsBytes-take 4 (drop 8 bytes) (IsBytes-drop 8 bytes fits)) refl) in
    let generation_field : take 8 (drop 12 bytes) ≡ to_le_bytes w64 generation =
    sym (le_bytes_8 (take 8 (drop 12 bytes)) generation (length-take-le 8 (drop 12 bytes) (omega
    (arith, length-drop 12 bytes, passed.long))) (IsBytes-take 8 (drop 12 bytes) (IsBytes-drop 12 bytes fits))
    (sym passed.numbered)) in
    let base_field : take 8 (drop 20 bytes) ≡ to_le_bytes w64 base =
    sym (le_bytes_8 (take 8 (drop 20 bytes)) base (length-take-le 8 (drop 20 bytes) (omega (arith, length-drop 20 bytes, passed.long)))
    (IsBytes-take 8 (drop 20 bytes) (IsBytes-drop 20 bytes fits)) refl) in
    let size_field : take 4 (drop 28 bytes) ≡ to_le_bytes w32 size =
    sym (le_bytes_4 (take 4 (drop 28 bytes)) size (length-take-le 4 (drop 28 bytes) (omega (arith, length-drop 28 bytes, passed.long)))
    (IsBytes-take 4 (drop 28 bytes) (IsBytes-drop 28 bytes fits)) refl) in
    let from_28 : drop 28 bytes ≡ to_le_bytes w32 size ++ drop 32 bytes = part 28 4 bytes
    ∙ ap (λ (l : List ℕ). l ++ drop 32 bytes) size_field in
    let from_20 : drop 20 bytes ≡ to_le_bytes w64 base ++ drop 28 bytes = part 20 8 bytes
    ∙ ap (λ (l : List ℕ). l ++ drop 28 bytes) base_field in
    let from_12 : drop 12 bytes ≡ to_le_bytes w64 generation ++ drop 20 bytes = part 12 8 bytes
    ∙ ap (λ (l : List ℕ). l ++ drop 20 bytes) generation_field in
    let from_8 : drop 8 bytes ≡ to_le_bytes w32 layout ++ drop 12 bytes = part 8 4 bytes
    ∙ ap (λ (l : List ℕ). l ++ drop 12 bytes) layout_field in
    first ∙ ap (λ (l : List ℕ). open_gate ∷ l) (named ∙ ap (λ (l : List ℕ). name ++ l) (from_8
    ∙ ap (λ (l : List ℕ). to_le_bytes w32 layout ++ l) (from_12 ∙ ap (λ (l : List ℕ). to_le_bytes w64 generation ++ l) (from_20
    ∙ ap (λ (l : List ℕ). to_le_bytes w64 base ++ l) from_28))))

pub open_at-front : (bytes : List ℕ) (generation : ℕ) → IsBytes bytes → front bytes ≡ Open generation → IsOpenAt bytes generation
open_at-front bytes generation fits is =
    let tests = passed bytes generation is in
    record {
      layout = number_at w32 8 bytes;
      base = number_at w64 20 bytes;
      size = number_at w32 28 bytes;
      rest = drop 32 bytes;
      known = tests.layout;
      generation_fits = subst (λ (n : ℕ). n < 2 ^ 64) tests.numbered (head_number_8 12 bytes fits);
      base_fits = head_number_8 20 bytes fits;
      size_fits = head_number_4 28 bytes fits;
      spelled = spelled_head bytes generation fits tests;
    }

not_open : (generation : ℕ) → Open generation ≡ Closed → ⊥
not_open generation is = cc

not_bad_closed : (offset : ℕ) → Bad offset ≡ Closed → ⊥
not_bad_closed offset is = cc

pub shut-front : (bytes : List ℕ) → front bytes ≡ Closed → IsShut bytes
unfolding front
shut-front bytes is = elim (chosen_when (not (is_open bytes)) _ _ _ is) [
  | inl shut ↦ elim (cases_lt (length bytes) 32) [
    | inl short ↦ inl short
    | inr long ↦ inr (λ gate.
        let opened : is_open bytes ≡ true = rw (le-ltb (length bytes) 32 long, eq-eqb (slice_index bytes 0) open_gate gate) refl in
        both_ways (is_open bytes) (not-true (is_open bytes) shut.0) opened)
  ]
  | inr opened ↦ elim (chosen_when (not (bytes_eq (slice_range bytes 1 8) name)) _ _ _ opened.1) [
    | inl unnamed ↦ absurd (not_bad_closed 1 unnamed.1)
    | inr has_name ↦ elim (chosen_when (not (is_known_layout (number_at w32 8 bytes))) _ _ _ has_name.1) [
      | inl other ↦ absurd (not_bad_closed 8 other.1)
      | inr known ↦ absurd (not_open (number_at w64 12 bytes) known.1)
    ]
  ]
]

-- ---- the first 32 bytes tell it

front_by : (a b : List ℕ) → is_open a ≡ is_open b → slice_range a 1 8 ≡ slice_range b 1 8 → number_at w32 8 a ≡ number_at w32 8 b
    → number_at w64 12 a ≡ number_at w64 12 b → front a ≡ front b
unfolding front
front_by a b opened named layout numbered = rw (opened, named, layout, numbered) refl

-- a part of the first 32 bytes
taken_part : (bytes : List ℕ) (at count rest : ℕ) → at + (count + rest) ≡ 32
    → take count (drop at (take 32 bytes)) ≡ take count (drop at bytes)
taken_part bytes at count rest fits =
    ap (λ (n : ℕ). take count (drop at (take n bytes))) (sym fits) ∙ ap (λ (l : List ℕ). take count l) (drop-take at
    (count + rest) bytes) ∙ take-take count (count + rest) (drop at bytes) (omega arith)

pub front-take : (bytes : List ℕ) → 32 ≤ length bytes → front (take 32 bytes) ≡ front bytes
front-take bytes long =
    let gate : slice_index (take 32 bytes) 0 ≡ slice_index bytes 0 = get_or-take 32 bytes 0 0 (omega arith) in
    let here : ltb (length (take 32 bytes)) 32 ≡ false = le-ltb (length (take 32 bytes)) 32 (omega (arith, length-take 32 bytes)) in
    let there : ltb (length bytes) 32 ≡ false = le-ltb (length bytes) 32 long in
    let opened : is_open (take 32 bytes) ≡ is_open bytes = rw (here, there, gate) refl in
    front_by (take 32 bytes) bytes opened (taken_part bytes 1 7 24 refl) (ap (λ (l : List ℕ). from_le_bytes w32 l)
    (taken_part bytes 8 4 20 refl)) (ap (λ (l : List ℕ). from_le_bytes w64 l) (taken_part bytes 12 8 12 refl))
