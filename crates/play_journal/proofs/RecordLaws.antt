-- Records that are spelled are read, and records that are read were spelled.
use Rattle.std.proofs.Common.{◌≡◌, inl, inr, ℕ, zero, suc, ◌+◌, ◌-◌, ◌^◌, ◌<◌, ◌≤◌, Bool, true, false, ◌||◌, cond, eqb, ltb, leb, List, []}
use Rattle.std.proofs.Common.{◌∷◌, ◌++◌, length, length-append, length-drop, length-take, take, drop, get_or, add-zero, append_assoc}
use Rattle.std.proofs.Common.{Result, Ok, Err, arith, refl, sym, ap, subst, ◌∙◌}
use Rattle.std.specs.Prelude.{◌≢◌, All, flat_map}
use Rattle.std.specs.Int.{w32, from_le_bytes, to_le_bytes}
use Rattle.std.proofs.lemmas.Bool.{cases_eq, cases_lt, ltb-false, leb-false, le-ltb, lt-leb, eq-eqb, ne_eqb}
use Rattle.std.proofs.lemmas.List.{take_at, drop_at, take-append-drop, length-take-le, get_or-take, get_or-drop, get_or_past, take-take}
use Rattle.std.proofs.lemmas.List.{drop-take, drop-drop}
use Rattle.std.proofs.lemmas.List.Elements.{All-cons}
use Rattle.std.proofs.lemmas.Nat.{le_bytes_4, from_le_bytes-to_le_bytes_4}
use Rattle.play_journal.specs.File.{open_gate, longest_body, gated}
use Rattle.play_journal.specs.Reading.{number_at, passes, with_first, records_at}

-- a function at two numbers that are one
pub at_number : {B : Type 0} (f : ℕ → B) (m n : ℕ) → m ≡ n → f m ≡ f n
at_number f m n is = ap f is

abbrev pub IsBytes : List ℕ → Type 0
IsBytes bytes = (i : ℕ) → get_or bytes i 0 < 256

pub IsBytes-drop : (n : ℕ) (bytes : List ℕ) → IsBytes bytes → IsBytes (drop n bytes)
IsBytes-drop n bytes h i = rw get_or-drop (h (n + i))

pub IsBytes-take : (n : ℕ) (bytes : List ℕ) → IsBytes bytes → IsBytes (take n bytes)
IsBytes-take n bytes h i =
    elim (cases_lt i n) [
      | inl lt ↦ rw (get_or-take n bytes i 0 lt) (h i)
      | inr le ↦ rw (get_or_past (take n bytes) i 0 (omega (arith, length-take n bytes))) (omega arith)
    ]

pub IsBytes-rest : (b : ℕ) (bytes : List ℕ) → IsBytes (b ∷ bytes) → IsBytes bytes
IsBytes-rest b bytes h i = h (suc i)

pub bytes_fit : (bytes : List ℕ) → All (λ b. b < 256) bytes → IsBytes bytes
bytes_fit bytes fit i =
    elim (cases_lt i (length bytes)) [
      | inl lt ↦ fit i 0 lt
      | inr le ↦ rw (get_or_past bytes i 0 le) (omega arith)
    ]

-- four bytes are a number below 2^32
pub number_below_4 : (bytes : List ℕ) → IsBytes bytes → from_le_bytes w32 bytes < 2 ^ 32
number_below_4 bytes fits = omega (arith, fits 0, fits 1, fits 2, fits 3)

pub guard_ok : {A E : Type 0} (b : Bool) (e : E) (r : Result A E) (y : A) → cond b (Err e) r ≡ Ok y → (b ≡ false) × (r ≡ Ok y)
guard_ok true e r y is = absurd cc
guard_ok false e r y is = (refl, is)

pub or_false : (x y : Bool) → (x || y) ≡ false → (x ≡ false) × (y ≡ false)
or_false true y is = absurd cc
or_false false y is = (refl, is)

pub or_from : (x y : Bool) → x ≡ false → y ≡ false → (x || y) ≡ false
or_from true y is other = absurd cc
or_from false y is other = other

-- the bytes of a record behind its gate are skipped at once
pub records_at-skip : (bytes : List ℕ) (skip offset before : ℕ) → skip ≤ length bytes
    → records_at skip offset before bytes ≡ records_at 0 (offset + skip) before (drop skip bytes)
unfolding records_at
records_at-skip bytes zero offset before within = rw add-zero refl
records_at-skip [] (suc skip) offset before within = absurd (omega arith)
records_at-skip (byte ∷ bytes) (suc skip) offset before within =
    records_at-skip bytes skip (suc offset) before (omega arith) ∙ ap (λ (n : ℕ). records_at 0 n before (drop skip bytes)) (omega arith)

-- what stands behind an open gate is a record
pub record IsRecord (before : ℕ) (bytes : List ℕ) (size : ℕ) : Type 0 where
  pub field : 4 ≤ length bytes
  pub size_is : number_at w32 0 bytes ≡ size
  pub short : size ≤ longest_body
  pub within : 4 + size ≤ length bytes
  pub number : before + 1 < 2 ^ 64

pub passes-false : (before : ℕ) (bytes : List ℕ) (size : ℕ) → IsRecord before bytes size → passes before bytes ≡ false
passes-false before bytes size is =
    let last : leb (2 ^ 64 - 1) before ≡ false = lt-leb (2 ^ 64 - 1) before (omega (arith, is.number)) in
    let fields : ltb (length bytes) 4 ≡ false = le-ltb (length bytes) 4 is.field in
    let longest : ltb longest_body size ≡ false = le-ltb longest_body size is.short in
    let within : ltb (length bytes) (4 + size) ≡ false = le-ltb (length bytes) (4 + size) is.within in
    rw is.size_is (or_from _ _ (or_from _ _ (or_from _ _ fields longest) within) last)

pub passes-inverse : (before : ℕ) (bytes : List ℕ) → passes before bytes ≡ false → IsRecord before bytes (number_at w32 0 bytes)
passes-inverse before bytes is =
    let last = or_false _ _ is in
    let within = or_false _ _ last.0 in
    let first = or_false _ _ within.0 in
    record {
      field = ltb-false (length bytes) 4 first.0;
      size_is = refl;
      short = ltb-false longest_body (number_at w32 0 bytes) first.1;
      within = ltb-false (length bytes) (4 + number_at w32 0 bytes) within.1;
      number = let h : before < 2 ^ 64 - 1 = leb-false (2 ^ 64 - 1) before last.1 in omega arith;
    }

-- a record is read, and then what follows it
pub records_at-record : (offset before size : ℕ) (bytes : List ℕ) → IsRecord before bytes size
    → records_at 0 offset before (open_gate ∷ bytes) ≡ with_first (take size (drop 4 bytes)) (records_at 0 (offset + 5 + size)
    (before + 1) (drop (4 + size) bytes))
unfolding records_at
records_at-record offset before size bytes is =
    let none : passes before bytes ≡ false = passes-false before bytes size is in
    let body : take (4 + size - 4) (drop 4 bytes) ≡ take size (drop 4 bytes) = ap (λ (n : ℕ). take n (drop 4 bytes)) (omega arith) in
    let skipped : records_at (4 + size) (suc offset) (suc before) bytes ≡ records_at 0 (offset + 5 + size) (before + 1) (drop
    (4 + size) bytes) =
    records_at-skip bytes (4 + size) (suc offset) (suc before) is.within
    ∙ ap (λ (n : ℕ). records_at 0 n (suc before) (drop (4 + size) bytes)) (omega arith)
    ∙ ap (λ (n : ℕ). records_at 0 (offset + 5 + size) n (drop (4 + size) bytes)) (omega arith) in
    rw (none, is.size_is) (ap (λ (b : List ℕ). with_first b (records_at (4 + size) (suc offset) (suc before) bytes)) body
    ∙ ap (λ r. with_first (take size (drop 4 bytes)) r) skipped)

-- a closed gate ends the list
pub records_at-closed : (offset before gate : ℕ) (bytes : List ℕ) → gate ≢ open_gate → records_at 0 offset before (gate ∷ bytes) ≡ Ok []
unfolding records_at
records_at-closed offset before gate bytes closed = rw (ne_eqb gate open_gate closed) refl

-- records that are spelled
pub records_at-gated : (bodies : List (List ℕ)) (offset before gate : ℕ) (free : List ℕ) → gate ≢ open_gate
    → All (λ body. length body ≤ longest_body) bodies → before + length bodies < 2 ^ 64
    → records_at 0 offset before (flat_map gated bodies ++ gate ∷ free) ≡ Ok bodies
records_at-gated [] offset before gate free closed small numbers = records_at-closed offset before gate free closed
records_at-gated (body ∷ bodies) offset before gate free closed small numbers =
    let rest : List ℕ = flat_map gated bodies ++ gate ∷ free in
    let size : ℕ = length body in
    let bytes : List ℕ = to_le_bytes w32 size ++ (body ++ rest) in
    let short : size ≤ longest_body = small 0 body (omega arith) in
    let regrouped : flat_map gated (body ∷ bodies) ++ gate ∷ free ≡ open_gate ∷ bytes = simp append_assoc in
    let long : length bytes ≡ 4 + (size + length rest) = omega (arith, length-append body rest) in
    let is : IsRecord before bytes size = record {
      field = omega arith;
      size_is = from_le_bytes-to_le_bytes_4 size (omega (arith, short));
      short = short;
      within = omega arith;
      number = omega (arith, numbers);
    } in
    let own : take size (drop 4 bytes) ≡ body = take_at body rest size refl in
    let next : drop (4 + size) bytes ≡ rest = sym (drop-drop size 4 bytes) ∙ drop_at body rest size refl in
    let others : records_at 0 (offset + 5 + size) (before + 1) rest ≡ Ok bodies =
    records_at-gated bodies (offset + 5 + size) (before + 1) gate free closed (λ k d lt. small (suc k) d (omega arith)) (omega
    (arith, numbers)) in
    ap (λ (l : List ℕ). records_at 0 offset before l) regrouped ∙ records_at-record offset before size bytes is
    ∙ ap (λ (l : List ℕ). with_first l (records_at 0 (offset + 5 + size) (before + 1) (drop (4 + size) bytes))) own
    ∙ ap (λ (l : List ℕ). with_first body (records_at 0 (offset + 5 + size) (before + 1) l)) next ∙ ap (λ r. with_first body r) others

-- Bytes stand before the first of these records, which end at a closed gate.
pub record Stands (skip before : ℕ) (bytes : List ℕ) (bodies : List (List ℕ)) : Type 0 where
  pub front : List ℕ
  pub gate : ℕ
  pub free : List ℕ
  pub parts : bytes ≡ front ++ (flat_map gated bodies ++ gate ∷ free)
  pub skipped : length front ≡ skip
  pub closed : gate ≢ open_gate
  pub small : All (λ body. length body ≤ longest_body) bodies
  pub numbers : before + length bodies < 2 ^ 64

abbrev done : List (List ℕ) → Result (List (List ℕ)) ℕ
done bodies = Ok bodies

with_first-ok : (body : List ℕ) (r : Result (List (List ℕ)) ℕ) (bodies : List (List ℕ)) → with_first body r ≡ Ok bodies
    → (others : List (List ℕ)) × (r ≡ Ok others) × (body ∷ others ≡ bodies)
with_first-ok body (Ok others) bodies is = (others, refl, cc)
with_first-ok body (Err offset) bodies is = absurd cc

-- the length field and the body of a record
field_and_body : (bytes : List ℕ) (size : ℕ) → IsBytes bytes → 4 + size ≤ length bytes → number_at w32 0 bytes ≡ size
    → take (4 + size) bytes ≡ to_le_bytes w32 (length (take size (drop 4 bytes))) ++ take size (drop 4 bytes)
field_and_body bytes size fits within size_is =
    let own : length (take size (drop 4 bytes)) ≡ size = length-take-le size (drop 4 bytes) (omega (arith, length-drop 4 bytes)) in
    let field : to_le_bytes w32 size ≡ take 4 bytes = le_bytes_4 (take 4 bytes) size (length-take-le 4 bytes (omega arith))
    (IsBytes-take 4 bytes fits) (sym size_is) in
    let front : take 4 (take (4 + size) bytes) ≡ take 4 bytes = take-take 4 (4 + size) bytes (omega arith) in
    let back : drop 4 (take (4 + size) bytes) ≡ take size (drop 4 bytes) = drop-take 4 size bytes in
    sym (take-append-drop 4 (take (4 + size) bytes)) ∙ ap (λ (l : List ℕ). l ++ drop 4 (take (4 + size) bytes)) (front ∙ sym field)
    ∙ ap (λ (l : List ℕ). to_le_bytes w32 size ++ l) back
    ∙ ap (λ (n : ℕ). to_le_bytes w32 n ++ take size (drop 4 bytes)) (sym own)

-- records that were read
pub records_at-inverse : (bytes : List ℕ) (skip offset before : ℕ) (bodies : List (List ℕ)) → IsBytes bytes → before < 2 ^ 64
    → records_at skip offset before bytes ≡ Ok bodies → Stands skip before bytes bodies
unfolding records_at
records_at-inverse [] skip offset before bodies fits number is = absurd cc
records_at-inverse (byte ∷ bytes) (suc skip) offset before bodies fits number is =
    let later = records_at-inverse bytes skip (suc offset) before bodies (IsBytes-rest byte bytes fits) number is in
    record {
      front = byte ∷ later.front;
      gate = later.gate;
      free = later.free;
      parts = ap (λ (l : List ℕ). byte ∷ l) later.parts;
      skipped = omega (arith, later.skipped);
      closed = later.closed;
      small = later.small;
      numbers = later.numbers;
    }
records_at-inverse (gate ∷ bytes) zero offset before bodies fits number is = elim (cases_eq gate open_gate) [
  | inl is_open ↦
      let opened : eqb gate open_gate ≡ true = eq-eqb gate open_gate is_open in
      let size : ℕ = number_at w32 0 bytes in
      let body : List ℕ = take (4 + size - 4) (drop 4 bytes) in
      let tested : cond (passes before bytes) (Err offset) (with_first body (records_at (4 + size) (suc offset)
      (suc before) bytes)) ≡ Ok bodies = rw opened at is in
      let guarded = guard_ok (passes before bytes) offset (with_first body (records_at (4 + size) (suc offset)
      (suc before) bytes)) bodies tested in
      let stands = passes-inverse before bytes guarded.0 in
      let first = with_first-ok body (records_at (4 + size) (suc offset) (suc before) bytes) bodies guarded.1 in
      let later = records_at-inverse bytes (4 + size) (suc offset) (suc before) first.0 (IsBytes-rest gate bytes fits) (omega
      (arith, stands.number)) first.1 in
      let own : body ≡ take size (drop 4 bytes) = ap (λ (n : ℕ). take n (drop 4 bytes)) (omega arith) in
      let front : later.front ≡ to_le_bytes w32 (length body) ++ body =
      sym (ap (λ (l : List ℕ). take (4 + size) l) later.parts ∙ take_at later.front (flat_map gated first.0
      ++ later.gate ∷ later.free) (4 + size) later.skipped)
      ∙ field_and_body bytes size (IsBytes-rest gate bytes fits) stands.within refl
      ∙ ap (λ (b : List ℕ). to_le_bytes w32 (length b) ++ b) (sym own) in
      let whole : gate ∷ bytes ≡ gated body ++ (flat_map gated first.0 ++ later.gate ∷ later.free) =
      ap (λ (n : ℕ). n ∷ bytes) is_open ∙ ap (λ (l : List ℕ). open_gate ∷ l) (later.parts
      ∙ ap (λ (l : List ℕ). l ++ (flat_map gated first.0 ++ later.gate ∷ later.free)) front) in
      let short : length body ≤ longest_body = omega (
        arith,
        ap (λ (l : List ℕ). length l) own,
        length-take size
            (drop 4 bytes),
        stands.short,
      ) in
      let stand : Stands 0 before (gate ∷ bytes) (body ∷ first.0) = record {
        front = [];
        gate = later.gate;
        free = later.free;
        parts = whole ∙ sym (append_assoc (gated body) (flat_map gated first.0) (later.gate ∷ later.free));
        skipped = refl;
        closed = later.closed;
        small = All-cons (λ (b : List ℕ). length b ≤ longest_body) body first.0 short later.small;
        numbers = omega (arith, later.numbers);
      } in
      subst (λ (bs : List (List ℕ)). Stands 0 before (gate ∷ bytes) bs) first.2 stand
  | inr closed ↦
      let shut : eqb gate open_gate ≡ false = ne_eqb gate open_gate closed in
      let none : done [] ≡ done bodies = rw shut at is in
      let nothing : [] ≡ bodies = cc in
      let stand : Stands 0 before (gate ∷ bytes) [] = record {
        front = [];
        gate = gate;
        free = bytes;
        parts = refl;
        skipped = refl;
        closed = closed;
        small = λ k d lt. absurd (omega arith);
        numbers = omega (arith, number);
      } in
      subst (λ (bs : List (List ℕ)). Stands 0 before (gate ∷ bytes) bs) nothing stand
]

-- what stands behind the gate isn't a record
pub records_at-passes : (offset before : ℕ) (bytes : List ℕ) → passes before bytes ≡ true
    → records_at 0 offset before (open_gate ∷ bytes) ≡ Err offset
unfolding records_at
records_at-passes offset before bytes is = rw is refl

pub records_at-end : (offset before : ℕ) → records_at 0 offset before [] ≡ Err offset
unfolding records_at
records_at-end offset before = refl
