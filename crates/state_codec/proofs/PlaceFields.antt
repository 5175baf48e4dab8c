-- The player's place, in ops and in the fields behind the parts of a snapshot, is read exactly as it is spelled.
use Rattle.std.proofs.Common.{◌≡◌, ◌⊎◌, inl, inr, ℕ, zero, suc, ◌+◌, ◌-◌, ◌*◌, ◌/◌, ◌<◌, ◌≤◌, ◌^◌, Bool, true, false, cond, not, eqb, ◌&&◌}
use Rattle.std.proofs.Common.{List, [], ◌∷◌, ◌++◌, length, drop, Ok, refl, sym, ap, subst, ◌∙◌, append_assoc, arith}
use Rattle.std.specs.Int.{is_in_range}
use Rattle.std.specs.List.{flat_map, AllByRecursion}
use Rattle.std.proofs.lemmas.Bool.{eqb-true, eqb-false, eq-eqb, false≢true, not-true, not-false}
use Rattle.std.proofs.lemmas.Bool.Decides.{nat_tests}
use Rattle.std.proofs.lemmas.List.{length-append}
use Rattle.std.proofs.lemmas.List.Concat.{flat_map-cons}
use Rattle.player_core.specs.Place.{PlaceState, IsPlace, IsRound, longest_round, no_place}
use Rattle.player_core.specs.declared.playing.PlayState.{PlayState}
use Rattle.player_core.specs.declared.playing.PlayState.TheVariants.{Stop, Play, Pause}
use Rattle.state_codec.specs.Fields.{Field, such, both, u32_at, u64_at}
use Rattle.state_codec.specs.Items.{items_at}
use Rattle.state_codec.specs.OpsPlace.{is_empty, same_state, stays_by}
use Rattle.state_codec.specs.ReadingPlace.{Spot, field_at, is_next, is_spot, measured, no_spot, round_field_at}
use Rattle.state_codec.specs.ReadingPlace.{spot_at, spot_field_at, state_at}
use Rattle.state_codec.specs.SavedState.{IsBytes}
use Rattle.state_codec.specs.SpellingFields.{state_bytes, u32_bytes, u64_bytes}
use Rattle.state_codec.specs.Steps.{◌>>=◌}
use Rattle.state_codec.specs.SpellingOps.{place_fields}
use Rattle.state_codec.specs.SpellingPlace.{field_count, place_bytes, place_head, round_head, spot_bytes, spot_field, told_spot}
use Rattle.state_codec.specs.declared.op.place_op.PlaceOp.TheVariants.{Put}
use Rattle.state_codec.proofs.FieldLaws.{Any, IsBytes-rest, IsField, Takes, Takes-then, bind_ok, both_is, both_true, ok_is}
use Rattle.state_codec.proofs.FieldLaws.{passed_ok, such_is, taken, u32_is, u64_is}
use Rattle.state_codec.proofs.ItemLaws.{alone_is, items_again, items_take}
use Rattle.state_codec.proofs.ListLaws.{all_by, by_all}

-- ---- stop, pause or play, and the spot

state_takes : (bytes : List ℕ) (x : PlayState × List ℕ) → IsBytes bytes → state_at bytes ≡ Ok x
    → Takes bytes (state_bytes x.0) x.1 × Any x.0
unfolding state_at
state_takes [] x fits e = absurd cc
state_takes (zero ∷ rest) x fits e =
    taken state_bytes (0 ∷ rest) (Stop, rest) x (record { parts = refl; rest_fits = IsBytes-rest 0 rest fits }) e
state_takes (suc zero ∷ rest) x fits e =
    taken state_bytes (1 ∷ rest) (Pause, rest) x (record { parts = refl; rest_fits = IsBytes-rest 1 rest fits }) e
state_takes (suc (suc zero) ∷ rest) x fits e =
    taken state_bytes (2 ∷ rest) (Play, rest) x (record { parts = refl; rest_fits = IsBytes-rest 2 rest fits }) e
state_takes (suc (suc (suc b)) ∷ rest) x fits e = absurd cc

state_again : (state : PlayState) (rest : List ℕ) → Any state → state_at (state_bytes state ++ rest) ≡ Ok (state, rest)
unfolding state_at
state_again Stop rest any = refl
state_again Pause rest any = refl
state_again Play rest any = refl

pub state_is : IsField (λ bytes. state_at bytes) state_bytes (λ state. Any state)
state_is = record { takes = state_takes; again = state_again }

abbrev pub spot_text : Spot → List ℕ
spot_text spot = state_bytes spot.0 ++ (u32_bytes spot.1.0 ++ u64_bytes spot.1.1)

abbrev pub IsSpot : Spot → Type 0
IsSpot spot = Any spot.0 × ((spot.1.0 < 2 ^ 32) × (spot.1.1 < 2 ^ 64))

pub spot_reads : IsField (λ bytes. spot_at bytes) spot_text IsSpot
spot_reads =
    both_is (λ bytes. state_at bytes) _ _ (λ bytes. both u32_at u64_at bytes) _ _ state_is
    (both_is (λ bytes. u32_at bytes) _ _ (λ bytes. u64_at bytes) _ _ u32_is u64_is)

-- ---- a value that has as many bytes as its length says

-- a reader of such a value
pub record IsValue {A : Type 0} (fits : ℕ → Bool) (value : ℕ → List ℕ → Field A) (text : A → List ℕ) (Good : A → Type 0) : Type 0 where
  pub takes : (len : ℕ) (bytes : List ℕ) (x : A × List ℕ) → IsBytes bytes → fits len ≡ true → value len bytes ≡ Ok x
      → length bytes ≡ len + length x.1 → Takes bytes (text x.0) x.1 × Good x.0
  pub again : (a : A) (rest : List ℕ) → Good a → value (length (text a)) (text a ++ rest) ≡ Ok (a, rest)
  pub len : (a : A) → Good a → (length (text a) < 2 ^ 32) × (fits (length (text a)) ≡ true)

abbrev pub measured_text : {A : Type 0} → (A → List ℕ) → A → List ℕ
measured_text text a = u32_bytes (length (text a)) ++ text a

measured_takes : {A : Type 0} (fits : ℕ → Bool) (value : ℕ → List ℕ → Field A) (text : A → List ℕ) (Good : A → Type 0)
    → IsValue fits value text Good → (bytes : List ℕ) (x : A × List ℕ) → IsBytes bytes → measured fits value bytes ≡ Ok x
    → Takes bytes (measured_text text x.0) x.1 × Good x.0
unfolding measured
measured_takes {A} fits value text Good is bytes x in_range e =
    let len = bind_ok (such fits u32_at bytes) _ x e in
    let y = bind_ok (value len.0.0 len.0.1) _ x len.2 in
    let same = passed_ok (eqb (length len.0.1) (len.0.0 + length y.0.1)) (length bytes) y.0 x y.2 in
    let t = (such_is fits (λ bytes. u32_at bytes) (λ n. u32_bytes n) (λ n. n < 2 ^ 32) u32_is).takes bytes len.0 in_range len.1 in
    let whole : length len.0.1 ≡ len.0.0 + length y.0.1 = eqb-true _ _ same.0 in
    let u = is.takes len.0.0 len.0.1 y.0 t.0.rest_fits t.1.1 y.1 whole in
    let count : len.0.0 ≡ length (text y.0.0) =
    omega (arith, whole, ap length u.0.parts, length-append (text y.0.0) y.0.1) in
    subst (λ (z : A × List ℕ). Takes bytes (measured_text text z.0) z.1 × Good z.0) same.1 (
      subst (λ (n : ℕ). Takes bytes (u32_bytes n ++ text y.0.0) y.0.1) count
          (Takes-then bytes (u32_bytes len.0.0) len.0.1 (text y.0.0) y.0.1 t.0 u.0),
      u.1,
    )

measured_again : {A : Type 0} (fits : ℕ → Bool) (value : ℕ → List ℕ → Field A) (text : A → List ℕ) (Good : A → Type 0)
    → IsValue fits value text Good → (a : A) (rest : List ℕ) → Good a → measured fits value (measured_text text a ++ rest) ≡ Ok (a, rest)
unfolding measured
measured_again fits value text Good is a rest good =
    let n = length (text a) in
    let number = (such_is fits (λ bytes. u32_at bytes) (λ n. u32_bytes n) (λ n. n < 2 ^ 32) u32_is).again n (text a ++ rest)
    (is.len a good) in
    rw (append_assoc (u32_bytes n) (text a) rest, number, is.again a rest good, eq-eqb _ _ (length-append (text a) rest)) refl

-- ---- a field that may be there

-- it isn't, and nothing was taken; or it was, and one is left less
abbrev pub May : {A : Type 0} → ℕ → (A → List ℕ) → (A → Type 0) → A → ℕ → List ℕ → (A × ℕ) × List ℕ → Type 0
May number text Good other left bytes x =
    ((x.0.0 ≡ other) × ((x.0.1 ≡ left) × (x.1 ≡ bytes)))
    ⊎ (Takes bytes (number ∷ measured_text text x.0.0) x.1 × (Good x.0.0 × (x.0.1 + 1 ≡ left)))

abbrev one_less : {A : Type 0} → ℕ → A × List ℕ → (A × ℕ) × List ℕ
one_less left y = ((y.0, left - 1), y.1)

next_is : (number left b : ℕ) → (not (eqb left 0) && eqb b number) ≡ true → (b ≡ number) × (left - 1 + 1 ≡ left)
next_is number left b is =
    let parts = both_true (not (eqb left 0)) (eqb b number) is in
    let some = eqb-false left 0 (not-true (eqb left 0) parts.0) in
    (eqb-true b number parts.1, omega (arith, some))

next_so : (number left : ℕ) → (not (eqb (left + 1) 0) && eqb number number) ≡ true
next_so number left = of (eqb (left + 1) 0) refl
  where
    of : (b : Bool) → eqb (left + 1) 0 ≡ b → (not b && eqb number number) ≡ true
    of true none = absurd (omega (arith, eqb-true (left + 1) 0 none))
    of false some = eq-eqb number number refl

pub field_takes : {A : Type 0} (number : ℕ) (fits : ℕ → Bool) (value : ℕ → List ℕ → Field A) (text : A → List ℕ) (Good : A → Type 0)
    → IsValue fits value text Good → (other : A) (left : ℕ) (bytes : List ℕ) (x : (A × ℕ) × List ℕ) → IsBytes bytes
    → field_at number fits value other left bytes ≡ Ok x → May number text Good other left bytes x
unfolding field_at
field_takes {A} number fits value text Good is other left bytes x in_range e = of (is_next number left bytes) refl e
  where
    there : (bytes : List ℕ) → IsBytes bytes → is_next number left bytes ≡ true
        → (y : A × List ℕ) → measured fits value (drop 1 bytes) ≡ Ok y → May number text Good other left bytes (one_less left y)
    there [] in_range is_there y read = absurd (false≢true (both_true (not (eqb left 0)) false is_there).1)
    there (b ∷ rest) in_range is_there y read =
        let found = next_is number left b is_there in
        let t = measured_takes fits value text Good is rest y (IsBytes-rest b rest in_range) read in
        inr (
          record {
            parts = ap (λ (n : ℕ). n ∷ rest) found.0 ∙ ap (λ (l : List ℕ). number ∷ l) t.0.parts;
            rest_fits = t.0.rest_fits;
          },
          (t.1, found.1),
        )

    of : (b : Bool) → is_next number left bytes ≡ b
        → cond b (measured fits value (drop 1 bytes) >>= λ y. Ok (one_less left y)) (Ok ((other, left), bytes)) ≡ Ok x
        → May number text Good other left bytes x
    of true is_there e =
        let y = bind_ok (measured fits value (drop 1 bytes)) _ x e in
        subst (May number text Good other left bytes) (ok_is (one_less left y.0) x y.2) (there bytes in_range is_there y.0 y.1)
    of false is_there e =
        subst (May number text Good other left bytes) (ok_is ((other, left), bytes) x e) (inl (refl, (refl, refl)))

pub field_again : {A : Type 0} (number : ℕ) (fits : ℕ → Bool) (value : ℕ → List ℕ → Field A) (text : A → List ℕ) (Good : A → Type 0)
    → IsValue fits value text Good → (other a : A) (left : ℕ) (rest : List ℕ) → Good a
    → field_at number fits value other (left + 1) ((number ∷ measured_text text a) ++ rest) ≡ Ok ((a, left), rest)
unfolding field_at
field_again number fits value text Good is other a left rest good =
    let less : left + 1 - 1 ≡ left = omega arith in
    rw (next_so number left, measured_again fits value text Good is a rest good, less) refl

-- of another field's number it isn't
pub next_none : (number left b : ℕ) (rest : List ℕ) → eqb b number ≡ false → is_next number left (b ∷ rest) ≡ false
next_none number left b rest other = of (not (eqb left 0))
  where
    of : (some : Bool) → (some && eqb b number) ≡ false
    of true = other
    of false = refl

pub field_none : {A : Type 0} (number : ℕ) (fits : ℕ → Bool) (value : ℕ → List ℕ → Field A) (other : A) (left : ℕ) (bytes : List ℕ)
    → is_next number left bytes ≡ false → field_at number fits value other left bytes ≡ Ok ((other, left), bytes)
unfolding field_at
field_none number fits value other left bytes none = rw none refl

-- ---- both fields

abbrev pub IsTold : Spot → Type 0
IsTold spot = IsSpot spot × (is_spot spot ≡ true)

told_is : IsField (λ bytes. such is_spot spot_at bytes) spot_text IsTold
told_is = such_is is_spot (λ bytes. spot_at bytes) spot_text IsSpot spot_reads

spot_len : (spot : Spot) → length (spot_text spot) ≡ 13
spot_len (Stop, rest) = omega (arith, length-append (u32_bytes rest.0) (u64_bytes rest.1))
spot_len (Play, rest) = omega (arith, length-append (u32_bytes rest.0) (u64_bytes rest.1))
spot_len (Pause, rest) = omega (arith, length-append (u32_bytes rest.0) (u64_bytes rest.1))

pub spot_value : IsValue (is_in_range 13 13) (λ len. such is_spot spot_at) spot_text IsTold
spot_value = record {
  takes = λ len bytes x in_range fits read whole. told_is.takes bytes x in_range read;
  again = λ spot rest good. told_is.again spot rest good;
  len = λ spot good. (omega (arith, spot_len spot), ap (is_in_range 13 13) (spot_len spot));
}

abbrev pub ids_text : List ℕ → List ℕ
ids_text ids = flat_map u32_bytes ids

abbrev pub IsSome : List ℕ → Type 0
IsSome ids = IsRound ids × (is_empty ids ≡ false)

ids_len : (ids : List ℕ) → length (ids_text ids) ≡ 4 * length ids
ids_len [] = refl
ids_len (id ∷ ids) = omega (
  arith,
  ap length (flat_map-cons u32_bytes id ids),
  length-append (u32_bytes id) (ids_text ids),
  ids_len ids,
)

-- how many ids a length counts
quarter : (n : ℕ) → 4 * n / 4 ≡ n
quarter n = omega arith

round_takes : (len : ℕ) (bytes : List ℕ) (x : List ℕ × List ℕ) → IsBytes bytes → is_in_range 4 (4 * longest_round) len ≡ true
    → items_at (λ known. u32_at) (len / 4) [] bytes ≡ Ok x → length bytes ≡ len + length x.1
    → Takes bytes (ids_text x.0) x.1 × IsSome x.0
round_takes len bytes x in_range fits read whole =
    let more = items_take (λ known. u32_at) (λ n. u32_bytes n) (AllByRecursion (λ n. n < 2 ^ 32))
    (alone_is (λ bytes. u32_at bytes) (λ n. u32_bytes n) (λ n. n < 2 ^ 32) u32_is) (len / 4) [] bytes x tt in_range read in
    let same : more.more ≡ x.0 = sym more.all in
    let size : length (ids_text more.more) ≡ 4 * length more.more = ids_len more.more in
    let range = in_so len fits in
    let count : len ≡ 4 * length more.more =
    omega (arith, whole, ap length more.parts.parts, size, length-append (ids_text more.more) x.1) in
    subst (λ (ids : List ℕ). Takes bytes (ids_text ids) x.1 × IsSome ids) same (
      more.parts,
      (
        record {
          few = omega (arith, count, range.1);
          each =
              by_all _ more.more (subst (AllByRecursion (λ n. n < 2 ^ 32)) (sym same) more.fits);
        },
        some more.more (omega (arith, count, range.0)),
      ),
    )
  where
    in_so : (n : ℕ) → is_in_range 4 (4 * longest_round) n ≡ true → (4 ≤ n) × (n ≤ 4 * longest_round)
    in_so n is = (grind (arith, nat_tests, is), grind (arith, nat_tests, is))

    some : (ids : List ℕ) → 1 ≤ length ids → is_empty ids ≡ false
    some [] few = absurd (omega (arith, few))
    some (id ∷ ids) few = refl

round_again : (ids rest : List ℕ) → IsSome ids
    → items_at (λ known. u32_at) (length (ids_text ids) / 4) [] (ids_text ids ++ rest) ≡ Ok (ids, rest)
round_again ids rest good =
    let count : length (ids_text ids) / 4 ≡ length ids = ap (λ (n : ℕ). n / 4) (ids_len ids) ∙ quarter (length ids) in
    ap (λ (n : ℕ). items_at (λ known. u32_at) n [] (ids_text ids ++ rest)) count
    ∙ items_again (λ known. u32_at) (λ n. u32_bytes n) (AllByRecursion (λ n. n < 2 ^ 32))
    (alone_is (λ bytes. u32_at bytes) (λ n. u32_bytes n) (λ n. n < 2 ^ 32) u32_is) ids [] rest (all_by _ ids good.0.each)

round_fits : (ids : List ℕ) → IsSome ids → (length (ids_text ids) < 2 ^ 32)
    × (is_in_range 4 (4 * longest_round) (length (ids_text ids)) ≡ true)
round_fits [] good = absurd (false≢true (sym good.1))
round_fits (id ∷ ids) good =
    let size : length (ids_text (id ∷ ids)) ≡ 4 * length (id ∷ ids) = ids_len (id ∷ ids) in
    (omega (arith, size, good.0.few), grind (arith, nat_tests, size, good.0.few))

pub round_value : IsValue (is_in_range 4 (4 * longest_round)) (λ len. items_at (λ known. u32_at) (len / 4) []) ids_text IsSome
round_value = record { takes = round_takes; again = round_again; len = round_fits }

-- ---- both fields, one behind the other

abbrev pub spot_part : Spot → List ℕ
spot_part spot = cond (is_spot spot) (2 ∷ measured_text spot_text spot) []

abbrev pub round_part : List ℕ → List ℕ
round_part ids = cond (is_empty ids) [] (3 ∷ measured_text ids_text ids)

abbrev pub place_of : Spot → List ℕ → PlaceState
place_of spot ids = record { state = spot.0; song = spot.1.0; frame = spot.1.1; played = ids }

spot_same : (spot : Spot) (ids : List ℕ) → spot_field (place_of spot ids) ≡ spot_part spot
spot_same spot ids = of (stays_by (Put spot.0 spot.1.0 spot.1.1) no_place)
  where
    of : (b : Bool) → cond b [] (2 ∷ (u32_bytes 13 ++ spot_text spot)) ≡ cond (not b) (2 ∷ measured_text spot_text spot) []
    of true = refl
    of false = ap (λ (n : ℕ). 2 ∷ (u32_bytes n ++ spot_text spot)) (sym (spot_len spot))

round_same : (ids : List ℕ) → round_head ids ++ ids_text ids ≡ round_part ids
round_same [] = refl
round_same (id ∷ ids) = ap (λ (n : ℕ). 3 ∷ (u32_bytes n ++ ids_text (id ∷ ids))) (sym (ids_len (id ∷ ids)))

count_same : (spot : Spot) (ids : List ℕ) → field_count (place_of spot ids) ≡ cond (is_spot spot) 1 0 + cond (is_empty ids) 0 1
count_same spot ids = of (stays_by (Put spot.0 spot.1.0 spot.1.1) no_place)
  where
    of : (b : Bool) → cond b 0 1 + cond (is_empty ids) 0 1 ≡ cond (not b) 1 0 + cond (is_empty ids) 0 1
    of true = refl
    of false = refl

-- how many fields there are, and what they are spelled to
pub place_spelled : (spot : Spot) (ids : List ℕ)
    → (field_count (place_of spot ids) ≡ cond (is_spot spot) 1 0 + cond (is_empty ids) 0 1)
    × (place_bytes (place_of spot ids) ≡ spot_part spot ++ round_part ids)
place_spelled spot ids =
    let place = place_of spot ids in (
      count_same spot ids,
      append_assoc (spot_field place) (round_head ids) (ids_text ids) ∙ (λ i. spot_same spot ids i ++ round_same ids i),
    )

-- a field that was read, or wasn't there
pub spot_took : (left : ℕ) (bytes : List ℕ) (x : (Spot × ℕ) × List ℕ) → IsBytes bytes → May 2 spot_text IsTold no_spot left bytes x
    → Takes bytes (spot_part x.0.0) x.1 × (IsSpot x.0.0 × (x.0.1 + cond (is_spot x.0.0) 1 0 ≡ left))
spot_took left bytes x in_range (inl none) =
    subst (λ (spot : Spot). Takes bytes (spot_part spot) x.1 × (IsSpot spot × (x.0.1 + cond (is_spot spot) 1 0 ≡ left))) (sym none.0) (
      record { parts = sym none.1.1; rest_fits = subst IsBytes (sym none.1.1) in_range },
      ((tt, (omega arith, omega arith)), omega (arith, none.1.0)),
    )
spot_took left bytes x in_range (inr took) =
    rw took.1.0.1 (took.0, (took.1.0.0, took.1.1))

pub round_took : (left : ℕ) (bytes : List ℕ) (x : (List ℕ × ℕ) × List ℕ) → IsBytes bytes → May 3 ids_text IsSome [] left bytes x
    → Takes bytes (round_part x.0.0) x.1 × (IsRound x.0.0 × (x.0.1 + cond (is_empty x.0.0) 0 1 ≡ left))
round_took left bytes x in_range (inl none) =
    subst (λ (ids : List ℕ). Takes bytes (round_part ids) x.1 × (IsRound ids × (x.0.1 + cond (is_empty ids) 0 1 ≡ left))) (sym none.0) (
      record { parts = sym none.1.1; rest_fits = subst IsBytes (sym none.1.1) in_range },
      (record { few = omega arith; each = λ k d within. absurd (omega arith) }, omega (arith, none.1.0)),
    )
round_took left bytes x in_range (inr took) =
    rw took.1.0.1 (took.0, (took.1.0.0, took.1.1))

-- read again
pub spot_read : (spot : Spot) (count left : ℕ) (rest : List ℕ) → count ≡ cond (is_spot spot) 1 0 + left → IsSpot spot
    → (is_spot spot ≡ false → is_next 2 left rest ≡ false) → (is_spot spot ≡ false → spot ≡ no_spot)
    → spot_field_at count (spot_part spot ++ rest) ≡ Ok ((spot, left), rest)
spot_read spot count left rest counts good apart none = of (is_spot spot) refl counts
  where
    of : (b : Bool) → is_spot spot ≡ b → count ≡ cond b 1 0 + left
        → spot_field_at count (cond b (2 ∷ measured_text spot_text spot) [] ++ rest) ≡ Ok ((spot, left), rest)
    of true told counts =
        let one : left + 1 ≡ count = omega (arith, counts) in
        subst (λ (n : ℕ). spot_field_at n ((2 ∷ measured_text spot_text spot) ++ rest) ≡ Ok ((spot, left), rest)) one
        (field_again 2 (is_in_range 13 13) (λ len. such is_spot spot_at) spot_text IsTold spot_value no_spot spot left rest (good, told))
    of false first counts =
        let same : left ≡ count = omega (arith, counts) in
        subst (λ (n : ℕ). spot_field_at n rest ≡ Ok ((spot, left), rest)) same
        (subst (λ (s : Spot). spot_field_at left rest ≡ Ok ((s, left), rest)) (sym (none first))
        (field_none 2 (is_in_range 13 13) (λ len. such is_spot spot_at) no_spot left rest (apart first)))

pub round_read : (ids : List ℕ) (rest : List ℕ) → IsRound ids
    → round_field_at (cond (is_empty ids) 0 1) (round_part ids ++ rest) ≡ Ok ((ids, 0), rest)
round_read [] rest good =
    field_none 3 (is_in_range 4 (4 * longest_round)) (λ len. items_at (λ known. u32_at) (len / 4) []) [] 0 rest refl
round_read (id ∷ ids) rest good =
    field_again 3 (is_in_range 4 (4 * longest_round)) (λ len. items_at (λ known. u32_at) (len / 4) []) ids_text IsSome round_value []
    (id ∷ ids) 0 rest (good, refl)

-- behind a spot that isn't there no field 2 stands
pub no_second : (ids rest : List ℕ) → is_next 2 (cond (is_empty ids) 0 1) (round_part ids ++ rest) ≡ false
no_second [] rest = refl
no_second (id ∷ ids) rest = refl

stop_is : (state : PlayState) → same_state state Stop ≡ true → state ≡ Stop
stop_is Stop is = refl
stop_is Play is = absurd (false≢true is)
stop_is Pause is = absurd (false≢true is)

pub start_is : (spot : Spot) → is_spot spot ≡ false → spot ≡ no_spot
start_is spot first =
    let start = not-false (stays_by (Put spot.0 spot.1.0 spot.1.1) no_place) first in
    let parts = both_true (same_state spot.0 Stop) (eqb spot.1.0 0 && eqb spot.1.1 0) start in
    let numbers = both_true (eqb spot.1.0 0) (eqb spot.1.1 0) parts.1 in
    let state : spot.0 ≡ Stop = stop_is spot.0 parts.0 in
    let song : spot.1.0 ≡ 0 = eqb-true spot.1.0 0 numbers.0 in
    let frame : spot.1.1 ≡ 0 = eqb-true spot.1.1 0 numbers.1 in
    λ i. (state i, (song i, frame i))

-- ---- how many bytes the fields have

pub put_len : (state : PlayState) (song frame : ℕ) → length (place_fields (Put state song frame)) ≡ 13
put_len state song frame = spot_len (state, (song, frame))

told_len : (place : PlaceState) → length (told_spot place) ≡ 18
told_len place = omega (arith, length-append (u32_bytes 13) (spot_bytes place), spot_len (place.state, (place.song, place.frame)))

-- where the spot is the first one, its field is left out
pub spot_out : (place : PlaceState) → stays_by (Put place.state place.song place.frame) no_place ≡ true → spot_field place ≡ []
spot_out place is = ap (λ b. cond b [] (told_spot place)) is

pub spot_in : (place : PlaceState) → stays_by (Put place.state place.song place.frame) no_place ≡ false → spot_field place ≡ told_spot place
spot_in place is = ap (λ b. cond b [] (told_spot place)) is

pub spot_in_len : (place : PlaceState) → stays_by (Put place.state place.song place.frame) no_place ≡ false → length (spot_field place) ≡ 18
spot_in_len place is = ap length (spot_in place is) ∙ told_len place

spot_short : (place : PlaceState) → length (spot_field place) ≤ 18
spot_short place = of (stays_by (Put place.state place.song place.frame) no_place)
  where
    of : (b : Bool) → length (cond b [] (told_spot place)) ≤ 18
    of true = omega arith
    of false = omega (arith, told_len place)

round_short : (ids : List ℕ) → length (round_head ids) ≤ 5
round_short [] = omega arith
round_short (id ∷ ids) = omega arith

-- the parts of what stands in front of the ids
pub head_len : (place : PlaceState) → length (place_head place) ≡ length (spot_field place) + length (round_head place.played)
head_len place = omega (arith, length-append (spot_field place) (round_head place.played))

pub head_short : (place : PlaceState) → length (place_head place) ≤ 23
head_short place = omega (arith, head_len place, spot_short place, round_short place.played)

pub place_len : (place : PlaceState) → length (place_bytes place) ≡ length (place_head place) + 4 * length place.played
place_len place = omega (arith, length-append (place_head place) (ids_text place.played), ids_len place.played)

pub place_short : (place : PlaceState) → IsPlace place → length (place_bytes place) ≤ 23 + 4 * longest_round
place_short place good = omega (arith, place_len place, head_short place, good.played.few)
