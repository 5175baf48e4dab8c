-- The times of the playlists' last change, and all fields behind the parts of a snapshot, are read exactly as they are spelled.
use Rattle.std.proofs.Common.{◌≡◌, inl, inr, ℕ, ◌+◌, ◌*◌, ◌/◌, ◌≤◌, Bool, true, false, cond, eqb, leb, List, [], ◌∷◌, ◌++◌, length, Ok}
use Rattle.std.proofs.Common.{IsTrue, not, refl, sym, ap, subst, ◌∙◌, append_assoc, arith}
use Rattle.std.specs.Int.{is_in_range}
use Rattle.std.specs.List.{flat_map, AllByRecursion}
use Rattle.std.specs.Str.{is_utf8}
use Rattle.std.proofs.lemmas.Bool.{eqb-true, false≢true, le-leb, leb-true}
use Rattle.std.proofs.lemmas.Bool.Decides.{nat_tests}
use Rattle.std.proofs.lemmas.List.{length-append}
use Rattle.std.proofs.lemmas.List.Concat.{flat_map-cons}
use Rattle.player_core.specs.Place.{PlaceState, IsPlace, longest_round}
use Rattle.stored_lists.specs.Limits.{MAX_LISTS}
use Rattle.stored_lists.specs.Name.{IsListName, is_good_name}
use Rattle.stored_lists.specs.Times.{Times, AreTimes, IsListTime}
use Rattle.stored_lists.specs.declared.times.ListTime.{ListTime}
use Rattle.state_codec.specs.Fields.{such, byte_at, text_at, u32_at}
use Rattle.state_codec.specs.Items.{items_at}
use Rattle.state_codec.specs.Longest.{longest_times}
use Rattle.state_codec.specs.OpsPlace.{is_empty}
use Rattle.state_codec.specs.ReadingPlace.{Spot, is_next, is_spot, no_spot, round_field_at, spot_at, spot_field_at}
use Rattle.state_codec.specs.ReadingTimes.{fields_at, time_at, times_at, times_field_at}
use Rattle.state_codec.specs.SavedState.{IsBytes}
use Rattle.state_codec.specs.SpellingFields.{byte_bytes, list_bytes, text_bytes, u32_bytes, u64_bytes}
use Rattle.state_codec.specs.SpellingPlace.{place_bytes}
use Rattle.state_codec.specs.SpellingTimes.{count_of_fields, fields_bytes, has_none, time_bytes, times_front}
use Rattle.state_codec.specs.Steps.{◌>>=◌}
use Rattle.state_codec.specs.Text.{is_text}
use Rattle.state_codec.proofs.FieldLaws.{IsField, Takes, Takes-then, bind_ok, both_true, byte_is, ok_is, passed_ok, such_is, text_is}
use Rattle.state_codec.proofs.FieldLaws.{u64_is, within_is}
use Rattle.state_codec.proofs.ItemLaws.{alone_is, counted_is}
use Rattle.state_codec.proofs.ListLaws.{all_by, by_all}
use Rattle.state_codec.proofs.TextLaws.{both_is_true}
use Rattle.state_codec.proofs.PlaceFields.{IsSpot, IsSome, IsTold, IsValue, May, field_again, field_none, field_takes, ids_text, measured_text}
use Rattle.state_codec.proofs.PlaceFields.{next_none, no_second, place_of, place_short, place_spelled, round_part, round_read, round_took}
use Rattle.state_codec.proofs.PlaceFields.{round_value, spot_part, spot_read, spot_text, spot_took, spot_value, start_is}

-- ---- one time

-- a name that a playlist may have is short
pub name_short : (name : List ℕ) → IsListName name → length name ≤ 256
name_short name good =
    let parts = both_true (not (eqb (length name) 0)) _ good.good in
    let len = both_true (leb (length name) 256) _ parts.1 in
    leb-true _ _ len.0

-- and so short enough for a text
name_fits : (name : List ℕ) → is_good_name name ≡ true → is_utf8 name ≡ true → is_text name ≡ true
name_fits name good text =
    both_is_true (is_utf8 name) (leb (length name) 65535) text
    (le-leb (length name) 65535 (omega (arith, name_short name (record { good = good; text = text }))))

abbrev IsName : List ℕ → Type 0
IsName name = IsTrue (is_text name) × (is_good_name name ≡ true)

name_is : IsField (λ bytes. such is_good_name text_at bytes) (λ name. text_bytes name) IsName
name_is = such_is is_good_name (λ bytes. text_at bytes) (λ name. text_bytes name) (λ name. IsTrue (is_text name)) text_is

time_takes : (bytes : List ℕ) (x : ListTime × List ℕ) → IsBytes bytes → time_at bytes ≡ Ok x
    → Takes bytes (time_bytes x.0) x.1 × IsListTime x.0
unfolding time_at
time_takes bytes x in_range e =
    let name = bind_ok (such is_good_name text_at bytes) _ x e in
    let seconds = bind_ok _ _ x name.2 in
    let t = name_is.takes bytes name.0 in_range name.1 in
    let u = u64_is.takes name.0.1 seconds.0 t.0.rest_fits seconds.1 in
    let utf8 = both_true (is_utf8 name.0.0) _ t.1.0 in
    subst (λ (y : ListTime × List ℕ). Takes bytes (time_bytes y.0) y.1 × IsListTime y.0)
    {x = (record { name = name.0.0; seconds = seconds.0.0 }, seconds.0.1)}
    (ok_is (record { name = name.0.0; seconds = seconds.0.0 }, seconds.0.1) x seconds.2) (
      Takes-then bytes (text_bytes name.0.0) name.0.1 (u64_bytes seconds.0.0) seconds.0.1 t.0 u.0,
      record { name = record { good = t.1.1; text = utf8.0 }; seconds = u.1 },
    )

time_again : (time : ListTime) (rest : List ℕ) → IsListTime time → time_at (time_bytes time ++ rest) ≡ Ok (time, rest)
unfolding time_at
time_again time rest good =
    let name : IsName time.name = (name_fits time.name good.name.good good.name.text, good.name.good) in
    rw (
      append_assoc (text_bytes time.name) (u64_bytes time.seconds) rest,
      name_is.again time.name (u64_bytes time.seconds ++ rest) name,
      u64_is.again time.seconds rest good.seconds,
    ) refl

time_is : IsField (λ bytes. time_at bytes) time_bytes IsListTime
time_is = record { takes = time_takes; again = time_again }

-- ---- field 1

abbrev pub AreSome : Times → Type 0
AreSome times = AreTimes times × (has_none times ≡ false)

abbrev AreCounted : Times → Type 0
AreCounted times = ((1 ≤ length times) × (length times ≤ MAX_LISTS)) × AllByRecursion IsListTime times

counted : IsField (λ bytes. times_at bytes) (λ times. list_bytes time_bytes times) AreCounted
counted =
    counted_is _ (λ n. u32_bytes n) _ (within_is 1 MAX_LISTS (omega arith)) (λ known. time_at) time_bytes (AllByRecursion IsListTime)
    (alone_is (λ bytes. time_at bytes) time_bytes IsListTime time_is) tt

some_so : (times : Times) → 1 ≤ length times → has_none times ≡ false
some_so [] some = absurd (omega (arith, some))
some_so (time ∷ times) some = refl

counted_so : (times : Times) → has_none times ≡ false → 1 ≤ length times
counted_so [] some = absurd (false≢true (sym some))
counted_so (time ∷ times) some = omega arith

pub time_len : (time : ListTime) → length (time_bytes time) ≡ 10 + length time.name
time_len time = omega (arith, length-append (text_bytes time.name) (u64_bytes time.seconds))

pub time_short : (time : ListTime) → IsListTime time → length (time_bytes time) ≤ 266
time_short time good = omega (arith, time_len time, name_short time.name good.name)

items_short : (times : Times) → AllByRecursion IsListTime times → length (flat_map time_bytes times) ≤ 266 * length times
items_short [] good = omega arith
items_short (time ∷ times) good = omega (
  arith,
  ap length (flat_map-cons time_bytes time times),
  length-append (time_bytes time) (flat_map time_bytes times),
  time_short time good.0,
  items_short times good.1,
)

pub items_few : (times : Times) → AreTimes times → length (flat_map time_bytes times) ≤ 272384
items_few times good = omega (arith, items_short times (all_by IsListTime times good.each), good.few)

pub items_len : (times : Times) → length (list_bytes time_bytes times) ≡ 4 + length (flat_map time_bytes times)
items_len times = omega (arith, length-append (u32_bytes (length times)) (flat_map time_bytes times))

pub times_value : IsValue (is_in_range 4 longest_times) (λ len. times_at) (λ times. list_bytes time_bytes times) AreSome
times_value = record {
  takes = λ len bytes x in_range fits read whole.
      let t = counted.takes bytes x in_range read in
      (t.0, (record { few = t.1.0.1; each = by_all IsListTime x.0 t.1.1 }, some_so x.0 t.1.0.0));
  again = λ times rest good.
      counted.again times rest ((counted_so times good.1, good.0.few), all_by IsListTime times good.0.each);
  len = λ times good.
      let few = items_few times good.0 in
      let is = items_len times in
      (omega (arith, few, is), grind (arith, nat_tests, few, is));
}

-- ---- all fields

abbrev times_part : Times → List ℕ
times_part times = cond (has_none times) [] (1 ∷ measured_text (λ (t : Times). list_bytes time_bytes t) times)

times_same : (times : Times) → times_front times ++ flat_map time_bytes times ≡ times_part times
times_same [] = refl
times_same (time ∷ times) =
    ap (λ (l : List ℕ). 1 ∷ l)
    (append_assoc (u32_bytes (length (list_bytes time_bytes (time ∷ times)))) (u32_bytes (length (time ∷ times))) (flat_map time_bytes (time ∷ times)))

-- how many fields there are
abbrev counts : Times → Spot → List ℕ → ℕ
counts times spot ids = cond (has_none times) 0 1 + (cond (is_spot spot) 1 0 + cond (is_empty ids) 0 1)

-- what the fields are spelled to
spelled : (times : Times) (spot : Spot) (ids : List ℕ)
    → fields_bytes times (place_of spot ids)
    ≡ byte_bytes (counts times spot ids) ++ (times_part times ++ (spot_part spot ++ round_part ids))
spelled times spot ids =
    let place = place_of spot ids in
    let told = place_spelled spot ids in
    ap (λ (text : List ℕ). count_of_fields times place ∷ text)
    (sym (append_assoc (times_front times) (flat_map time_bytes times) (place_bytes place)))
    ∙ (λ i. (cond (has_none times) 0 1 + told.0 i) ∷ (times_same times i ++ told.1 i))

-- field 1 was read, or wasn't there
times_took : (left : ℕ) (bytes : List ℕ) (x : (Times × ℕ) × List ℕ) → IsBytes bytes
    → May 1 (λ (t : Times). list_bytes time_bytes t) AreSome [] left bytes x
    → Takes bytes (times_part x.0.0) x.1 × (AreTimes x.0.0 × (x.0.1 + cond (has_none x.0.0) 0 1 ≡ left))
times_took left bytes x in_range (inl none) =
    subst (λ (times : Times). Takes bytes (times_part times) x.1 × (AreTimes times × (x.0.1 + cond (has_none times) 0 1 ≡ left)))
    (sym none.0) (
      record { parts = sym none.1.1; rest_fits = subst IsBytes (sym none.1.1) in_range },
      (record { few = omega arith; each = λ k d within. absurd (omega arith) }, omega (arith, none.1.0)),
    )
times_took left bytes x in_range (inr took) =
    rw took.1.0.1 (took.0, (took.1.0.0, took.1.1))

fields_take : (bytes : List ℕ) (x : (Times × PlaceState) × List ℕ) → IsBytes bytes → fields_at bytes ≡ Ok x
    → Takes bytes (fields_bytes x.0.0 x.0.1) x.1 × (AreTimes x.0.0 × IsPlace x.0.1)
unfolding fields_at
fields_take bytes x in_range e =
    let count = bind_ok (byte_at bytes) _ x e in
    let times = bind_ok (times_field_at count.0.0 count.0.1) _ x count.2 in
    let spot = bind_ok (spot_field_at times.0.0.1 times.0.1) _ x times.2 in
    let round = bind_ok (round_field_at spot.0.0.1 spot.0.1) _ x spot.2 in
    let end = passed_ok (eqb round.0.0.1 0) (length round.0.1) ((times.0.0.0, place_of spot.0.0.0 round.0.0.0), round.0.1) x round.2 in
    let t = byte_is.takes bytes count.0 in_range count.1 in
    let f = times_took count.0.0 count.0.1 times.0 t.0.rest_fits
    (field_takes 1 (is_in_range 4 longest_times) (λ len. times_at) (λ (t : Times). list_bytes time_bytes t) AreSome times_value [] count.0.0 count.0.1
    times.0 t.0.rest_fits times.1) in
    let s = spot_took times.0.0.1 times.0.1 spot.0 f.0.rest_fits
    (field_takes 2 (is_in_range 13 13) (λ len. such is_spot spot_at) spot_text IsTold spot_value no_spot times.0.0.1 times.0.1 spot.0
    f.0.rest_fits spot.1) in
    let r = round_took spot.0.0.1 spot.0.1 round.0 s.0.rest_fits
    (field_takes 3 (is_in_range 4 (4 * longest_round)) (λ len. items_at (λ known. u32_at) (len / 4) []) ids_text IsSome round_value []
    spot.0.0.1 spot.0.1 round.0 s.0.rest_fits round.1) in
    let none : round.0.0.1 ≡ 0 = eqb-true _ _ end.0 in
    let all : count.0.0 ≡ counts times.0.0.0 spot.0.0.0 round.0.0.0 = omega (arith, none, f.1.1, s.1.1, r.1.1) in
    let behind = Takes-then times.0.1 (spot_part spot.0.0.0) spot.0.1 (round_part round.0.0.0) round.0.1 s.0 r.0 in
    let three = Takes-then count.0.1 (times_part times.0.0.0) times.0.1 (spot_part spot.0.0.0 ++ round_part round.0.0.0) round.0.1 f.0 behind in
    let text = times_part times.0.0.0 ++ (spot_part spot.0.0.0 ++ round_part round.0.0.0) in
    let whole = Takes-then bytes (byte_bytes count.0.0) count.0.1 text round.0.1 t.0 three in
    subst (λ (y : (Times × PlaceState) × List ℕ). Takes bytes (fields_bytes y.0.0 y.0.1) y.1 × (AreTimes y.0.0 × IsPlace y.0.1)) end.1 (
      subst (λ (text : List ℕ). Takes bytes text round.0.1) (sym (spelled times.0.0.0 spot.0.0.0 round.0.0.0))
          (subst (λ (n : ℕ). Takes bytes (byte_bytes n ++ text) round.0.1) all whole),
      (f.1.0, record { song = s.1.0.1.0; frame = s.1.0.1.1; played = r.1.0 }),
    )

-- behind times that aren't there no field 1 stands
no_first : (spot : Spot) (ids rest : List ℕ)
    → is_next 1 (cond (is_spot spot) 1 0 + cond (is_empty ids) 0 1) (spot_part spot ++ (round_part ids ++ rest)) ≡ false
no_first spot ids rest = of (is_spot spot)
  where
    of : (b : Bool)
        → is_next 1 (cond b 1 0 + cond (is_empty ids) 0 1) (cond b (2 ∷ measured_text spot_text spot) [] ++ (round_part ids ++ rest)) ≡ false
    of true = next_none 1 (1 + cond (is_empty ids) 0 1) 2 (measured_text spot_text spot ++ (round_part ids ++ rest)) refl
    of false = none ids
      where
        none : (ids : List ℕ) → is_next 1 (0 + cond (is_empty ids) 0 1) (round_part ids ++ rest) ≡ false
        none [] = refl
        none (id ∷ ids) = refl

times_read : (times : Times) (left : ℕ) (rest : List ℕ) → AreTimes times → is_next 1 left rest ≡ false
    → times_field_at (cond (has_none times) 0 1 + left) (times_part times ++ rest) ≡ Ok ((times, left), rest)
times_read [] left rest good apart =
    let none : left ≡ 0 + left = omega arith in
    subst (λ (n : ℕ). times_field_at n rest ≡ Ok (([], left), rest)) none
    (field_none 1 (is_in_range 4 longest_times) (λ len. times_at) [] left rest apart)
times_read (time ∷ times) left rest good apart =
    let one : left + 1 ≡ 1 + left = omega arith in
    subst (λ (n : ℕ). times_field_at n (times_part (time ∷ times) ++ rest) ≡ Ok ((time ∷ times, left), rest)) one
    (field_again 1 (is_in_range 4 longest_times) (λ len. times_at) (λ (t : Times). list_bytes time_bytes t) AreSome times_value [] (time ∷ times) left
    rest (good, refl))

-- all fields are read behind their number
all_read : (count second left : ℕ) (bytes behind last rest : List ℕ) (times : Times) (spot : Spot) (ids : List ℕ)
    → times_field_at count bytes ≡ Ok ((times, second), behind) → spot_field_at second behind ≡ Ok ((spot, left), last)
    → round_field_at left last ≡ Ok ((ids, 0), rest)
    → fields_at (count ∷ bytes) ≡ Ok ((times, place_of spot ids), rest)
unfolding fields_at
all_read count second left bytes behind last rest times spot ids one two three = rw (one, two, three) refl

fields_again : (times : Times) (place : PlaceState) (rest : List ℕ) → AreTimes times → IsPlace place
    → fields_at (fields_bytes times place ++ rest) ≡ Ok ((times, place), rest)
fields_again times place rest are good =
    let spot : Spot = (place.state, (place.song, place.frame)) in
    let ids : List ℕ = place.played in
    let left : ℕ = cond (is_empty ids) 0 1 in
    let second : ℕ = cond (is_spot spot) 1 0 + left in
    let count : ℕ = cond (has_none times) 0 1 + second in
    let regrouped : fields_bytes times place ++ rest ≡ count ∷ (times_part times ++ (spot_part spot ++ (round_part ids ++ rest))) =
    ap (λ (l : List ℕ). l ++ rest) (spelled times spot ids)
    ∙ ap (λ (l : List ℕ). count ∷ l) (append_assoc (times_part times) (spot_part spot ++ round_part ids) rest
    ∙ ap (λ (l : List ℕ). times_part times ++ l) (append_assoc (spot_part spot) (round_part ids) rest)) in
    let good_spot : IsSpot spot = (tt, (good.song, good.frame)) in
    ap (λ (l : List ℕ). fields_at l) regrouped
    ∙ all_read count second left (times_part times ++ (spot_part spot ++ (round_part ids ++ rest))) (spot_part spot ++ (round_part ids ++ rest))
    (round_part ids ++ rest) rest times spot ids
    (times_read times second (spot_part spot ++ (round_part ids ++ rest)) are (no_first spot ids rest))
    (spot_read spot second left (round_part ids ++ rest) refl good_spot (λ first. no_second ids rest) (start_is spot))
    (round_read ids rest good.played)

pub fields_are : IsField (λ bytes. fields_at bytes) (λ x. fields_bytes x.0 x.1) (λ x. AreTimes x.0 × IsPlace x.1)
fields_are = record {
  takes = fields_take;
  again = λ x rest good. fields_again x.0 x.1 rest good.0 good.1;
}

-- ---- how many bytes the fields have

pub front_short : (times : Times) → length (times_front times) ≤ 9
front_short [] = omega arith
front_short (time ∷ times) = omega (
  arith,
  length-append (u32_bytes (length (list_bytes time_bytes (time ∷ times)))) (u32_bytes (length (time ∷ times))),
)

-- of no time nothing stands in front
pub front_out : (times : Times) → has_none times ≡ true → times_front times ≡ []
front_out [] none = refl
front_out (time ∷ times) none = absurd (false≢true none)

pub front_in : (times : Times) → has_none times ≡ false
    → times_front times ≡ byte_bytes 1 ++ (u32_bytes (length (list_bytes time_bytes times)) ++ u32_bytes (length times))
front_in [] some = absurd (false≢true (sym some))
front_in (time ∷ times) some = refl

pub fields_len : (times : Times) (place : PlaceState)
    → length (fields_bytes times place) ≡ 1 + length (times_front times) + length (flat_map time_bytes times) + length (place_bytes place)
fields_len times place = omega (
  arith,
  length-append (times_front times) (flat_map time_bytes times ++ place_bytes place),
  length-append (flat_map time_bytes times) (place_bytes place),
)

pub fields_short : (times : Times) (place : PlaceState) → AreTimes times → IsPlace place → length (fields_bytes times place) ≤ 534561
fields_short times place are good =
    omega (arith, fields_len times place, front_short times, items_few times are, place_short place good)
