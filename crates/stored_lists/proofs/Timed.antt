-- What changes of times keep, and which of them change nothing.
use Rattle.std.proofs.Common.{◌≡◌, ℕ, ◌<◌, ◌≤◌, ◌^◌, Bool, true, false, cond, not, ◌==◌, ◌&&◌, List, [], ◌∷◌, ◌++◌, length, filter, map}
use Rattle.std.proofs.Common.{zero, suc, ◌+◌, drop, slice_index_or, slice_set, take}
use Rattle.std.proofs.Common.{nat_lt, refl, sym, ap, ◌∙◌, subst, arith}
use Rattle.std.specs.List.{All}
use Rattle.std.specs.Str.{bytes_eq}
use Rattle.std.proofs.lemmas.Bool.{eqb-true, eq-eqb, false≢true}
use Rattle.std.proofs.lemmas.Bool.Decides.{nat_tests}
use Rattle.std.proofs.lemmas.List.{length-append, length-map}
use Rattle.std.proofs.lemmas.List.Elements.{All-cons, All-head, All-tail, All-append}
use Rattle.std.proofs.lemmas.Slice.Eq.{bytes_eq-Decides}
use Rattle.stored_lists.specs.Limits.{MAX_LISTS}
use Rattle.stored_lists.specs.Name.{IsListName}
use Rattle.stored_lists.specs.Times.{Times, AreTimes, IsListTime, are_timed, has_time, renamed_time, time_of, timed, timed_one}
use Rattle.stored_lists.specs.Times.{with_last_time, with_time, without_time}
use Rattle.stored_lists.specs.declared.times.ListTime.{ListTime}

none_each : All IsListTime []
none_each = λ k d within. absurd (omega arith)

left_short : (name : List ℕ) (times : Times) → length (without_time name times) ≤ length times
left_short name [] = omega arith
left_short name (time ∷ times) = of (bytes_eq time.name name) (left_short name times)
  where
    of : (b : Bool) → length (without_time name times) ≤ length times
        → length (cond (not b) (time ∷ without_time name times) (without_time name times)) ≤ length (time ∷ times)
    of true few = omega (arith, few)
    of false few = omega (arith, few)

left_each : (name : List ℕ) (times : Times) → All IsListTime times → All IsListTime (without_time name times)
left_each name [] all = all
left_each name (time ∷ times) all = of (bytes_eq time.name name) (left_each name times (All-tail IsListTime time times all))
  where
    of : (b : Bool) → All IsListTime (without_time name times)
        → All IsListTime (cond (not b) (time ∷ without_time name times) (without_time name times))
    of true rest = rest
    of false rest = All-cons IsListTime time (without_time name times) (All-head IsListTime time times all) rest

pub kept_without : (name : List ℕ) (times : Times) → AreTimes times → AreTimes (without_time name times)
kept_without name times good = record {
  few = omega (arith, left_short name times, good.few);
  each = left_each name times good.each;
}

pub kept_last : (time : ListTime) (others : Times) → IsListTime time → AreTimes others → AreTimes (with_last_time time others)
kept_last time others good are = of (nat_lt (length others) MAX_LISTS) refl
  where
    of : (b : Bool) → nat_lt (length others) MAX_LISTS ≡ b → AreTimes (cond b (others ++ time ∷ []) others)
    of true room = record {
      few = grind (arith, nat_tests, room, length-append others (time ∷ []));
      each = All-append IsListTime others (time ∷ []) are.each (All-cons IsListTime time [] good none_each);
    }
    of false full = are

pub kept_with : (name : List ℕ) (seconds : ℕ) (times : Times) → IsListName name → seconds < 2 ^ 64 → AreTimes times
    → AreTimes (with_time name seconds times)
kept_with name seconds times good low are =
    kept_last (record { name = name; seconds = seconds }) (without_time name times) (record { name = good; seconds = low })
    (kept_without name times are)

-- a time that is found is one of those
found_low : (name : List ℕ) (times : Times) → All IsListTime times → time_of name times < 2 ^ 64
found_low name [] all = omega arith
found_low name (time ∷ times) all = of (bytes_eq time.name name) (found_low name times (All-tail IsListTime time times all))
  where
    of : (b : Bool) → time_of name times < 2 ^ 64 → cond b time.seconds (time_of name times) < 2 ^ 64
    of true rest = (All-head IsListTime time times all).seconds
    of false rest = rest

pub kept_renamed : (from to : List ℕ) (times : Times) → IsListName to → AreTimes times → AreTimes (renamed_time from to times)
kept_renamed from to times good are = of (has_time from times)
  where
    of : (b : Bool) → AreTimes (cond b (with_time to (time_of from times) (without_time from times)) (without_time to times))
    of true =
        kept_with to (time_of from times) (without_time from times) good (found_low from times are.each) (kept_without from times are)
    of false = kept_without to times are

one_kept : (seconds : ℕ) (time : ListTime) → seconds < 2 ^ 64 → IsListTime time → IsListTime (timed_one seconds time)
one_kept seconds time low good = of (time.seconds == 0)
  where
    of : (b : Bool) → IsListTime (record { name = time.name; seconds = cond b seconds time.seconds })
    of true = record { name = good.name; seconds = low }
    of false = record { name = good.name; seconds = good.seconds }

timed_each : (seconds : ℕ) (times : Times) → seconds < 2 ^ 64 → All IsListTime times → All IsListTime (timed seconds times)
timed_each seconds [] low all = all
timed_each seconds (time ∷ times) low all =
    All-cons IsListTime (timed_one seconds time) (timed seconds times) (one_kept seconds time low (All-head IsListTime time times all))
    (timed_each seconds times low (All-tail IsListTime time times all))

pub kept_timed : (seconds : ℕ) (times : Times) → seconds < 2 ^ 64 → AreTimes times → AreTimes (timed seconds times)
kept_timed seconds times low are = record {
  few = omega (arith, length-map times (timed_one seconds), are.few);
  each = timed_each seconds times low are.each;
}

-- ---- a loop that tells the times in place

-- the time at place i still stands as it was
told_at : (f : ListTime → ListTime) (times : Times) (i : ℕ) (d : ListTime) → i < length times
    → slice_index_or (map f (take i times) ++ drop i times) i d ≡ slice_index_or times i d
told_at f [] i d lt = absurd (omega arith)
told_at f (time ∷ times) zero d lt = refl
told_at f (time ∷ times) (suc i) d lt = told_at f times i d (omega arith)

told_next : (f : ListTime → ListTime) (times : Times) (i : ℕ) (d : ListTime) → i < length times
    → slice_set (map f (take i times) ++ drop i times) i (f (slice_index_or times i d)) ≡ map f (take (suc i) times) ++ drop (suc i) times
told_next f [] i d lt = absurd (omega arith)
told_next f (time ∷ times) zero d lt = refl
told_next f (time ∷ times) (suc i) d lt = ap (λ (l : Times). f time ∷ l) (told_next f times i d (omega arith))

-- once it is told too, one more is
pub told_more : (seconds : ℕ) (times now : Times) (i : ℕ) (time told : ListTime) → i < length times
    → now ≡ timed seconds (take i times) ++ drop i times → time ≡ slice_index_or now i time → told ≡ timed_one seconds time
    → slice_set now i told ≡ timed seconds (take (i + 1) times) ++ drop (i + 1) times
told_more seconds times now i time told lt so_far found one =
    let still : time ≡ slice_index_or times i time =
    found ∙ ap (λ (l : Times). slice_index_or l i time) so_far ∙ told_at (timed_one seconds) times i time lt in
    let is : told ≡ timed_one seconds (slice_index_or times i time) = one ∙ ap (timed_one seconds) still in
    let next : suc i ≡ i + 1 = omega arith in
    (λ k. slice_set (so_far k) i (is k))
    ∙ told_next (timed_one seconds) times i time lt
    ∙ ap (λ (n : ℕ). timed seconds (take n times) ++ drop n times) next

-- ---- what changes nothing

both : (a b : Bool) → (a && b) ≡ true → (a ≡ true) × (b ≡ true)
both true b are = (refl, are)
both false b are = absurd (false≢true are)

one_stays : (seconds : ℕ) (time : ListTime) → not (time.seconds == 0) ≡ true → timed_one seconds time ≡ time
one_stays seconds time told = of (time.seconds == 0) told
  where
    of : (b : Bool) → not b ≡ true → record { name = time.name; seconds = cond b seconds time.seconds } ≡ time
    of true told = absurd (false≢true told)
    of false told = refl

-- where each is timed
pub timed_stays : (seconds : ℕ) (times : Times) → are_timed times ≡ true → timed seconds times ≡ times
timed_stays seconds [] are = refl
timed_stays seconds (time ∷ times) are =
    let parts = both (not (time.seconds == 0)) (are_timed times) are in
    λ i. one_stays seconds time parts.0 i ∷ timed_stays seconds times parts.1 i

one_by_zero : (time : ListTime) → timed_one 0 time ≡ time
one_by_zero time = of (time.seconds == 0) refl
  where
    of : (b : Bool) → (time.seconds == 0) ≡ b → record { name = time.name; seconds = cond b 0 time.seconds } ≡ time
    of true none = ap (λ (n : ℕ). record { name = time.name; seconds = n }) (sym (eqb-true time.seconds 0 none))
    of false some = refl

-- where no clock tells a time
pub timed_by_zero : (times : Times) → timed 0 times ≡ times
timed_by_zero [] = refl
timed_by_zero (time ∷ times) = λ i. one_by_zero time i ∷ timed_by_zero times i

abbrev head_of : (time : ListTime) (times : Times) → ListTime
head_of time [] = time
head_of time (other ∷ others) = other

abbrev rest_of : Times → Times
rest_of [] = []
rest_of (time ∷ times) = times

one_only : (seconds : ℕ) (time : ListTime) → (seconds == 0) ≡ false → timed_one seconds time ≡ time → not (time.seconds == 0) ≡ true
one_only seconds time some same = of (time.seconds == 0) refl (ap (λ (t : ListTime). t.seconds) same)
  where
    of : (b : Bool) → (time.seconds == 0) ≡ b → cond b seconds time.seconds ≡ time.seconds → not b ≡ true
    of true none same = absurd (false≢true (sym some ∙ eq-eqb seconds 0 (same ∙ eqb-true time.seconds 0 none)))
    of false told same = refl

-- nothing else stays as it is
pub timed_only : (seconds : ℕ) (times : Times) → (seconds == 0) ≡ false → timed seconds times ≡ times → are_timed times ≡ true
timed_only seconds [] some same = refl
timed_only seconds (time ∷ times) some same =
    let first : timed_one seconds time ≡ time = ap (head_of time) same in
    let rest : timed seconds times ≡ times = ap rest_of same in
    rw (one_only seconds time some first) (timed_only seconds times some rest)

-- ---- a name that is taken out twice

without_again : (name : List ℕ) (times : Times) → without_time name (without_time name times) ≡ without_time name times
without_again name [] = refl
without_again name (time ∷ times) = of (bytes_eq time.name name) refl (without_again name times)
  where
    of : (b : Bool) → bytes_eq time.name name ≡ b → without_time name (without_time name times) ≡ without_time name times
        → without_time name (cond (not b) (time ∷ without_time name times) (without_time name times))
        ≡ cond (not b) (time ∷ without_time name times) (without_time name times)
    of true same rest = rest
    of false other rest = rw other (ap (λ (l : Times). time ∷ l) rest)

-- a playlist that goes, and is saved anew
pub anew : (name : List ℕ) (seconds : ℕ) (times : Times) → with_time name seconds (without_time name times) ≡ with_time name seconds times
anew name seconds times =
    ap (λ (others : Times). with_last_time (record { name = name; seconds = seconds }) others) (without_again name times)

-- ---- a playlist that is changed again

abbrev one_at : List ℕ → ℕ → ListTime
one_at name seconds = record { name = name; seconds = seconds }

-- without a name that was put last
without_last : (name : List ℕ) (seconds : ℕ) (times : Times)
    → without_time name (times ++ one_at name seconds ∷ []) ≡ without_time name times
without_last name seconds [] = of (bytes_eq name name) ((bytes_eq-Decides name name).1 refl)
  where
    of : (b : Bool) → b ≡ true → cond (not b) (one_at name seconds ∷ []) [] ≡ []
    of true same = refl
    of false other = absurd (false≢true other)
without_last name seconds (time ∷ times) = of (bytes_eq time.name name) (without_last name seconds times)
  where
    of : (b : Bool) → without_time name (times ++ one_at name seconds ∷ []) ≡ without_time name times
        → cond (not b) (time ∷ without_time name (times ++ one_at name seconds ∷ [])) (without_time name (times ++ one_at name seconds ∷ []))
        ≡ cond (not b) (time ∷ without_time name times) (without_time name times)
    of true rest = rest
    of false rest = ap (λ (l : Times). time ∷ l) rest

-- it stays where it is
pub put_again : (name : List ℕ) (seconds : ℕ) (times : Times)
    → with_time name seconds (with_time name seconds times) ≡ with_time name seconds times
put_again name seconds times = of (nat_lt (length others) MAX_LISTS) refl
  where
    others : Times
    others = without_time name times

    of : (b : Bool) → nat_lt (length others) MAX_LISTS ≡ b
        → with_last_time (one_at name seconds) (without_time name (cond b (others ++ one_at name seconds ∷ []) others))
        ≡ cond b (others ++ one_at name seconds ∷ []) others
    of true room =
        ap (λ (l : Times). with_last_time (one_at name seconds) l) (without_last name seconds others ∙ without_again name times)
        ∙ ap (λ (b : Bool). cond b (others ++ one_at name seconds ∷ []) others) room
    of false full =
        ap (λ (l : Times). with_last_time (one_at name seconds) l) (without_again name times)
        ∙ ap (λ (b : Bool). cond b (others ++ one_at name seconds ∷ []) others) full
