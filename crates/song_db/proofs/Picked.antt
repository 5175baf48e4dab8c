-- Marks at known URIs.
use Rattle.std.proofs.Common.{◌≡◌, ◌⊎◌, inl, inr, ℕ, zero, suc, ◌+◌, ◌-◌, ◌<◌, ◌≤◌, Bool, true, false, not, ◌&&◌, List}
use Rattle.std.proofs.Common.{[], ◌∷◌, ◌++◌, length, take, drop, get_or, filter, refl, sym, ap, ◌∙◌, arith, cond}
use Rattle.std.proofs.Common.{length-drop, nat_eq}
use Rattle.std.specs.Prelude.{replicate}
use Rattle.std.specs.List.Sorted.{IsPartitionPoint}
use Rattle.std.specs.Ordering.{is_lt}
use Rattle.std.specs.declared.cmp.Ordering.TheVariants.{Less}
use Rattle.std.specs.Cmp.Lexicographic.{nat_list_cmp_total, nat_list_eq_equiv}
use Rattle.std.specs.Str.{bytes_eq}
use Rattle.std.proofs.lemmas.Bool.{cases_lt, eq-eqb, eqb-true}
use Rattle.std.proofs.lemmas.List.{get_or-drop, get_or_default}
use Rattle.std.proofs.lemmas.Map.Keys.{Less-from_sorted}
use Rattle.std.proofs.lemmas.Slice.Eq.{bytes_eq-Decides}
use Rattle.song_db.specs.Droppable.{picked}
use Rattle.song_db.specs.Order.{AreKnown}
use Rattle.song_db.specs.Place.{is_below}
use Rattle.song_db.specs.Replaced.{IsBefore, IsNotBefore}
use Rattle.song_db.proofs.Below.{and_false}
use Rattle.song_db.proofs.BelowOrder.{below_order, before_both}
use Rattle.song_db.proofs.Rising.{texts, less_is, not_less, apart_less, apart_greater}

pub picked_all : (uris : List (List ℕ)) → picked uris (replicate (length uris) true) ≡ uris
picked_all [] = refl
picked_all (uri ∷ uris) = ap (λ l. uri ∷ l) (picked_all uris)

-- the marks of what passes a test are taken away
abbrev pub AreUnmarked : (List ℕ → Bool) → List (List ℕ) → List Bool → List Bool → Type 0
AreUnmarked test uris marks unmarked = (k : ℕ) → k < length uris
    → get_or unmarked k true ≡ (get_or marks k true && not (test (get_or uris k [])))

pub picked_unmarked : (test : List ℕ → Bool) (uris : List (List ℕ)) (marks unmarked : List Bool) → length marks ≡ length uris
    → length unmarked ≡ length uris → AreUnmarked test uris marks unmarked
    → picked uris unmarked ≡ filter (λ uri. not (test uri)) (picked uris marks)
picked_unmarked test [] marks unmarked each every all = refl
picked_unmarked test (uri ∷ uris) [] unmarked each every all = absurd (omega arith)
picked_unmarked test (uri ∷ uris) (m ∷ marks) [] each every all = absurd (omega arith)
picked_unmarked test (uri ∷ uris) (m ∷ marks) (u ∷ unmarked) each every all =
    by_cases m u (test uri) refl (all 0 (omega arith)) (picked_unmarked test uris marks unmarked (omega arith) (omega arith) (λ k
    below. all (suc k) (omega arith)))
  where
    by_cases : (m u t : Bool) → test uri ≡ t → u ≡ (m && not (test uri))
        → picked uris unmarked ≡ filter (λ uri. not (test uri)) (picked uris marks)
        → cond u (uri ∷ picked uris unmarked) (picked uris unmarked) ≡ filter (λ uri. not (test uri)) (cond m (uri ∷ picked uris
        marks) (picked uris marks))
    by_cases true u true told is rest = rw (is, told) rest
    by_cases true u false told is rest = rw (is, told) (ap (λ l. uri ∷ l) rest)
    by_cases false u t told is rest = rw is rest

-- what passes a test stands together
pub record IsRun (test : List ℕ → Bool) (uris : List (List ℕ)) (start end : ℕ) : Type 0 where
  pub before : (k : ℕ) → k < start → k < length uris → test (get_or uris k []) ≡ false
  pub inside : (k : ℕ) → start ≤ k → k < end → k < length uris → test (get_or uris k []) ≡ true
  pub behind : (k : ℕ) → end ≤ k → k < length uris → test (get_or uris k []) ≡ false

-- the marks of a run are taken away, and no other
pub record AreUnmarkedWithin (marks unmarked : List Bool) (start end : ℕ) : Type 0 where
  pub before : (k : ℕ) → k < start → get_or unmarked k true ≡ get_or marks k true
  pub run : (k : ℕ) → start ≤ k → k < end → get_or unmarked k true ≡ false
  pub behind : (k : ℕ) → end ≤ k → get_or unmarked k true ≡ get_or marks k true

and_true : (b : Bool) → b ≡ (b && true)
and_true true = refl
and_true false = refl

run_at : (test : List ℕ → Bool) (uris : List (List ℕ)) (marks unmarked : List Bool) (start end : ℕ) → IsRun test uris start end
    → AreUnmarkedWithin marks unmarked start end → AreUnmarked test uris marks unmarked
run_at test uris marks unmarked start end run gone k below = by_cases (cases_lt k start) (cases_lt k end)
  where
    by_cases : (k < start) ⊎ (start ≤ k) → (k < end) ⊎ (end ≤ k)
        → get_or unmarked k true ≡ (get_or marks k true && not (test (get_or uris k [])))
    by_cases (inl early) within = rw (run.before k early below, gone.before k early) (and_true (get_or marks k true))
    by_cases (inr from) (inl within) = rw (run.inside k from within below, gone.run k from within) (sym (and_false (get_or marks k true)))
    by_cases (inr from) (inr late) = rw (run.behind k late below, gone.behind k late) (and_true (get_or marks k true))

pub run_unmarked : (test : List ℕ → Bool) (uris : List (List ℕ)) (marks unmarked : List Bool) (at start end : ℕ)
    → length marks ≡ length uris → length unmarked ≡ length uris → IsRun test uris start end
    → AreUnmarkedWithin marks unmarked start end
    → picked (drop at uris) (drop at unmarked) ≡ filter (λ uri. not (test uri)) (picked (drop at uris) (drop at marks))
run_unmarked test uris marks unmarked at start end each every run gone =
    picked_unmarked test (drop at uris) (drop at marks) (drop at unmarked) (omega (
      arith,
      length-drop at uris,
      length-drop at
          marks,
    )) (omega (arith, length-drop at uris, length-drop at unmarked))
    (λ k below. rw (get_or-drop at unmarked k true, get_or-drop at marks k true, get_or-drop at uris k []) (run_at test uris marks
    unmarked start end run gone (at + k) (omega (arith, length-drop at uris))))

-- the place of a URI
pub uri_run : (uris : List (List ℕ)) (uri own : List ℕ) (n : ℕ) → AreKnown uris
    → IsPartitionPoint (IsBefore (λ u. u) uri) (IsNotBefore (λ u. u) uri) uris n → n < length uris → own ≡ get_or uris n own
    → true ≡ bytes_eq own uri → IsRun (bytes_eq uri) uris n (n + 1)
uri_run uris uri own n known split within here same =
    record {
      before = λ k below under. apart_less (get_or uris k []) uri (less_is (texts (get_or uris k []) uri) (split.0 k [] (omega
          arith) below));
      inside = λ k from below under. (let at_n : k ≡ n = omega arith in rw at_n (sym (is_own (bytes_eq uri))
          ∙ (nat_list_eq_equiv.symm uri own ∙ sym same)));
      behind = λ k from under. apart_greater uri (get_or uris k []) (ap (λ u. texts u (get_or uris k [])) (sym ((bytes_eq-Decides
          own uri).0 (sym same)) ∙ is_own (λ u. u)) ∙ Less-from_sorted texts uris n k [] known (omega arith) under);
    }
  where
    is_own : {X : Type 0} (f : List ℕ → X) → f own ≡ f (get_or uris n [])
    is_own f = ap f (here ∙ get_or_default uris n own [] within)

-- no place has it
pub no_run_end : (uris : List (List ℕ)) (uri : List ℕ) (n : ℕ)
    → IsPartitionPoint (IsBefore (λ u. u) uri) (IsNotBefore (λ u. u) uri) uris n → length uris ≤ n → IsRun (bytes_eq uri) uris n n
no_run_end uris uri n split past =
    record {
      before = λ k below under. apart_less (get_or uris k []) uri (less_is (texts (get_or uris k []) uri) (split.0 k [] (omega
          arith) below));
      inside = λ k from below under. absurd (omega arith);
      behind = λ k from under. absurd (omega arith);
    }

pub no_run_other : (uris : List (List ℕ)) (uri own : List ℕ) (n : ℕ) → AreKnown uris
    → IsPartitionPoint (IsBefore (λ u. u) uri) (IsNotBefore (λ u. u) uri) uris n → n < length uris → own ≡ get_or uris n own
    → false ≡ bytes_eq own uri → IsRun (bytes_eq uri) uris n n
no_run_other uris uri own n known split within here other =
    record {
      before = λ k below under. apart_less (get_or uris k []) uri (less_is (texts (get_or uris k []) uri) (split.0 k [] (omega
          arith) below));
      inside = λ k from below under. absurd (omega arith);
      behind = λ k from under. apart_greater uri (get_or uris k []) (above k from under (cases_lt n k));
    }
  where
    stands : get_or uris n [] ≡ own
    stands = get_or_default uris n [] own within ∙ sym here

    next : texts uri (get_or uris n []) ≡ Less
    next = not_less (get_or uris n []) uri (split.1 n [] (omega arith) within) (ap (bytes_eq uri) stands
        ∙ nat_list_eq_equiv.symm uri own ∙ sym other)

    above : (k : ℕ) → n ≤ k → k < length uris → (n < k) ⊎ (k ≤ n) → texts uri (get_or uris k []) ≡ Less
    above k from under (inl later) = nat_list_cmp_total.trans uri (get_or uris n []) (get_or uris k []) next (Less-from_sorted
        texts uris n k [] known later under)
    above k from under (inr at_n) = let same : k ≡ n = omega arith in rw same next

-- no mark is taken away
pub none_unmarked : (marks : List Bool) (n : ℕ) → AreUnmarkedWithin marks marks n n
none_unmarked marks n = record { before = λ k below. refl; run = λ k from below. absurd (omega arith); behind = λ k from. refl }

-- the places of what stands below a folder
pub folder_rise : (uris : List (List ℕ)) (folder : List ℕ) (s e : ℕ) → s ≤ length uris
    → IsPartitionPoint (IsBefore (λ u. u) (folder ++ 47 ∷ [])) (IsNotBefore (λ u. u) (folder ++ 47 ∷ [])) uris s
    → IsPartitionPoint (IsBefore (λ u. u) (folder ++ 48 ∷ [])) (IsNotBefore (λ u. u) (folder ++ 48 ∷ [])) uris e → s ≤ e
folder_rise uris folder s e within low high = by_cases (cases_lt e s)
  where
    by_cases : (e < s) ⊎ (s ≤ e) → s ≤ e
    by_cases (inr rise) = rise
    by_cases (inl fall) =
        let early : is_lt (texts (get_or uris e []) (folder ++ 48 ∷ [])) ≡ true = before_both folder (get_or uris e []) (low.0 e []
        (omega arith) fall) in
        let late : is_lt (texts (get_or uris e []) (folder ++ 48 ∷ [])) ≡ false = high.1 e [] (omega arith) (omega arith) in
        absurd (cc)

pub folder_run : (uris : List (List ℕ)) (folder : List ℕ) (s e : ℕ) → s ≤ length uris
    → IsPartitionPoint (IsBefore (λ u. u) (folder ++ 47 ∷ [])) (IsNotBefore (λ u. u) (folder ++ 47 ∷ [])) uris s
    → IsPartitionPoint (IsBefore (λ u. u) (folder ++ 48 ∷ [])) (IsNotBefore (λ u. u) (folder ++ 48 ∷ [])) uris e
    → IsRun (is_below folder) uris s e
folder_run uris folder s e within low high =
    record {
      before = λ k below under. rw (below_order folder (get_or uris k []), low.0 k [] (omega arith) below) refl;
      inside = λ k from below under. rw (
        below_order folder (get_or uris k []),
        low.1 k [] from under,
        high.0 k [] (omega arith)
            below,
      ) refl;
      behind = λ k from under. rw (below_order folder (get_or uris k []), high.1 k [] from under) (and_false (not (is_lt (texts
          (get_or uris k []) (folder ++ 47 ∷ [])))));
    }

-- the first mark
pub picked_first : (uris : List (List ℕ)) (marks : List Bool) (n : ℕ) (own : List ℕ) → n < length uris
    → length marks ≡ length uris → get_or marks n true ≡ true → own ≡ get_or uris n own
    → picked (drop n uris) (drop n marks) ≡ own ∷ picked (drop (suc n) uris) (drop (suc n) marks)
picked_first [] marks n own within each is_set here = absurd (omega arith)
picked_first (uri ∷ uris) [] n own within each is_set here = absurd (omega arith)
picked_first (uri ∷ uris) (m ∷ marks) zero own within each is_set here = rw (is_set, here) refl
picked_first (uri ∷ uris) (m ∷ marks) (suc n) own within each is_set here = picked_first uris marks n own (omega arith) (omega
    arith) is_set here

pub picked_passed : (uris : List (List ℕ)) (marks : List Bool) (n : ℕ) → n < length marks → length uris ≡ length marks
    → get_or marks n true ≡ false → picked (drop n uris) (drop n marks) ≡ picked (drop (suc n) uris) (drop (suc n) marks)
picked_passed [] marks n within each unset = absurd (omega arith)
picked_passed (uri ∷ uris) [] n within each unset = absurd (omega arith)
picked_passed (uri ∷ uris) (m ∷ marks) zero within each unset = rw unset refl
picked_passed (uri ∷ uris) (m ∷ marks) (suc n) within each unset = picked_passed uris marks n (omega arith) (omega arith) unset

-- from the first mark that is set on, or their end, nothing is picked exactly at the end
picked_some : (uris : List (List ℕ)) (marks : List Bool) (n : ℕ) → n < length uris → length marks ≡ length uris
    → get_or marks n true ≡ true → picked (drop n uris) (drop n marks) ≡ [] → ⊥
picked_some [] marks n within each is_set none = absurd (omega arith)
picked_some (uri ∷ uris) [] n within each is_set none = absurd (omega arith)
picked_some (uri ∷ uris) (m ∷ marks) zero within each is_set none = by_mark m is_set none
  where
    by_mark : (m : Bool) → m ≡ true → cond m (uri ∷ picked uris marks) (picked uris marks) ≡ [] → ⊥
    by_mark true is none = absurd (cc)
    by_mark false is none = absurd (cc)
picked_some (uri ∷ uris) (m ∷ marks) (suc n) within each is_set none = picked_some uris marks n (omega arith) (omega arith) is_set none

picked_end : (uris : List (List ℕ)) (marks : List Bool) → picked (drop (length uris) uris) (drop (length uris) marks) ≡ []
picked_end [] marks = refl
picked_end (uri ∷ uris) [] = by_drop (drop (length uris) uris)
  where
    by_drop : (rest : List (List ℕ)) → picked rest [] ≡ []
    by_drop [] = refl
    by_drop (uri ∷ rest) = refl
picked_end (uri ∷ uris) (m ∷ marks) = picked_end uris marks

pub ends_at : (uris : List (List ℕ)) (marks : List Bool) (known : List (List ℕ)) (n count : ℕ) → length marks ≡ length uris
    → count ≡ length uris → n ≤ count → known ≡ picked (drop n uris) (drop n marks) → (n < length marks → get_or marks n true ≡ true)
    → (nat_eq n count ≡ true → known ≡ []) × (known ≡ [] → nat_eq n count ≡ true)
ends_at uris marks known n count each all within is is_set = (
  λ end. is ∙ at_end (eqb-true n count end ∙ all),
  λ none. by_cases none (cases_lt n (length uris)),
)
  where
    at_end : n ≡ length uris → picked (drop n uris) (drop n marks) ≡ []
    at_end end = rw end (picked_end uris marks)

    by_cases : known ≡ [] → (n < length uris) ⊎ (length uris ≤ n) → nat_eq n count ≡ true
    by_cases none (inl below) = absurd (picked_some uris marks n below each (is_set (omega arith)) (sym is ∙ none))
    by_cases none (inr past) = eq-eqb n count (omega arith)

take_nil : (n : ℕ) → take {A = Bool} n [] ≡ []
take_nil zero = refl
take_nil (suc n) = refl

pub marked : (uris : List (List ℕ)) (old new : List Bool) (n m : ℕ) → n ≡ length uris → old ≡ [] → m ≡ 0
    → new ≡ take n old ++ replicate (n - m) true → picked uris new ≡ uris
marked uris old new n m count none zero_is is =
    let all : new ≡ replicate (length uris) true = is ∙ ap (λ l. take n l ++ replicate (n - m) true) none
    ∙ ap (λ l. l ++ replicate (n - m) true) (take_nil n)
    ∙ ap (λ k. replicate k true) (let h : n - m ≡ length uris = omega arith in h) in
    rw all (picked_all uris)
