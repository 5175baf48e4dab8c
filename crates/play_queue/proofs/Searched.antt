-- A binary search among sorted URIs.
use Rattle.std.proofs.Common.{◌≡◌, ℕ, ◌<◌, ◌≤◌, true, false, ◌⊎◌, inl, inr, List, [], length, get_or, Result, Ok, Err, is_ok, refl, sym, ap}
use Rattle.std.proofs.Common.{◌∙◌, arith}
use Rattle.std.specs.declared.cmp.Ordering.{Ordering}
use Rattle.std.specs.declared.cmp.Ordering.TheVariants.{Less, Equal, Greater}
use Rattle.std.specs.Cmp.{IsStrictWeakOrder}
use Rattle.std.specs.Cmp.Lexicographic.{slice_cmp, nat_list_cmp_total}
use Rattle.std.specs.List.Sorted.{IsSorted, IsBinarySearchResult, IsSearchInRange}
use Rattle.std.specs.Ordering.{nat_cmp, ordering_reverse, is_eq, is_lt}
use Rattle.std.specs.Str.{bytes_eq}
use Rattle.std.proofs.lemmas.Bool.{cases_lt}
use Rattle.std.proofs.lemmas.List.Folds.{list_any_at, list_any_none}
use Rattle.std.proofs.lemmas.List.Sorted.{searchable_from_sorted}
use Rattle.std.proofs.lemmas.Map.Text.{is_eq-slice_cmp}
use Rattle.play_queue.specs.Entries.{Uris, is_among}

-- the order of texts by their bytes
pub texts_compare : IsStrictWeakOrder (λ (one other : List ℕ). is_lt (slice_cmp nat_cmp one other))
texts_compare = record {
  one_way = λ x y below. one_way x y (slice_cmp nat_cmp x y) refl below;
  chain = λ x y z first second. chain x y z (slice_cmp nat_cmp x y) refl first second;
}
  where
    one_way : (x y : List ℕ) (o : Ordering) → slice_cmp nat_cmp x y ≡ o → is_lt o ≡ true → is_lt (slice_cmp nat_cmp y x) ≡ false
    one_way x y Less is below = ap is_lt (nat_list_cmp_total.antisymm y x ∙ ap ordering_reverse is)
    one_way x y Equal is below = absurd (cc)
    one_way x y Greater is below = absurd (cc)

    above : (x y z : List ℕ) (o : Ordering) → slice_cmp nat_cmp x z ≡ o → slice_cmp nat_cmp y x ≡ Less
        → is_lt (slice_cmp nat_cmp y z) ≡ false → is_lt o ≡ false
    above x y z Less is below second =
        absurd (let less : slice_cmp nat_cmp y z ≡ Less = nat_list_cmp_total.trans y x z below is in
        let yes : is_lt (slice_cmp nat_cmp y z) ≡ true = ap is_lt less in cc)
    above x y z Equal is below second = refl
    above x y z Greater is below second = refl

    chain : (x y z : List ℕ) (o : Ordering) → slice_cmp nat_cmp x y ≡ o → is_lt o ≡ false → is_lt (slice_cmp nat_cmp y z) ≡ false
        → is_lt (slice_cmp nat_cmp x z) ≡ false
    chain x y z Less is first second = absurd (cc)
    chain x y z Equal is first second = rw (nat_list_cmp_total.congr x y z is) second
    chain x y z Greater is first second =
        above x y z (slice_cmp nat_cmp x z) refl (nat_list_cmp_total.antisymm y x ∙ ap ordering_reverse is) second

-- what the search answers
pub found_is : (uris : Uris) (text : List ℕ) (r : Result ℕ ℕ) → IsSorted (slice_cmp nat_cmp) uris → IsSearchInRange r (length uris)
    → IsBinarySearchResult (λ other. slice_cmp nat_cmp other text) uris r → is_ok r ≡ is_among uris text
found_is uris text (Ok i) sorted within found =
    sym (list_any_at (λ other. bytes_eq other text) uris i [] within (sym (is_eq-slice_cmp (get_or uris i []) text) ∙ ap is_eq (found [])))
found_is uris text (Err i) sorted within split =
    let parts = split (searchable_from_sorted nat_list_cmp_total (λ (x : List ℕ). x) uris text sorted) in
    sym (list_any_none (λ other. bytes_eq other text) uris (λ k d below. of k d (cases_lt k i) (parts.0) (parts.1) below))
  where
    of : (k : ℕ) (d : List ℕ) → (k < i) ⊎ (i ≤ k) → ((k : ℕ) (d : List ℕ) → 0 ≤ k → k < i → slice_cmp nat_cmp (get_or uris k d) text ≡ Less)
        → ((k : ℕ) (d : List ℕ) → i ≤ k → k < length uris → slice_cmp nat_cmp (get_or uris k d) text ≡ Greater) → k < length uris
        → bytes_eq (get_or uris k d) text ≡ false
    of k d (inl front) less greater below = sym (is_eq-slice_cmp (get_or uris k d) text) ∙ ap is_eq (less k d (omega arith) front)
    of k d (inr back) less greater below = sym (is_eq-slice_cmp (get_or uris k d) text) ∙ ap is_eq (greater k d back below)
