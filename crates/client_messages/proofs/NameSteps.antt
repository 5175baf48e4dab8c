-- Names that are put in one after the other.
use Rattle.std.proofs.Common.{◌≡◌, ℕ, ◌+◌, ◌<◌, List, [], ◌∷◌, ◌++◌, length, slice_index_or, drop, map, refl, sym, ap, ◌∙◌}
use denote.Ref.{Bor}
use Rattle.std.specs.declared.cmp.Ordering.{Ordering}
use Rattle.std.specs.declared.cmp.Ordering.TheVariants.{Less, Equal, Greater}
use Rattle.std.specs.BTreeSet.{insert_key}
use Rattle.std.specs.Cmp.Lexicographic.{slice_cmp}
use Rattle.std.specs.List.{flat_map}
use Rattle.std.specs.Ordering.{nat_cmp, match_ordering}
use Rattle.std.proofs.lemmas.List.{drop_more}
use Rattle.client_messages.specs.Names.{with_name, with_names}
use Rattle.client_messages.specs.declared.listener.Listener.{Listener}

abbrev pub shown : List (Bor (List ℕ)) → List (List ℕ)
shown keys = map (λ key. key.now) keys

pub insert_key-shown : (keys : List (Bor (List ℕ))) (key : Bor (List ℕ))
    → shown (insert_key (λ a b. slice_cmp nat_cmp a.now b.now) keys key) ≡ with_name (shown keys) key.now
insert_key-shown [] key = refl
insert_key-shown (x ∷ xs) key = by_cases (slice_cmp nat_cmp key.now x.now) (insert_key-shown xs key)
  where
    by_cases : (o : Ordering) → shown (insert_key (λ a b. slice_cmp nat_cmp a.now b.now) xs key) ≡ with_name (shown xs) key.now
        → shown (match_ordering o (key ∷ x ∷ xs) (x ∷ xs) (x ∷ insert_key (λ a b. slice_cmp nat_cmp a.now b.now) xs key))
        ≡ match_ordering o (key.now ∷ x.now ∷ shown xs) (x.now ∷ shown xs) (x.now ∷ with_name (shown xs) key.now)
    by_cases Less rest = refl
    by_cases Equal rest = refl
    by_cases Greater rest = ap (λ l. x.now ∷ l) rest

with_names-append : (names xs ys : List (List ℕ)) → with_names names (xs ++ ys) ≡ with_names (with_names names xs) ys
with_names-append names [] ys = refl
with_names-append names (x ∷ xs) ys = with_names-append (with_name names x) xs ys

-- one more name
pub names_more : (xs : List (List ℕ)) (i : ℕ) (x d : List ℕ) (names more all : List (List ℕ)) → i < length xs → x ≡ slice_index_or xs i d
    → more ≡ with_name names x → with_names names (drop i xs) ≡ all → with_names more (drop (i + 1) xs) ≡ all
names_more xs i x d names more all lt is added so_far =
    ap (λ l. with_names l (drop (i + 1) xs)) (added ∙ ap (with_name names) is)
    ∙ ap (with_names names) (sym (drop_more xs i d lt)) ∙ so_far

-- the channels of one more client
pub channels_more : (ls : List Listener) (i : ℕ) (l d : Listener) (names more all : List (List ℕ)) → i < length ls
    → l ≡ slice_index_or ls i d → more ≡ with_names names l.channels
    → with_names names (flat_map (λ (l : Listener). l.channels) (drop i ls)) ≡ all
    → with_names more (flat_map (λ (l : Listener). l.channels) (drop (i + 1) ls)) ≡ all
channels_more ls i l d names more all lt is added so_far =
    let rest = flat_map (λ (l : Listener). l.channels) (drop (i + 1) ls) in
    let here : flat_map (λ (l : Listener). l.channels) (drop i ls) ≡ l.channels ++ rest =
    ap (flat_map (λ (l : Listener). l.channels)) (drop_more ls i d lt ∙ ap (λ (k : Listener). k ∷ drop (i + 1) ls) (sym is)) in
    ap (λ k. with_names k rest) added ∙ sym (with_names-append names l.channels rest) ∙ ap (with_names names) (sym here) ∙ so_far
