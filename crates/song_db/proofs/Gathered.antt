-- Texts that are gathered and then sorted once are those that are put in one after the other.
use Rattle.std.proofs.Common.{◌≡◌, ℕ, suc, ◌-◌, Bool, true, false, ◌||◌, List, [], ◌∷◌, ◌++◌, length, Some, BTreeSet, refl, sym, ap, ◌∙◌, arith}
use denote.Ref.{Bor}
use Rattle.std.specs.declared.cmp.Ordering.{Ordering}
use Rattle.std.specs.declared.cmp.Ordering.TheVariants.{Less, Equal, Greater}
use Rattle.std.specs.BTreeSet.{IsFromIterResult}
use Rattle.std.specs.Cmp.Lexicographic.{nat_list_cmp_total}
use Rattle.std.specs.List.{list_any, slice_get}
use Rattle.std.specs.List.Sorted.{IsStrictlySortedBy}
use Rattle.std.specs.Ordering.{is_eq, match_ordering}
use Rattle.std.proofs.lemmas.Cmp.{tied_itself}
use Rattle.std.proofs.lemmas.Map.Lookups.{btree_set_from_contains}
use Rattle.std.proofs.lemmas.Map.Text.{is_eq-slice_cmp}
use Rattle.std.proofs.lemmas.Slice.Eq.{bytes_eq-Decides}
use Rattle.song_db.specs.Query.{with_texts, distinct_of}
use Rattle.song_db.specs.Replaced.{IsRising, replaced}
use Rattle.song_db.proofs.Batches.{rising_replaced}
use Rattle.song_db.proofs.Ordered.{shown}
use Rattle.song_db.proofs.Rising.{texts}
use Rattle.song_db.proofs.WalkOrder.{sorted_map}

abbrev with_text : List ℕ → List (List ℕ) → List (List ℕ)
with_text text known = replaced (λ t. t) text (text ∷ []) known

equal_texts : (a b : List ℕ) → texts a b ≡ Equal → a ≡ b
equal_texts a b tied = (bytes_eq-Decides a b).0 (sym (is_eq-slice_cmp a b) ∙ ap is_eq tied)

-- ---- a text that is there

with_text_again : (text : List ℕ) (known : List (List ℕ)) → with_text text (with_text text known) ≡ with_text text known
with_text_again text [] = let tied : texts text text ≡ Equal = tied_itself nat_list_cmp_total text in rw tied refl
with_text_again text (x ∷ xs) = by_cases (texts text x) refl (with_text_again text xs)
  where
    tied : texts text text ≡ Equal
    tied = tied_itself nat_list_cmp_total text

    by_cases : (o : Ordering) → texts text x ≡ o → with_text text (with_text text xs) ≡ with_text text xs
        → with_text text (match_ordering o (text ∷ x ∷ xs) (text ∷ xs) (x ∷ with_text text xs)) ≡ match_ordering o
        (text ∷ x ∷ xs) (text ∷ xs) (x ∷ with_text text xs)
    by_cases Less h rest = rw tied refl
    by_cases Equal h rest = rw tied refl
    by_cases Greater h rest = rw h (ap (λ l. x ∷ l) rest)

-- the last one that was taken is there
pub with_last : (known : List (List ℕ)) (ts : List (Bor (List ℕ))) (last : Bor (List ℕ)) → Some last ≡ slice_get ts (length ts - 1)
    → with_texts (with_texts known (shown ts)) (last.now ∷ []) ≡ with_texts known (shown ts)
with_last known [] last is = absurd (cc)
with_last known (t ∷ []) last is =
    let same : last ≡ t = cc in
    ap (λ (b : Bor (List ℕ)). with_text b.now (with_text t.now known)) same ∙ with_text_again t.now known
with_last known (t ∷ next ∷ ts) last is =
    let one_less : suc (suc (length ts)) - 1 ≡ suc (suc (length ts) - 1) = omega arith in
    with_last (with_text t.now known) (next ∷ ts) last (is ∙ ap (slice_get (t ∷ next ∷ ts)) one_less)

pub with_texts-append : (known xs ys : List (List ℕ)) → with_texts known (xs ++ ys) ≡ with_texts (with_texts known xs) ys
with_texts-append known [] ys = refl
with_texts-append known (x ∷ xs) ys = with_texts-append (with_text x known) xs ys

-- ---- which texts are there

abbrev pub has : List (List ℕ) → List ℕ → Bool
has known q = list_any (λ t. is_eq (texts q t)) known

or_twice : (a b : Bool) → (a || (a || b)) ≡ (a || b)
or_twice true b = refl
or_twice false b = refl

or_exchange : (a b c : Bool) → (a || (b || c)) ≡ (b || (a || c))
or_exchange true true c = refl
or_exchange true false c = refl
or_exchange false b c = refl

has-with_text : (text : List ℕ) (known : List (List ℕ)) (q : List ℕ) → has (with_text text known) q ≡ (is_eq (texts q text) || has known q)
has-with_text text [] q = refl
has-with_text text (x ∷ xs) q = by_cases (texts text x) refl (has-with_text text xs q)
  where
    by_cases : (o : Ordering) → texts text x ≡ o → has (with_text text xs) q ≡ (is_eq (texts q text) || has xs q)
        → has (match_ordering o (text ∷ x ∷ xs) (text ∷ xs) (x ∷ with_text text xs)) q ≡ (is_eq (texts q text) || (is_eq
        (texts q x) || has xs q))
    by_cases Less h rest = refl
    by_cases Equal h rest =
        let same : x ≡ text = sym (equal_texts text x h) in
        rw same (sym (or_twice (is_eq (texts q text)) (has xs q)))
    by_cases Greater h rest = ap (λ b. is_eq (texts q x) || b) rest ∙ or_exchange (is_eq (texts q x)) (is_eq (texts q text)) (has xs q)

pub has-with_texts : (known ts : List (List ℕ)) (q : List ℕ) → has (with_texts known ts) q ≡ (has ts q || has known q)
has-with_texts known [] q = refl
has-with_texts known (t ∷ ts) q = has-with_texts (with_text t known) ts q ∙ ap (λ b. has ts q || b) (has-with_text t known q)
    ∙ turned (has ts q) (is_eq (texts q t)) (has known q)
  where
    turned : (a b c : Bool) → (a || (b || c)) ≡ ((b || a) || c)
    turned true true c = refl
    turned true false c = refl
    turned false true c = refl
    turned false false c = refl

or_none : (a : Bool) → (a || false) ≡ a
or_none true = refl
or_none false = refl

pub has-shown : (ts : List (Bor (List ℕ))) (q : List ℕ) → list_any (λ t. is_eq (texts q t.now)) ts ≡ has (shown ts) q
has-shown [] q = refl
has-shown (t ∷ ts) q = ap (λ b. is_eq (texts q t.now) || b) (has-shown ts q)

-- ---- their order

pub with_texts_rising : (known ts : List (List ℕ)) → IsRising (λ t. t) known → IsRising (λ t. t) (with_texts known ts)
with_texts_rising known [] rising = rising
with_texts_rising known (t ∷ ts) rising = with_texts_rising (with_text t known) ts (rising_replaced (λ t. t) t (t ∷ []) known (record {
  keyed = (refl, tt);
  few = omega arith;
}) rising)

pub none_rising : IsRising (λ (t : List ℕ). t) []
unfolding IsStrictlySortedBy
none_rising = tt

-- what rises and has the same texts
pub distinct_is : (known ts : List (List ℕ)) → IsRising (λ t. t) known → ((q : List ℕ) → has known q ≡ has ts q) → known ≡ distinct_of ts
distinct_is known ts rising same = btree_set_from_contains nat_list_cmp_total (record { keys = known }) (record { keys = distinct_of ts })
    rising (with_texts_rising [] ts none_rising) (λ q. same q ∙ sym (has-with_texts [] ts q ∙ or_none (has ts q))) equal_texts

-- those that are distinct already
pub distinct_again : (ts : List (List ℕ)) → distinct_of (distinct_of ts) ≡ distinct_of ts
distinct_again ts = sym (distinct_is (distinct_of ts) (distinct_of ts) (with_texts_rising [] ts none_rising) (λ q. refl))

-- the keys of a set that is made of texts
pub collected : (ts : List (Bor (List ℕ))) (set : BTreeSet (Bor (List ℕ))) → IsFromIterResult (λ a b. texts a.now b.now) ts set
    → shown set.keys ≡ distinct_of (shown ts)
collected ts set made = distinct_is (shown set.keys) (shown ts) (sorted_map (λ (a b : Bor (List ℕ)). texts a.now b.now) texts (λ
    key. key.now) (λ a b h. h) set.keys made.1) same
  where
    same : (q : List ℕ) → has (shown set.keys) q ≡ has (shown ts) q
    same q = sym (has-shown set.keys q) ∙ made.0 (record { ref_ptr = (0, 0); now = q }) ∙ has-shown ts q
