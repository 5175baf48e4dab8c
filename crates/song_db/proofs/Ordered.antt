-- Texts in their order, each once.
use Rattle.std.proofs.Common.{◌≡◌, ℕ, List, [], ◌∷◌, map, true, refl, sym, ap, ◌∙◌}
use denote.Ref.{Bor}
use Rattle.std.specs.declared.cmp.Ordering.{Ordering}
use Rattle.std.specs.declared.cmp.Ordering.TheVariants.{Less, Equal, Greater}
use Rattle.std.specs.Ordering.{is_eq, match_ordering}
use Rattle.std.specs.BTreeSet.{insert_key}
use Rattle.std.specs.Str.{bytes_eq}
use Rattle.std.proofs.lemmas.Map.Text.{is_eq-slice_cmp}
use Rattle.std.proofs.lemmas.Slice.Eq.{bytes_eq-Decides}
use Rattle.song_db.specs.Replaced.{replaced}
use Rattle.song_db.proofs.Rising.{texts}

abbrev pub shown : List (Bor (List ℕ)) → List (List ℕ)
shown keys = map (λ key. key.now) keys

pub insert_key-shown : (keys : List (Bor (List ℕ))) (key : Bor (List ℕ))
    → shown (insert_key (λ a b. texts a.now b.now) keys key) ≡ replaced (λ t. t) key.now (key.now ∷ []) (shown keys)
insert_key-shown [] key = refl
insert_key-shown (x ∷ xs) key = by_cases (texts key.now x.now) refl (insert_key-shown xs key)
  where
    by_cases : (o : Ordering) → texts key.now x.now ≡ o
        → shown (insert_key (λ a b. texts a.now b.now) xs key) ≡ replaced (λ t. t) key.now (key.now ∷ []) (shown xs)
        → shown (match_ordering o (key ∷ x ∷ xs) (x ∷ xs) (x ∷ insert_key (λ a b. texts a.now b.now) xs key)) ≡ match_ordering o
        (key.now ∷ x.now ∷ shown xs) (key.now ∷ shown xs) (x.now ∷ replaced (λ t. t) key.now (key.now ∷ []) (shown xs))
    by_cases Less h rest = refl
    by_cases Equal h rest =
        let same : bytes_eq key.now x.now ≡ true = sym (is_eq-slice_cmp key.now x.now) ∙ ap is_eq h in
        ap (λ t. t ∷ shown xs) (sym ((bytes_eq-Decides key.now x.now).0 same))
    by_cases Greater h rest = ap (λ l. x.now ∷ l) rest
