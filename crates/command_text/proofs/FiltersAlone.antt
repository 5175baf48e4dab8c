-- The words of a filter that stands alone are those whose count is right.
use Rattle.std.proofs.Common.{◌≡◌, ◌⊎◌, ◌↔◌, inl, inr, ℕ, ◌+◌, ◌≤◌, Bool, true, false, ◌&&◌, ◌==◌, nat_le, List, [], ◌∷◌, length, cond}
use Rattle.std.proofs.Common.{None, Result, Err, refl, sym, ap, ◌∙◌, arith}
use Rattle.std.proofs.lemmas.Bool.{and_from, and_parts, le-leb, eqb-true, eq-eqb}
use Rattle.profile.specs.declared.profile.Profile.{Profile}
use Rattle.profile.specs.declared.profile.Profile.TheVariants.{Named, Wide}
use Rattle.filter_expr.specs.Parts.{opening, begins_so}
use Rattle.filter_expr.specs.Tree.{Tree}
use Rattle.command_text.specs.declared.refusal.CommandRefusal.{CommandRefusal}
use Rattle.command_text.specs.declared.refusal.CommandRefusal.TheVariants.{WrongCount}
use Rattle.command_text.specs.Counts.{Word}
use Rattle.command_text.specs.Finding.{are_pairs, is_begun, named_filter_count, mixed_length, has_filter_count, filter_alone}
use Rattle.command_text.specs.NameArguments.{filter_argument}
use Rattle.command_text.specs.Search.{AreTwoByTwo, ArePartsAlone, IsAlone, IsAnswerAlone}
use Rattle.command_text.proofs.Mixed.{expression_counted, pair_counted}
use Rattle.command_text.proofs.SearchCounts.{is_two_by_two, counts_even}

-- ---- in the wide profile

parts_whole : (words : List Word) → mixed_length None words ≡ length words → ArePartsAlone words
unfolding mixed_length
parts_whole [] h = tt
parts_whole (word ∷ []) h = by_cases (begins_so opening word) refl h
  where
    by_cases : (b : Bool) → begins_so opening word ≡ b → ◌≡◌ {A = ℕ} (cond b 1 0) 1 → begins_so opening word ≡ true
    by_cases true is h = is
    by_cases false is h = absurd (cc)
parts_whole (word ∷ other ∷ words) h =
    by_cases (begins_so opening word) refl (λ k. parts_whole (other ∷ words) k) (λ k. parts_whole words k)
  where
    by_cases : (b : Bool) → begins_so opening word ≡ b
        → (mixed_length None (other ∷ words) ≡ length (other ∷ words) → ArePartsAlone (other ∷ words))
        → (mixed_length None words ≡ length words → ArePartsAlone words) → ArePartsAlone (word ∷ other ∷ words)
    by_cases true is one two =
        let counted = expression_counted None word (other ∷ words) is in
        inl (is, one (omega (arith, h, counted)))
    by_cases false is one two =
        let counted = pair_counted None word other words is refl in
        inr (is, two (omega (arith, h, counted)))

parts_counted : (words : List Word) → ArePartsAlone words → mixed_length None words ≡ length words
unfolding mixed_length
parts_counted [] are = refl
parts_counted (word ∷ []) are = rw are refl
parts_counted (word ∷ other ∷ words) (inl one) =
    let counted = expression_counted None word (other ∷ words) one.0 in
    let rest = parts_counted (other ∷ words) one.1 in
    omega arith
parts_counted (word ∷ other ∷ words) (inr two) =
    let counted = pair_counted None word other words two.0 refl in
    let rest = parts_counted words two.1 in
    omega arith

parts_begun : (word : Word) (words : List Word) → ArePartsAlone (word ∷ words) → is_begun (word ∷ words) ≡ true
parts_begun word [] are = rw are refl
parts_begun word (other ∷ words) (inl one) = rw one.0 refl
parts_begun word (other ∷ words) (inr two) =
    let long : 2 ≤ length (word ∷ other ∷ words) = omega arith in
    rw two.0 (le-leb 2 (length (word ∷ other ∷ words)) long)

-- ---- in the named subset

named_counted : (word : Word) (words : List Word) → IsAlone Named (word ∷ words) → named_filter_count (word ∷ words) ≡ true
named_counted word words (inl one) = rw (one.0, one.1) refl
named_counted word [] (inr pairs) = absurd pairs.1
named_counted word (value ∷ words) (inr pairs) =
    let long : 2 ≤ length (word ∷ value ∷ words) = omega arith in
    rw pairs.0 (and_from _ _ (le-leb 2 (length (word ∷ value ∷ words)) long) (counts_even (word ∷ value ∷ words) pairs.1))

named_alone : (word : Word) (words : List Word) → named_filter_count (word ∷ words) ≡ true → IsAlone Named (word ∷ words)
named_alone word words h = by_cases (begins_so opening word) refl h
  where
    by_cases : (b : Bool) → begins_so opening word ≡ b
        → cond b (length (word ∷ words) == 1) (are_pairs (word ∷ words)) ≡ true → IsAlone Named (word ∷ words)
    by_cases true is h =
        let one = eqb-true (length (word ∷ words)) 1 h in
        inl (is, none words one)
      where
        none : (ws : List Word) → length (word ∷ ws) ≡ 1 → ws ≡ []
        none [] one = refl
        none (other ∷ ws) one = absurd (omega arith)
    by_cases false is h = inr (is, is_two_by_two (word ∷ words) (and_parts _ _ h).1)

-- ---- a right count

alone_counted : (profile : Profile) (words : List Word) → IsAlone profile words → has_filter_count profile words ≡ true
alone_counted profile [] alone = absurd alone
alone_counted Named (word ∷ words) alone = named_counted word words alone
alone_counted Wide (word ∷ words) alone =
    and_from _ _ (parts_begun word words alone) (eq-eqb _ _ (parts_counted (word ∷ words) alone))

counted_alone : (profile : Profile) (words : List Word) → has_filter_count profile words ≡ true → IsAlone profile words
counted_alone Named [] h = absurd (cc)
counted_alone Wide [] h = absurd (cc)
counted_alone Named (word ∷ words) h = named_alone word words h
counted_alone Wide (word ∷ words) h =
    let both = and_parts (is_begun (word ∷ words)) (mixed_length None (word ∷ words) == length (word ∷ words)) h in
    parts_whole (word ∷ words) (eqb-true _ _ both.1)

-- ---- one answer

alone_is : (profile : Profile) (words : List Word) (b : Bool) → has_filter_count profile words ≡ b
    → filter_alone profile words ≡ cond b (filter_argument profile words) (Err WrongCount)
unfolding filter_alone
alone_is profile words true h = rw h refl
alone_is profile words false h = rw h refl

pub alone_so : (profile : Profile) (words : List Word) (answer : Result Tree CommandRefusal)
    → (filter_alone profile words ≡ answer) ↔ IsAnswerAlone profile words answer
alone_so profile words answer = (
  (λ is. answered (has_filter_count profile words) refl is),
  (λ said. told (has_filter_count profile words) refl said),
)
  where
    answered : (b : Bool) → has_filter_count profile words ≡ b → filter_alone profile words ≡ answer → IsAnswerAlone profile words answer
    answered true h is = inl (counted_alone profile words h, sym is ∙ alone_is profile words true h)
    answered false h is = inr (
      (λ alone. let right : has_filter_count profile words ≡ true = alone_counted profile words alone in absurd (cc)),
      sym is ∙ alone_is profile words false h,
    )

    told : (b : Bool) → has_filter_count profile words ≡ b → IsAnswerAlone profile words answer → filter_alone profile words ≡ answer
    told b h (inl one) = alone_is profile words true (alone_counted profile words one.0) ∙ sym one.1
    told true h (inr none) = absurd (none.0 (counted_alone profile words h))
    told false h (inr none) = alone_is profile words false h ∙ sym none.1
