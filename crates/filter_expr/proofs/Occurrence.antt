-- A part stands in a text where a search finds it.
use Rattle.std.proofs.Common.{◌≡◌, ℕ, ◌+◌, ◌≤◌, true, nat_eq, List, [], ◌∷◌, ◌++◌, length, take, drop, Option, Some, None, refl, sym, ap}
use Rattle.std.proofs.Common.{◌∙◌, arith, inl, inr, length-append}
use Rattle.std.proofs.lemmas.Bool.{false≢true, cases_Bool, and_parts, and_from, or_cases, or_left, or_right, eqb-true, eqb-false, eq-eqb, ne_eqb, false_from_ne_true}
use Rattle.std.specs.List.{starts_with}
use Rattle.std.proofs.lemmas.List.Prefix.{at_from_reads, at_reads}
use Rattle.std.proofs.lemmas.List.{take-append-drop}
use Rattle.std.specs.Option.{is_some}
use Rattle.memchr.specs.Find.{FindsNeedle, OccursAt}
use Rattle.filter_expr.specs.Meaning.{begins_with, occurs_in}

-- the part stands between two others
abbrev IsAmid : List ℕ → List ℕ → Type 0
IsAmid part text = (front rest : List ℕ) × (text ≡ front ++ (part ++ rest))

cons_same : (t p : ℕ) (ts ps : List ℕ) → t ≡ p → ts ≡ ps → t ∷ ts ≡ p ∷ ps
cons_same t p ts ps e f = cc

begins_so : (part text : List ℕ) → begins_with part text ≡ true → (rest : List ℕ) × (text ≡ part ++ rest)
begins_so [] text h = (text, refl)
begins_so (p ∷ part) [] h = absurd (false≢true h)
begins_so (p ∷ part) (t ∷ text) h =
    let both = and_parts (nat_eq t p) (begins_with part text) h in
    let behind = begins_so part text both.1 in
    let same : t ≡ p = eqb-true t p both.0 in
    (behind.0, cons_same t p text (part ++ behind.0) same behind.1)

begins_front : (part rest : List ℕ) → begins_with part (part ++ rest) ≡ true
begins_front [] rest = refl
begins_front (p ∷ part) rest = and_from (nat_eq p p) (begins_with part (part ++ rest)) (eq-eqb p p refl) (begins_front part rest)

same_eq : (a b : ℕ) → nat_eq a b ≡ nat_eq b a
same_eq a b = elim (cases_Bool (nat_eq a b)) [
  | inl t ↦ t ∙ sym (eq-eqb b a (sym (eqb-true a b t)))
  | inr f ↦ f ∙ sym (ne_eqb b a (λ e. eqb-false a b f (sym e)))
]

pub starts_begins : (part text : List ℕ) → starts_with nat_eq text part ≡ begins_with part text
starts_begins [] text = refl
starts_begins (p ∷ part) [] = refl
starts_begins (p ∷ part) (t ∷ text) = rw (same_eq p t, starts_begins part text) refl

amid_so : (part text : List ℕ) → occurs_in part text ≡ true → IsAmid part text
amid_so part [] h = let at = begins_so part [] h in ([], at.0, at.1)
amid_so part (t ∷ text) h = elim (or_cases (begins_with part (t ∷ text)) (occurs_in part text) h) [
  | inl here ↦ let at = begins_so part (t ∷ text) here in ([], at.0, at.1)
  | inr later ↦ let at = amid_so part text later in (t ∷ at.0, at.1, ap (λ (s : List ℕ). t ∷ s) at.2)
]

occurs_amid : (part front rest : List ℕ) → occurs_in part (front ++ (part ++ rest)) ≡ true
occurs_amid [] [] [] = refl
occurs_amid [] [] (r ∷ rest) = refl
occurs_amid (p ∷ part) [] rest = or_left (begins_with (p ∷ part) (p ∷ (part ++ rest))) (occurs_in (p ∷ part) (part ++ rest))
    (begins_front (p ∷ part) rest)
occurs_amid part (f ∷ front) rest =
    or_right (begins_with part (f ∷ (front ++ (part ++ rest)))) (occurs_in part (front ++ (part ++ rest))) (occurs_amid part front rest)

occurs_where : (part text : List ℕ) (k : ℕ) → OccursAt text part k → occurs_in part text ≡ true
occurs_where part text k h =
    let at : drop k text ≡ part ++ drop (k + length part) text = at_from_reads 0 text part k h.fits h.reads in
    let whole : text ≡ take k text ++ (part ++ drop (k + length part) text) =
    sym (take-append-drop k text) ∙ ap (λ (s : List ℕ). take k text ++ s) at in
    ap (occurs_in part) whole ∙ occurs_amid part (take k text) (drop (k + length part) text)

drop_front : (front rest : List ℕ) → drop (length front) (front ++ rest) ≡ rest
drop_front [] rest = refl
drop_front (f ∷ front) rest = drop_front front rest

where_amid : (part text : List ℕ) → IsAmid part text → (k : ℕ) × (k ≤ length text) × OccursAt text part k
where_amid part text at =
    let front = at.0 in
    let rest = at.1 in
    let lengths : length text ≡ length front + (length part + length rest) =
    ap length at.2 ∙ length-append front (part ++ rest) ∙ ap (λ n. length front + n) (length-append part rest) in
    let behind : drop (length front) text ≡ part ++ rest = ap (drop (length front)) at.2 ∙ drop_front front (part ++ rest) in
    (length front, omega arith, record { fits = omega arith; reads = at_reads 0 text part (length front) rest behind })

pub found_occurs : (part text : List ℕ) (r : Option ℕ) → FindsNeedle text part 0 r → is_some r ≡ occurs_in part text
found_occurs part text (Some k) h = sym (occurs_where part text k h.1)
found_occurs part text None h =
    sym (false_from_ne_true (occurs_in part text)
    (λ yes. let at = where_amid part text (amid_so part text yes) in h at.0 (omega arith) (omega (arith, at.1)) at.2))
