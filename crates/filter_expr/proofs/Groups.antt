-- Groups and whole expressions that are spelled are read.
use Rattle.std.proofs.Common.{◌≡◌, inl, inr, ℕ, zero, suc, ◌+◌, ◌-◌, ◌<◌, ◌≤◌, true, false, List, [], ◌∷◌, ◌++◌, length, Result, Ok, refl}
use Rattle.std.proofs.Common.{sym, ap, ◌∙◌, arith, length-append}
use Rattle.std.proofs.lemmas.List.{append-nil}
use Rattle.std.specs.Prelude.{codes}
use Rattle.profile.specs.declared.profile.Profile.{Profile}
use Rattle.profile.specs.declared.profile.Profile.TheVariants.{Named, Wide}
use Rattle.std.proofs.lemmas.Bool.{and_parts}
use Rattle.std.specs.List.{list_all}
use Rattle.filter_expr.specs.Grammar.{AreBlanks, IsGap, SpellsGroup, SpellsInside, Spells, SpellsWord, IsReadAsSpelled, SpellsOnce}
use Rattle.filter_expr.specs.Parts.{Fault, ◌>>=◌, is_blank, opening, closing, begins_so, without_blanks, between_gaps}
use Rattle.filter_expr.specs.Reading.{Reader, others_at, inside_at, expression_at, alone, trimmed, most_open, whole}
use Rattle.filter_expr.specs.Tree.{Tree}
use Rattle.filter_expr.specs.Tree.Tree.{And}
use Rattle.filter_expr.proofs.Comparisons.{spaced_again}
use Rattle.filter_expr.proofs.Enclosing.{group_parts, enclosed_parts, whole_found}
use Rattle.filter_expr.proofs.Expressions.{inside_group, group_form, others_end}
use Rattle.filter_expr.proofs.Pieces.{ok_same, byte_again, blanks_again, blanks_stop}
use Rattle.filter_expr.proofs.Spelling.{IsComplete, Opens, ReadInside, closed_again, bare_from, opened_bare, simple_inside, negation_inside}

-- one EXPR more
and_step : (read : Reader) (most : ℕ) (left right : Tree) (gap next behind : List ℕ) → begins_so closing (without_blanks gap) ≡ false
    → between_gaps (codes "AND") gap ≡ Ok next → read next ≡ Ok (right, behind)
    → others_at read (suc most) (left, gap) ≡ others_at read most (And left right, behind)
unfolding others_at
and_step read most left right gap next behind h g k =
    rw h (ap (λ (r : Result (List ℕ) Fault). r >>= λ rest. read rest >>= λ y. others_at read most (And left y.0, y.1)) g
    ∙ ap (λ (r : Result (Tree × List ℕ) Fault). r >>= λ y. others_at read most (And left y.0, y.1)) k)

word_bare : (more : List ℕ) → without_blanks (codes "AND" ++ more) ≡ codes "AND" ++ more
unfolding without_blanks
word_bare more = refl

and_again : (read : Reader) (most : ℕ) (left right : Tree) (before after last tail : List ℕ) → IsGap before → IsGap after
    → without_blanks (last ++ tail) ≡ last ++ tail → read (last ++ tail) ≡ Ok (right, tail)
    → others_at read (suc most) (left, before ++ (codes "AND" ++ (after ++ (last ++ tail)))) ≡ others_at read most (And left right, tail)
and_again read most left right before after last tail b a stop h =
    let gap = before ++ (codes "AND" ++ (after ++ (last ++ tail))) in
    let here : without_blanks gap ≡ codes "AND" ++ (after ++ (last ++ tail)) =
    blanks_again before (codes "AND" ++ (after ++ (last ++ tail))) b.0 ∙ word_bare (after ++ (last ++ tail)) in
    let between = spaced_again (codes "AND") before after (last ++ tail) b a (word_bare (after ++ (last ++ tail)))
    ∙ ap (λ (s : List ℕ). Ok s) stop in
    and_step read most left right gap (last ++ tail) tail (ap (begins_so closing) here) between h

behind_less : (before after last tail : List ℕ) → length tail < length (before ++ (codes "AND" ++ (after ++ (last ++ tail))))
behind_less before after last tail =
    let word : length (codes "AND" ++ (after ++ (last ++ tail))) ≡ suc (suc (suc (length (after ++ (last ++ tail))))) = refl in
    omega (
      arith,
      word,
      length-append before (codes "AND" ++ (after ++ (last ++ tail))),
      length-append after (last ++ tail),
      length-append last tail,
    )

-- the first EXPR is read, and then the others, each of which takes a byte at least
abbrev GroupAgain : Reader → ℕ → Tree → List ℕ → List ℕ → Type 0
GroupAgain read n tree text tail =
    (y : Tree × List ℕ) × (read text ≡ Ok y) × (n + length tail ≤ length y.1)
    × ((most fuel : ℕ) → n + most ≡ fuel → others_at read fuel y ≡ others_at read most (tree, tail))

group_again : (read : Reader) (spells : Tree → List ℕ → Type 0) → IsComplete read spells → Opens spells
    → (n : ℕ) (tree : Tree) (front tail : List ℕ) → SpellsGroup spells n tree front → GroupAgain read n tree (front ++ tail) tail
group_again read spells complete opens zero tree front tail h =
    ((tree, tail), complete tree front tail h, omega arith, λ most fuel e. ap (λ (f : ℕ). others_at read f (tree, tail)) (omega (arith, e)))
group_again read spells complete opens (suc n) tree front tail (
  left,
  right,
  first,
  before,
  after,
  last,
  spelled,
  b,
  a,
  second,
  parts,
  says,
) =
    let gap = before ++ (codes "AND" ++ (after ++ (last ++ tail))) in
    let more = group_again read spells complete opens n left first gap spelled in
    let text : front ++ tail ≡ first ++ gap = ap (λ (s : List ℕ). s ++ tail) parts
    ∙ group_parts first before (codes "AND") after last tail in
    let step : (most : ℕ) → others_at read (suc most) (left, gap) ≡ others_at read most (tree, tail) =
    λ most. and_again read most left right before after last tail b a (opened_bare spells opens right last tail second)
    (complete right last tail second) ∙ ap (λ (t : Tree). others_at read most (t, tail)) (sym says) in (
      more.0,
      ap read text ∙ more.1,
      omega (arith, more.2, behind_less before after last tail),
      λ most fuel e. more.3 (suc most) fuel (omega (arith, e)) ∙ step most,
    )

group_opens : (spells : Tree → List ℕ → Type 0) → Opens spells → (n : ℕ) (tree : Tree) (front : List ℕ) → SpellsGroup spells n tree front
    → (more : List ℕ) × (front ≡ opening ∷ more)
group_opens spells opens zero tree front h = opens tree front h
group_opens spells opens (suc n) tree front (left, right, first, before, after, last, spelled, b, a, second, parts, says) =
    let start = group_opens spells opens n left first spelled in
    let behind = before ++ (codes "AND" ++ (after ++ last)) in
    (start.0 ++ behind, parts ∙ ap (λ (s : List ℕ). s ++ behind) start.1)

group_inside : (profile : Profile) (read : Reader) (spells : Tree → List ℕ → Type 0) → IsComplete read spells → Opens spells
    → (n : ℕ) (tree : Tree) (front tail : List ℕ) → begins_so closing (without_blanks tail) ≡ true → SpellsGroup spells n tree front
    → ReadInside profile read tree (front ++ tail) tail
group_inside profile read spells complete opens n tree front tail end h =
    let start = group_opens spells opens n tree front h in
    let text : front ++ tail ≡ opening ∷ (start.0 ++ tail) = ap (λ (s : List ℕ). s ++ tail) start.1 in
    let again = group_again read spells complete opens n tree front tail h in
    let left = length again.0.1 - n in
    let enough : n + left ≡ length again.0.1 = omega (arith, again.2) in
    let first = ap (λ (r : Result (Tree × List ℕ) Fault). r >>= λ x. others_at read (length x.1) x) again.1 in (
      bare_from opening (front ++ tail) (start.0 ++ tail) text (blanks_stop opening (start.0 ++ tail) refl),
      inside_group profile read (front ++ tail) (ap (begins_so opening) text) ∙ group_form read (front ++ tail) ∙ first
          ∙ again.3 left (length again.0.1) enough ∙ others_end read left (tree, tail) end,
    )

inside_again : (profile : Profile) (read : Reader) (spells : Tree → List ℕ → Type 0) → IsComplete read spells → Opens spells
    → (tree : Tree) (front tail : List ℕ) → begins_so closing (without_blanks tail) ≡ true → SpellsInside profile spells tree front
    → ReadInside profile read tree (front ++ tail) tail
inside_again profile read spells complete opens tree front tail end (inl h) = simple_inside profile read tree front tail h
inside_again profile read spells complete opens tree front tail end (inr (inl h)) = negation_inside profile read spells complete opens tree front tail h
inside_again profile read spells complete opens tree front tail end (inr (inr h)) =
    group_inside profile read spells complete opens h.0 tree front tail end h.1

spells_opens : (profile : Profile) (room : ℕ) → Opens (Spells profile room)
unfolding Spells
spells_opens profile zero tree front h = absurd h
spells_opens profile (suc room) tree front h = (h.before ++ (h.inside ++ (h.after ++ closing ∷ [])), h.parts)

end_seen : (after rest : List ℕ) → AreBlanks after → begins_so closing (without_blanks (after ++ closing ∷ rest)) ≡ true
end_seen after rest h = ap (begins_so closing) (blanks_again after (closing ∷ rest) h ∙ blanks_stop closing rest refl)

-- what is spelled is read
pub expression_again : (profile : Profile) (room : ℕ) → IsComplete (expression_at profile room) (Spells profile room)
unfolding expression_at Spells
expression_again profile zero tree front rest h = absurd h
expression_again profile (suc room) tree front rest h =
    let tail = h.after ++ closing ∷ rest in
    let text : front ++ rest ≡ opening ∷ (h.before ++ (h.inside ++ tail)) =
    ap (λ (s : List ℕ). s ++ rest) h.parts ∙ sym (enclosed_parts h.before h.inside h.after rest) in
    let again = inside_again profile (expression_at profile room) (Spells profile room) (expression_again profile room) (spells_opens profile room) tree h.inside tail
    (end_seen h.after rest h.blanks_after) h.spelled in
    ap (expression_at profile (suc room)) text
    ∙ ap (λ (r : Result (List ℕ) Fault). r >>= λ s. inside_at profile (expression_at profile room) (without_blanks s))
    (byte_again opening (h.before ++ (h.inside ++ tail)))
    ∙ ap (inside_at profile (expression_at profile room)) (blanks_again h.before (h.inside ++ tail) h.blanks_before ∙ again.0) ∙ again.1
    ∙ closed_again tree h.after rest h.blanks_after

blanks_gone : (after : List ℕ) → AreBlanks after → without_blanks after ≡ []
unfolding without_blanks
blanks_gone [] h = refl
blanks_gone (b ∷ after) h = let both = and_parts (is_blank b) (list_all is_blank after) h in rw both.0 (blanks_gone after both.1)

pub whole_again : (profile : Profile) (word : List ℕ) (tree : Tree) → SpellsWord profile tree word → whole profile word ≡ Ok tree
unfolding whole
whole_again Named word tree h =
    ap (λ (s : List ℕ). expression_at Named most_open s >>= λ x. alone (x.0, trimmed Named x.1)) (sym (append-nil word))
    ∙ ap (λ (r : Result (Tree × List ℕ) Fault). r >>= λ x. alone (x.0, trimmed Named x.1)) (expression_again Named most_open tree word [] h)
whole_again Wide word tree h =
    ap (λ (s : List ℕ). expression_at Wide most_open s >>= λ x. alone (x.0, trimmed Wide x.1)) h.4
    ∙ ap (λ (r : Result (Tree × List ℕ) Fault). r >>= λ x. alone (x.0, trimmed Wide x.1)) (expression_again Wide most_open tree h.0 h.1 h.2)
    ∙ ap (λ (s : List ℕ). alone (tree, s)) (blanks_gone h.1 h.3)

pub read_as_spelled : IsReadAsSpelled
read_as_spelled profile word tree = (whole_found profile word tree, whole_again profile word tree)

pub spells_once : SpellsOnce
spells_once profile word tree other h k =
    ok_same tree other (sym (whole_again profile word tree h) ∙ whole_again profile word other k)
