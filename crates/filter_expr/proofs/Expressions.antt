-- How an expression is read, one step after the other.
use Rattle.std.proofs.Common.{◌≡◌, ℕ, zero, suc, ◌-◌, ◌<◌, ◌≤◌, true, false, List, [], ◌∷◌, length, Result, Ok, Err, refl, sym, ap, ◌∙◌}
use Rattle.std.proofs.Common.{subst, arith}
use Rattle.std.specs.Prelude.{codes}
use Rattle.profile.specs.declared.profile.Profile.{Profile}
use Rattle.filter_expr.specs.declared.parts.Stop.{Stop}
use Rattle.filter_expr.specs.Gives.{Stops}
use Rattle.filter_expr.specs.Parts.{Fault, ◌>>=◌, opening, closing, exclamation, begins_so, without_blanks, byte_at, gap_at, between_gaps}
use Rattle.filter_expr.specs.Parts.Fault.{Bad, Deep}
use Rattle.filter_expr.specs.Reading.{Reader, closed, test_at, negation_at, others_at, group_at, inside_at, expression_at}
use Rattle.filter_expr.specs.Tree.{Tree}
use Rattle.filter_expr.specs.Tree.Tree.{And}
use Rattle.filter_expr.proofs.Texts.{stops_then}

less_one : (n : ℕ) → suc n - 1 ≡ n
less_one n = omega arith

-- it begins with a parenthesis, whatever may stand behind
pub expression_form : (profile : Profile) (room : ℕ) (text : List ℕ) → (f : List ℕ → Result (Tree × List ℕ) Fault)
    × (expression_at profile room text ≡ (byte_at opening text >>= f))
unfolding expression_at
expression_form profile zero text = (λ rest. Err (Deep (length text)), refl)
expression_form profile (suc room) text = (λ rest. inside_at profile (expression_at profile room) (without_blanks rest), refl)

pub expression_deep : (profile : Profile) (room : ℕ) (text rest : List ℕ) → room ≡ 0 → byte_at opening text ≡ Ok rest
    → expression_at profile room text ≡ Err (Deep (length text))
unfolding expression_at
expression_deep profile zero text rest e h = ap (λ r. r >>= λ rest. Err (Deep (length text))) h
expression_deep profile (suc room) text rest e h = absurd (omega (arith, e))

pub expression_inside : (profile : Profile) (room : ℕ) (text rest inner : List ℕ) → (room ≡ 0 → ⊥) → byte_at opening text ≡ Ok rest
    → inner ≡ without_blanks rest → expression_at profile room text ≡ inside_at profile (expression_at profile (room - 1)) inner
unfolding expression_at
expression_inside profile zero text rest inner e h i = absurd (e refl)
expression_inside profile (suc room) text rest inner e h i =
    ap (λ r. r >>= λ rest. inside_at profile (expression_at profile room) (without_blanks rest)) h
    ∙ ap (inside_at profile (expression_at profile room)) (sym i) ∙ ap (λ n. inside_at profile (expression_at profile n) inner) (sym (less_one room))

pub inside_group : (profile : Profile) (read : Reader) (inner : List ℕ) → begins_so opening inner ≡ true → inside_at profile read inner ≡ group_at read inner
unfolding inside_at
inside_group profile read inner h = rw h refl

pub inside_negation : (profile : Profile) (read : Reader) (inner : List ℕ) → begins_so opening inner ≡ false → begins_so exclamation inner ≡ true
    → inside_at profile read inner ≡ negation_at read inner
unfolding inside_at
inside_negation profile read inner h k = rw (h, k) refl

pub inside_test : (profile : Profile) (read : Reader) (inner : List ℕ) → begins_so opening inner ≡ false → begins_so exclamation inner ≡ false
    → inside_at profile read inner ≡ test_at profile inner
unfolding inside_at
inside_test profile read inner h k = rw (h, k) refl

pub group_form : (read : Reader) (text : List ℕ) → group_at read text ≡ (read text >>= λ x. others_at read (length x.1) x)
unfolding group_at
group_form read text = refl

pub others_end : (read : Reader) (most : ℕ) (x : Tree × List ℕ) → begins_so closing (without_blanks x.1) ≡ true
    → others_at read most x ≡ closed x
unfolding others_at
others_end read zero x h = refl
others_end read (suc most) x h = rw h refl

pub others_step : (read : Reader) (most : ℕ) (tree : Tree) (rest next : List ℕ) → begins_so closing (without_blanks rest) ≡ false
    → between_gaps (codes "AND") rest ≡ Ok next → 0 < most
    → others_at read most (tree, rest) ≡ (read next >>= λ y. others_at read (most - 1) (And tree y.0, y.1))
unfolding others_at
others_step read zero tree rest next h g lt = absurd (omega arith)
others_step read (suc most) tree rest next h g lt =
    rw h (ap (λ r. r >>= λ behind. read behind >>= λ y. others_at read most (And tree y.0, y.1)) g
    ∙ ap (λ n. read next >>= λ y. others_at read n (And tree y.0, y.1)) (sym (less_one most)))

-- nothing is no blank, and no parenthesis
nothing_read : (tree : Tree) → closed (tree, []) ≡ Err (Bad 0)
unfolding closed without_blanks byte_at
nothing_read tree = refl

nothing_between : between_gaps (codes "AND") [] ≡ Err (Bad 0)
unfolding between_gaps gap_at
nothing_between = refl

same_stop : {A B : Type 0} (stop : Stop) (r : Result A Fault) (s : Result B Fault) → r ≡ Err (Bad 0) → s ≡ Err (Bad 0) → Stops stop r
    → Stops stop s
same_stop {A} {B} stop r s e f h =
    let none : A → Result B Fault = λ x. Err (Bad 0) in
    rw f (subst (λ (q : Result A Fault). Stops stop (q >>= none)) e (stops_then stop r none h))

-- where no blank and no AND stands behind
pub others_gap : (stop : Stop) (read : Reader) (most : ℕ) (tree : Tree) (rest : List ℕ) → length rest ≤ most
    → begins_so closing (without_blanks rest) ≡ false → Stops stop (between_gaps (codes "AND") rest)
    → Stops stop (others_at read most (tree, rest))
unfolding others_at
others_gap stop read zero tree [] le h s =
    same_stop stop (between_gaps (codes "AND") []) (closed (tree, [])) nothing_between (nothing_read tree) s
others_gap stop read zero tree (b ∷ rest) le h s = absurd (omega arith)
others_gap stop read (suc most) tree rest le h s =
    rw h (stops_then stop (between_gaps (codes "AND") rest) (λ next. read next >>= λ y. others_at read most (And tree y.0, y.1)) s)
