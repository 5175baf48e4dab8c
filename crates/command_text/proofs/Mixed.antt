-- How many words expressions and pairs in any order have.
use Rattle.std.proofs.Common.{◌≡◌, ◌≢◌, ℕ, zero, suc, ◌+◌, ◌-◌, ◌≤◌, Bool, true, false, List, [], ◌∷◌, length, take, drop, Option, cond}
use Rattle.std.proofs.Common.{refl, sym, ap}
use Rattle.std.proofs.Common.{◌∙◌, arith, length-drop}
use Rattle.std.proofs.lemmas.List.{drop-drop, take_all}
use Rattle.std.proofs.Math.ListN.{drop_of_length-le}
use Rattle.filter_expr.specs.Parts.{opening, begins_so}
use Rattle.command_text.specs.Counts.{Word}
use Rattle.command_text.specs.Finding.{ends_filter, next_length, mixed_length}

pub expression_counted : (parts : Option Bool) (word : Word) (words : List Word) → begins_so opening word ≡ true
    → mixed_length parts (word ∷ words) ≡ 1 + mixed_length parts words
unfolding mixed_length
expression_counted parts word [] is = rw is refl
expression_counted parts word (other ∷ words) is = rw is refl

pub pair_counted : (parts : Option Bool) (word other : Word) (words : List Word) → begins_so opening word ≡ false
    → ends_filter parts word ≡ false → mixed_length parts (word ∷ other ∷ words) ≡ 2 + mixed_length parts words
unfolding mixed_length
pair_counted parts word other words bare goes = rw (bare, goes) refl

-- none is in front
mixed_none : (parts : Option Bool) (words : List Word) → next_length parts words ≡ 0 → mixed_length parts words ≡ 0
unfolding mixed_length
mixed_none parts [] none = refl
mixed_none parts (word ∷ []) none = none
mixed_none parts (word ∷ other ∷ words) none = by_cases (begins_so opening word) (ends_filter parts word) none
  where
    by_cases : (b e : Bool) → ◌≡◌ {A = ℕ} (cond b 1 (cond e 0 2)) 0
        → ◌≡◌ {A = ℕ} (cond b (1 + mixed_length parts (other ∷ words)) (cond e 0 (2 + mixed_length parts words))) 0
    by_cases true e none = absurd (cc)
    by_cases false true none = refl
    by_cases false false none = absurd (cc)

-- one is in front
mixed_one : (parts : Option Bool) (words : List Word) (n : ℕ) → next_length parts words ≡ suc n
    → mixed_length parts words ≡ suc n + mixed_length parts (drop (suc n) words)
unfolding mixed_length
mixed_one parts [] n some = absurd (cc)
mixed_one parts (word ∷ []) n some = by_cases (begins_so opening word) some
  where
    by_cases : (b : Bool) → ◌≡◌ {A = ℕ} (cond b 1 0) (suc n)
        → ◌≡◌ {A = ℕ} (cond b 1 0) (suc n + mixed_length parts (drop (suc n) (word ∷ [])))
    by_cases true some = let one : n ≡ 0 = omega arith in rw one refl
    by_cases false some = absurd (cc)
mixed_one parts (word ∷ other ∷ words) n some = by_cases (begins_so opening word) (ends_filter parts word) some
  where
    by_cases : (b e : Bool) → ◌≡◌ {A = ℕ} (cond b 1 (cond e 0 2)) (suc n)
        → ◌≡◌ {A = ℕ} (cond b (1 + mixed_length parts (other ∷ words)) (cond e 0 (2 + mixed_length parts words)))
        (suc n + mixed_length parts (drop (suc n) (word ∷ other ∷ words)))
    by_cases true e some = let one : n ≡ 0 = omega arith in rw one refl
    by_cases false true some = absurd (cc)
    by_cases false false some = let one : n ≡ 1 = omega arith in rw one refl

-- the words from a place on, as a slice gives them
pub words_left : (words : List Word) (p : ℕ) → take (length words - p) (drop p words) ≡ drop p words
words_left words p = take_all (length words - p) (drop p words) (omega (arith, length-drop p words))

pub mixed_stop : (parts : Option Bool) (words : List Word) (p next : ℕ) → next ≡ next_length parts (drop p words) → next ≡ 0
    → p + mixed_length parts (drop p words) ≡ p
mixed_stop parts words p next is none =
    let nothing : mixed_length parts (drop p words) ≡ 0 = mixed_none parts (drop p words) (sym is ∙ none) in
    omega arith

pub mixed_go : (parts : Option Bool) (words : List Word) (p next : ℕ) → next ≡ next_length parts (drop p words) → next ≢ 0
    → p + next + mixed_length parts (drop (p + next) words) ≡ p + mixed_length parts (drop p words)
mixed_go parts words p zero is some = absurd (some refl)
mixed_go parts words p (suc n) is some =
    let one : mixed_length parts (drop p words) ≡ suc n + mixed_length parts (drop (suc n) (drop p words)) =
    mixed_one parts (drop p words) n (sym is) in
    let rest : mixed_length parts (drop (suc n) (drop p words)) ≡ mixed_length parts (drop (p + suc n) words) =
    ap (mixed_length parts) (drop-drop (suc n) p words) in
    omega arith

pub mixed_over : (parts : Option Bool) (words : List Word) (p : ℕ) → length words ≤ p → p + mixed_length parts (drop p words) ≡ p
unfolding mixed_length
mixed_over parts words p over =
    let nothing : mixed_length parts (drop p words) ≡ 0 = ap (mixed_length parts) (drop_of_length-le words over) in
    omega arith
