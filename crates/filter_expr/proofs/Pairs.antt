-- How pairs and expressions are read, one after the other.
use Rattle.std.proofs.Common.{◌≡◌, ℕ, zero, suc, ◌+◌, ◌-◌, ◌<◌, ◌≤◌, List, [], ◌∷◌, length, take, drop, Result, Ok, Err, refl, sym, ap, ◌∙◌}
use Rattle.std.proofs.Common.{arith, length-drop, Bool, true, false, cond}
use Rattle.std.proofs.Math.ListN.{drop_of_length-le}
use Rattle.profile.specs.declared.profile.Profile.{Profile}
use Rattle.filter_expr.specs.declared.name.Key.{Key}
use Rattle.filter_expr.specs.declared.refusal.FilterError.{FilterError}
use Rattle.filter_expr.specs.declared.refusal.FilterError.TheVariants as errors
use Rattle.filter_expr.specs.Names.{key_named}
use Rattle.filter_expr.specs.Tree.{Tree}
use Rattle.filter_expr.specs.Tree.Tree.{And}
use Rattle.filter_expr.specs.Parts.{opening, begins_so}
use Rattle.filter_expr.specs.Words.{Refusal, ◌>>=◌, Gives, Refuses, keyed, half_pair, pair_at, more_pairs, pairs_of}
use Rattle.filter_expr.specs.Words.{part_of, part_length, more_parts, wide_filter_of}
use Rattle.filter_expr.specs.Words.Refusal.{BadFilter}
use Rattle.filter_expr.proofs.Windows.{all_taken}

pub refuses_then : {A B : Type 0} (error : FilterError) (read : Result A Refusal) (f : A → Result B Refusal) → Refuses error read
    → Refuses error (read >>= f)
refuses_then (errors.BadFilter place) read f h = ap (λ r. r >>= f) h
refuses_then (errors.UnknownTag name) read f h = ap (λ r. r >>= f) h
refuses_then (errors.TooDeep place) read f h = ap (λ r. r >>= f) h
refuses_then errors.NoMemory read f h = tt

-- the exit of a `?`
pub gives_error : {X Y : Type 0} (view : X → Y) (error : FilterError) (r : Result X FilterError) (read : Result Y Refusal)
    → (e : FilterError) × (r ≡ Err e) × (e ≡ error) → Refuses error read → Gives view r read
gives_error view error r read err h = rw (err.1, err.2) h

half_then : (profile : Profile) (number : ℕ) (name : List ℕ) (f : Tree → Result Tree Refusal) → half_pair profile number name ≡ (half_pair profile number name >>= f)
unfolding half_pair
half_then profile number name f = by_cases (keyed (key_named profile name) name)
  where
    by_cases : (read : Result Key Refusal)
        → (read >>= λ key. Err (BadFilter (number + 1) 0)) ≡ ((read >>= λ key. Err (BadFilter (number + 1) 0)) >>= f)
    by_cases (Ok key) = refl
    by_cases (Err error) = refl

pub pairs_form : (profile : Profile) (words : List (List ℕ))
    → pairs_of profile words ≡ (pair_at profile 0 words >>= λ pair. more_pairs profile 2 pair (drop 2 words))
unfolding pairs_of
pairs_form profile words = refl

pub pairs_step : (profile : Profile) (number : ℕ) (tree : Tree) (words : List (List ℕ)) → 0 < length words
    → more_pairs profile number tree words
    ≡ (pair_at profile number words >>= λ pair. more_pairs profile (number + 2) (And tree pair) (drop 2 words))
unfolding more_pairs
pairs_step profile number tree [] lt = absurd (omega arith)
pairs_step profile number tree (name ∷ []) lt = half_then profile number name (λ pair. more_pairs profile (number + 2) (And tree pair) [])
pairs_step profile number tree (name ∷ value ∷ words) lt = refl

pub pairs_end : (profile : Profile) (number : ℕ) (tree : Tree) (words : List (List ℕ)) → length words ≤ number
    → more_pairs profile number tree (drop number words) ≡ Ok tree
unfolding more_pairs
pairs_end profile number tree words le = ap (more_pairs profile number tree) (none_left number words le)
  where
    none_left : (n : ℕ) (ws : List (List ℕ)) → length ws ≤ n → drop n ws ≡ []
    none_left zero [] h = refl
    none_left (suc n) [] h = refl
    none_left zero (w ∷ ws) h = absurd (omega arith)
    none_left (suc n) (w ∷ ws) h = none_left n ws (omega arith)

pub drop_two : (n : ℕ) (ws : List (List ℕ)) → drop 2 (drop n ws) ≡ drop (n + 2) ws
drop_two n ws = rw two (twice n ws)
  where
    two : n + 2 ≡ suc (suc n)
    two = omega arith

    twice : (n : ℕ) (ws : List (List ℕ)) → drop 2 (drop n ws) ≡ drop (suc (suc n)) ws
    twice zero ws = refl
    twice (suc n) [] = refl
    twice (suc n) (w ∷ ws) = twice n ws

pub texts_left : (n : ℕ) (ws : List (List ℕ)) → n < length ws → 0 < length (drop n ws)
texts_left zero ws h = h
texts_left (suc n) [] h = absurd (omega arith)
texts_left (suc n) (w ∷ ws) h = texts_left n ws (omega arith)

-- the words from a place on, as a slice gives them
pub part_texts : (n : ℕ) (words : List (List ℕ)) → take (length words - n) (drop n words) ≡ drop n words
part_texts n words = all_taken (length words - n) (drop n words) (omega (arith, length-drop n words))

-- ---- expressions and pairs in any order

pub parts_form : (words : List (List ℕ))
    → wide_filter_of words
    ≡ (part_of 0 words >>= λ part. more_parts (length words) (part_length words) part (drop (part_length words) words))
unfolding wide_filter_of
parts_form words = refl

pub parts_step : (most number : ℕ) (tree : Tree) (words : List (List ℕ)) → 0 < length words
    → more_parts (suc most) number tree words
    ≡ (part_of number words >>= λ part. more_parts most (number + part_length words) (And tree part) (drop (part_length words) words))
unfolding more_parts
parts_step most number tree [] lt = absurd (omega arith)
parts_step most number tree (word ∷ words) lt = refl

-- what is left leads to the same, one part further
pub parts_again : (most number : ℕ) (tree : Tree) (words : List (List ℕ)) (all : Result Tree Refusal) → 0 < length (drop number words)
    → length words - number ≤ most → more_parts most number tree (drop number words) ≡ all
    → (m : ℕ) × (most ≡ suc m)
    × ((part_of number (drop number words) >>= λ part. more_parts m (number + part_length (drop number words)) (And tree part)
    (drop (part_length (drop number words)) (drop number words))) ≡ all)
parts_again zero number tree words all some few is = absurd (omega (arith, length-drop number words))
parts_again (suc m) number tree words all some few is = (m, refl, sym (parts_step m number tree (drop number words) some) ∙ is)

pub parts_end : (most number : ℕ) (tree : Tree) (words : List (List ℕ)) → length words ≤ number
    → more_parts most number tree (drop number words) ≡ Ok tree
unfolding more_parts
parts_end zero number tree words le = refl
parts_end (suc most) number tree words le = ap (more_parts (suc most) number tree) (drop_of_length-le words le)

pub part_some : (words : List (List ℕ)) → 0 < length words → 0 < part_length words
part_some [] lt = absurd (omega arith)
part_some (word ∷ words) lt = by_cases (begins_so opening word)
  where
    by_cases : (b : Bool) → 0 < cond b 1 2
    by_cases true = omega arith
    by_cases false = omega arith
