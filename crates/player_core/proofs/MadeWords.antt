-- Words that a generator makes one after the other.
use Rattle.std.proofs.Common.{◌≡◌, ◌≢◌, ◌⊎◌, inl, inr, ℕ, ◌+◌, ◌<◌, ◌≤◌, ◌%◌, ◌^◌, List, length, set, get_or, ap, ◌∙◌, arith}
use Rattle.std.proofs.lemmas.Bool.{cases_lt}
use Rattle.std.proofs.lemmas.List.{get_or-set_other, get_or-set_same}
use Rattle.rand_chacha.specs.ChaCha.{ChaCha, key_of, next_word}
use Rattle.player_core.specs.Words.{word}

-- the generator at the word of an id
abbrev pub at_id : List ℕ → ℕ → ℕ → ChaCha
at_id key order id = record { key = key_of key; stream = order; word_pos = id }

pub word_made : (key : List ℕ) (order id made : ℕ) (g next : ChaCha) → (made, next) ≡ next_word 4 g → g ≡ at_id key order id
    → made ≡ word key order id
unfolding word
word_made key order id made g next step there = ap (λ (p : ℕ × ChaCha). p.0) step ∙ ap (λ (g : ChaCha). (next_word 4 g).0) there

pub next_at : (key : List ℕ) (order id after made : ℕ) (g next : ChaCha) → (made, next) ≡ next_word 4 g → g ≡ at_id key order id
    → after ≡ id + 1 → after < 2 ^ 68 → next ≡ at_id key order after
next_at key order id after made g next step there is low =
    let place : (id + 1) % 2 ^ 68 ≡ after = omega arith in
    ap (λ (p : ℕ × ChaCha). p.1) step ∙ ap (λ (g : ChaCha). (next_word 4 g).1) there ∙ ap (at_id key order) place

pub words_more : (key : List ℕ) (order first at made : ℕ) (words : List ℕ) → at < length words → made ≡ word key order (first + at)
    → ((i : ℕ) → i < at → get_or words i 0 ≡ word key order (first + i)) → (i : ℕ) → i < at + 1
    → get_or (set words at made) i 0 ≡ word key order (first + i)
words_more key order first at made words within is so_far i below = by_cases (cases_lt i at)
  where
    by_cases : (i < at) ⊎ (at ≤ i) → get_or (set words at made) i 0 ≡ word key order (first + i)
    by_cases (inl under) = let other : i ≢ at = omega arith in rw get_or-set_other (so_far i under)
    by_cases (inr from) = let same : i ≡ at = omega arith in rw (same, get_or-set_same) is
