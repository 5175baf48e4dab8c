-- What is given out of an answer, and what is added to it.
use Rattle.std.proofs.Common.{◌≡◌, ℕ, ◌+◌, ◌≤◌, ◌<◌, Bool, true, false, List, ◌++◌, length, take, refl, sym, ap, ◌∙◌, arith}
use Rattle.std.proofs.lemmas.Bool.{leb-false, leb-true}
use Rattle.std.proofs.lemmas.List.{length-take, take-append-le, take-take, take_all}
use Rattle.std.specs.Prelude.{nat_le}
use Rattle.machine_core.specs.Front.{SameFront, front_of, longest_answer}

-- the same fronts of which one is all there is are all of both
same_short : (n : ℕ) (a b : List ℕ) → take n a ≡ take n b → length a < n → a ≡ b
same_short n a b same short =
    let taken : length (take n a) ≡ length (take n b) = ap length same in
    let few : length b < n = omega (arith, taken, length-take n a, length-take n b) in
    sym (take_all n a (omega (arith, short))) ∙ same ∙ take_all n b (omega (arith, few))

same_long : (n : ℕ) (a b : List ℕ) → take n a ≡ take n b → n ≤ length a → n ≤ length b
same_long n a b same long =
    let taken : length (take n a) ≡ length (take n b) = ap length same in
    omega (arith, taken, length-take n a, length-take n b)

-- what is added to both leaves them the same
more_taken : (n : ℕ) (a b more : List ℕ) → take n a ≡ take n b → take n (a ++ more) ≡ take n (b ++ more)
more_taken n a b more same = of (nat_le n (length a)) refl
  where
    of : (long : Bool) → nat_le n (length a) ≡ long → take n (a ++ more) ≡ take n (b ++ more)
    of true long =
        let far : n ≤ length a = leb-true n (length a) long in
        take-append-le n a more far ∙ same ∙ sym (take-append-le n b more (same_long n a b same far))
    of false short = ap (λ x. take n (x ++ more)) (same_short n a b same (leb-false n (length a) short))

pub more_told : (a b more : List ℕ) → SameFront a b → SameFront (a ++ more) (b ++ more)
unfolding front_of
more_told a b more same = more_taken (longest_answer + 1) a b more same

-- behind an answer that is too long nothing is given out
pub nothing_told : (a more : List ℕ) → longest_answer < length a → SameFront a (a ++ more)
unfolding front_of
nothing_told a more long = sym (take-append-le (longest_answer + 1) a more (omega (arith, long)))

-- of what is cut to it the same is given out, and it isn't longer
pub cut_told : (a : List ℕ) → SameFront (front_of a) a
unfolding front_of
cut_told a = take-take (longest_answer + 1) (longest_answer + 1) a (omega arith)

pub cut_shorter : (a : List ℕ) → length (front_of a) ≤ length a
unfolding front_of
cut_shorter a = omega (arith, length-take (longest_answer + 1) a)

-- an answer that is sent is given out as it is
pub short_told : (a b : List ℕ) → SameFront a b → length a ≤ longest_answer → a ≡ b
unfolding front_of
short_told a b same short = same_short (longest_answer + 1) a b same (omega (arith, short))

pub sent_whole : (a : List ℕ) → length a ≤ longest_answer → front_of a ≡ a
unfolding front_of
sent_whole a short = take_all (longest_answer + 1) a (omega (arith, short))

-- and of a longer one too much
pub never_sent : (a : List ℕ) → longest_answer < length a → longest_answer < length (front_of a)
unfolding front_of
never_sent a long = omega (arith, long, length-take (longest_answer + 1) a)
