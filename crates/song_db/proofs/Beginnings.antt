-- What a path begins with.
use Rattle.std.proofs.Common.{◌≡◌, ℕ, zero, suc, ◌+◌, ◌<◌, ◌≤◌, Bool, true, false, List, [], ◌∷◌, ◌++◌, length, take, drop, map}
use Rattle.std.proofs.Common.{get_or, nat_lt, nat_eq, cond, refl, sym, ap, ◌∙◌, arith}
use Rattle.std.proofs.lemmas.Bool.Decides.{nat_tests}
use Rattle.std.proofs.lemmas.List.{get_or-map, length-map}
use Rattle.std.specs.Prelude.{min}
use Rattle.std.specs.List.{common_prefix_len}
use Rattle.std.specs.declared.cmp.Ordering.TheVariants.{Less, Equal, Greater}
use Rattle.std.specs.Ordering.{is_lt, ordering_then}
use Rattle.song_db.specs.Walk.{beginnings}
use Rattle.song_db.proofs.Rising.{texts}

pub beginnings-length : (path : List ℕ) → length (beginnings path) ≡ length path
beginnings-length [] = refl
beginnings-length (b ∷ path) = omega (arith, length-map (beginnings path) (λ p. b ∷ p), beginnings-length path)

pub beginnings_at : (path : List ℕ) (k : ℕ) (d : List ℕ) → k < length path → get_or (beginnings path) k d ≡ take (suc k) path
beginnings_at [] k d within = absurd (omega arith)
beginnings_at (b ∷ path) zero d within = refl
beginnings_at (b ∷ path) (suc k) d within =
    let inner : k < length (beginnings path) = omega (arith, beginnings-length path) in
    get_or-map (λ p. b ∷ p) (beginnings path) k [] d inner ∙ ap (λ p. b ∷ p) (beginnings_at path k [] (omega arith))

pub drop-map : {X Y : Type 0} (f : X → Y) (n : ℕ) (xs : List X) → drop n (map f xs) ≡ map f (drop n xs)
drop-map f zero xs = refl
drop-map f (suc n) [] = refl
drop-map f (suc n) (x ∷ xs) = drop-map f n xs

pub next_beginning : (n : ℕ) (path : List ℕ) → n < length path
    → drop n (beginnings path) ≡ take (suc n) path ∷ drop (suc n) (beginnings path)
next_beginning zero [] within = absurd (omega arith)
next_beginning (suc n) [] within = absurd (omega arith)
next_beginning zero (b ∷ path) within = refl
next_beginning (suc n) (b ∷ path) within =
    let rest = next_beginning n path (omega arith) in
    drop-map (λ p. b ∷ p) n (beginnings path) ∙ ap (λ ps. map (λ p. b ∷ p) ps) rest
    ∙ ap (λ ps. (b ∷ take (suc n) path) ∷ ps) (sym (drop-map (λ p. b ∷ p) (suc n) (beginnings path)))

pub no_beginning : (n : ℕ) (path : List ℕ) → length path ≤ n → drop n (beginnings path) ≡ []
no_beginning zero [] past = refl
no_beginning (suc n) [] past = refl
no_beginning zero (b ∷ path) past = absurd (omega arith)
no_beginning (suc n) (b ∷ path) past =
    drop-map (λ p. b ∷ p) n (beginnings path) ∙ ap (λ ps. map (λ p. b ∷ p) ps) (no_beginning n path (omega arith))

none_common : (path : List ℕ) → common_prefix_len (λ a b. nat_eq a b) path [] ≡ 0
none_common [] = refl
none_common (x ∷ xs) = refl

-- behind the end of either path they have nothing in common
pub common_end : (path other : List ℕ) (n : ℕ) → min (length path) (length other) ≤ n
    → common_prefix_len (λ a b. nat_eq a b) (drop n path) (drop n other) ≡ 0
common_end [] other zero past = refl
common_end [] other (suc n) past = refl
common_end (x ∷ xs) [] zero past = refl
common_end (x ∷ xs) [] (suc n) past = none_common (drop n xs)
common_end (x ∷ xs) (y ∷ ys) zero past = absurd (omega arith)
common_end (x ∷ xs) (y ∷ ys) (suc n) past = common_end xs ys n (omega arith)

-- two paths begin alike, up to what they share
pub shared_beginning : (k : ℕ) (path other : List ℕ) → k ≤ common_prefix_len (λ a b. nat_eq a b) path other
    → take k path ≡ take k other
shared_beginning zero path other within = refl
shared_beginning (suc k) [] other within = absurd (omega arith)
shared_beginning (suc k) (x ∷ path) [] within = absurd (omega arith)
shared_beginning (suc k) (x ∷ path) (y ∷ other) within = by_cases (nat_eq x y) refl within (shared_beginning k path other)
  where
    by_cases : (b : Bool) → nat_eq x y ≡ b → suc k ≤ cond b (1 + common_prefix_len (λ a b. nat_eq a b) path other) 0
        → (k ≤ common_prefix_len (λ a b. nat_eq a b) path other → take k path ≡ take k other)
        → (x ∷ take k path) ≡ (y ∷ take k other)
    by_cases true h within rest =
        let same : x ≡ y = grind (arith, nat_tests) in
        rw same (ap (λ l. y ∷ l) (rest (omega arith)))
    by_cases false h within rest = absurd (omega arith)

-- a path that rises from another, and leaves what that began with, leaves behind all that stands below it
pub passed : (folder more next : List ℕ) → texts (folder ++ more) next ≡ Less
    → common_prefix_len (λ a b. nat_eq a b) (folder ++ more) next < length folder
    → is_lt (texts next (folder ++ 48 ∷ [])) ≡ false
passed [] more next less short = absurd (omega arith)
passed (x ∷ xs) more [] less short = absurd (cc)
passed (x ∷ xs) more (y ∷ ys) less short =
    by_cases (nat_lt x y) refl (nat_eq x y) refl (nat_lt y x) refl (nat_eq y x) refl less short (passed xs more ys)
  where
    by_cases : (a : Bool) → nat_lt x y ≡ a → (b : Bool) → nat_eq x y ≡ b → (c : Bool) → nat_lt y x ≡ c → (d : Bool) → nat_eq y x ≡ d
        → ordering_then (cond a Less (cond b Equal Greater)) (texts (xs ++ more) ys) ≡ Less
        → cond b (1 + common_prefix_len (λ a b. nat_eq a b) (xs ++ more) ys) 0 < length (x ∷ xs)
        → (texts (xs ++ more) ys ≡ Less → common_prefix_len (λ a b. nat_eq a b) (xs ++ more) ys < length xs
        → is_lt (texts ys (xs ++ 48 ∷ [])) ≡ false)
        → is_lt (ordering_then (cond c Less (cond d Equal Greater)) (texts ys (xs ++ 48 ∷ []))) ≡ false
    by_cases true g b h true k d l less short rest = absurd (grind (arith, nat_tests))
    by_cases true g b h false k true l less short rest = absurd (grind (arith, nat_tests))
    by_cases true g b h false k false l less short rest = refl
    by_cases false g true h true k d l less short rest = absurd (grind (arith, nat_tests))
    by_cases false g true h false k true l less short rest = rest less (omega arith)
    by_cases false g true h false k false l less short rest = refl
    by_cases false g false h c k d l less short rest = absurd (cc)
