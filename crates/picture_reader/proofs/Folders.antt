-- The folder of a path, by its last slash.
use Rattle.std.proofs.Common.{◌≡◌, ℕ, ◌+◌, ◌-◌, ◌≤◌, ◌<◌, List, [], length, get_or, take, drop, Some, None}
use Rattle.std.proofs.Common.{Bor, MatchOption}
use Rattle.std.proofs.Common.{sym, ap, ◌∙◌, arith, eq-eqb, ne_eqb, get_or-drop, length-drop}
use Rattle.std.specs.declared.option.Option.{Option}
use Rattle.std.specs.Str.{NoCharPasses}
use Rattle.std.specs.Str.Pattern.{RFindsChar}
use Rattle.std.specs.Option.{option_map_or}
use Rattle.std.specs.Prelude.{not, ◌==◌}
use Rattle.std.specs.List.{suffix_len}
use Rattle.std.proofs.lemmas.List.Sums.{suffix_len_is}
use Rattle.std.proofs.lemmas.Str.Pattern.{NoCharPasses-char, drop_at_char}
use Rattle.picture_reader.specs.Pictures.{folder_of}

-- a path without a slash
pub no_slash : (path : List ℕ) → RFindsChar 47 path None → [] ≡ folder_of path
no_slash path none =
    let all : suffix_len (λ (b : ℕ). not (b == 47)) path ≡ length path - 0 =
    suffix_len_is (λ (b : ℕ). not (b == 47)) path 0 0 (omega arith)
    (λ k past within. ap not (ne_eqb (get_or path k 0) 47 (NoCharPasses-char 47 path k none (omega arith) within)))
    (λ some. absurd (omega (arith, some))) in
    let zero : length path - suffix_len (λ (b : ℕ). not (b == 47)) path - 1 ≡ 0 = omega (arith, all) in
    sym (ap (λ n. take n path) zero)

-- none stands behind the last
later : (path : List ℕ) (i j k : ℕ) → NoCharPasses (λ d. d == 47) (drop j path) → j ≡ i + 1 → i + 1 ≤ k → k < length path
    → get_or path k 0 ≡ 47 → ⊥
later path i j k none next past within is =
    let back : j + (k - j) ≡ k = omega arith in
    NoCharPasses-char 47 (drop j path) (k - j) none (omega arith) (omega (arith, length-drop j path))
    (get_or-drop j path (k - j) 0 ∙ ap (λ n. get_or path n 0) back ∙ is)

-- one whose last slash stands at i
pub slash_at : (path : List ℕ) (i j : ℕ) → RFindsChar 47 path (Some (i, j)) → take i path ≡ folder_of path
slash_at path i j found =
    let next : j ≡ i + 1 = omega (arith, found.1.ends) in
    let within : i < length path = omega (arith, ap length (drop_at_char 47 path i j found.1 (omega arith)), length-drop i path) in
    let behind : suffix_len (λ (b : ℕ). not (b == 47)) path ≡ length path - (i + 1) =
    suffix_len_is (λ (b : ℕ). not (b == 47)) path (i + 1) 0 (omega arith)
    (λ k past inside. ap not (ne_eqb (get_or path k 0) 47 (later path i j k found.0 next past inside)))
    (λ some. ap not (eq-eqb _ 47 (ap (λ n. get_or path n 0) {x = i + 1 - 1} {y = i} (omega arith) ∙ found.1.byte (omega arith)))) in
    let here : length path - suffix_len (λ (b : ℕ). not (b == 47)) path - 1 ≡ i = omega (arith, behind) in
    sym (ap (λ n. take n path) here)

-- what a split at the last slash gives
pub folder_is : (path : List ℕ) (r : Option (Bor (List ℕ) × Bor (List ℕ)))
    → MatchOption r (RFindsChar 47 path None) (λ x. (i : ℕ) × (j : ℕ) × RFindsChar 47 path (Some (i, j)) × (x.0.now ≡ take i path)
    × (x.1.now ≡ drop j path) × (i ≤ j) × (length x.0.now ≡ i) × (length x.1.now + j ≡ length path))
    → option_map_or (λ (x : Bor (List ℕ) × Bor (List ℕ)). x.0.now) r [] ≡ folder_of path
folder_is path None none = no_slash path none
folder_is path (Some x) found = found.3 ∙ slash_at path found.0 found.1 found.2
