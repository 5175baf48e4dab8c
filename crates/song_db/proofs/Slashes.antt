-- A text can be cut at a slash.
use Rattle.std.proofs.Common.{◌≡◌, ℕ, zero, suc, ◌+◌, ◌<◌, ◌≤◌, ◌==◌, true, List, [], ◌∷◌, length, take, drop, get_or}
use Rattle.std.proofs.Common.{nat_eq, Some, sym, ◌∙◌, arith, length-drop}
use Rattle.std.specs.List.{position, slice_index}
use Rattle.std.proofs.lemmas.Bool.Decides.{nat_tests}
use Rattle.std.proofs.lemmas.List.{get_or-drop}
use Rattle.std.proofs.lemmas.List.Quantifiers.{position-Some}
use Rattle.song_db.specs.Place.{is_below}
use Rattle.song_db.proofs.Below.{begins_below, below-bytes}

pub slash_ends : (path : List ℕ) (skip n : ℕ) → skip ≤ length path → Some n ≡ position (λ b. b == 47) (drop skip path)
    → (skip + n ≤ length path) × (skip + n < length path → 128 ≤ slice_index path (skip + n) → 192 ≤ slice_index path (skip + n))
slash_ends path skip n within is =
    let found = position-Some (λ b. b == 47) (drop skip path) n 0 (sym is) in
    let below : n < length (drop skip path) = found.0 in
    let test : nat_eq (get_or (drop skip path) n 0) 47 ≡ true = found.1 in
    let there : get_or (drop skip path) n 0 ≡ 47 = grind (arith, nat_tests) in
    let slash : get_or path (skip + n) 0 ≡ 47 = sym (get_or-drop skip path n 0) ∙ there in
    (omega (arith, length-drop skip path), λ under high. omega arith)

pub begins_cut : (path : List ℕ) (n : ℕ) → n < length path → get_or path n 0 ≡ 47 → begins_below (take n path) path ≡ true
begins_cut [] n within slash = absurd (omega arith)
begins_cut (y ∷ ys) zero within slash = grind (arith, nat_tests)
begins_cut (y ∷ ys) (suc n) within slash =
    let itself : nat_eq y y ≡ true = grind (arith, nat_tests) in
    rw itself (begins_cut ys n (omega arith) slash)

-- what stands in front of a slash is a folder that the path stands below
pub cut_below : (path : List ℕ) (skip n : ℕ) → skip ≤ length path → Some n ≡ position (λ b. b == 47) (drop skip path)
    → is_below (take (skip + n) path) path ≡ true
cut_below path skip n within is =
    let found = position-Some (λ b. b == 47) (drop skip path) n 0 (sym is) in
    let test : nat_eq (get_or (drop skip path) n 0) 47 ≡ true = found.1 in
    let there : get_or (drop skip path) n 0 ≡ 47 = grind (arith, nat_tests) in
    let slash : get_or path (skip + n) 0 ≡ 47 = sym (get_or-drop skip path n 0) ∙ there in
    below-bytes (take (skip + n) path) path ∙ begins_cut path (skip + n) (omega (arith, found.0, length-drop skip path)) slash
