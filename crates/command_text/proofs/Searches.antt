-- What the searches for a byte say of the parts of a line.
use Rattle.std.proofs.Common.{◌≡◌, ◌≢◌, ℕ, ◌+◌, ◌-◌, ◌<◌, ◌≤◌, List, [], ◌∷◌, ◌++◌, length, take, drop, get_or, Bool, true, false, ◌||◌}
use Rattle.std.proofs.Common.{not, ◌==◌, None, refl, sym, ◌∙◌, ap, subst, arith}
use Rattle.std.proofs.lemmas.List.{append-nil, take-append-drop, length-drop, get_or-drop}
use Rattle.std.proofs.lemmas.Bool.Decides.{Decides-eqb}
use Rattle.std.proofs.Math.Seq.{take-add}
use Rattle.std.proofs.Math.ListN.{drop_of_length-le}
use Rattle.memchr.specs.Find.{IsFirstByte, NoneBefore, Passes, is_byte2}
use Rattle.command_text.specs.Words.{backslash, words_from}
use Rattle.command_text.specs.NextWord.{IsClosedAt, unescaped}
use Rattle.command_text.specs.Words.Standing.{Quoted}
use Rattle.command_text.proofs.Lists.{drop_at, take_whole, all_before}
use Rattle.command_text.proofs.Parting.{IsPiece, is_special, piece_append, piece_run, piece_escape, piece_closed, never_closed}
use Rattle.command_text.proofs.Parting.{escapes_nothing}

-- what is searched behind the first bytes
abbrev pub behind : List ℕ → ℕ → List ℕ
behind s passed = take (length s - passed) (drop passed s)

pub behind_is : (s : List ℕ) (passed : ℕ) → behind s passed ≡ drop passed s
behind_is s passed = let h : length (drop passed s) ≤ length s - passed = omega (arith, length-drop passed s) in take_whole (drop passed s)
    (length s - passed) h

pub not_true : (b : Bool) → (b ≡ true → ⊥) → not b ≡ true
not_true true n = absurd (n refl)
not_true false n = refl

-- the first quote or backslash behind a piece
pub record IsSpecialAt (inside : List ℕ) (place : ℕ) : Type 0 where
  pub within : place < length inside
  pub piece : IsPiece (take place inside)
  pub special : is_special (get_or inside place 0) ≡ true

-- no quote and no backslash stands at the first places of a list
clean_run : (t : List ℕ) (n : ℕ) → n ≤ length t → ((k : ℕ) → 0 ≤ k → k < n → Passes (is_byte2 34 92) t k → ⊥) → IsPiece (take n t)
clean_run t n le before =
    piece_run (take n t)
    (all_before (λ c. not (is_special c)) t n le (λ k h. not_true (is_special (get_or t k 0)) (before k (omega arith) h)))

longer : (inside : List ℕ) (passed n : ℕ) → IsPiece (take passed inside) → IsPiece (take n (drop passed inside))
    → IsPiece (take (passed + n) inside)
longer inside passed n p q = subst IsPiece (sym (take-add passed n inside))
    (piece_append (take passed inside) (take n (drop passed inside)) p q)

pub found_special : (inside : List ℕ) (passed run : ℕ) → passed ≤ length inside → IsPiece (take passed inside)
    → NoneBefore (Passes (is_byte2 34 92) (behind inside passed)) 0 (length (behind inside passed)) run
    × Passes (is_byte2 34 92) (behind inside passed) run
    → IsSpecialAt inside (passed + run)
found_special inside passed run le p found =
    let F : List ℕ → Type 0 = λ t. NoneBefore (Passes (is_byte2 34 92) t) 0 (length t) run × Passes (is_byte2 34 92) t run in
    let f : F (drop passed inside) = subst F (behind_is inside passed) found in
    let high : run < length inside - passed = omega (arith, f.0.high, length-drop passed inside) in
    record {
      within = omega arith;
      piece = longer inside passed run p (clean_run (drop passed inside) run (omega (arith, f.0.high)) f.0.before);
      special = ap is_special (sym (get_or-drop passed inside run 0)) ∙ f.1;
    }

pub closed_at : (inside : List ℕ) (place : ℕ) → IsSpecialAt inside place → get_or inside place 0 ≡ 34 → IsClosedAt inside place
closed_at inside place at e = piece_closed inside place at.within at.piece e

or_right : (a b : Bool) → (a || b) ≡ true → (a ≡ true → ⊥) → b ≡ true
or_right true b e n = absurd (n refl)
or_right false b e n = e

is_escape : (c : ℕ) → is_special c ≡ true → c ≢ 34 → c ≡ backslash
is_escape c h ne = (Decides-eqb c 92).0 (or_right (c == 34) (c == 92) h (λ e. ne ((Decides-eqb c 34).0 e)))

escaped_rest : (inside : List ℕ) (place : ℕ) → IsSpecialAt inside place → get_or inside place 0 ≢ 34
    → drop place inside ≡ backslash ∷ drop (place + 1) inside
escaped_rest inside place at ne =
    drop_at inside place at.within ∙ ap (λ (c : ℕ). c ∷ drop (place + 1) inside) (is_escape (get_or inside place 0) at.special ne)

pub ends_escaped : (inside : List ℕ) (place : ℕ) → IsSpecialAt inside place → get_or inside place 0 ≢ 34 → place + 1 ≡ length inside
    → words_from (Quoted []) inside ≡ None
ends_escaped inside place at ne last =
    let nothing : drop (place + 1) inside ≡ [] = drop_of_length-le inside (omega arith) in
    let e : drop place inside ≡ backslash ∷ [] = escaped_rest inside place at ne ∙ ap (λ (r : List ℕ). backslash ∷ r) nothing in
    ap (words_from (Quoted [])) (sym (take-append-drop place inside) ∙ ap (λ (r : List ℕ). take place inside ++ r) e)
    ∙ at.piece.words [] (backslash ∷ []) ∙ escapes_nothing (unescaped (take place inside))

pub piece_past : (inside : List ℕ) (place : ℕ) → IsSpecialAt inside place → get_or inside place 0 ≢ 34 → place + 1 ≢ length inside
    → (place + 2 ≤ length inside) × IsPiece (take (place + 2) inside)
piece_past inside place at ne last =
    let w : place < length inside = at.within in
    let lt : place + 1 < length inside = omega arith in
    let e : drop place inside ≡ backslash ∷ (get_or inside (place + 1) 0 ∷ drop (place + 1 + 1) inside) =
    escaped_rest inside place at ne ∙ ap (λ (r : List ℕ). backslash ∷ r) (drop_at inside (place + 1) lt) in
    let two : take 2 (drop place inside) ≡ backslash ∷ (get_or inside (place + 1) 0 ∷ []) = ap (take 2) e in
    (omega arith, longer inside place 2 at.piece (subst IsPiece (sym two) (piece_escape (get_or inside (place + 1) 0))))

pub no_special : (inside : List ℕ) (passed : ℕ) → passed ≤ length inside → IsPiece (take passed inside)
    → IsFirstByte (is_byte2 34 92) (behind inside passed) None → words_from (Quoted []) inside ≡ None
no_special inside passed le p none =
    let F : List ℕ → Type 0 = λ t. IsFirstByte (is_byte2 34 92) t None in
    let f : F (drop passed inside) = subst F (behind_is inside passed) none in
    let rest = drop passed inside in
    let run : IsPiece (take (length rest) rest) = clean_run rest (length rest) (omega arith) f in
    let whole : IsPiece rest = subst IsPiece (take_whole rest (length rest) (omega arith)) run in
    let all : IsPiece inside = subst IsPiece (take-append-drop passed inside) (piece_append (take passed inside) rest p whole) in
    ap (words_from (Quoted [])) (sym (append-nil inside)) ∙ all.words [] [] ∙ never_closed (unescaped inside)
