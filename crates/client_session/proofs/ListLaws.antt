-- What holds of lists that are within their limits.
use Rattle.std.proofs.Common.{◌≡◌, ℕ, ◌+◌, ◌<◌, ◌≤◌, List, [], ◌∷◌, ◌++◌, length, Bool, true, false, ◌&&◌, nat_le, nat_lt, refl, sym, ◌∙◌}
use Rattle.std.proofs.Common.{ap, arith, length-append}
use Rattle.std.specs.List.{concat}
use Rattle.std.proofs.lemmas.Bool.{leb-true, ltb-true}
use Rattle.std.proofs.lemmas.List.{append-nil}
use Rattle.std.proofs.lemmas.List.Folds.{concat-append}
use Rattle.client_session.specs.Lists.{command_limit, list_limit, has_room, IsList}

both : (a b : Bool) → (a && b) ≡ true → (a ≡ true) × (b ≡ true)
both true b e = (refl, e)
both false b e = cc

concat-one : (lines : List (List ℕ)) (line : List ℕ) → concat (lines ++ line ∷ []) ≡ concat lines ++ line
concat-one lines line = concat-append lines (line ∷ []) ∙ ap (λ (t : List ℕ). concat lines ++ t) (append-nil line)

-- one command more, where there is room for it
pub one_more : (lines : List (List ℕ)) (line : List ℕ) → has_room lines line ≡ true → IsList (lines ++ line ∷ [])
one_more lines line room =
    let room = both _ _ room in
    record {
      count = omega (arith, ltb-true (length lines) command_limit room.0, length-append lines (line ∷ []));
      bytes = omega (
        arith,
        leb-true (length (concat lines) + length line) list_limit room.1,
        ap length (concat-one lines line),
        length-append (concat lines) line,
      );
    }
