use Rattle.std.proofs.Common.{◌≡◌, ◌∙◌, ◌+◌, ◌<◌, Bool, true, false, not, [], length, get_or, refl, sym, arith}
use Rattle.std.specs.Str.{bytes_eq}
use Rattle.std.proofs.lemmas.List.{get_or_default}
use Rattle.stored_lists.proofs.Turned.{moves, stays, equal_more}
use Rattle.stored_lists.proofs.songs.Songs.would_move.Goals as goal

not_true : (b : Bool) → not b ≡ true → b ≡ false
not_true true is = absurd (cc)
not_true false is = refl

not_false : (b : Bool) → not b ≡ false → b ≡ true
not_false true is = refl
not_false false is = absurd (cc)

pub returns-then-differ-clause-changes : goal.returns-then-differ-clause-changes
returns-then-differ-clause-changes c =
    let xs = c.self.inside.uris.items in
    let at = c.loop-at.at in
    let in_from = rw (← c.self.view_is) at c.requires.from_in_range in
    let in_to = rw (← c.self.view_is) at c.requires.to_in_range in
    let in_at : at + 1 < length xs = omega (arith, c.max-at-end.ensures, in_from, in_to) in
    let one : c.index.result.now ≡ get_or xs at [] = c.index.ensures ∙ get_or_default xs at c.index.result.now [] (omega arith) in
    let other : c.index-in-loop-at.result.now ≡ get_or xs (at + 1) [] = c.index-in-loop-at.ensures
    ∙ get_or_default xs (at + 1) c.index-in-loop-at.result.now [] in_at in
    let apart : bytes_eq (get_or xs at []) (get_or xs (at + 1) []) ≡ false =
    rw (one, other) at (not_true (bytes_eq c.index.result.now c.index-in-loop-at.result.now)
    (sym c.differ.ensures ∙ c.if-differ.true)) in
    rw (← c.self.view_is) (moves xs c.args.from c.args.to at in_from in_to (omega (arith, c.min-at.ensures))
    (omega (arith, c.max-at-end.ensures)) apart)

pub returns-clause-stays : goal.returns-clause-stays
returns-clause-stays c =
    let in_from = rw (← c.self.view_is) at c.requires.from_in_range in
    let in_to = rw (← c.self.view_is) at c.requires.to_in_range in
    let equal = rw (← c.self.view_is) at c.loop-at.invariant in
    rw (← c.self.view_is) (stays c.self.inside.uris.items c.args.from c.args.to in_from in_to
    (λ k low high. equal k low (omega (arith, c.max-at-end.ensures))))

pub loop-at-preserved : goal.loop-at-preserved
loop-at-preserved c =
    let xs = c.self.inside.uris.items in
    let at = c.loop-at.at in
    let in_from = rw (← c.self.view_is) at c.requires.from_in_range in
    let in_to = rw (← c.self.view_is) at c.requires.to_in_range in
    let in_at : at + 1 < length xs = omega (arith, c.max-at-end.ensures, in_from, in_to) in
    let one : c.index.result.now ≡ get_or xs at [] = c.index.ensures ∙ get_or_default xs at c.index.result.now [] (omega arith) in
    let other : c.index-in-loop-at.result.now ≡ get_or xs (at + 1) [] = c.index-in-loop-at.ensures
    ∙ get_or_default xs (at + 1) c.index-in-loop-at.result.now [] in_at in
    let here : bytes_eq (get_or xs at []) (get_or xs (at + 1) []) ≡ true =
    rw (one, other) at (not_false (bytes_eq c.index.result.now c.index-in-loop-at.result.now)
    (sym c.differ.ensures ∙ c.if-differ.false)) in
    let before = rw (← c.self.view_is) at c.loop-at.invariant in
    rw (← c.self.view_is) (equal_more xs _ at before here)
