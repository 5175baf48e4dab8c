use Rattle.std.proofs.Common.{◌≡◌, ◌+◌, [], ◌∷◌, ◌++◌, length, take, arith, sym, ap, ◌∙◌}
use Rattle.std.proofs.lemmas.List.{take_more, length-take-le}
use Rattle.disk_model.proofs.ReplayedMoments.{replayed-more}
use Rattle.disk_model.proofs.window.left_since.Goals as goal

pub loop-i-preserved : goal.loop-i-preserved
loop-i-preserved c =
    let calls = c.args.calls.now in
    let call = c.index-calls-i.result in
    let i = c.loop-i.i in
    let more : take (i + 1) calls ≡ take i calls ++ call ∷ [] =
    take_more calls i call (omega arith) ∙ ap (λ x. take i calls ++ x ∷ []) (sym c.index-calls-i.is) in
    let count : i + 1 ≡ length (take i calls) + 1 = omega (arith, length-take-le i calls (omega arith)) in
    replayed-more _ _ _ call _ _ _ _ _ _ _ _ _ _ more count c.loop-i.invariant c.in_ok-redo.ensures.ok
    (rw c.deref.ensures.value at c.in_ok-note-2.ensures)
    c.allows-in-loop-i.ensures c.goes_on-left-in-loop-i.ensures
