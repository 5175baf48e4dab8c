use Rattle.std.proofs.Common.{◌++◌, ◌∷◌, [], replicate, ap, ◌∙◌, append_assoc, arith}
use Rattle.std.proofs.lemmas.List.{replicate_more}
use Rattle.play_queue.proofs.entries.editing.push_ones.Goals as goal

pub push_reserved-requires : goal.push_reserved-requires
push_reserved-requires c = omega (arith, c.loop.invariant.1)

pub loop-preserved : goal.loop-preserved
loop-preserved c =
    let before = c.args.stamps.now.items in (
      c.push_reserved.ensures.items
          ∙ ap (λ l. l ++ 1 ∷ []) c.loop.invariant.0
          ∙ append_assoc before (replicate c.loop.counter 1) (1 ∷ [])
          ∙ ap (λ l. before ++ l) (replicate_more c.loop.counter 1),
      omega (arith, c.push_reserved.ensures.len, c.push_reserved.ensures.capacity, c.loop.invariant.1),
    )
