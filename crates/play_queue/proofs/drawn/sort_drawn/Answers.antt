use Rattle.std.proofs.Common.{arith, rules}
use Rattle.std.proofs.lemmas.Fn.{always_returns_same}
use Rattle.std.proofs.lemmas.List.Sorted.{IsPermutation-map}
use Rattle.play_queue.specs.declared.drawn.Drawn.{Drawn}
use Rattle.play_queue.proofs.DrawnIds.{sorted_rows}
use Rattle.play_queue.proofs.drawn.sort_drawn.Goals as goal

pub returns-clause-moved : goal.returns-clause-moved
returns-clause-moved c =
    IsPermutation-map (λ (one : Drawn). one.id) c.args.drawn.now.items c.sort_unstable_by_key.new.self.items
    c.sort_unstable_by_key.ensures.permutation

pub returns-clause-sorted : goal.returns-clause-sorted
returns-clause-sorted c songs =
    sorted_rows songs c.args.drawn.now.items c.sort_unstable_by_key.new.self.items c.requires c.sort_unstable_by_key.ensures.permutation
    (λ k d within. c.sort_unstable_by_key.ensures.sorted (λ (one : Drawn). (one.word, one.id))
    (always_returns_same _ _ _ (λ a r f' called. search rules)) k d (omega arith) within)
