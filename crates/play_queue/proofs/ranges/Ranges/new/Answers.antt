use Rattle.std.proofs.Common.{◌≡◌, ◌∙◌, sym, rules}
use Rattle.std.proofs.lemmas.List.Sorted.{IsNonDecreasingBy-from_sort_by_key}
use Rattle.play_queue.proofs.Merged.{is_in_some-permutation}
use Rattle.play_queue.proofs.ranges.Ranges.new.Goals as goal

pub merge-requires : goal.merge-requires
merge-requires c = rw (c.deref-2.ensures.value)
    (IsNonDecreasingBy-from_sort_by_key (λ range. range.0) _ c.sort_unstable_by_key.ensures.sorted (λ a r f' called. search rules))

pub invariant_of-result : goal.invariant_of-result
invariant_of-result c =
    let copied : c.in_ok-sorted.sorted.items ≡ c.args.given.items = search rules in
    let merged = rw (c.deref-2.ensures.value) at c.in_ok-merged.ensures in
    record {
      same = λ at. merged.same at ∙ sym (is_in_some-permutation c.args.given.items c.sort_unstable_by_key.new.self.items
          at (rw copied at c.sort_unstable_by_key.ensures.permutation));
      some = merged.some;
    }
