use Rattle.std.proofs.Common.{ℕ, List, rules}
use Rattle.std.specs.Cmp.Lexicographic.{slice_cmp}
use Rattle.std.specs.Ordering.{nat_cmp, is_lt}
use Rattle.std.proofs.lemmas.Fn.{always_returns_same}
use Rattle.play_queue.proofs.Searched.{texts_compare}
use Rattle.play_queue.proofs.uris.SortedUris.new.Goals as goal

pub invariant_of-result : goal.invariant_of-result
invariant_of-result c = (
  c.sort_unstable_by.ensures.sorted (λ (one other : List ℕ). is_lt (slice_cmp nat_cmp one other)) texts_compare
      (always_returns_same _ _ _ (λ a r f' called. search rules)),
  rw (c.deref.ensures.value) at c.marks_of-marks.ensures.marked,
)
