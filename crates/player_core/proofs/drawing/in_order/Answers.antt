use Rattle.std.proofs.Common.{◌≡◌, ◌∙◌, ℕ, ◌+◌, ◌<◌, false, List, length, get_or, sym, arith, rules}
use Rattle.std.specs.List.Sorted.{IsPermutation}
use Rattle.std.specs.declared.cmp.Reverse.{Reverse}
use Rattle.std.proofs.lemmas.Fn.{always_returns_same}
use Rattle.player_core.specs.RandomOrder.{Drawn, goes_before}
use Rattle.player_core.proofs.DrawnOrder.{in_order_is, goes_before-cmp}
use Rattle.player_core.proofs.drawing.in_order.Goals as goal

pub returns : goal.returns
returns c =
    let sorted : List Drawn = c.sort_unstable_by_key.new.self.items in
    let key : Drawn → Reverse ℕ × ℕ × ℕ = λ one. (record { 0 = one.1 }, one.2, one.0) in
    let up : (k : ℕ) (d : Drawn) → k + 1 < length sorted → goes_before (get_or sorted (k + 1) d) (get_or sorted k d) ≡ false =
    λ k d within. sym (goes_before-cmp (get_or sorted (k + 1) d) (get_or sorted k d))
    ∙ c.sort_unstable_by_key.ensures.sorted key (always_returns_same _ _ _ (λ a r f' called. search rules)) k d (omega arith) within in
    let moved : IsPermutation c.args.drawn.now sorted = rw c.in_ok-sorted.ensures.items at c.sort_unstable_by_key.ensures.permutation in
    in_order_is c.args.drawn.now sorted moved up
