use Rattle.std.proofs.Common.{◌≡◌, ◌-◌, length, drop}
use Rattle.filter_expr.specs.Tree.{tree_of}
use Rattle.filter_expr.specs.Words.{more_pairs, pairs_of}
use Rattle.filter_expr.proofs.words.pairs_of.Given as goal

abbrev pub invariant-pairs : goal.invariant-pairs
invariant-pairs l =
    more_pairs l.profile l.number (tree_of l.tree) (drop l.number l.words) ≡ pairs_of l.profile l.words

abbrev pub decreases-pairs : goal.decreases-pairs
decreases-pairs l = length l.words - l.number
