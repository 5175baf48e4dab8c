-- What a filter says, as a tree.
use Rattle.std.specs.Prelude.{ℕ, List, string_bytes}
use Rattle.filter_expr.specs.declared.expression.Expression.{Expression}
use Rattle.filter_expr.specs.declared.expression.Expression.TheVariants as kept
use Rattle.filter_expr.specs.declared.subject.Subject.{Subject}
use Rattle.filter_expr.specs.declared.subject.AudioFormat.{AudioFormat}
use Rattle.filter_expr.specs.declared.subject.Comparison.{Comparison}

-- a test of a subject against a value, and against the pattern of a text, the songs at and under a place, those whose files were changed at
-- a time or later, those of a format, what doesn't hold, and two that hold
pub data Tree : Type 0 where
  Test : Subject → Comparison → List ℕ → Tree
  Like : Subject → List ℕ → Tree
  Base : List ℕ → Tree
  Since : ℕ → Tree
  Format : AudioFormat → Tree
  Not : Tree → Tree
  And : Tree → Tree → Tree

-- the tree without where its parts lie in memory
abbrev pub tree_of : Expression → Tree
tree_of (kept.Test subject comparison value) = Test subject comparison value
tree_of (kept.Like subject pattern) = Like subject pattern
tree_of (kept.Base base) = Base (string_bytes base)
tree_of (kept.Since time) = Since time
tree_of (kept.Format format) = Format format
tree_of (kept.Not' p inner) = Not (tree_of inner)
tree_of (kept.And' p left q right) = And (tree_of left) (tree_of right)
