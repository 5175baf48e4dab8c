use Rattle.std.proofs.Common.{◌≡◌, ◌≤◌, drop, length}
use Rattle.filter_expr.specs.Parts.{word_at}
use Rattle.filter_expr.proofs.parts.word_at.Given as goal

abbrev pub invariant-loop-byte : goal.invariant-loop-byte
invariant-loop-byte l = (word_at (drop l.byte-index l.word) l.rest ≡ word_at l.word l.text) × (length l.rest ≤ length l.text)
