use Rattle.std.proofs.Common.{◌≡◌, ◌≤◌, drop, length}
use Rattle.filter_expr.specs.Parts.{letters_at}
use Rattle.filter_expr.proofs.parts.letters_at.Given as goal

abbrev pub invariant-loop-letter : goal.invariant-loop-letter
invariant-loop-letter l =
    (letters_at (drop l.letter-index l.word) l.rest ≡ letters_at l.word l.text) × (length l.rest ≤ length l.text)
