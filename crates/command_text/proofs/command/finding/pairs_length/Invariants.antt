use Rattle.std.proofs.Common.{◌≡◌, ◌+◌, ◌-◌, ◌≤◌, length, drop}
use Rattle.command_text.specs.Finding.{pairs_length}
use Rattle.command_text.proofs.command.finding.pairs_length.Given as goal

abbrev pub invariant-pairs : goal.invariant-pairs
invariant-pairs l = (l.passed ≤ length l.words) × (l.passed + pairs_length l.adds (drop l.passed l.words) ≡ pairs_length l.adds l.words)

abbrev pub decreases-pairs : goal.decreases-pairs
decreases-pairs l = length l.words - l.passed
