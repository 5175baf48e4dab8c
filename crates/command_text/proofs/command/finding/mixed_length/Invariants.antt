use Rattle.std.proofs.Common.{◌≡◌, ◌+◌, ◌-◌, ◌≤◌, length, drop}
use Rattle.command_text.specs.Finding.{mixed_length}
use Rattle.command_text.proofs.command.finding.mixed_length.Given as goal

abbrev pub invariant-mixed : goal.invariant-mixed
invariant-mixed l = (l.passed ≤ length l.words) × (l.passed + mixed_length l.parts (drop l.passed l.words) ≡ mixed_length l.parts l.words)

abbrev pub decreases-mixed : goal.decreases-mixed
decreases-mixed l = length l.words - l.passed
