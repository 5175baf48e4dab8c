use Rattle.std.proofs.Common.{◌≡◌, length}
use Rattle.mio_clients.specs.Seeking.{first_word_on}
use Rattle.mio_clients.proofs.seeking.first_word_on.Given as goal

-- what is left has the same first word
abbrev pub invariant-loop-first : goal.invariant-loop-first
invariant-loop-first l = first_word_on l.line ≡ first_word_on l.rest

abbrev pub decreases-loop-first : goal.decreases-loop-first
decreases-loop-first l = length l.rest
