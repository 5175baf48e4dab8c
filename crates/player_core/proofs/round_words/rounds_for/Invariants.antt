use Rattle.std.proofs.Common.{◌≡◌}
use Rattle.std.specs.List.{All}
use Rattle.player_core.proofs.round_words.rounds_for.Given as goal

-- each is of this round
abbrev pub invariant-loop : goal.invariant-loop
invariant-loop l = All (λ round. round ≡ record { key = l.fn.key; order = l.fn.order }) l.rounds.items
