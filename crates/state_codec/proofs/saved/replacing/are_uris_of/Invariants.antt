use Rattle.std.proofs.Common.{◌≡◌, ℕ, ◌<◌, [], get_or}
use Rattle.state_codec.specs.OpsLists.{uris_of}
use Rattle.state_codec.proofs.saved.replacing.are_uris_of.Given as goal

-- the URIs so far are the same
abbrev pub invariant-loop-at : goal.invariant-loop-at
invariant-loop-at l = (k : ℕ) → k < l.at → get_or l.uris k [] ≡ get_or (uris_of l.entries) k []
