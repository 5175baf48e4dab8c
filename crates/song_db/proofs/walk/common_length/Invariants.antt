use Rattle.std.proofs.Common.{◌≡◌, ◌+◌, ◌==◌, drop}
use Rattle.std.specs.List.{common_prefix_len}
use Rattle.song_db.proofs.walk.common_length.Given as goal

-- all bytes so far are the same
abbrev pub invariant-loop-at : goal.invariant-loop-at
invariant-loop-at l = common_prefix_len (λ a b. a == b) l.path l.other ≡ l.at
    + common_prefix_len (λ a b. a == b) (drop l.at l.path) (drop l.at l.other)
