-- What a call answers beside the player after it.
use Rattle.std.specs.Prelude.{◌≡◌, Result, IfOk}
use Rattle.player_core.specs.declared.changes.Changes.{Changes}
use Rattle.player_core.specs.declared.refusal.PlayerError.{PlayerError}
use Rattle.player_core.specs.Player.{PlayerState, Step}

-- the player after, and the changes that are answered, are those of a step
abbrev pub OnStep : Step → PlayerState → Result Changes PlayerError → Type 0
OnStep step player result = IfOk result (λ changes. record { player = player; changes = changes } ≡ step)
