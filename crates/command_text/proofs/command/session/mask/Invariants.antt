use Rattle.std.proofs.Common.{◌≡◌, ◌+◌, drop}
use Rattle.idle_masks.specs.Subsystems.{none}
use Rattle.command_text.specs.Session.{mask_with}
use Rattle.command_text.proofs.command.session.mask.Given as goal

abbrev pub invariant-loop-place : goal.invariant-loop-place
invariant-loop-place l = mask_with l.set (l.place + 1) (drop l.place l.words) ≡ mask_with none 1 l.words
