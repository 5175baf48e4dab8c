use Rattle.std.proofs.Common.{◌≡◌, drop}
use Rattle.command_text.specs.Masks.{empty_mask}
use Rattle.command_text.specs.Masks.{with_named}
use Rattle.command_text.proofs.command.database.tags_named.Given as goal

abbrev pub invariant-loop-word : goal.invariant-loop-word
invariant-loop-word l = with_named l.mask (drop l.word-index l.words) ≡ with_named empty_mask l.words
