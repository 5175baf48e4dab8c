use Rattle.std.proofs.Common.{drop}
use Rattle.command_text.specs.AnswerSongs.{shown_line}
use Rattle.command_text.proofs.LineLoops.{Leaves}
use Rattle.command_text.proofs.answer.songs.write_tags.Given as goal

abbrev pub invariant-loop-at : goal.invariant-loop-at
invariant-loop-at l = Leaves (shown_line l.mask) l.tags (drop l.at l.tags) l.fn.out l.out
