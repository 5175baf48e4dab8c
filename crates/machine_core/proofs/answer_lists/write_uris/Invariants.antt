use Rattle.std.proofs.Common.{drop}
use Rattle.command_text.specs.AnswerSongs.{file_line}
use Rattle.command_text.proofs.LineLoops.{Leaves}
use Rattle.machine_core.proofs.answer_lists.write_uris.Given as goal

abbrev pub invariant-loop-uri : goal.invariant-loop-uri
invariant-loop-uri l = Leaves file_line l.songs (drop l.uri-index l.songs) l.fn.out l.out
