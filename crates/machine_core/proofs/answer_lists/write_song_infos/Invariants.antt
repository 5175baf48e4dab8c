use Rattle.std.proofs.Common.{drop}
use Rattle.machine_core.specs.Lists.{song_info}
use Rattle.command_text.proofs.LineLoops.{Leaves}
use Rattle.machine_core.proofs.answer_lists.write_song_infos.Given as goal

abbrev pub invariant-loop-uri : goal.invariant-loop-uri
invariant-loop-uri l = Leaves (song_info l.mask l.database) l.songs (drop l.uri-index l.songs) l.fn.out l.out
