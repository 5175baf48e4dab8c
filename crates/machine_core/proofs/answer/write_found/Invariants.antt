use Rattle.std.proofs.Common.{map}
use Rattle.std.specs.Slice.Iter.{iter_rest}
use Rattle.machine_core.specs.Stickers.{found_lines}
use Rattle.stickers.specs.Find.{pair_of}
use Rattle.command_text.proofs.LineLoops.{Leaves}
use Rattle.machine_core.proofs.answer.write_found.Given as goal

abbrev pub invariant-loop-song : goal.invariant-loop-song
invariant-loop-song l = Leaves (found_lines l.name) l.found (map pair_of (iter_rest l.song-iterator)) l.fn.out l.out
