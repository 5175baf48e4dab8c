use Rattle.std.proofs.Common.{drop}
use Rattle.command_text.proofs.LineLoops.{Leaves}
use Rattle.song_files.specs.Tag.{all_tags}
use Rattle.machine_core.proofs.Database.Lines.{type_in}
use Rattle.machine_core.proofs.answer_database.write_tag_types.Given as goal

abbrev pub invariant-loop-number : goal.invariant-loop-number
invariant-loop-number l = Leaves (type_in l.fn.mask l.fn.tags) all_tags (drop l.number all_tags) l.fn.out l.out
