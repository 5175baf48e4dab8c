use Rattle.std.proofs.Common.{[], length, get_or, ap, arith}
use Rattle.std.proofs.lemmas.List.{length-set}
use Rattle.play_queue.specs.declared.entry.Entry.{Entry}
use Rattle.play_queue.specs.Queue.{with_stamp}
use Rattle.play_queue.proofs.Where.{pair_written}
use Rattle.play_queue.proofs.stamping.stamp_pair.Goals as goal

pub set_stamp-requires-2 : goal.set_stamp-requires-2
set_stamp-requires-2 c =
    let d : Entry = record { id = 0; uri = []; priority = 0; stamp = 0 } in
    omega (arith, ap length (c.set_stamp.ensures d), length-set c.args.entries.now c.args.one (with_stamp c.args.stamp (get_or c.args.entries.now c.args.one d)), c.requires.other_in_range)

pub returns : goal.returns
returns c =
    let d : Entry = record { id = 0; uri = []; priority = 0; stamp = 0 } in
    rw (c.set_stamp-2.ensures d, c.set_stamp.ensures d)
    (pair_written c.args.entries.now c.args.one c.args.other c.args.stamp d d c.requires.one_in_range c.requires.other_in_range)
