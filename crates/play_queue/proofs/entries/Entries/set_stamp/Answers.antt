use Rattle.std.proofs.Common.{◌<◌, length, arith}
use Rattle.play_queue.proofs.Stamped.{length-with_stamps, with_stamps-set}
use Rattle.play_queue.proofs.entries.Entries.set_stamp.Goals as goal

pub index_mut-requires : goal.index_mut-requires
index_mut-requires c =
    omega (arith, rw (← c.self.view_is) at c.requires, length-with_stamps c.self.inside.stamps.items c.self.inside.songs, c.self.invariant)

pub returns : goal.returns
returns c d =
    let stamps = c.self.inside.stamps.items in
    let songs = c.self.inside.songs in
    let within : c.args.at < length songs = omega (arith, rw (← c.self.view_is) at c.requires, length-with_stamps stamps songs) in
    rw (← c.self.view_is) (with_stamps-set stamps songs c.args.at c.args.stamp d within c.self.invariant)
