use Rattle.std.proofs.Common.{◌≡◌, ◌≤◌, length, ap, ◌∙◌, arith}
use Rattle.play_queue.specs.Entries.{deleted}
use Rattle.play_queue.proofs.Stamped.{length-with_stamps, order-deleted}
use Rattle.play_queue.proofs.entries.Entries.delete.Goals as goal

pub delete-requires-clause-in_range : goal.delete-requires-clause-in_range
delete-requires-clause-in_range c =
    omega (arith, rw (← c.self.view_is) at c.requires.in_range, length-with_stamps c.self.inside.stamps.items c.self.inside.songs)

pub returns : goal.returns
returns c =
    let stamps = c.self.inside.stamps.items in
    let songs = c.self.inside.songs in
    let within : c.args.end ≤ length songs = omega (arith, rw (← c.self.view_is) at c.requires.in_range, length-with_stamps stamps songs) in
    let left : c.len.result ≡ length (deleted songs c.args.start c.args.end) = c.len.ensures.len ∙ ap length c.delete.ensures in
    rw (← c.self.view_is, c.truncate.ensures.items, c.delete.ensures)
    (order-deleted stamps songs c.args.start c.args.end c.len.result c.self.invariant c.requires.forward within left)
