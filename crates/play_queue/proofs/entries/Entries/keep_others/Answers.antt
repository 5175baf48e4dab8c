use Rattle.std.proofs.Common.{◌≡◌, ◌≤◌, length, ap, ◌∙◌, arith}
use Rattle.std.proofs.lemmas.List.{length-take-le}
use Rattle.play_queue.proofs.Bounds.{short-batch}
use Rattle.play_queue.proofs.Stamped.{length-with_stamps, kept_from, order-kept}
use Rattle.play_queue.proofs.entries.Entries.keep_others.Goals as goal

pub keep_others-requires : goal.keep_others-requires
keep_others-requires c =
    omega (arith, rw (← c.self.view_is) at c.requires, length-with_stamps c.self.inside.stamps.items c.self.inside.songs)

pub invariant_of-self : goal.invariant_of-self
invariant_of-self c =
    let stamps = c.self.inside.stamps.items in
    let songs = c.self.inside.songs in
    let within : c.args.first ≤ length songs = omega (arith, rw (← c.self.view_is) at c.requires, length-with_stamps stamps songs) in
    let fewer = short-batch c.args.first songs c.args.uris.now within in
    let left : c.len-left.result ≡ length c.keep_others.new.self = c.len-left.ensures.len in
    ap length c.truncate.ensures.items
    ∙ length-take-le c.len-left.result stamps (omega (arith, left, ap length c.keep_others.ensures, fewer, c.self.invariant)) ∙ left

pub returns : goal.returns
returns c =
    let stamps = c.self.inside.stamps.items in
    let songs = c.self.inside.songs in
    let within : c.args.first ≤ length songs = omega (arith, rw (← c.self.view_is) at c.requires, length-with_stamps stamps songs) in
    let fewer = short-batch c.args.first songs c.args.uris.now within in
    let left : c.len-left.result ≡ length (kept_from c.args.first c.args.uris.now songs) =
    c.len-left.ensures.len ∙ ap length c.keep_others.ensures in
    rw (← c.self.view_is, c.truncate.ensures.items, c.keep_others.ensures)
    (order-kept stamps songs c.args.first c.len-left.result c.args.uris.now c.self.invariant left (omega (arith, left, fewer)))
