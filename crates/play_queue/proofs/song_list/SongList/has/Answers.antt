use Rattle.std.proofs.Common.{sym, ◌∙◌}
use Rattle.play_queue.proofs.InOrder.{has-in_order}
use Rattle.play_queue.proofs.song_list.SongList.has.Goals as goal

pub returns : goal.returns
returns c =
    let inside = c.self.inside in
    rw (← c.self.view_is) (c.contains_key.ensures ∙ c.self.invariant.0.same c.args.id
    ∙ sym (has-in_order inside.songs.entries inside.order.items c.args.id))
