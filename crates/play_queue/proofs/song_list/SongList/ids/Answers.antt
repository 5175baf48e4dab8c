use Rattle.std.proofs.Common.{sym, ◌∙◌, subst}
use Rattle.play_queue.specs.Queue.{AllDiffer}
use Rattle.play_queue.proofs.InOrder.{ids-in_order}
use Rattle.play_queue.proofs.song_list.SongList.ids.Goals as goal

pub returns-clause-ids : goal.returns-clause-ids
returns-clause-ids c =
    let inside = c.self.inside in
    rw (← c.self.view_is) (c.as_slice.ensures.value ∙ sym (ids-in_order inside.songs.entries inside.order.items))

pub returns-clause-own : goal.returns-clause-own
returns-clause-own c =
    let inside = c.self.inside in
    rw (← c.self.view_is) (subst AllDiffer (sym (ids-in_order inside.songs.entries inside.order.items)) c.self.invariant.0.own_ids)
