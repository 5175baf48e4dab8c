use Rattle.play_queue.proofs.Tops.{tops-in_order}
use Rattle.play_queue.proofs.song_list.SongList.top_priority.Goals as goal

pub returns : goal.returns
returns c =
    let inside = c.self.inside in
    rw (← c.self.view_is) (tops-in_order inside.songs.entries inside.top inside.order.items c.self.invariant.3)
