use Rattle.std.proofs.Common.{◌<◌, add-one, ◌∙◌, length, arith}
use Rattle.song_db.specs.Music.{uris_of}
use Rattle.song_db.proofs.KnownSongs.{uri_at, uris_len}
use Rattle.song_db.proofs.Picked.{picked_first}
use Rattle.song_db.proofs.scan.droppable.Droppable.next_drop.Goals as goal

pub returns-clause-next : goal.returns-clause-next
returns-clause-next c =
    let uris = uris_of c.self.inside.known.items in
    let marks = c.self.inside.marks.items in
    let at = c.next_mark-at.result in
    let within : at < length uris = omega (arith, uris_len c.self.inside.known.items) in
    rw (← c.self.view_is, c.in_ok-uri.ensures, add-one)
    ((rw c.deref.ensures.value at (c.next_mark-at.ensures.none uris (omega (arith, uris_len c.self.inside.known.items))))
    ∙ picked_first uris marks at c.index.result.now.uri within c.self.invariant.each (rw c.deref.ensures.value at
    (c.next_mark-at.ensures.set (omega (arith, uris_len c.self.inside.known.items))))
    (uri_at c.self.inside.known.items at c.index.result.now c.index.ensures))
