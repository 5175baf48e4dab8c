use Rattle.std.proofs.Common.{◌∙◌, sym, ap, arith}
use Rattle.song_db.specs.Droppable.{Marked}
use Rattle.song_db.specs.Music.{uris_of}
use Rattle.song_db.proofs.KnownSongs.{uris_len}
use Rattle.song_db.proofs.Picked.{ends_at}
use Rattle.song_db.proofs.scan.droppable.Droppable.is_at_end.Goals as goal

pub returns-clause-end : goal.returns-clause-end
returns-clause-end c =
    let uris = uris_of c.self.inside.known.items in
    let marks = c.self.inside.marks.items in
    let at = c.next_mark-self-inside.result in
    ends_at uris marks c.args.self.now.left at c.len.result c.self.invariant.each (omega (arith, uris_len c.self.inside.known.items)) (omega (arith, uris_len c.self.inside.known.items))
    (sym (ap (λ (m : Marked). m.left) c.self.view_is) ∙ rw c.deref.ensures.value at (c.next_mark-self-inside.ensures.none uris (omega arith)))
    (rw c.deref.ensures.value at c.next_mark-self-inside.ensures.set)
