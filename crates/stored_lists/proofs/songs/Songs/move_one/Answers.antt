use Rattle.stored_lists.proofs.Counted.{uris-moved}
use Rattle.stored_lists.proofs.songs.Songs.move_one.Goals as goal

pub invariant_of-self : goal.invariant_of-self
invariant_of-self c =
    rw c.move_uri.ensures (uris-moved c.self.inside.uris.items c.args.from c.args.to c.self.invariant
    (rw (← c.self.view_is) at c.requires.from_in_range))
