use Rattle.std.proofs.Common.{◌∷◌, [], sym, ◌∙◌, arith}
use Rattle.play_queue.proofs.Stamped.{length-with_stamps, has-with_stamps, with_stamps-append}
use Rattle.play_queue.proofs.entries.Entries.push.Goals as goal

pub push-requires-clause-few : goal.push-requires-clause-few
push-requires-clause-few c =
    omega (arith, rw (← c.self.view_is) at c.requires.few, length-with_stamps c.self.inside.stamps.items c.self.inside.songs)

pub push-requires-clause-fresh : goal.push-requires-clause-fresh
push-requires-clause-fresh c =
    sym (has-with_stamps c.self.inside.stamps.items c.self.inside.songs c.args.entry.id) ∙ rw (← c.self.view_is) at c.requires.fresh

pub returns-clause-ok : goal.returns-clause-ok
returns-clause-ok c =
    rw (← c.self.view_is, c.push_reserved.ensures.items, c.reserve.ensures.items, c.in_ok-push.ensures.ok)
    (with_stamps-append c.self.inside.stamps.items (c.args.entry.stamp ∷ []) c.self.inside.songs _ c.self.invariant)
