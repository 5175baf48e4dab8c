use Rattle.std.proofs.Common.{length, ap, ◌∙◌}
use Rattle.std.proofs.lemmas.List.{length-map}
use Rattle.play_queue.proofs.Stamped.{with_one_stamp}
use Rattle.play_queue.proofs.entries.Entries.stamp_all.Goals as goal

pub invariant_of-self : goal.invariant_of-self
invariant_of-self c = ap length c.fill_all.ensures ∙ length-map c.self.inside.stamps.items (λ _. c.args.stamp) ∙ c.self.invariant

pub returns : goal.returns
returns c =
    rw (← c.self.view_is, c.fill_all.ensures) (with_one_stamp c.args.stamp c.self.inside.stamps.items c.self.inside.songs c.self.invariant)
