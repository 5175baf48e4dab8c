use Rattle.std.proofs.Common.{inl, inr, sym, ◌∙◌, arith}
use Rattle.mio_clients.specs.Later.{no_bytes, no_requests}
use Rattle.mio_clients.proofs.FollowLaws.{later_more, all_is_later}
use Rattle.mio_clients.proofs.connections.Connections.replace.Goals as goal

pub admit-requires-clause-not_full : goal.admit-requires-clause-not_full
admit-requires-clause-not_full g c =
    λ full. elim full [
      | inl many ↦ (let few = c.remove.ensures.few c.requires.there in omega (arith, many, few))
      | inr spent ↦ absurd (c.requires.unspent (sym c.remove.ensures.loses.last_id ∙ spent))
    ]

pub returns-clause-replaced : goal.returns-clause-replaced
returns-clause-replaced g c = (c.remove.new.self, c.remove.ensures.loses, c.admit.ensures.admitted)

pub returns-clause-later : goal.returns-clause-later
returns-clause-later g c =
    let rem = g.S.Stream.remaining in
    let con = g.S.Stream.contents in
    later_more rem con c.args.self.now c.remove.new.self c.admit.new.self
    (all_is_later rem con c.args.self.now c.remove.new.self no_bytes no_requests c.remove.ensures.later) c.admit.ensures.later
