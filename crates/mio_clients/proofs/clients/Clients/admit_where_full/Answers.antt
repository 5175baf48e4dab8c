use Rattle.std.proofs.Common.{◌≡◌, Bool, true, false, inl, refl, sym, subst}
use Rattle.mio_clients.specs.declared.clients.Admission.TheVariants.{Refused}
use Rattle.mio_clients.specs.Yielding.{ComesTo, who_yields}
use Rattle.mio_clients.proofs.FollowLaws.{later_itself}
use Rattle.mio_clients.proofs.clients.Clients.admit_where_full.Goals as goal

pub returns-then-is_yielding-clause-later : goal.returns-then-is_yielding-clause-later
returns-then-is_yielding-clause-later g c = c.admit_instead.ensures.later

pub returns-then-is_yielding-clause-comes_to : goal.returns-then-is_yielding-clause-comes_to
returns-then-is_yielding-clause-comes_to g c =
    subst (λ (b : Bool). ComesTo (who_yields b g.S.Stream.remote) c.args.stream c.admit_instead.result c.args.self.now c.admit_instead.new.self)
    (sym c.if-is_yielding.true) c.admit_instead.ensures.comes_to

pub returns-clause-later : goal.returns-clause-later
returns-clause-later g c = later_itself g.S.Stream.remaining g.S.Stream.contents c.args.self.now

pub returns-clause-comes_to : goal.returns-clause-comes_to
returns-clause-comes_to g c =
    subst (λ (b : Bool). ComesTo (who_yields b g.S.Stream.remote) c.args.stream Refused c.args.self.now c.args.self.now)
    (sym c.if-is_yielding.false)
    (c.requires.full, inl (λ key client there may. (let not : false ≡ true = may.over_network in absurd cc)), refl)
