use Rattle.std.proofs.Common.{◌≡◌, ◌≤◌, ℕ, Some, None, sym, subst, arith}
use Rattle.std.specs.Prelude.{IfSome, Option}
use Rattle.slab.specs.Slab.{get}
use Rattle.mio_clients.specs.declared.client.Client.{Client}
use Rattle.mio_clients.specs.Connections.{ConnectionsState}
use Rattle.mio_clients.specs.Yielding.{IsFoundBelow, IsFirstBelow, MayYield, NoneBelow, keeps_until}
use Rattle.mio_clients.proofs.YieldLaws.{at_most_both, found_before, found_here, found_still}
use Rattle.mio_clients.proofs.connections.Connections.sooner_of.Goals as goal

pub returns-in_default : goal.returns-in_default
returns-in_default g c =
    let s : ConnectionsState g.row.S.Denot = c.args.self.now in
    let none : get s.clients c.args.key ≡ None =
    subst (λ (t : ConnectionsState g.row.S.Denot). get t.clients c.args.key ≡ None) c.self.view_is (sym c.in_default.ensures) in
    found_still g.S.Stream.remote c.args.to_remote s c.args.key c.args.found (λ x stands may. absurd (cc (none, stands))) c.requires

pub returns-then-not-may_yield : goal.returns-then-not-may_yield
returns-then-not-may_yield g c =
    let s : ConnectionsState g.row.S.Denot = c.args.self.now in
    let client : Client g.row.S.Denot = c.in-Some.client.now in
    let there : get s.clients c.args.key ≡ Some client =
    subst (λ (t : ConnectionsState g.row.S.Denot). get t.clients c.args.key ≡ Some client) c.self.view_is (sym c.in-Some.ensures) in
    found_still g.S.Stream.remote c.args.to_remote s c.args.key c.args.found (λ x stands may.
    let same : client ≡ x = cc (there, stands) in
    let yields = c.may_yield.ensures.1 (subst (λ (t : Client g.row.S.Denot). MayYield g.S.Stream.remote c.args.to_remote s t) (sym same) may) in
    absurd (cc (yields, c.if-not-may_yield.true))) c.requires

pub returns-in_default-found : goal.returns-in_default-found
returns-in_default-found g c =
    let s : ConnectionsState g.row.S.Denot = c.args.self.now in
    let client : Client g.row.S.Denot = c.in-Some.client.now in
    let there : get s.clients c.args.key ≡ Some client =
    subst (λ (t : ConnectionsState g.row.S.Denot). get t.clients c.args.key ≡ Some client) c.self.view_is (sym c.in-Some.ensures) in
    let none : NoneBelow g.S.Stream.remote c.args.to_remote s c.args.key =
    subst (λ o. IsFoundBelow g.S.Stream.remote c.args.to_remote s c.args.key o) c.in_default-found.is c.requires in
    found_here g.S.Stream.remote c.args.to_remote s c.args.key client there (c.may_yield.ensures.0 c.if-not-may_yield.false)
    (λ k other within stands yields. absurd (none k other within stands yields))

pub returns-then-before-here : goal.returns-then-before-here
returns-then-before-here g c =
    let s : ConnectionsState g.row.S.Denot = c.args.self.now in
    let client : Client g.row.S.Denot = c.in-Some.client.now in
    let there : get s.clients c.args.key ≡ Some client =
    subst (λ (t : ConnectionsState g.row.S.Denot). get t.clients c.args.key ≡ Some client) c.self.view_is (sym c.in-Some.ensures) in
    let p : IsFirstBelow g.S.Stream.remote c.args.to_remote s c.args.key c.in-Some-found.other =
    subst (λ o. IsFoundBelow g.S.Stream.remote c.args.to_remote s c.args.key o) c.in-Some-found.is c.requires in
    let at : c.keeps_until_at-before.result ≡ keeps_until s p.client =
    subst (λ (o : Option (Client g.row.S.Denot)). IfSome o (λ x. c.keeps_until_at-before.result ≡ keeps_until s x)) p.there c.keeps_until_at-before.ensures in
    let less : c.keeps_until_at-before.result ≤ c.keeps_until-here.result = omega (arith, c.if-before-here.true) in
    found_before g.S.Stream.remote c.args.to_remote s c.args.key c.in-Some-found.other client there p
    (subst (λ (n : ℕ). n ≤ keeps_until s client) at (subst (λ (n : ℕ). c.keeps_until_at-before.result ≤ n) c.keeps_until-here.ensures less))

pub returns-else-before-here : goal.returns-else-before-here
returns-else-before-here g c =
    let s : ConnectionsState g.row.S.Denot = c.args.self.now in
    let client : Client g.row.S.Denot = c.in-Some.client.now in
    let there : get s.clients c.args.key ≡ Some client =
    subst (λ (t : ConnectionsState g.row.S.Denot). get t.clients c.args.key ≡ Some client) c.self.view_is (sym c.in-Some.ensures) in
    let p : IsFirstBelow g.S.Stream.remote c.args.to_remote s c.args.key c.in-Some-found.other =
    subst (λ o. IsFoundBelow g.S.Stream.remote c.args.to_remote s c.args.key o) c.in-Some-found.is c.requires in
    let at : c.keeps_until_at-before.result ≡ keeps_until s p.client =
    subst (λ (o : Option (Client g.row.S.Denot)). IfSome o (λ x. c.keeps_until_at-before.result ≡ keeps_until s x)) p.there c.keeps_until_at-before.ensures in
    let least : c.keeps_until-here.result ≤ c.keeps_until_at-before.result = omega (arith, c.if-before-here.false) in
    let sooner : keeps_until s client ≤ keeps_until s p.client =
    subst (λ (n : ℕ). n ≤ keeps_until s p.client) c.keeps_until-here.ensures (subst (λ (n : ℕ). c.keeps_until-here.result ≤ n) at least) in
    found_here g.S.Stream.remote c.args.to_remote s c.args.key client there (c.may_yield.ensures.0 c.if-not-may_yield.false)
    (λ k other within stands yields. at_most_both (keeps_until s client) (keeps_until s p.client) (keeps_until s other) sooner (p.first k other within stands yields))
