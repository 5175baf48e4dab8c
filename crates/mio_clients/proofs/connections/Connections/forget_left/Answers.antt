use Rattle.std.proofs.Common.{◌≡◌, ◌-◌, [], List, refl, sym, subst, ◌∙◌, ap, arith, length}
use Rattle.mio_clients.specs.declared.client.Client.{Client}
use Rattle.mio_clients.specs.Connections.{ConnectionsState}
use Rattle.mio_clients.specs.Later.{no_bytes, no_requests}
use Rattle.mio_clients.specs.Leaving.{IsLeftAt}
use Rattle.mio_clients.proofs.FollowLaws.{all_itself, all_then_none}
use Rattle.mio_clients.proofs.OverLaws.{forgotten_all, forgotten_next, forgotten_none}
use Rattle.mio_clients.proofs.WaitingLaws.{quiet_itself, quiet_twice}
use Rattle.mio_clients.proofs.connections.Connections.forget_left.Goals as goal

pub loop-left-init : goal.loop-left-init
loop-left-init g c = record {
  later = all_itself g.S.Stream.remaining g.S.Stream.contents c.args.self.now;
  same = refl;
  forgotten = forgotten_none c.args.self.now c.left_count-left.result c.args.self.now.left c.left_count-left.ensures;
  quiet = quiet_itself c.args.self.now.events;
  within = (let all = c.left_count-left.ensures in omega (arith, all));
}

pub loop-left-preserved : goal.loop-left-preserved
loop-left-preserved g c =
    let old : ConnectionsState g.row.S.Denot = c.args.self.now in
    let a : ConnectionsState g.row.S.Denot = c.loop-left.self in
    let b : ConnectionsState g.row.S.Denot = c.forget_gone.new.self in
    let inv = c.loop-left.invariant in
    let e = c.forget_gone.ensures in
    let left : a.left ≡ old.left = ap (λ (t : ConnectionsState g.row.S.Denot). t.left) inv.same in
    record {
      later = all_then_none g.S.Stream.remaining g.S.Stream.contents old a b no_bytes no_requests inv.later e.later;
      same = e.same ∙ ap (λ (s : ConnectionsState g.row.S.Denot). let t : ConnectionsState g.row.S.Denot = record s { events = b.events; room = b.room } in t) inv.same;
      forgotten = forgotten_next a b (c.loop-left.left - 1) c.loop-left.left c.in-Some.id old.left (omega (arith, c.loop-left-test.true))
          (ap (λ (t : ConnectionsState g.row.S.Denot). t.clients) e.same) e.others
          (subst (λ (l : List (Client g.row.S.Denot)). IsLeftAt (c.loop-left.left - 1) c.in-Some.id l) left c.in-Some.ensures) e.forgotten
          inv.forgotten;
      quiet = quiet_twice old.events a.events b.events inv.quiet e.quiet;
      within = omega (arith, inv.within);
    }

pub returns-clause-forgotten : goal.returns-clause-forgotten
returns-clause-forgotten g c =
    forgotten_all c.loop-left.self c.loop-left.left c.args.self.now.left c.loop-left-test.false c.loop-left.invariant.forgotten

pub returns-in_default-clause-forgotten : goal.returns-in_default-clause-forgotten
returns-in_default-clause-forgotten g c =
    let left = ap (λ (t : ConnectionsState g.row.S.Denot). length t.left) c.loop-left.invariant.same in
    absurd (omega (arith, c.in_default.ensures, c.loop-left.invariant.within, c.loop-left-test.true, left))
