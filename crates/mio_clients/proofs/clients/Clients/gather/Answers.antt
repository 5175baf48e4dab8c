use Rattle.std.proofs.Common.{subst, sym}
use Rattle.mio_clients.specs.Connections.{ConnectionsState}
use Rattle.mio_clients.specs.Later.{no_bytes, no_requests}
use Rattle.mio_clients.specs.Leaving.{AllFollow, IsFollowed}
use Rattle.mio_clients.proofs.FollowLaws.{all_itself, all_then_none, later_more, all_is_later}
use Rattle.mio_clients.proofs.clients.Clients.gather.Goals as goal
use Rattle.mio_clients.proofs.clients.Clients.gather.Goals.{else-loop-token-test, then-loop-token-test+in_default}

pub loop-token-init : goal.loop-token-init
loop-token-init g c = all_itself g.S.Stream.remaining g.S.Stream.contents _

pub loop-token-preserved : goal.loop-token-preserved
loop-token-preserved g c =
    let rem = g.S.Stream.remaining in
    let con = g.S.Stream.contents in
    all_then_none rem con _ c.loop-token.self c.take_token.new.self no_bytes no_requests c.loop-token.invariant
    (subst (λ (s : ConnectionsState g.row.S.Denot). AllFollow rem con no_bytes no_requests s c.take_token.new.self) c.self.view_is c.take_token.ensures.later)

pub returns-then-self : goal.returns-then-self
returns-then-self g c =
    let rem = g.S.Stream.remaining in
    let con = g.S.Stream.contents in
    let a : ConnectionsState g.row.S.Denot = c.args.self.now in
    let b : ConnectionsState g.row.S.Denot = c.loop-token-test.self in
    let gathered : AllFollow rem con no_bytes no_requests a b =
    elim c.loop-token-test.branch [
      | else-loop-token-test w ↦ subst (λ (s : ConnectionsState g.row.S.Denot). AllFollow rem con no_bytes no_requests a s) (sym w.self-is) c.loop-token.invariant
      | then-loop-token-test+in_default w ↦ subst (λ (s : ConnectionsState g.row.S.Denot). AllFollow rem con no_bytes no_requests a s) (sym w.self-is)
          (subst (λ (s : ConnectionsState g.row.S.Denot). AllFollow rem con no_bytes no_requests a s) (sym w.self.view_is) c.loop-token.invariant)
    ] in
    let p : ConnectionsState g.row.S.Denot = c.make_places.new.self in
    let later : IsFollowed rem con no_bytes no_requests a c.accept_waiting-refused.new.self =
    later_more rem con a p c.accept_waiting-refused.new.self
    (all_is_later rem con a p no_bytes no_requests (all_then_none rem con a b p no_bytes no_requests gathered c.make_places.ensures.later))
    c.accept_waiting-refused.ensures.later in
    record { later = later }
