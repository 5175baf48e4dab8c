use Rattle.std.proofs.Common.{zero, sym, subst, ◌∙◌, is_some}
use Rattle.mio_clients.specs.Connections.{ConnectionsState}
use Rattle.mio_clients.specs.Later.{no_bytes, no_requests}
use Rattle.mio_clients.specs.Leaving.{AllFollow}
use Rattle.mio_clients.specs.Parts.{bytes_in, requests_in}
use Rattle.mio_clients.specs.Waiting.{QuietBehind}
use Rattle.mio_clients.proofs.FollowLaws.{all_is_later, all_then_none, later_more}
use Rattle.mio_clients.proofs.WaitingLaws.{quiet_none}
use Rattle.mio_clients.proofs.TurnLaws.{closed_turn, turn_whole}
use Rattle.mio_clients.proofs.clients.Clients.turn_within.Goals as goal

pub returns-clause-later : goal.returns-clause-later
returns-clause-later g c =
    let rem = g.S.Stream.remaining in
    let con = g.S.Stream.contents in
    (turn_whole rem con c.args.self.now c.begin_turn.new.self c.seek.new.self c.serve_all-pass.new.self
    c.forget_left.new.self c.close_left.new.self (bytes_in c.serve_all-pass.new.parts.items) (requests_in c.serve_all-pass.new.parts.items)
    c.begin_turn.ensures.same
    (later_more rem con c.begin_turn.new.self c.gather.new.self c.seek.new.self c.gather.ensures.later
    (all_is_later rem con c.gather.new.self c.seek.new.self no_bytes no_requests
    (all_then_none rem con c.gather.new.self c.take_turns.new.self c.seek.new.self no_bytes no_requests c.take_turns.ensures.later
    c.seek.ensures.later)))
    c.serve_all-pass.ensures.later
    (all_then_none rem con c.serve_all-pass.new.self c.send_all.new.self c.forget_left.new.self no_bytes no_requests
    (subst (λ (s : ConnectionsState g.row.S.Denot). AllFollow rem con no_bytes no_requests s c.send_all.new.self) c.order_pictures.ensures
    c.send_all.ensures.later)
    c.forget_left.ensures.later) c.close_left.ensures).0

pub returns-clause-left : goal.returns-clause-left
returns-clause-left g c =
    let rem = g.S.Stream.remaining in
    let con = g.S.Stream.contents in
    (turn_whole rem con c.args.self.now c.begin_turn.new.self c.seek.new.self c.serve_all-pass.new.self
    c.forget_left.new.self c.close_left.new.self (bytes_in c.serve_all-pass.new.parts.items) (requests_in c.serve_all-pass.new.parts.items)
    c.begin_turn.ensures.same
    (later_more rem con c.begin_turn.new.self c.gather.new.self c.seek.new.self c.gather.ensures.later
    (all_is_later rem con c.gather.new.self c.seek.new.self no_bytes no_requests
    (all_then_none rem con c.gather.new.self c.take_turns.new.self c.seek.new.self no_bytes no_requests c.take_turns.ensures.later
    c.seek.ensures.later)))
    c.serve_all-pass.ensures.later
    (all_then_none rem con c.serve_all-pass.new.self c.send_all.new.self c.forget_left.new.self no_bytes no_requests
    (subst (λ (s : ConnectionsState g.row.S.Denot). AllFollow rem con no_bytes no_requests s c.send_all.new.self) c.order_pictures.ensures
    c.send_all.ensures.later)
    c.forget_left.ensures.later) c.close_left.ensures).1

pub returns-clause-closed : goal.returns-clause-closed
returns-clause-closed g c =
    let rem = g.S.Stream.remaining in
    let con = g.S.Stream.contents in
    λ is.
    closed_turn rem con c.args.self.now c.send_all.new.self c.forget_left.new.self c.close_left.new.self
    (bytes_in c.serve_all-pass.new.parts.items) (requests_in c.serve_all-pass.new.parts.items) c.forget_left.ensures.same
    (c.forget_left.ensures.forgotten (c.is_some-is_bounded.ensures ∙ is)) c.close_left.ensures
    (turn_whole rem con c.args.self.now c.begin_turn.new.self c.seek.new.self c.serve_all-pass.new.self
    c.forget_left.new.self c.close_left.new.self (bytes_in c.serve_all-pass.new.parts.items) (requests_in c.serve_all-pass.new.parts.items)
    c.begin_turn.ensures.same
    (later_more rem con c.begin_turn.new.self c.gather.new.self c.seek.new.self c.gather.ensures.later
    (all_is_later rem con c.gather.new.self c.seek.new.self no_bytes no_requests
    (all_then_none rem con c.gather.new.self c.take_turns.new.self c.seek.new.self no_bytes no_requests c.take_turns.ensures.later
    c.seek.ensures.later)))
    c.serve_all-pass.ensures.later
    (all_then_none rem con c.serve_all-pass.new.self c.send_all.new.self c.forget_left.new.self no_bytes no_requests
    (subst (λ (s : ConnectionsState g.row.S.Denot). AllFollow rem con no_bytes no_requests s c.send_all.new.self) c.order_pictures.ensures
    c.send_all.ensures.later)
    c.forget_left.ensures.later) c.close_left.ensures).1

pub returns-clause-all : goal.returns-clause-all
returns-clause-all g c =
    λ within none.
    let waits = is_some c.args.bound in
    quiet_none c.args.bound c.close_left.new.self.events (subst (λ (t : ConnectionsState g.row.S.Denot). QuietBehind waits zero t.events)
    (sym c.close_left.ensures)
    (c.forget_left.ensures.quiet waits zero (c.send_all.ensures.quiet waits zero
    (subst (λ (s : ConnectionsState g.row.S.Denot). QuietBehind waits zero s.events) (sym c.order_pictures.ensures)
    (c.serve_all-pass.ensures.quiet none within)))))
