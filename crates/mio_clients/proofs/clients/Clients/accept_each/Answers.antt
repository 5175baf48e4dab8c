use Rattle.std.proofs.Common.{◌≡◌, List, subst, sym, inl, inr, refl, ◌∙◌}
use Rattle.mio_clients.specs.Connections.{ConnectionsState, IsFull}
use Rattle.mio_clients.specs.Later.{no_bytes, no_requests}
use Rattle.mio_clients.specs.Leaving.{IsFollowed}
use Rattle.mio_clients.proofs.FollowLaws.{later_itself, later_room, later_more, later_roomy}
use Rattle.mio_clients.specs.Yielding.{AcceptsAll, Arrival, TellsOf, has_refused, who_yields}
use Rattle.mio_clients.proofs.AcceptLaws.{all_made, full_room, is_admission, next_none, next_other, next_refused, none_yet, refused_is}
use Rattle.mio_clients.proofs.clients.Clients.accept_each.Goals as goal
use Rattle.mio_clients.proofs.clients.Clients.accept_each.Goals.{in-Ok+then-is_refused, in-Ok+else-is_refused, in-Err+in-Interrupted}

pub loop-call-init : goal.loop-call-init
loop-call-init g c = record {
  later = later_itself g.S.Stream.remaining g.S.Stream.contents c.self.inside.connections;
  accepted = none_yet (who_yields c.args.is_yielding g.S.Stream.remote) c.self.inside.connections;
  full = inl refl;
}

pub returns-then-is_err-clause-later : goal.returns-then-is_err-clause-later
returns-then-is_err-clause-later g c =
    let rem = g.S.Stream.remaining in
    let con = g.S.Stream.contents in
    let made : c.reserve.new.self ≡ record c.loop-call.self { room = c.reserve.new.self.room; places = c.reserve.new.self.places } =
    subst (λ (s : ConnectionsState g.row.S.Denot). c.reserve.new.self ≡ record s { room = c.reserve.new.self.room; places = c.reserve.new.self.places }) c.self-in-loop-call.view_is c.reserve.ensures.same in
    later_more rem con c.args.self.now c.loop-call.self c.reserve.new.self
    (subst (λ (s : ConnectionsState g.row.S.Denot). IsFollowed rem con no_bytes no_requests s c.loop-call.self) c.self.view_is c.loop-call.invariant.later)
    (later_room rem con c.loop-call.self c.reserve.new.self made)

pub returns-then-is_err-clause-accepted : goal.returns-then-is_err-clause-accepted
returns-then-is_err-clause-accepted g c =
    let made : c.reserve.new.self ≡ record c.loop-call.self { room = c.reserve.new.self.room; places = c.reserve.new.self.places } =
    subst (λ (s : ConnectionsState g.row.S.Denot). c.reserve.new.self ≡ record s { room = c.reserve.new.self.room; places = c.reserve.new.self.places }) c.self-in-loop-call.view_is c.reserve.ensures.same in
    let i = c.loop-call.invariant.accepted in (
      i.0,
      subst (λ (s : ConnectionsState g.row.S.Denot). AcceptsAll (who_yields c.args.is_yielding g.S.Stream.remote) i.0 s c.reserve.new.self) c.self.view_is
          (all_made (who_yields c.args.is_yielding g.S.Stream.remote) i.0 c.self.inside.connections c.loop-call.self c.reserve.new.self i.1 made),
      tt,
    )

pub returns-in_default : goal.returns-in_default
returns-in_default g c =
    let rem = g.S.Stream.remaining in
    let con = g.S.Stream.contents in
    let made : c.reserve.new.self ≡ record c.loop-call.self { room = c.reserve.new.self.room; places = c.reserve.new.self.places } =
    subst (λ (s : ConnectionsState g.row.S.Denot). c.reserve.new.self ≡ record s { room = c.reserve.new.self.room; places = c.reserve.new.self.places }) c.self-in-loop-call.view_is c.reserve.ensures.same in
    record {
      later = later_more rem con c.args.self.now c.loop-call.self c.reserve.new.self
          (subst (λ (s : ConnectionsState g.row.S.Denot). IsFollowed rem con no_bytes no_requests s c.loop-call.self) c.self.view_is c.loop-call.invariant.later)
          (later_room rem con c.loop-call.self c.reserve.new.self made);
      accepted = (
        c.loop-call.invariant.accepted.0,
        subst (λ (s : ConnectionsState g.row.S.Denot). AcceptsAll (who_yields c.args.is_yielding g.S.Stream.remote) c.loop-call.invariant.accepted.0 s c.reserve.new.self) c.self.view_is
            (all_made (who_yields c.args.is_yielding g.S.Stream.remote) c.loop-call.invariant.accepted.0 c.self.inside.connections c.loop-call.self c.reserve.new.self
            c.loop-call.invariant.accepted.1 made),
        c.loop-call.invariant.accepted.2,
      );
      too_many = λ e. elim c.loop-call.invariant.full [
        | inl ok ↦ absurd (cc (e, ok))
        | inr full ↦ full_room c.loop-call.self c.reserve.new.self made full.1
      ];
      neither = refused_is c.loop-call.result (IsFull c.loop-call.self) c.loop-call.invariant.full;
    }

pub loop-call-preserved : goal.loop-call-preserved
loop-call-preserved g c =
    let rem = g.S.Stream.remaining in
    let con = g.S.Stream.contents in
    let a : ConnectionsState g.row.S.Denot = c.self.inside.connections in
    let b : ConnectionsState g.row.S.Denot = c.loop-call.self in
    let m : ConnectionsState g.row.S.Denot = c.reserve.new.self in
    let made : m ≡ record b { room = m.room; places = m.places } =
    subst (λ (s : ConnectionsState g.row.S.Denot). m ≡ record s { room = m.room; places = m.places }) c.self-in-loop-call.view_is c.reserve.ensures.same in
    let i = c.loop-call.invariant in
    elim c.match-accept.branch [
      | in-Ok+then-is_refused w ↦ record {
        later = subst (λ (s : ConnectionsState g.row.S.Denot). IsFollowed rem con no_bytes no_requests a s) (sym w.self-is)
            (later_roomy rem con a b m w.admit.new.self made i.later w.admit.ensures.later);
        accepted = subst (λ (s : ConnectionsState g.row.S.Denot). (arrivals : List (Arrival g.row.S.Denot)) × AcceptsAll (who_yields c.args.is_yielding g.S.Stream.remote) arrivals a s × TellsOf c.match-accept.result (has_refused arrivals)) (sym w.self-is)
            (next_refused (who_yields c.args.is_yielding g.S.Stream.remote) _ i.accepted.0 _ w.admit.result a b m w.admit.new.self i.accepted.1 made w.admit.ensures.comes_to
            w.result-is (sym w.is_refused.ensures ∙ w.if-is_refused.true));
        full = inr (w.result-is, subst (λ (s : ConnectionsState g.row.S.Denot). IsFull s) (sym w.self-is) (w.admit.ensures.full (inl (is_admission w.admit.result (sym w.is_refused.ensures ∙ w.if-is_refused.true)))));
      }
      | in-Ok+else-is_refused w ↦ record {
        later = subst (λ (s : ConnectionsState g.row.S.Denot). IsFollowed rem con no_bytes no_requests a s) (sym w.self-is)
            (later_roomy rem con a b m w.admit.new.self made i.later w.admit.ensures.later);
        accepted = subst (λ (s : ConnectionsState g.row.S.Denot). (arrivals : List (Arrival g.row.S.Denot)) × AcceptsAll (who_yields c.args.is_yielding g.S.Stream.remote) arrivals a s × TellsOf c.match-accept.result (has_refused arrivals)) (sym w.self-is)
            (next_other (who_yields c.args.is_yielding g.S.Stream.remote) _ _ i.accepted.0 _ w.admit.result a b m w.admit.new.self i.accepted.1 made w.admit.ensures.comes_to
            w.result-is (sym w.is_refused.ensures ∙ w.if-is_refused.false) i.accepted.2);
        full = elim i.full [
          | inl ok ↦ inl (w.result-is ∙ ok)
          | inr full ↦ inr (
            w.result-is ∙ full.0,
            subst (λ (s : ConnectionsState g.row.S.Denot). IsFull s) (sym w.self-is)
                (w.admit.ensures.full (inr (full_room b m made full.1))),
          )
        ];
      }
      | in-Err+in-Interrupted w ↦ record {
        later = subst (λ (s : ConnectionsState g.row.S.Denot). IsFollowed rem con no_bytes no_requests a s) (sym w.self-is)
            (later_more rem con a b m i.later (later_room rem con b m made));
        accepted = subst (λ (s : ConnectionsState g.row.S.Denot). (arrivals : List (Arrival g.row.S.Denot)) × AcceptsAll (who_yields c.args.is_yielding g.S.Stream.remote) arrivals a s × TellsOf c.match-accept.result (has_refused arrivals)) (sym w.self-is)
            (next_none (who_yields c.args.is_yielding g.S.Stream.remote) _ _ i.accepted.0 a b m i.accepted.1 made w.result-is i.accepted.2);
        full = elim i.full [
          | inl ok ↦ inl (w.result-is ∙ ok)
          | inr full ↦ inr (w.result-is ∙ full.0, subst (λ (s : ConnectionsState g.row.S.Denot). IsFull s) (sym w.self-is) (full_room b m made full.1))
        ];
      }
    ]
