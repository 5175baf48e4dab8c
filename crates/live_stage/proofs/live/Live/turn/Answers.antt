use Rattle.std.proofs.Common.{rules, None, subst}
use Rattle.disk_model.proofs.LaterLaws.{pair_on}
use Rattle.live_stage.specs.Turns.{writes_to_b}
use Rattle.live_stage.proofs.TurnLaws.{IsOtherKept, found_still, found_ready, found_in_both, turn_made, none_called, one_file_written, written}
use Rattle.live_stage.proofs.live.Live.turn.Goals as goal

pub returns-then-are_numbers_spent-clause-any_moment : goal.returns-then-are_numbers_spent-clause-any_moment
returns-then-are_numbers_spent-clause-any_moment g c = λ ha hb usable. (
  None,
  tt,
  found_still _ _ c.args.self.now.state c.args.event None (c.is_broken.ensures.kept ha hb usable),
)

pub returns-in_err-make_ready-clause-any_moment : goal.returns-in_err-make_ready-clause-any_moment
returns-in_err-make_ready-clause-any_moment g c = λ ha hb usable. (
  None,
  search rules,
  found_ready _ _ _ _ c.args.self.now.state c.args.event None (c.make_ready.ensures.same_state ha hb),
)

pub returns-in_err-turn-clause-any_moment : goal.returns-in_err-turn-clause-any_moment
returns-in_err-turn-clause-any_moment g c = λ ha hb usable.
    let got = c.make_ready.ensures in
    let ready = c.in_ok-make_ready.ensures.ready in
    let handled = c.handle.ensures in
    let ha' = got.later.a.honesty.0 ha in
    let hb' = got.later.b.honesty.0 hb in
    let found = (handled.any_moment ha' hb').during in (
      found.0,
      search rules,
      found_in_both g.D.Disk.history (writes_to_b c.args.self.now) c.args.self.now c.make_ready.new.self c.handle.new.self c.args.event found.0
          ready.state c.make_ready.ensures.other_file
          (subst (λ in_b. IsOtherKept in_b c.make_ready.new.self c.handle.new.self) ready.in_b handled.file.other_file)
          (got.later.a.done ha) (handled.later.a.done ha') (got.later.b.done hb) (handled.later.b.done hb') (got.same_state ha hb) found.2,
    )

pub returns-clause-any_moment : goal.returns-clause-any_moment
returns-clause-any_moment g c = λ ha hb usable.
    let got = c.make_ready.ensures in
    let ready = c.in_ok-make_ready.ensures.ready in
    let handled = c.handle.ensures in
    let ha' = got.later.a.honesty.0 ha in
    let hb' = got.later.b.honesty.0 hb in
    let found = (c.in_ok-turn.ensures.any_moment ha' hb').during in (
      found.0,
      found.1,
      found_in_both g.D.Disk.history (writes_to_b c.args.self.now) c.args.self.now c.make_ready.new.self c.handle.new.self c.args.event found.0
          ready.state c.make_ready.ensures.other_file
          (subst (λ in_b. IsOtherKept in_b c.make_ready.new.self c.handle.new.self) ready.in_b handled.file.other_file)
          (got.later.a.done ha) (handled.later.a.done ha') (got.later.b.done hb) (handled.later.b.done hb') (got.same_state ha hb) found.2,
    )

pub returns-in_err-turn-clause-later : goal.returns-in_err-turn-clause-later
returns-in_err-turn-clause-later g c = pair_on c.in_ok-make_ready.ensures.later c.in_err-turn.ensures.later

pub returns-clause-later : goal.returns-clause-later
returns-clause-later g c = pair_on c.in_ok-make_ready.ensures.later c.in_ok-turn.ensures.later

pub returns-clause-step : goal.returns-clause-step
returns-clause-step g c = turn_made c.args.self.now c.make_ready.new.self c.handle.new.self c.args.event
    c.in_ok-make_ready.ensures.ready c.in_ok-turn.turn c.in_ok-turn.ensures.step

pub returns-clause-stored : goal.returns-clause-stored
returns-clause-stored g c = λ ha hb.
    let got = c.make_ready.ensures in
    let handled = c.handle.ensures in
    let ha' = got.later.a.honesty.0 ha in
    let hb' = got.later.b.honesty.0 hb in
    let kept = c.in_ok-turn.ensures.any_moment ha' hb' in
    written c.args.self.now c.make_ready.new.self c.handle.new.self c.args.event
    c.in_ok-make_ready.ensures.ready g.D.Disk.history c.in_ok-turn.turn c.in_ok-turn.ensures.step
    (c.in_ok-make_ready.ensures.content ha hb) kept.content kept.short
    (c.is_broken-broken.ensures.stored (handled.later.a.honesty.0 ha') (handled.later.b.honesty.0 hb') c.in_ok-turn.ensures.refuses.usable)

pub returns-clause-no_call : goal.returns-clause-no_call
returns-clause-no_call g c = none_called c.args.self.now c.make_ready.new.self c.handle.new.self c.args.event
    c.in_ok-make_ready.ensures.ready c.in_ok-turn.turn c.in_ok-turn.ensures.no_call

pub returns-clause-file : goal.returns-clause-file
returns-clause-file g c = one_file_written c.args.self.now c.make_ready.new.self c.handle.new.self c.args.event
    c.in_ok-make_ready.ensures.ready c.in_ok-turn.turn c.make_ready.ensures.other_file
    c.handle.ensures.file
