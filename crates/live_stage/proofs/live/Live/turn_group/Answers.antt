use Rattle.std.proofs.Common.{◌≡◌, ◌≢◌, Bool, false, List, [], refl, sym, ap, subst, ◌∙◌}
use Rattle.disk_model.proofs.LaterLaws.{pair_on}
use Rattle.live_stage.specs.Answer.{Answer}
use Rattle.live_stage.specs.Group.{history_in}
use Rattle.live_stage.specs.Turns.{writes_to_b}
use Rattle.live_stage.proofs.PhaseLaws.{ends_from, files_written, found_in_phases, group_from, no_events, no_group, none_called_from}
use Rattle.live_stage.proofs.PhaseLaws.{none_found, of_none, ready_found, refuses_from, written_from}
use Rattle.live_stage.proofs.TurnLaws.{IsOtherKept}
use Rattle.live_stage.proofs.live.Live.turn_group.Goals as goal

pub returns-then-are_numbers_spent-clause-any_moment : goal.returns-then-are_numbers_spent-clause-any_moment
returns-then-are_numbers_spent-clause-any_moment g c = λ ha hb usable. (
  [],
  of_none c.args.events.items c.refused-then-are_numbers_spent.result.rest.items c.refused-then-are_numbers_spent.ensures.rest,
  none_found (g.D.Disk.history c.args.self.now.a) (g.D.Disk.history c.args.self.now.b) c.args.self.now.state []
      (c.is_broken.ensures.kept ha hb usable),
)

pub returns-in-Err-clause-any_moment : goal.returns-in-Err-clause-any_moment
returns-in-Err-clause-any_moment g c = λ ha hb usable. (
  [],
  of_none c.args.events.items c.refused-in-Err.result.rest.items c.refused-in-Err.ensures.rest,
  none_found (g.D.Disk.history c.args.self.now.a) (g.D.Disk.history c.args.self.now.b) c.args.self.now.state []
      (c.is_broken.ensures.kept ha hb usable),
)

pub returns-then-is_empty-clause-any_moment : goal.returns-then-is_empty-clause-any_moment
returns-then-is_empty-clause-any_moment g c = λ ha hb usable. (
  [],
  ap (λ (l : List Answer). history_in l) (sym c.in-Ok.ensures.items),
  none_found (g.D.Disk.history c.args.self.now.a) (g.D.Disk.history c.args.self.now.b) c.args.self.now.state []
      (c.is_broken.ensures.kept ha hb usable),
)

pub returns-in-Err-make_ready-clause-any_moment : goal.returns-in-Err-make_ready-clause-any_moment
returns-in-Err-make_ready-clause-any_moment g c = λ ha hb usable. (
  [],
  of_none c.args.events.items c.refused-in-Err-make_ready.result.rest.items c.refused-in-Err-make_ready.ensures.rest,
  ready_found _ _ _ _ c.args.self.now.state [] (c.make_ready.ensures.same_state ha hb),
)

pub returns-in-Err-handle_group-clause-any_moment : goal.returns-in-Err-handle_group-clause-any_moment
returns-in-Err-handle_group-clause-any_moment g c = λ ha hb usable.
    let got = c.make_ready.ensures in
    let ready = c.in_default.ensures.ready in
    let done = c.handle_group.ensures in
    let ha' = got.later.a.honesty.0 ha in
    let hb' = got.later.b.honesty.0 hb in
    let found = (c.in-Err-handle_group.ensures.any_moment ha' hb').during in (
      found.0,
      found.1,
      found_in_phases g.D.Disk.history (writes_to_b c.args.self.now) c.args.self.now c.make_ready.new.self
          c.handle_group.new.self found.0 ready.state c.make_ready.ensures.other_file
          (subst (λ (in_b : Bool). IsOtherKept in_b c.make_ready.new.self c.handle_group.new.self) ready.in_b done.file.other_file)
          (got.later.a.done ha) (done.later.a.done ha') (got.later.b.done hb) (done.later.b.done hb') (got.same_state ha hb) found.2,
    )

pub returns-in-Err-handle_group-clause-events : goal.returns-in-Err-handle_group-clause-events
returns-in-Err-handle_group-clause-events g c = refuses_from c.args.self.now c.make_ready.new.self c.args.events.items _ _
    (sym c.is_broken.ensures.value ∙ c.if-is_broken.false) c.in-Err-handle_group.ensures.front

pub returns-in-Err-handle_group-clause-later : goal.returns-in-Err-handle_group-clause-later
returns-in-Err-handle_group-clause-later g c = pair_on c.in_default.ensures.later c.in-Err-handle_group.ensures.later

pub returns-clause-later : goal.returns-clause-later
returns-clause-later g c = pair_on c.in_default.ensures.later c.in-Ok-handle_group.ensures.later

pub returns-clause-any_moment : goal.returns-clause-any_moment
returns-clause-any_moment g c = λ ha hb usable.
    let got = c.make_ready.ensures in
    let ready = c.in_default.ensures.ready in
    let done = c.handle_group.ensures in
    let ha' = got.later.a.honesty.0 ha in
    let hb' = got.later.b.honesty.0 hb in
    let found = (c.in-Ok-handle_group.ensures.any_moment ha' hb').during in (
      found.0,
      found.1,
      found_in_phases g.D.Disk.history (writes_to_b c.args.self.now) c.args.self.now c.make_ready.new.self
          c.handle_group.new.self found.0 ready.state c.make_ready.ensures.other_file
          (subst (λ (in_b : Bool). IsOtherKept in_b c.make_ready.new.self c.handle_group.new.self) ready.in_b done.file.other_file)
          (got.later.a.done ha) (done.later.a.done ha') (got.later.b.done hb) (done.later.b.done hb') (got.same_state ha hb) found.2,
    )

pub returns-clause-events : goal.returns-clause-events
returns-clause-events g c =
    let done = c.in-Ok-handle_group.ensures.group in
    ends_from c.args.self.now c.make_ready.new.self c.handle_group.new.self c.in_default.ensures.ready
    c.in-Ok-handle_group.group.turns.items done.some c.args.events.items c.in-Ok-handle_group.group.is_refused c.in-Ok-handle_group.group.rest.items
    done.ends

pub returns-clause-group : goal.returns-clause-group
returns-clause-group g c =
    let done = c.in-Ok-handle_group.ensures.group in
    group_from c.args.self.now c.make_ready.new.self c.handle_group.new.self c.in_default.ensures.ready
    c.in-Ok-handle_group.group.turns.items done.some done.group

pub returns-clause-stored : goal.returns-clause-stored
returns-clause-stored g c = λ ha hb.
    let got = c.make_ready.ensures in
    let done = c.in-Ok-handle_group.ensures.group in
    let ha' = got.later.a.honesty.0 ha in
    let hb' = got.later.b.honesty.0 hb in
    let later = c.handle_group.ensures.later in
    written_from c.args.self.now c.make_ready.new.self c.handle_group.new.self c.in_default.ensures.ready
    c.in-Ok-handle_group.group.turns.items done.some done.group g.D.Disk.history (c.in_default.ensures.content ha hb)
    (c.in-Ok-handle_group.ensures.any_moment ha' hb').content done.bounded
    (c.is_broken-broken.ensures.stored (later.a.honesty.0 ha') (later.b.honesty.0 hb') c.in-Ok-handle_group.ensures.refuses.usable)

pub returns-clause-no_call : goal.returns-clause-no_call
returns-clause-no_call g c =
    let done = c.in-Ok-handle_group.ensures.group in
    none_called_from c.args.self.now c.make_ready.new.self c.handle_group.new.self
    c.in_default.ensures.ready c.in-Ok-handle_group.group.turns.items done.some c.in-Ok-handle_group.ensures.no_call

pub returns-clause-file : goal.returns-clause-file
returns-clause-file g c =
    let done = c.in-Ok-handle_group.ensures.group in
    files_written c.args.self.now c.make_ready.new.self c.handle_group.new.self c.in_default.ensures.ready
    c.in-Ok-handle_group.group.turns.items c.make_ready.ensures.other_file c.handle_group.ensures.file
