use Rattle.std.proofs.Common.{◌≡◌, true, List, [], ◌∷◌, length, refl, sym, ap, subst, ◌∙◌, append_assoc, arith}
use Rattle.std.proofs.lemmas.List.{append-nil, nil_from_length}
use Rattle.std.specs.Vec.Iter.{into_iter_items}
use Rattle.daemon_core.specs.declared.event.Event.{Event}
use Rattle.live_stage.specs.Transcript.{history_of}
use Rattle.live_stage.proofs.RunLaws.{IsRunSoFar, IsTurnMade, begins, fails_on, goes_on, run_finds, run_replies, file_goes_on}
use Rattle.live_stage.proofs.RunLaws.{replayed_from_start}
use Rattle.live_stage.proofs.live.Live.run.Given.{Over}
use Rattle.live_stage.proofs.live.Live.run.Goals as goal

pub loop-event-init : goal.loop-event-init
loop-event-init g c =
    let from = c.into_iter-event-iterator.ensures.into_iter_gives in
    let items = ap length from.0 in
    let room = c.in-Ok.ensures.exact in
    record {
      so_far = rw c.in-Ok.ensures.items (begins g.D.Disk.honest g.D.Disk.history c.args.self.now c.is_broken-broken.ensures.kept);
      left = refl;
      room = omega (arith, items, room, c.in-Ok.ensures.len, c.len.ensures);
      counted = omega (arith, items, from.1);
      stays = λ was. refl;
      later_a = omega arith;
      later_b = omega arith;
      fault = λ ha hb usable broken. absurd cc;
    }

pub push_reserved-requires : goal.push_reserved-requires
push_reserved-requires g c =
    let steps : into_iter_items c.loop-event.event-iterator ≡ c.in-Some.event ∷ into_iter_items c.next.new.self =
    c.in-Some.ensures.steps.0 in
    let room = c.loop-event.invariant.room in
    omega (arith, room, ap length steps)

pub loop-event-preserved : goal.loop-event-preserved
loop-event-preserved g c =
    let at = c.loop-event in
    let turn = c.turn-answer.ensures in
    let steps : into_iter_items at.event-iterator ≡ c.in-Some.event ∷ into_iter_items c.next.new.self = c.in-Some.ensures.steps.0 in
    let short = ap length steps in
    let room = at.invariant.room in
    let was = at.invariant.counted in
    let gone = c.in-Some.ensures.steps.1 in
    let made : IsTurnMade g.D.Disk.honest g.D.Disk.history at.self c.turn-answer.new.self c.in-Some.event c.turn-answer.result = record {
      made = turn.step;
      any_moment = turn.any_moment;
      kept = turn.kept;
      usable = turn.refuses.usable;
      one_file = turn.file;
      file = file_goes_on at.self c.turn-answer.new.self c.in-Some.event c.turn-answer.result turn.step turn.refuses;
      broken = turn.refuses.broken;
      breaks = turn.refuses.breaks;
      nothing_done = turn.refuses.nothing_done;
      stays = turn.refuses.stays;
      not_counted = turn.refuses.not_counted;
      numbers_spent = turn.refuses.numbers_spent;
      continues_a = turn.later.a.done;
      continues_b = turn.later.b.done;
      honest_a = turn.later.a.honesty;
      honest_b = turn.later.b.honesty;
    } in
    let so_far = at.invariant.so_far in
    record {
      so_far = rw c.push_reserved.ensures.items
          (goes_on g.D.Disk.honest g.D.Disk.history c.args.self.now at.self c.turn-answer.new.self at.yielded at.answers.items
          c.in-Some.event c.turn-answer.result so_far made);
      left = append_assoc at.yielded (c.in-Some.event ∷ []) _ ∙ rw (← steps) at.invariant.left;
      room = omega (arith, room, short, c.push_reserved.ensures.len, c.push_reserved.ensures.capacity);
      counted = omega (arith, was, gone, short);
      stays = λ was. let same = at.invariant.stays was in let broken : at.self.is_broken ≡ true = rw same was in (turn.refuses.broken
          broken).1 ∙ same;
      later_a = omega (arith, at.invariant.later_a, turn.later.a.counted);
      later_b = omega (arith, at.invariant.later_b, turn.later.b.counted);
      fault = λ ha hb usable. fails_on g.D.Disk.honest g.D.Disk.history g.D.Disk.faults c.args.self.now at.self c.turn-answer.new.self
          c.in-Some.event c.turn-answer.result made at.invariant.later_a at.invariant.later_b
          (at.invariant.fault ha hb usable) (turn.fault.failed (so_far.honest_a.0 ha) (so_far.honest_b.0 hb));
    }

run_done : (g : Over) (c : goal.After-drop-event-iterator g)
    → IsRunSoFar g.D.Disk.honest g.D.Disk.history c.args.self.now c.loop-event.self c.args.events.items c.loop-event.answers.items
run_done g c =
    let at = c.loop-event in
    let none = c.in-None.ensures.steps in
    let empty : into_iter_items at.event-iterator ≡ [] = nil_from_length _ (sym at.invariant.counted ∙ none.0) in
    let all = sym (append-nil at.yielded) ∙ rw empty at at.invariant.left ∙ c.into_iter-event-iterator.ensures.into_iter_gives.0 in
    subst (λ (l : List Event). IsRunSoFar g.D.Disk.honest g.D.Disk.history c.args.self.now at.self l at.answers.items) all
    at.invariant.so_far

pub returns-clause-run : goal.returns-clause-run
returns-clause-run g c =
    let r = run_done g c in
    record { transcript = r.transcript; state = r.state; event = r.event; numbers = r.numbers }

pub returns-clause-refuses : goal.returns-clause-refuses
returns-clause-refuses g c =
    let r = run_done g c in
    record { broken = r.orderly; is_broken = r.broken; numbers_spent = r.spends }

pub returns-clause-one_life : goal.returns-clause-one_life
returns-clause-one_life g c = λ kept begun.
    let whole = history_of [] c.args.events.items c.loop-event.answers.items in
    record {
      replies = run_replies c.args.self.now kept [] c.args.events.items c.loop-event.answers.items begun (run_done g c).transcript;
      state = λ fine. (run_done g c).state fine ∙ rw begun (replayed_from_start kept whole);
    }

pub returns-clause-any_moment : goal.returns-clause-any_moment
returns-clause-any_moment g c = λ ha hb usable room.
    let r = run_done g c in
    r.any_moment ha hb usable room

pub returns-clause-file : goal.returns-clause-file
returns-clause-file g c = λ room.
    let r = run_done g c in
    let in_file = r.in_file room in
    record { same_file = in_file.same_file; other_file = in_file.other_file }

pub returns-clause-given_out : goal.returns-clause-given_out
returns-clause-given_out g c = λ ha hb usable. run_finds g.D.Disk.honest g.D.Disk.history c.args.self.now c.loop-event.self
    c.args.events.items c.loop-event.answers.items (run_done g c) ha hb usable

pub returns-clause-later : goal.returns-clause-later
returns-clause-later g c =
    let r = run_done g c in
    record {
      a = record { honesty = r.honest_a; done = r.continues_a; counted = c.loop-event.invariant.later_a };
      b = record { honesty = r.honest_b; done = r.continues_b; counted = c.loop-event.invariant.later_b };
    }
