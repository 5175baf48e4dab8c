use Rattle.std.proofs.Common.{refl, sym, ap, subst, ◌∙◌}
use Rattle.state_codec.specs.SavedState.{SavedState}
use Rattle.daemon_core.specs.Request.{AnswersStop, asker_of}
use Rattle.daemon_core.specs.Run.{separator}
use Rattle.daemon_core.proofs.RequestLaws.{SoFar, so_far_begins, ran_stops, ran_goes, ran_all}
use Rattle.daemon_core.proofs.request.run_lines.Goals as goal

pub loop-line-init : goal.loop-line-init
loop-line-init c =
    subst (λ looks. SoFar (asker_of c.args.asked) c.args.asked.place (separator c.args.asked.separated) c.args.lines c.args.lines 0 c.args.machine.now
    c.args.machine.now c.args.talks.now c.args.talks.now c.args.work.now c.args.work.now looks c.args.view c.args.view c.none-changed.result) (sym c.new-looks.ensures)
    (subst (SoFar (asker_of c.args.asked) c.args.asked.place (separator c.args.asked.separated) c.args.lines c.args.lines 0 c.args.machine.now c.args.machine.now
    c.args.talks.now c.args.talks.now c.args.work.now c.args.work.now 0 c.args.view c.args.view) (sym c.none-changed.ensures)
    (so_far_begins (asker_of c.args.asked) c.args.asked.place (separator c.args.asked.separated) c.args.lines c.args.machine.now c.args.talks.now c.args.work.now c.args.view c.requires.room))

pub loop-line-preserved : goal.loop-line-preserved
loop-line-preserved c =
    subst (SoFar (asker_of c.args.asked) c.args.asked.place (separator c.args.asked.separated) c.args.lines c.in-Some.after _ c.args.machine.now
    c.run_line.new.machine c.args.talks.now c.run_line.new.talks c.args.work.now c.run_line.new.work c.run_line.new.looks c.args.view c.run_line.new.view)
    (sym c.union-changed.ensures)
    (ran_goes (asker_of c.args.asked) c.args.asked.place (separator c.args.asked.separated) c.args.lines c.loop-line.rest c.in-Some.after
    c.in-Some.line.now c.loop-line.index c.args.machine.now c.loop-line.machine
    c.run_line.new.machine c.args.talks.now c.loop-line.talks c.run_line.new.talks c.args.work.now c.loop-line.work c.run_line.new.work c.loop-line.looks c.run_line.new.looks
    c.args.view c.loop-line.view c.run_line.new.view c.loop-line.changed c.in-Ok.set c.in-Some.ensures.first c.loop-line.invariant
    c.in-Ok.ensures.runs c.in-Ok.ensures.looks c.in-Ok.ensures.view)

pub returns-in-Err : goal.returns-in-Err
returns-in-Err c =
    let profile = c.profile-profile.ensures ∙ ap (λ (s : SavedState). s.profile) c.saved.ensures in
    ran_stops (asker_of c.args.asked) c.args.asked.place (separator c.args.asked.separated) c.args.lines c.loop-line.rest c.in-Some.after
    c.in-Some.line.now c.loop-line.index c.args.machine.now c.loop-line.machine
    c.run_line.new.machine c.args.talks.now c.loop-line.talks c.run_line.new.talks c.args.work.now c.loop-line.work c.run_line.new.work c.answer_stop-ending.new.work c.loop-line.looks
    c.run_line.new.looks c.looks_at_end-looks.result
    c.args.view c.loop-line.view c.run_line.new.view c.view_at_end-view.result
    c.loop-line.changed c.in-Err.stop c.answer_stop-ending.result.1 c.answer_stop-ending.result.0 c.in-Some.ensures.first
    c.loop-line.invariant
    c.in-Err.ensures.runs c.in-Err.ensures.looks c.looks_at_end-looks.ensures c.in-Err.ensures.view c.view_at_end-view.ensures
    (subst (λ p. AnswersStop p c.in-Err.stop c.loop-line.index c.in-Some.line.now c.answer_stop-ending.result.1
    c.answer_stop-ending.result.0 c.run_line.new.work c.answer_stop-ending.new.work) profile c.answer_stop-ending.ensures)

pub returns : goal.returns
returns c =
    ran_all (asker_of c.args.asked) c.args.asked.place (separator c.args.asked.separated) c.args.lines c.loop-line.rest c.loop-line.index c.args.machine.now
    c.loop-line.machine c.args.talks.now c.loop-line.talks c.args.work.now c.loop-line.work c.end.new.self c.loop-line.looks c.taken.result c.args.view c.loop-line.view
    c.loop-line.changed
    (c.in_default.ensures.none refl)
    c.loop-line.invariant c.taken.ensures c.end.ensures
