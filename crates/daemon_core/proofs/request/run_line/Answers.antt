use Rattle.std.proofs.Common.{◌≡◌, refl, ap, ◌∙◌, sym, subst}
use Rattle.std.specs.Prelude.{Ok, Err}
use Rattle.profile.specs.declared.profile.Profile.{Profile}
use Rattle.state_codec.specs.SavedState.{SavedState}
use Rattle.machine_core.specs.Work.{CanKeepBy}
use Rattle.machine_core.proofs.Edits.{was_ok}
use Rattle.daemon_core.specs.Request.{asker_of}
use Rattle.daemon_core.specs.Run.{separator, spent_of}
use Rattle.daemon_core.proofs.RequestLaws.{words_stop, words_count, command_stop, command_counts, line_runs, line_looks, looks_counted}
use Rattle.daemon_core.proofs.RequestLaws.{cut_tells_nothing, words_view, command_view}
use Rattle.daemon_core.proofs.RequestLaws.{line_view, read_under, view_of_so}
use Rattle.daemon_core.proofs.request.run_line.Goals as goal

pub returns-then-is_err-clause-runs : goal.returns-then-is_err-clause-runs
returns-then-is_err-clause-runs c = record {
  stands = refl;
  same = record { messages = refl; notified = refl };
  nothing = cut_tells_nothing _ _ c.make_room.ensures.cut;
  why = tt;
}

pub returns-in-Err-clause-runs : goal.returns-in-Err-clause-runs
returns-in-Err-clause-runs c = record {
  stands = refl;
  same = record { messages = refl; notified = refl };
  nothing = cut_tells_nothing _ _ c.make_room.ensures.cut;
  why = words_stop (asker_of c.args.asked) c.args.asked.place (spent_of c.args.work.now.size c.args.looks.now c.args.view.now c.args.talks.now.messages) c.args.line.now c.args.machine.now
      c.in-Err.error
      c.stop_of_reading.result
      c.in-Err.ensures.exact c.stop_of_reading.ensures;
}

pub returns-in-Err-clause-looks : goal.returns-in-Err-clause-looks
returns-in-Err-clause-looks c =
    words_count c.args.asked.place c.args.line.now c.args.machine.now c.in-Err.error c.stop_of_reading.result c.args.looks.now
    c.in-Err.ensures.exact c.stop_of_reading.ensures

pub returns-clause-runs : goal.returns-clause-runs
returns-clause-runs c =
    let same : c.profile-profile.result ≡ c.args.machine.now.saved.profile =
    c.profile-profile.ensures ∙ ap (λ (s : SavedState). s.profile) c.saved.ensures in
    record {
      stands = refl;
      same = record { messages = refl; notified = refl };
      nothing = cut_tells_nothing _ _ c.make_room.ensures.cut;
      why = command_stop (asker_of c.args.asked) c.args.asked.place (spent_of c.args.work.now.size c.args.looks.now c.args.view.now c.args.talks.now.messages) c.args.line.now c.in-Ok.words.items
          c.as_slice.result.now c.args.machine.now c.in-Err-read.error c.stop_of_reading-in-Err-read.result c.in-Ok.ensures.exact
          c.as_slice.ensures.value (read_under c.args.asked.place c.as_slice.result.now (Err c.in-Err-read.error) same
          c.in-Err-read.ensures.exact) c.stop_of_reading-in-Err-read.ensures;
    }

pub returns-clause-looks : goal.returns-clause-looks
returns-clause-looks c =
    let same : c.profile-profile.result ≡ c.args.machine.now.saved.profile =
    c.profile-profile.ensures ∙ ap (λ (s : SavedState). s.profile) c.saved.ensures in
    command_counts c.args.asked.place c.args.line.now c.in-Ok.words.items c.as_slice.result.now c.args.machine.now c.in-Err-read.error
    c.stop_of_reading-in-Err-read.result c.args.looks.now c.in-Ok.ensures.exact c.as_slice.ensures.value
    (read_under c.args.asked.place c.as_slice.result.now (Err c.in-Err-read.error) same c.in-Err-read.ensures.exact)
    c.stop_of_reading-in-Err-read.ensures

pub returns-in-Ok-read-clause-runs : goal.returns-in-Ok-read-clause-runs
returns-in-Ok-read-clause-runs c =
    let same : c.profile-profile.result ≡ c.args.machine.now.saved.profile =
    c.profile-profile.ensures ∙ ap (λ (s : SavedState). s.profile) c.saved.ensures in
    line_runs (asker_of c.args.asked) c.args.asked.place (separator c.args.asked.separated) c.args.line.now c.in-Ok.words.items c.as_slice.result.now c.in-Ok-read.command
    c.args.machine.now c.run_command.new.machine c.args.talks.now c.run_command.new.talks c.args.work.now c.make_room.new.self c.run_command.new.work
    c.args.looks.now c.args.view.now c.run_command.result c.in-Ok.ensures.exact c.as_slice.ensures.value
    (read_under c.args.asked.place c.as_slice.result.now (Ok c.in-Ok-read.command) same c.in-Ok-read.ensures.exact)
    c.make_room.ensures.cut
    c.run_command.ensures.ran

pub returns-in-Ok-read-clause-looks : goal.returns-in-Ok-read-clause-looks
returns-in-Ok-read-clause-looks c =
    let same : c.profile-profile.result ≡ c.args.machine.now.saved.profile =
    c.profile-profile.ensures ∙ ap (λ (s : SavedState). s.profile) c.saved.ensures in
    looks_counted c.args.machine.now.saved.profile c.run_command.result c.args.looks.now c.run_command.new.looks
    (line_looks c.args.asked.place c.args.line.now c.in-Ok.words.items c.as_slice.result.now c.in-Ok-read.command c.args.machine.now
    c.in-Ok.ensures.exact c.as_slice.ensures.value
    (read_under c.args.asked.place c.as_slice.result.now (Ok c.in-Ok-read.command) same c.in-Ok-read.ensures.exact)) c.run_command.ensures.looks

pub returns-in-Err-clause-view : goal.returns-in-Err-clause-view
returns-in-Err-clause-view c =
    words_view c.args.asked.place c.args.line.now c.args.machine.now c.in-Err.error c.stop_of_reading.result c.args.view.now
    c.in-Err.ensures.exact c.stop_of_reading.ensures

pub returns-clause-view : goal.returns-clause-view
returns-clause-view c =
    let same : c.profile-profile.result ≡ c.args.machine.now.saved.profile =
    c.profile-profile.ensures ∙ ap (λ (s : SavedState). s.profile) c.saved.ensures in
    command_view c.args.asked.place c.args.line.now c.in-Ok.words.items c.as_slice.result.now c.args.machine.now c.in-Err-read.error
    c.stop_of_reading-in-Err-read.result c.args.view.now c.in-Ok.ensures.exact c.as_slice.ensures.value
    (read_under c.args.asked.place c.as_slice.result.now (Err c.in-Err-read.error) same c.in-Err-read.ensures.exact)
    c.stop_of_reading-in-Err-read.ensures

pub returns-in-Ok-read-clause-view : goal.returns-in-Ok-read-clause-view
returns-in-Ok-read-clause-view c =
    let same : c.profile-profile.result ≡ c.args.machine.now.saved.profile =
    c.profile-profile.ensures ∙ ap (λ (s : SavedState). s.profile) c.saved.ensures in
    view_of_so c.run_command.result _ c.behind.result (c.behind.ensures
    ∙ line_view c.args.asked.place c.args.line.now c.in-Ok.words.items c.as_slice.result.now c.in-Ok-read.command c.args.machine.now
    c.args.view.now c.in-Ok.ensures.exact c.as_slice.ensures.value
    (read_under c.args.asked.place c.as_slice.result.now (Ok c.in-Ok-read.command) same c.in-Ok-read.ensures.exact))

pub run_command-requires-clause-keeps : goal.run_command-requires-clause-keeps
run_command-requires-clause-keeps c =
    let same : c.profile-profile.result ≡ c.args.machine.now.saved.profile =
    c.profile-profile.ensures ∙ ap (λ (s : SavedState). s.profile) c.saved.ensures in
    subst (λ (p : Profile). CanKeepBy p c.make_room.new.self) same
    (was_ok c.make_room.result (CanKeepBy c.profile-profile.result c.make_room.new.self) (sym c.is_err.ensures.value ∙ c.if-is_err.false)
    c.make_room.ensures.keeps)
