use Rattle.std.proofs.Common.{◌≡◌, List, Ok, Err, sym, ap, subst, ◌∙◌}
use Rattle.command_text.specs.declared.command.Command.{Command}
use Rattle.machine_core.specs.Looks.{looks_of}
use Rattle.song_db.specs.Row.{Row}
use Rattle.state_codec.specs.SavedState.{SavedState}
use Rattle.daemon_core.specs.Pictures.{IsShownRefusal, WentShowing, shown}
use Rattle.daemon_core.specs.Request.{RunsCommand, asker_of}
use Rattle.daemon_core.specs.Run.{done_by, spent_of}
use Rattle.daemon_core.proofs.RequestLaws.{looked_none, machine_runs, show_fails, show_goes, talk_runs}
use Rattle.daemon_core.proofs.TalkLaws.{no_own}
use Rattle.daemon_core.proofs.request.perform.Goals as goal

pub returns-in-Messages-clause-ran : goal.returns-in-Messages-clause-ran
returns-in-Messages-clause-ran c =
    let a = asker_of c.args.asked in
    subst (λ (command : Command). RunsCommand (done_by a (spent_of c.args.work.now.size c.args.looks.now c.args.view
    c.args.talks.now.messages) command c.args.machine.now) c.args.machine.now c.args.machine.now c.args.talks.now c.perform.new.self
    c.args.work.now c.perform.new.work c.perform.result) (sym c.in-Messages.is)
    (talk_runs a c.in-Messages.command c.args.machine.now c.args.talks.now c.perform.new.self c.args.work.now
    c.perform.new.work c.args.looks.now c.args.view c.perform.result c.perform.ensures.talked)

-- what was read is told of the songs that are saved
pub returns-in-Ok-clause-ran : goal.returns-in-Ok-clause-ran
returns-in-Ok-clause-ran c =
    let a = asker_of c.args.asked in
    let songs : c.songs.result.now ≡ c.args.machine.now.saved.songs =
    c.songs.ensures ∙ ap (λ (s : SavedState). s.songs) c.saved.ensures in
    subst (λ (command : Command). RunsCommand (done_by a (spent_of c.args.work.now.size c.args.looks.now c.args.view
    c.args.talks.now.messages) command c.args.machine.now) c.args.machine.now c.args.machine.now c.args.talks.now c.args.talks.now
    c.args.work.now c.show.new.work (Ok c.none.result)) (sym c.in-Pictures.is)
    (show_goes a c.in-Pictures.command c.args.machine.now c.args.talks.now c.args.work.now c.show.new.work c.args.looks.now c.args.view
    c.none.result (subst (λ (rows : List Row). WentShowing (shown c.args.view.limit a.told rows c.in-Pictures.command) c.args.work.now
    c.show.new.work) songs c.in-Ok.ensures) c.none.ensures)

pub returns-in-Err-clause-ran : goal.returns-in-Err-clause-ran
returns-in-Err-clause-ran c =
    let a = asker_of c.args.asked in
    let songs : c.songs.result.now ≡ c.args.machine.now.saved.songs =
    c.songs.ensures ∙ ap (λ (s : SavedState). s.songs) c.saved.ensures in
    subst (λ (command : Command). RunsCommand (done_by a (spent_of c.args.work.now.size c.args.looks.now c.args.view
    c.args.talks.now.messages) command c.args.machine.now) c.args.machine.now c.args.machine.now c.args.talks.now c.args.talks.now
    c.args.work.now c.show.new.work (Err c.in-Err.failure)) (sym c.in-Pictures.is)
    (show_fails a c.in-Pictures.command c.args.machine.now c.args.talks.now c.args.work.now c.show.new.work c.args.looks.now c.args.view
    c.in-Err.failure c.in-Err.ensures.0 (subst (λ (rows : List Row). IsShownRefusal (shown c.args.view.limit a.told rows
    c.in-Pictures.command) c.in-Err.failure) songs c.in-Err.ensures.1))

pub returns-in_default : goal.returns-in_default
returns-in_default c =
    let did = c.perform-in_default.ensures in
    let a = asker_of c.args.asked in
    record {
      ran = machine_runs a c.args.command c.args.machine.now c.perform-in_default.new.self c.args.talks.now c.args.work.now
          c.perform-in_default.new.work c.args.looks.now c.args.view c.perform-in_default.result
          (no_own a (spent_of c.args.work.now.size c.args.looks.now c.args.view c.args.talks.now.messages) c.args.command c.args.machine.now
          c.in_default.not-Messages c.in_default.not-Pictures) did.performs did.changed;
      looks = did.looks;
      memory = did.memory;
    }

-- what the daemon performs looks at nothing
pub returns-in-Messages-clause-looks : goal.returns-in-Messages-clause-looks
returns-in-Messages-clause-looks c =
    looked_none c.args.machine.now.saved.profile c.args.looks.now (looks_of c.args.command c.args.machine.now)
    (ap (λ (command : Command). looks_of command c.args.machine.now) c.in-Messages.is)

pub returns-in-Ok-clause-looks : goal.returns-in-Ok-clause-looks
returns-in-Ok-clause-looks c =
    looked_none c.args.machine.now.saved.profile c.args.looks.now (looks_of c.args.command c.args.machine.now)
    (ap (λ (command : Command). looks_of command c.args.machine.now) c.in-Pictures.is)

pub returns-in-Err-clause-looks : goal.returns-in-Err-clause-looks
returns-in-Err-clause-looks c =
    looked_none c.args.machine.now.saved.profile c.args.looks.now (looks_of c.args.command c.args.machine.now)
    (ap (λ (command : Command). looks_of command c.args.machine.now) c.in-Pictures.is)
