use Rattle.std.proofs.Common.{refl, sym, arith}
use Rattle.daemon_core.specs.Request.{asker_of}
use Rattle.daemon_core.specs.Run.{separator, spent_of}
use Rattle.daemon_core.proofs.RequestLaws.{end_counts, nothing_told_of, went_on, performed_ends, performed_refuses}
use Rattle.daemon_core.proofs.request.run_command.Goals as goal

pub returns-in-Ok-clause-ran : goal.returns-in-Ok-clause-ran
returns-in-Ok-clause-ran c =
    went_on (asker_of c.args.asked) (spent_of c.args.work.now.size c.args.looks.now c.args.view c.args.talks.now.messages) c.args.command
    (separator c.args.asked.separated) c.args.machine.now c.perform.new.machine c.args.talks.now c.perform.new.talks c.args.work.now
    c.perform.new.work c.separate.new.work c.in-Ok.changed c.in-Ok.ensures.ran (sym c.in-None.ensures) c.separate.ensures.text
    c.separate.ensures.room

pub returns-in-Err-Refused-clause-ran : goal.returns-in-Err-Refused-clause-ran
returns-in-Err-Refused-clause-ran c =
    let failed = rw c.in-Err-Refused.field-0-is at c.in-Err-Refused.ensures.ran in
    record {
      stands = failed.stands;
      same = failed.same;
      nothing = nothing_told_of _ _ failed.nothing;
      why = performed_refuses (asker_of c.args.asked) (spent_of c.args.work.now.size c.args.looks.now c.args.view c.args.talks.now.messages)
          c.args.command c.args.machine.now _ (sym c.in-None.ensures) failed.refusal;
    }

pub returns-in-Err-NoMemory-clause-ran : goal.returns-in-Err-NoMemory-clause-ran
returns-in-Err-NoMemory-clause-ran c =
    let failed = c.in-Err-NoMemory.ensures.ran in
    record { stands = failed.stands; same = failed.same; nothing = nothing_told_of _ _ failed.nothing; why = tt }

pub returns-in-Some-clause-ran : goal.returns-in-Some-clause-ran
returns-in-Some-clause-ran c = record {
  stands = refl;
  same = record { messages = refl; notified = refl };
  nothing = record { text = refl; shorter = omega arith; room = omega arith; ops = refl; size = refl };
  why = performed_ends (asker_of c.args.asked) (spent_of c.args.work.now.size c.args.looks.now c.args.view c.args.talks.now.messages) c.args.command
      c.args.machine.now c.in-Some.ending (sym c.in-Some.ensures);
}

pub returns-in-Some-clause-looks : goal.returns-in-Some-clause-looks
returns-in-Some-clause-looks c =
    let it = c.args.command in
    end_counts it.command c.args.machine.now c.in-Some.ending c.args.looks.now (sym c.in-Some.ensures)
