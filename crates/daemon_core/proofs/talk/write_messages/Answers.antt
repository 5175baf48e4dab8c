use Rattle.command_text.proofs.LineLoops.{leaves_all, leaves_fewer, leaves_none, leaves_off, no_items}
use Rattle.daemon_core.specs.Talk.{lines_of}
use Rattle.daemon_core.proofs.talk.write_messages.Goals as goal

pub loop-message-init : goal.loop-message-init
loop-message-init c = leaves_all lines_of c.args.messages.now c.args.out.now

pub loop-message-preserved : goal.loop-message-preserved
loop-message-preserved c =
    leaves_fewer lines_of c.args.messages.now c.in-Some.message.now c.in-Some.after.now _ _ _ _
    (rw (let s = c.in-Some.ensures.cases in s.0) at c.loop-message.invariant) c.in_ok-write_one.ensures

pub returns-in_err-write_one : goal.returns-in_err-write_one
returns-in_err-write_one c =
    leaves_off lines_of c.args.messages.now c.in-Some.message.now c.in-Some.after.now _ _ _ _ _
    (rw (let s = c.in-Some.ensures.cases in s.0) at c.loop-message.invariant) c.in_err-write_one.ensures c.from_residual.ensures.0

pub returns : goal.returns
returns c =
    leaves_none lines_of c.args.messages.now _ _ _
    (rw (no_items c.loop-message.rest.now c.in_default.ensures.cases) at c.loop-message.invariant)
