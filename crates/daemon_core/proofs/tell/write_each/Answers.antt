use Rattle.daemon_core.proofs.TellLaws.{so_told_begins, room_for_next, so_told_more, so_told_ends}
use Rattle.daemon_core.proofs.tell.write_each.Goals as goal

pub loop-subsystem-init : goal.loop-subsystem-init
loop-subsystem-init c = so_told_begins c.args.changed c.args.subsystems.now c.args.text.now c.requires

pub write_if-requires : goal.write_if-requires
write_if-requires c =
    room_for_next c.args.changed c.args.subsystems.now c.loop-subsystem.rest.now c.in-Some.after.now c.in-Some.subsystem.now
    c.args.text.now c.loop-subsystem.text
    (let s = c.in-Some.ensures.cases in s.0) c.loop-subsystem.invariant

pub loop-subsystem-preserved : goal.loop-subsystem-preserved
loop-subsystem-preserved c =
    so_told_more c.args.changed c.args.subsystems.now c.loop-subsystem.rest.now c.in-Some.after.now c.in-Some.subsystem.now
    c.contains.result c.args.text.now c.loop-subsystem.text c.write_if.new.text
    (let s = c.in-Some.ensures.cases in s.0) c.contains.ensures c.loop-subsystem.invariant c.write_if.ensures.text c.write_if.ensures.room

pub returns-clause-text : goal.returns-clause-text
returns-clause-text c = so_told_ends c.args.changed c.args.subsystems.now c.loop-subsystem.rest.now c.args.text.now c.loop-subsystem.text
    c.in_default.ensures.cases c.loop-subsystem.invariant

pub returns-clause-room : goal.returns-clause-room
returns-clause-room c = let far = c.loop-subsystem.invariant in far.kept
