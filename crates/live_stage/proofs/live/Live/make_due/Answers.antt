use Rattle.std.proofs.Common.{not}
use Rattle.live_stage.proofs.AheadLaws.{checkpointed_on, in_use_kept, other_written, other_written_from, same_in_phases}
use Rattle.live_stage.proofs.TurnLaws.{found_same}
use Rattle.disk_model.proofs.LaterLaws.{pair_on}
use Rattle.live_stage.proofs.live.Live.make_due.Goals as goal

pub returns-then-generation-clause-same_state : goal.returns-then-generation-clause-same_state
returns-then-generation-clause-same_state g c = λ ha hb.
    found_same _ _ c.args.self.now.state.machine.saved (c.is_broken-broken.ensures.kept ha hb c.requires.usable)

pub returns-in_err-checkpoint-clause-same_state : goal.returns-in_err-checkpoint-clause-same_state
returns-in_err-checkpoint-clause-same_state g c = λ ha hb.
    let old = c.args.self.now in
    let room = c.make_other_room.ensures in
    let same = c.in_ok-is_there.ensures.same in
    let laid = c.checkpoint.ensures in
    let ha' = room.later.a.honesty.0 ha in
    let hb' = room.later.b.honesty.0 hb in
    same_in_phases g.D.Disk.history (not old.is_in_b) old c.make_other_room.new.self c.checkpoint.new.self
    (other_written old c.make_other_room.new.self room.file)
    (other_written_from old c.make_other_room.new.self c.checkpoint.new.self same.same_file laid.old_file) same.state
    (room.later.a.done ha) (laid.later.a.done ha') (room.later.b.done hb) (laid.later.b.done hb') (room.same_state ha hb)
    (laid.same_state ha' hb' same.usable)

pub returns-clause-same_state : goal.returns-clause-same_state
returns-clause-same_state g c = λ ha hb.
    let old = c.args.self.now in
    let room = c.make_other_room.ensures in
    let same = c.in_ok-is_there.ensures.same in
    let laid = c.checkpoint.ensures in
    let ha' = room.later.a.honesty.0 ha in
    let hb' = room.later.b.honesty.0 hb in
    same_in_phases g.D.Disk.history (not old.is_in_b) old c.make_other_room.new.self c.checkpoint.new.self
    (other_written old c.make_other_room.new.self room.file)
    (other_written_from old c.make_other_room.new.self c.checkpoint.new.self same.same_file laid.old_file) same.state
    (room.later.a.done ha) (laid.later.a.done ha') (room.later.b.done hb) (laid.later.b.done hb') (room.same_state ha hb)
    (laid.same_state ha' hb' same.usable)

pub returns-clause-made : goal.returns-clause-made
returns-clause-made g c = checkpointed_on c.args.self.now c.make_other_room.new.self c.checkpoint.new.self
    c.in_ok-is_there.ensures.same c.in_ok-checkpoint.ensures.next

pub returns-in_err-checkpoint-clause-file : goal.returns-in_err-checkpoint-clause-file
returns-in_err-checkpoint-clause-file g c = in_use_kept c.args.self.now c.make_other_room.new.self c.checkpoint.new.self
    c.in_ok-is_there.ensures.same.same_file c.make_other_room.ensures.file c.checkpoint.ensures.old_file

pub returns-clause-file : goal.returns-clause-file
returns-clause-file g c = in_use_kept c.args.self.now c.make_other_room.new.self c.checkpoint.new.self
    c.in_ok-is_there.ensures.same.same_file c.make_other_room.ensures.file c.checkpoint.ensures.old_file

pub returns-in_err-checkpoint-clause-later : goal.returns-in_err-checkpoint-clause-later
returns-in_err-checkpoint-clause-later g c = pair_on c.in_ok-is_there.ensures.later c.in_err-checkpoint.ensures.later

pub returns-clause-later : goal.returns-clause-later
returns-clause-later g c = pair_on c.in_ok-is_there.ensures.later c.in_ok-checkpoint.ensures.later
