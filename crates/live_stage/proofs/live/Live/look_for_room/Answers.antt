use Rattle.std.proofs.Common.{not, sym, ap, subst, ◌∙◌}
use Rattle.disk_model.specs.Later.{AreLater}
use Rattle.disk_model.proofs.LaterLaws.{pair_on}
use Rattle.live_stage.proofs.AheadLaws.{due_begun, has_room, looks_alone, looks_made, looks_put_off, made_neither, neither_due, not_made}
use Rattle.live_stage.proofs.AheadLaws.{on_ok_then, other_written, room_then, same_in_phases, since_begun, was_made}
use Rattle.live_stage.specs.LiveState.{LiveState}
use Rattle.live_stage.specs.Numbers.{is_due}
use Rattle.live_stage.specs.Turns.{HasBehind, room_kept}
use Rattle.live_stage.proofs.TurnLaws.{IsOtherKept}
use Rattle.live_stage.proofs.live.Live.look_for_room.Goals as goal

-- none is to be made
pub returns-then-not-is_snapshot_due-clause-same_state : goal.returns-then-not-is_snapshot_due-clause-same_state
returns-then-not-is_snapshot_due-clause-same_state g c = λ ha hb.
    let is = c.set_put_off.ensures in
    since_begun g.D.Disk.history c.args.self.now c.set_put_off.new.self c.make_record_room.new.self is
    (c.make_record_room.ensures.same_state (subst (λ (v : LiveState _). g.D.Disk.honest v.a) (sym is) ha)
    (subst (λ (v : LiveState _). g.D.Disk.honest v.b) (sym is) hb))

pub returns-then-not-is_snapshot_due-clause-looks : goal.returns-then-not-is_snapshot_due-clause-looks
returns-then-not-is_snapshot_due-clause-looks g c =
    let first = c.set_put_off.new.self in
    let neither = neither_due (is_due first.file) c.is_snapshot_due.result first.work c.is_snapshot_due.ensures c.if-not-is_snapshot_due.true in
    on_ok_then c.make_record_room.result c.make_record_room.ensures.same
    (looks_alone c.args.self.now first c.make_record_room.new.self c.set_put_off.ensures neither.undue)

pub returns-then-not-is_snapshot_due-clause-room : goal.returns-then-not-is_snapshot_due-clause-room
returns-then-not-is_snapshot_due-clause-room g c = λ ha hb.
    let is = c.set_put_off.ensures in
    let first = c.set_put_off.new.self in
    let neither = neither_due (is_due first.file) c.is_snapshot_due.result first.work c.is_snapshot_due.ensures c.if-not-is_snapshot_due.true in
    let ha0 = subst (λ (v : LiveState _). g.D.Disk.honest v.a) (sym is) ha in
    let hb0 = subst (λ (v : LiveState _). g.D.Disk.honest v.b) (sym is) hb in
    room_then c.make_record_room.result c.make_record_room.ensures.same (c.make_record_room.ensures.room ha0 hb0)
    (λ b same behind there. has_room g.D.Disk.content first c.make_record_room.new.self (ap (λ v. v.file.is_put_off) is) neither same
    (behind there))

-- one is, and is put off
pub returns-then-not-is_made-clause-looks : goal.returns-then-not-is_made-clause-looks
returns-then-not-is_made-clause-looks g c =
    looks_put_off c.args.self.now c.set_put_off.new.self c.make_due.new.self c.set_put_off-then-not-is_made.new.self c.set_put_off.ensures
    (sym c.is_snapshot_due.ensures ∙ c.if-not-is_snapshot_due.false)
    (not_made c.in_ok-is_made.is_made c.set_put_off.new.self c.make_due.new.self c.if-not-is_made.true c.in_ok-is_made.ensures.made)
    c.set_put_off-then-not-is_made.ensures

-- one was made
pub returns-clause-looks : goal.returns-clause-looks
returns-clause-looks g c =
    let laid = was_made c.in_ok-is_made.is_made c.set_put_off.new.self c.make_due.new.self c.if-not-is_made.false
    c.in_ok-is_made.ensures.made in
    on_ok_then c.make_record_room-2.result c.make_record_room-2.ensures.same
    (looks_made c.args.self.now c.set_put_off.new.self c.make_due.new.self c.make_record_room-2.new.self c.set_put_off.ensures
    (sym c.is_snapshot_due.ensures ∙ c.if-not-is_snapshot_due.false) laid)

pub returns-clause-room : goal.returns-clause-room
returns-clause-room g c = λ ha hb.
    let is = c.set_put_off.ensures in
    let laid = was_made c.in_ok-is_made.is_made c.set_put_off.new.self c.make_due.new.self c.if-not-is_made.false
    c.in_ok-is_made.ensures.made in
    let ha' = c.make_due.ensures.later.a.honesty.0 (subst (λ (v : LiveState _). g.D.Disk.honest v.a) (sym is) ha) in
    let hb' = c.make_due.ensures.later.b.honesty.0 (subst (λ (v : LiveState _). g.D.Disk.honest v.b) (sym is) hb) in
    room_then c.make_record_room-2.result c.make_record_room-2.ensures.same (c.make_record_room-2.ensures.room ha' hb')
    (λ b same behind there. has_room g.D.Disk.content c.make_due.new.self c.make_record_room-2.new.self
    (ap (λ f. f.is_put_off) laid.file) (made_neither c.set_put_off.new.self c.make_due.new.self laid) same (behind there))

pub returns-clause-same_state : goal.returns-clause-same_state
returns-clause-same_state g c = λ ha hb.
    let is = c.set_put_off.ensures in
    let first = c.set_put_off.new.self in
    let made = c.make_due.ensures in
    let laid = was_made c.in_ok-is_made.is_made c.set_put_off.new.self c.make_due.new.self c.if-not-is_made.false
    c.in_ok-is_made.ensures.made in
    let room = c.make_record_room-2.ensures in
    let ha0 = subst (λ (v : LiveState _). g.D.Disk.honest v.a) (sym is) ha in
    let hb0 = subst (λ (v : LiveState _). g.D.Disk.honest v.b) (sym is) hb in
    let ha' = made.later.a.honesty.0 ha0 in
    let hb' = made.later.b.honesty.0 hb0 in
    since_begun g.D.Disk.history c.args.self.now first c.make_record_room-2.new.self is
    (same_in_phases g.D.Disk.history (not first.is_in_b) first c.make_due.new.self c.make_record_room-2.new.self
    (other_written first c.make_due.new.self made.file)
    (subst (λ in_b. IsOtherKept in_b c.make_due.new.self c.make_record_room-2.new.self) laid.other_file room.file.other_file)
    laid.state (made.later.a.done ha0) (room.later.a.done ha') (made.later.b.done hb0) (room.later.b.done hb') (made.same_state ha0 hb0)
    (room.same_state ha' hb'))

pub returns-clause-later : goal.returns-clause-later
returns-clause-later g c =
    subst (λ (v : LiveState _). AreLater g.D.Disk.honest g.D.Disk.history g.D.Disk.faults v.a v.b c.make_record_room-2.new.self.a
    c.make_record_room-2.new.self.b) c.set_put_off.ensures (pair_on c.make_due.ensures.later c.make_record_room-2.ensures.later)

-- where none is due, and there is room
pub returns-then-not-is_snapshot_due-clause-there : goal.returns-then-not-is_snapshot_due-clause-there
returns-then-not-is_snapshot_due-clause-there g c = λ ha hb undue light room.
    let is = sym c.set_put_off.ensures in
    c.make_record_room.ensures.there (subst (λ (v : LiveState _). g.D.Disk.honest v.a) is ha)
    (subst (λ (v : LiveState _). g.D.Disk.honest v.b) is hb)
    (subst (λ (v : LiveState _). HasBehind g.D.Disk.content room_kept v) is room)

pub returns-in_err-is_made-clause-there : goal.returns-in_err-is_made-clause-there
returns-in_err-is_made-clause-there g c = λ ha hb undue light room.
    absurd (due_begun c.args.self.now c.set_put_off.new.self c.set_put_off.ensures
    (sym c.is_snapshot_due.ensures ∙ c.if-not-is_snapshot_due.false) undue light)

pub returns-then-not-is_made-clause-there : goal.returns-then-not-is_made-clause-there
returns-then-not-is_made-clause-there g c = λ ha hb undue light room.
    absurd (due_begun c.args.self.now c.set_put_off.new.self c.set_put_off.ensures
    (sym c.is_snapshot_due.ensures ∙ c.if-not-is_snapshot_due.false) undue light)

pub returns-clause-there : goal.returns-clause-there
returns-clause-there g c = λ ha hb undue light room.
    absurd (due_begun c.args.self.now c.set_put_off.new.self c.set_put_off.ensures
    (sym c.is_snapshot_due.ensures ∙ c.if-not-is_snapshot_due.false) undue light)
