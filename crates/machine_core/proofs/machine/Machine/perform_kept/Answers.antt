use Rattle.std.proofs.Common.{◌≡◌, ◌+◌, ◌≤◌, sym, subst, ◌∙◌}
use Rattle.profile.specs.declared.profile.Profile.{Profile}
use Rattle.machine_core.specs.Command.{meaning}
use Rattle.machine_core.specs.Size.{max_request_bytes, room_by}
use Rattle.machine_core.specs.State.{keeping}
use Rattle.machine_core.specs.Room.{under_room}
use Rattle.machine_core.proofs.FullLaws.{under_ok}
use Rattle.machine_core.proofs.KeepingLaws.{kept_wide}
use Rattle.machine_core.proofs.KeptReports.{since_timed}
use Rattle.machine_core.proofs.KeptWork.{can_keep_by, can_keep_in, made_within, went_all, went_kept, went_means, went_timed}
use Rattle.machine_core.proofs.machine.Machine.perform_kept.Goals as goal

pub keep_place-requires-clause-keeps : goal.keep_place-requires-clause-keeps
keep_place-requires-clause-keeps c =
    let under : c.keeping-keeping.result ≡ keeping c.args.self.now = c.keeping-keeping.ensures in
    can_keep_by c.keeping-keeping.result c.args.work.now c.perform_aside.new.work c.in_ok-perform_aside.ensures.performs.0.keeps
    (can_keep_in c.args.self.now c.keeping-keeping.result c.args.work.now under c.requires.keeps)

pub keep_place-requires-clause-room : goal.keep_place-requires-clause-room
keep_place-requires-clause-room c = λ wide.
    let under : c.keeping-keeping.result ≡ keeping c.args.self.now = c.keeping-keeping.ensures in
    subst (λ (p : Profile). c.perform_aside.new.work.size + room_by p ≤ max_request_bytes) (kept_wide c.args.self.now (sym under ∙ wide))
    c.in_ok-perform_aside.ensures.performs.1

pub keep_time-requires-clause-in_range : goal.keep_time-requires-clause-in_range
keep_time-requires-clause-in_range c =
    made_within c.args.work.now c.perform_aside.new.work c.keep_place.new.self _ _ c.len-made.result c.len-made.ensures
    c.in_ok-perform_aside.ensures.performs.0.ops.ops c.keep_place.ensures.ops.ops

pub returns-clause-performs : goal.returns-clause-performs
returns-clause-performs c =
    let m = c.args.self.now in
    let under : c.keeping-keeping.result ≡ keeping m = c.keeping-keeping.ensures in
    let went = c.in_ok-perform_aside.ensures.performs.0 in
    let placed = went_kept (under_room m (meaning c.args.mask c.args.command m)) m c.perform_aside.new.self c.keep_place.new.machine
    c.args.work.now
    c.perform_aside.new.work c.keep_place.new.self c.keeping-keeping.result c.before-before.result went under c.before-before.ensures.value
    c.keep_place.ensures.machine c.keep_place.ensures.ops c.keep_place.ensures.text in
    let timed = went_timed m went.meaning c.keep_place.new.machine c.keep_time.new.machine c.args.work.now c.keep_place.new.self
    c.keep_time.new.self c.keeping-keeping.result c.len-made.result placed under c.len-made.ensures c.keep_time.ensures.machine
    c.keep_time.ensures.ops c.keep_time.ensures.text in
    went_all _ m c.keep_time.new.machine went.meaning c.args.work.now c.keep_time.new.self
    (went_means (under_room m (meaning c.args.mask c.args.command m)) m c.perform_aside.new.self c.args.work.now
    c.perform_aside.new.work went
    c.in_ok-perform_aside.ensures.performs.1) timed

pub returns-clause-changed : goal.returns-clause-changed
returns-clause-changed c =
    let m = c.args.self.now in
    let under : c.keeping-keeping.result ≡ keeping m = c.keeping-keeping.ensures in
    let went = c.in_ok-perform_aside.ensures.performs.0 in
    let placed = went_kept (under_room m (meaning c.args.mask c.args.command m)) m c.perform_aside.new.self c.keep_place.new.machine
    c.args.work.now
    c.perform_aside.new.work c.keep_place.new.self c.keeping-keeping.result c.before-before.result went under c.before-before.ensures.value
    c.keep_place.ensures.machine c.keep_place.ensures.ops c.keep_place.ensures.text in
    let timed = went_timed m went.meaning c.keep_place.new.machine c.keep_time.new.machine c.args.work.now c.keep_place.new.self
    c.keep_time.new.self c.keeping-keeping.result c.len-made.result placed under c.len-made.ensures c.keep_time.ensures.machine
    c.keep_time.ensures.ops c.keep_time.ensures.text in
    c.changed_since.ensures
    ∙ since_timed c.args.mask c.args.command m c.keep_time.new.machine went.meaning c.args.work.now c.keep_time.new.self
    c.before-before.result c.len-made.result c.deref.result.now
    (under_ok m (meaning c.args.mask c.args.command m) went.meaning went.means) c.before-before.ensures.kept timed.stands timed.ops.ops
    c.before-before.ensures.value c.len-made.ensures c.deref.ensures.value
