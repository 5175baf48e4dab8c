use Rattle.std.proofs.Common.{inr, ap}
use Rattle.disk_model.proofs.LaterLaws.{later_on}
use Rattle.disk_model.proofs.LengthLaws.{later_begun, later_lengthened}
use Rattle.disk_model.proofs.MomentLaws.{all_join, all_weaker}
use Rattle.disk_model.specs.Images.{window}
use Rattle.play_journal.specs.Laying.{IsSameOrShut}
use Rattle.play_journal.proofs.AheadLaws.{shut_begins, since_begun, since_lengthened, still_or_shut}
use Rattle.play_journal.proofs.journal.ahead.lengthen_shut.Goals as goal

pub returns-in_err-close_gate-clause-later : goal.returns-in_err-close_gate-clause-later
returns-in_err-close_gate-clause-later g c = later_on c.in_ok-make_gate.ensures.later c.in_err-close_gate.ensures.later

pub returns-in-Ok-clause-later : goal.returns-in-Ok-clause-later
returns-in-Ok-clause-later g c =
    later_on (later_on c.in_ok-make_gate.ensures.later c.in_ok-close_gate.ensures.later)
    (later_lengthened g.D.Disk.honest g.D.Disk.content g.D.Disk.history g.D.Disk.faults c.close_gate.new.disk c.lengthen.new.self _
    c.lengthen.ensures.honest c.lengthen.ensures.counted.later c.in-Ok.ensures.lengthened)

pub returns-in-Err-clause-later : goal.returns-in-Err-clause-later
returns-in-Err-clause-later g c =
    later_on (later_on c.in_ok-make_gate.ensures.later c.in_ok-close_gate.ensures.later)
    (later_begun g.D.Disk.honest g.D.Disk.content g.D.Disk.history g.D.Disk.faults c.close_gate.new.disk c.lengthen.new.self _
    c.lengthen.ensures.honest c.lengthen.ensures.counted.later c.in-Err.ensures.in_part)

pub returns-in_err-close_gate-clause-any_moment : goal.returns-in_err-close_gate-clause-any_moment
returns-in_err-close_gate-clause-any_moment g c = λ honest is_settled.
    let made = c.in_ok-make_gate.ensures in
    let shut = c.in_err-close_gate.ensures in
    let honest' = made.later.honesty.0 honest in
    let old = g.D.Disk.content c.args.disk.now in
    let mid = g.D.Disk.content c.make_gate.new.disk in
    all_join (IsSameOrShut old) (g.D.Disk.history c.make_gate.new.disk) (g.D.Disk.history c.close_gate.new.disk) _ (shut.later.done honest')
    (made.any_moment honest is_settled)
    (all_weaker _ (IsSameOrShut old) _ _ (λ image next. still_or_shut old mid image (made.same_or_shut honest) next)
    (shut.any_moment honest' (made.settled honest is_settled)))

pub returns-in-Ok-clause-any_moment : goal.returns-in-Ok-clause-any_moment
returns-in-Ok-clause-any_moment g c = λ honest is_settled.
    let made = c.in_ok-make_gate.ensures in
    let shut = c.in_ok-close_gate.ensures in
    let honest' = made.later.honesty.0 honest in
    let honest'' = shut.later.honesty.0 honest' in
    let old = g.D.Disk.content c.args.disk.now in
    let mid = g.D.Disk.content c.make_gate.new.disk in
    let s = g.D.Disk.content c.close_gate.new.disk in
    all_join (IsSameOrShut old) (g.D.Disk.history c.close_gate.new.disk) (g.D.Disk.history c.lengthen.new.self) _
    ((later_lengthened g.D.Disk.honest g.D.Disk.content g.D.Disk.history g.D.Disk.faults c.close_gate.new.disk c.lengthen.new.self _
    c.lengthen.ensures.honest c.lengthen.ensures.counted.later c.in-Ok.ensures.lengthened).done honest'')
    (all_join (IsSameOrShut old) (g.D.Disk.history c.make_gate.new.disk) (g.D.Disk.history c.close_gate.new.disk) _
    (shut.later.done honest') (made.any_moment honest is_settled)
    (all_weaker _ (IsSameOrShut old) _ _ (λ image next. still_or_shut old mid image (made.same_or_shut honest) next)
    (shut.any_moment honest' (made.settled honest is_settled))))
    (all_weaker _ (IsSameOrShut old) _ _ (λ image begins. inr (shut_begins s image (shut.closed honest') begins))
    (since_lengthened _ s _ _ _ (shut.settled honest') (c.in-Ok.ensures.lengthened honest'')))

pub returns-in-Err-clause-any_moment : goal.returns-in-Err-clause-any_moment
returns-in-Err-clause-any_moment g c = λ honest is_settled.
    let made = c.in_ok-make_gate.ensures in
    let shut = c.in_ok-close_gate.ensures in
    let honest' = made.later.honesty.0 honest in
    let honest'' = shut.later.honesty.0 honest' in
    let old = g.D.Disk.content c.args.disk.now in
    let mid = g.D.Disk.content c.make_gate.new.disk in
    let s = g.D.Disk.content c.close_gate.new.disk in
    all_join (IsSameOrShut old) (g.D.Disk.history c.close_gate.new.disk) (g.D.Disk.history c.lengthen.new.self) _
    ((later_begun g.D.Disk.honest g.D.Disk.content g.D.Disk.history g.D.Disk.faults c.close_gate.new.disk c.lengthen.new.self _
    c.lengthen.ensures.honest c.lengthen.ensures.counted.later c.in-Err.ensures.in_part).done honest'')
    (all_join (IsSameOrShut old) (g.D.Disk.history c.make_gate.new.disk) (g.D.Disk.history c.close_gate.new.disk) _
    (shut.later.done honest') (made.any_moment honest is_settled)
    (all_weaker _ (IsSameOrShut old) _ _ (λ image next. still_or_shut old mid image (made.same_or_shut honest) next)
    (shut.any_moment honest' (made.settled honest is_settled))))
    (all_weaker _ (IsSameOrShut old) _ _ (λ image begins. inr (shut_begins s image (shut.closed honest') begins))
    (since_begun _ s _ _ (shut.settled honest') (c.in-Err.ensures.in_part honest'')))

pub returns-in-Ok-clause-settled : goal.returns-in-Ok-clause-settled
returns-in-Ok-clause-settled g c = λ honest.
    ap window (c.in-Ok.ensures.lengthened (c.in_ok-close_gate.ensures.later.honesty.0 (c.in_ok-make_gate.ensures.later.honesty.0 honest))).done

pub returns-in-Ok-clause-shut : goal.returns-in-Ok-clause-shut
returns-in-Ok-clause-shut g c = λ honest.
    let shut = c.in_ok-close_gate.ensures in
    let honest' = c.in_ok-make_gate.ensures.later.honesty.0 honest in
    let long = c.in-Ok.ensures.lengthened (shut.later.honesty.0 honest') in
    shut_begins (g.D.Disk.content c.close_gate.new.disk) (g.D.Disk.content c.lengthen.new.self) (shut.closed honest') (long.rest, long.front)
