use Rattle.std.proofs.Common.{◌≡◌, [], List, ℕ, inl, length, rules, ap, arith, refl}
use Rattle.disk_model.proofs.LengthLaws.{later_lengthened, within_begun, within_lengthened}
use Rattle.disk_model.proofs.MomentLaws.{all_begin, all_weaker}
use Rattle.disk_model.proofs.WindowLaws.{settled_all}
use Rattle.play_journal.specs.Laying.{IsSameOrShut}
use Rattle.play_journal.proofs.AheadLaws.{short_shut}
use Rattle.play_journal.proofs.journal.ahead.make_gate.Goals as goal

pub returns-then-not-is_empty-clause-any_moment : goal.returns-then-not-is_empty-clause-any_moment
returns-then-not-is_empty-clause-any_moment g c = λ honest is_settled.
    let content = g.D.Disk.content c.args.disk.now in
    let history = g.D.Disk.history c.args.disk.now in
    all_begin (IsSameOrShut content) history (settled_all (IsSameOrShut content) history content is_settled (inl refl))

pub returns-in-Ok-clause-later : goal.returns-in-Ok-clause-later
returns-in-Ok-clause-later g c =
    later_lengthened g.D.Disk.honest g.D.Disk.content g.D.Disk.history g.D.Disk.faults c.args.disk.now c.lengthen.new.self _
    c.lengthen.ensures.honest c.lengthen.ensures.counted.later c.in-Ok.ensures.lengthened

pub returns-in-Ok-clause-any_moment : goal.returns-in-Ok-clause-any_moment
returns-in-Ok-clause-any_moment g c = λ honest is_settled.
    let content = g.D.Disk.content c.args.disk.now in
    let empty : content ≡ [] = (c.is_empty.ensures honest).0 (search rules) in
    all_weaker _ (IsSameOrShut content) _ _ (λ image short. short_shut content image short)
    (within_lengthened 1 content _ _ _ is_settled (omega (arith, ap (λ (l : List ℕ). length l) empty)) (c.in-Ok.ensures.lengthened honest))

pub returns-in-Err-clause-any_moment : goal.returns-in-Err-clause-any_moment
returns-in-Err-clause-any_moment g c = λ honest is_settled.
    let content = g.D.Disk.content c.args.disk.now in
    let empty : content ≡ [] = (c.is_empty.ensures honest).0 (search rules) in
    all_weaker _ (IsSameOrShut content) _ _ (λ image short. short_shut content image short)
    (within_begun 1 content _ _ is_settled (omega (arith, ap (λ (l : List ℕ). length l) empty)) (c.in-Err.ensures.in_part honest))
