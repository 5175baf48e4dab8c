use Rattle.std.proofs.Common.{inl, refl, sym, subst, length, ◌∙◌}
use Rattle.disk_model.specs.History.{Synced}
use Rattle.disk_model.proofs.LaterLaws.{later_made, later_on}
use Rattle.disk_model.proofs.MomentLaws.{all_begin}
use Rattle.disk_model.proofs.WindowLaws.{settled_all, all_synced}
use Rattle.disk_model.specs.Moments.{AllSince}
use Rattle.play_journal.specs.Laying.{IsSameOrShut}
use Rattle.play_journal.proofs.laying.close_gate.Goals as goal

pub returns-in_err-needs_closing-clause-any_moment : goal.returns-in_err-needs_closing-clause-any_moment
returns-in_err-needs_closing-clause-any_moment g c = λ honest is_settled.
    let old = g.D.Disk.history c.args.disk.now in
    let P = IsSameOrShut (g.D.Disk.content c.args.disk.now) in
    subst (λ h. AllSince P h (length old)) (sym (c.needs_closing.ensures.history honest)) (all_begin P old (settled_all P old
    (g.D.Disk.content c.args.disk.now) is_settled (inl refl)))

pub returns-in_err-sync-clause-any_moment : goal.returns-in_err-sync-clause-any_moment
returns-in_err-sync-clause-any_moment g c = λ honest is_settled.
    let old = g.D.Disk.history c.args.disk.now in
    let P = IsSameOrShut (g.D.Disk.content c.args.disk.now) in
    let honest' = c.needs_closing.ensures.later.honesty.0 honest in
    subst (λ h. AllSince P h (length old)) (sym (c.in_err-sync.ensures.not_made honest'
    ∙ c.needs_closing.ensures.history honest)) (all_begin P old (settled_all P old (g.D.Disk.content c.args.disk.now) is_settled
    (inl refl)))

pub returns-in_ok-sync-clause-later : goal.returns-in_ok-sync-clause-later
returns-in_ok-sync-clause-later g c =
    later_on c.needs_closing.ensures.later
    (later_made g.D.Disk.honest g.D.Disk.history g.D.Disk.faults c.needs_closing.new.disk c.sync.new.self c.sync.ensures.honest
    c.sync.ensures.counted.later (Synced (g.D.Disk.content c.needs_closing.new.disk)) c.in_ok-sync.ensures.made)

pub returns-in_ok-sync-clause-any_moment : goal.returns-in_ok-sync-clause-any_moment
returns-in_ok-sync-clause-any_moment g c = λ honest is_settled.
    let old = g.D.Disk.history c.args.disk.now in
    let P = IsSameOrShut (g.D.Disk.content c.args.disk.now) in
    let honest' = c.needs_closing.ensures.later.honesty.0 honest in
    let begin = all_begin P old (settled_all P old (g.D.Disk.content c.args.disk.now) is_settled (inl refl)) in
    all_synced P (g.D.Disk.history c.needs_closing.new.disk) (g.D.Disk.history c.sync.new.self)
    (g.D.Disk.content c.needs_closing.new.disk) (length old) (c.in_ok-sync.ensures.made honest') (inl
    (c.needs_closing.ensures.content honest))
    (subst (λ h. AllSince P h (length old)) (sym (c.needs_closing.ensures.history honest)) begin)
