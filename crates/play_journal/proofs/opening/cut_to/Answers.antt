use Rattle.std.proofs.Common.{◌∙◌, inr, length}
use Rattle.disk_model.specs.History.{CutTo, Synced}
use Rattle.disk_model.proofs.LaterLaws.{same_or_adds, later_same, later_made, later_failed, later_on}
use Rattle.play_journal.proofs.CutLaws.{begins, cuts, syncs}
use Rattle.play_journal.proofs.opening.cut_to.Goals as goal

pub returns-in_err-cut-clause-later : goal.returns-in_err-cut-clause-later
returns-in_err-cut-clause-later g c =
    later_failed g.D.Disk.honest g.D.Disk.history g.D.Disk.faults c.args.disk.now c.cut.new.self c.cut.ensures.honest
    c.cut.ensures.counted.later (CutTo c.args.len) _ _ c.in_err-cut.ensures.in_part

pub returns-in_err-sync-clause-later : goal.returns-in_err-sync-clause-later
returns-in_err-sync-clause-later g c =
    later_on (later_made g.D.Disk.honest g.D.Disk.history g.D.Disk.faults c.args.disk.now c.cut.new.self c.cut.ensures.honest
    c.cut.ensures.counted.later (CutTo c.args.len) c.in_ok-cut.ensures.made)
    (later_same g.D.Disk.honest g.D.Disk.history g.D.Disk.faults c.cut.new.self c.sync.new.self c.sync.ensures.honest
    c.sync.ensures.counted.later c.in_err-sync.ensures.not_made)

pub returns-clause-later : goal.returns-clause-later
returns-clause-later g c =
    later_on (later_made g.D.Disk.honest g.D.Disk.history g.D.Disk.faults c.args.disk.now c.cut.new.self c.cut.ensures.honest
    c.cut.ensures.counted.later (CutTo c.args.len) c.in_ok-cut.ensures.made)
    (later_made g.D.Disk.honest g.D.Disk.history g.D.Disk.faults c.cut.new.self c.sync.new.self c.sync.ensures.honest
    c.sync.ensures.counted.later (Synced (g.D.Disk.content c.cut.new.self)) c.in_ok-sync.ensures.made)

pub returns-in_err-cut-clause-any_moment : goal.returns-in_err-cut-clause-any_moment
returns-in_err-cut-clause-any_moment g c = λ honest is_settled within.
    let old = g.D.Disk.history c.args.disk.now in
    let s = g.D.Disk.content c.args.disk.now in
    cuts s c.args.len within old (g.D.Disk.history c.cut.new.self) (length old) is_settled (same_or_adds (CutTo c.args.len) _ _ _ _
    (c.in_err-cut.ensures.in_part honest)) (begins s c.args.len within old is_settled)

pub returns-in_err-sync-clause-any_moment : goal.returns-in_err-sync-clause-any_moment
returns-in_err-sync-clause-any_moment g c = λ honest is_settled within.
    let cut = c.cut.ensures.honest.0 honest in
    let old = g.D.Disk.history c.args.disk.now in
    let s = g.D.Disk.content c.args.disk.now in
    cuts s c.args.len within old (g.D.Disk.history c.sync.new.self) (length old) is_settled (inr (c.in_err-sync.ensures.not_made cut
    ∙ c.in_ok-cut.ensures.made honest)) (begins s c.args.len within old is_settled)

pub returns-clause-any_moment : goal.returns-clause-any_moment
returns-clause-any_moment g c = λ honest is_settled within.
    let cut = c.cut.ensures.honest.0 honest in
    let old = g.D.Disk.history c.args.disk.now in
    let s = g.D.Disk.content c.args.disk.now in
    let was_cut = cuts s c.args.len within old (g.D.Disk.history c.cut.new.self) (length old) is_settled (inr
    (c.in_ok-cut.ensures.made honest)) (begins s c.args.len within old is_settled) in
    syncs s c.args.len within (g.D.Disk.history c.cut.new.self) (g.D.Disk.history c.sync.new.self) (g.D.Disk.content c.cut.new.self)
    (length old) (c.in_ok-cut.ensures.cut honest) (c.in_ok-sync.ensures.made cut) was_cut
