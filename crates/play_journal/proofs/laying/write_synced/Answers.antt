use Rattle.std.proofs.Common.{length, inr}
use Rattle.disk_model.specs.History.{Wrote, Synced}
use Rattle.disk_model.proofs.LaterLaws.{same_or_adds, later_same, later_made, later_failed, later_on}
use Rattle.disk_model.proofs.WindowLaws.{torn_since, torn_synced}
use Rattle.play_journal.proofs.laying.write_synced.Goals as goal

pub returns-in_err-write_at-clause-later : goal.returns-in_err-write_at-clause-later
returns-in_err-write_at-clause-later g c =
    later_failed g.D.Disk.honest g.D.Disk.history g.D.Disk.faults c.args.disk.now c.write_at.new.self c.write_at.ensures.honest
    c.write_at.ensures.counted.later
    (Wrote c.args.at (length c.args.bytes.now)) _ _ c.in_err-write_at.ensures.in_part

pub returns-in_err-write_at-clause-any_moment : goal.returns-in_err-write_at-clause-any_moment
returns-in_err-write_at-clause-any_moment g c = λ honest is_settled within.
    torn_since (g.D.Disk.history c.args.disk.now) (g.D.Disk.history c.write_at.new.self) c.args.at (length c.args.bytes.now)
    (g.D.Disk.content c.args.disk.now) is_settled within
    (same_or_adds (Wrote c.args.at (length c.args.bytes.now)) _ _ _ _ (c.in_err-write_at.ensures.in_part honest))

pub returns-in_err-sync-clause-later : goal.returns-in_err-sync-clause-later
returns-in_err-sync-clause-later g c =
    later_on (later_made g.D.Disk.honest g.D.Disk.history g.D.Disk.faults c.args.disk.now c.write_at.new.self c.write_at.ensures.honest
    c.write_at.ensures.counted.later
    (Wrote c.args.at (length c.args.bytes.now)) c.in_ok-write_at.ensures.made)
    (later_same g.D.Disk.honest g.D.Disk.history g.D.Disk.faults c.write_at.new.self c.sync.new.self c.sync.ensures.honest
    c.sync.ensures.counted.later c.in_err-sync.ensures.not_made)

pub returns-in_err-sync-clause-any_moment : goal.returns-in_err-sync-clause-any_moment
returns-in_err-sync-clause-any_moment g c = λ honest is_settled within.
    let honest' = c.write_at.ensures.honest.0 honest in
    rw (c.in_err-sync.ensures.not_made honest')
    (torn_since (g.D.Disk.history c.args.disk.now) (g.D.Disk.history c.write_at.new.self) c.args.at (length c.args.bytes.now)
    (g.D.Disk.content c.args.disk.now) is_settled within (inr (c.in_ok-write_at.ensures.made honest)))

pub returns-clause-later : goal.returns-clause-later
returns-clause-later g c =
    later_on (later_made g.D.Disk.honest g.D.Disk.history g.D.Disk.faults c.args.disk.now c.write_at.new.self c.write_at.ensures.honest
    c.write_at.ensures.counted.later
    (Wrote c.args.at (length c.args.bytes.now)) c.in_ok-write_at.ensures.made)
    (later_made g.D.Disk.honest g.D.Disk.history g.D.Disk.faults c.write_at.new.self c.sync.new.self c.sync.ensures.honest
    c.sync.ensures.counted.later (Synced (g.D.Disk.content c.write_at.new.self)) c.in_ok-sync.ensures.made)

pub returns-clause-any_moment : goal.returns-clause-any_moment
returns-clause-any_moment g c = λ honest is_settled within.
    let honest' = c.write_at.ensures.honest.0 honest in
    torn_synced (g.D.Disk.history c.args.disk.now) (g.D.Disk.history c.write_at.new.self) (g.D.Disk.history c.sync.new.self) c.args.at
    (length c.args.bytes.now) (g.D.Disk.content c.args.disk.now) (g.D.Disk.content c.write_at.new.self) is_settled within
    (c.in_ok-write_at.ensures.made honest) (g.met.D.Disk.content_is_image c.write_at.new.self honest') (c.in_ok-sync.ensures.made honest')
