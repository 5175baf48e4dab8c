use Rattle.disk_model.specs.History.{Synced}
use Rattle.disk_model.proofs.LaterLaws.{later_made}
use Rattle.play_journal.proofs.creating.fresh_journal.Goals as goal

pub returns-in_err-lay_down-clause-later : goal.returns-in_err-lay_down-clause-later
returns-in_err-lay_down-clause-later g c = record {
  a = c.lay_down.ensures.later;
  b = later_made g.D.Disk.honest g.D.Disk.history g.D.Disk.faults c.args.b.now c.sync.new.self c.sync.ensures.honest
      c.sync.ensures.counted.later (Synced (g.D.Disk.content c.args.b.now)) c.in_ok-sync.ensures.made;
}

pub returns-clause-later : goal.returns-clause-later
returns-clause-later g c = record {
  a = c.lay_down.ensures.later;
  b = later_made g.D.Disk.honest g.D.Disk.history g.D.Disk.faults c.args.b.now c.sync.new.self c.sync.ensures.honest
      c.sync.ensures.counted.later (Synced (g.D.Disk.content c.args.b.now)) c.in_ok-sync.ensures.made;
}
