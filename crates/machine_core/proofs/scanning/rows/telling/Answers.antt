use Rattle.std.proofs.Common.{◌++◌, length, sym, ap, ◌∙◌, arith}
use Rattle.std.specs.Vec.Iter.{into_iter_items}
use Rattle.song_db.specs.Change.{after_batch}
use Rattle.machine_core.specs.Scanning.{kept_changes, telling}
use Rattle.machine_core.proofs.Scans.Rows.{tell_kept_on}
use Rattle.machine_core.proofs.scanning.rows.telling.Goals as goal

pub loop-change-preserved : goal.loop-change-preserved
loop-change-preserved c =
    let songs = c.args.songs.now in
    let told = c.loop-change.told.items in
    record {
      told = c.take_kept.ensures.told;
      items = tell_kept_on c.args.profile songs told (into_iter_items c.next.new.self) c.take_kept.new.told.items c.in-Some.change
          c.len-count.ensures.within c.take_kept.ensures.items
          ∙ ap (λ rest. told ++ telling (after_batch songs told) (kept_changes c.args.profile rest)) (sym c.in-Some.ensures.steps.0)
          ∙ c.loop-change.invariant.items;
      room = omega (
        arith,
        c.loop-change.invariant.room,
        c.take_kept.ensures.len,
        c.take_kept.ensures.capacity,
        ap length c.in-Some.ensures.steps.0,
      );
    }
