use Rattle.std.proofs.Common.{◌≡◌, ◌<◌, length, sym, refl, arith, rules}
use Rattle.std.proofs.lemmas.Grind.{common_steps}
use Rattle.song_db.specs.Place.{is_below}
use Rattle.song_db.specs.Told.{told_order}
use Rattle.song_db.proofs.Folders.{filter_all, no_folder, some_folder}
use Rattle.song_db.proofs.ToldBelow.{any_told}
use Rattle.song_db.proofs.ToldOrder.{told_rises}
use Rattle.song_db.proofs.song_db.SongDb.told_under.Goals as goal

pub returns-in-Root-clause-rows : goal.returns-in-Root-clause-rows
returns-in-Root-clause-rows c =
    rw (c.in-Root.is, c.as_slice.ensures.value, c.self.invariant.told, c.self.view_is) (sym (filter_all (told_order c.args.self.now)))

pub returns-else-is_empty-clause-rows : goal.returns-else-is_empty-clause-rows
returns-else-is_empty-clause-rows c = rw (c.in-At.is, c.told_below-told.ensures, c.deref.ensures.value, c.self.invariant.told, c.self.view_is) refl

pub returns-then-is_empty-clause-answer : goal.returns-then-is_empty-clause-answer
returns-then-is_empty-clause-answer c =
    let found = rw (c.deref.ensures.value, c.self.invariant.told, c.self.view_is) at c.told_below-told.ensures in
    let none : length c.told_below-told.result.now ≡ 0 = grind (arith, common_steps) in
    rw (
      c.in-At.is,
      ← any_told (λ row. is_below c.in-At.folder.now row.uri) c.args.self.now (rw c.self.view_is at c.self.invariant.database.rising),
      no_folder (told_order c.args.self.now) c.told_below-told.result.now c.in-At.folder.now found none,
    ) refl

pub returns-else-is_empty-clause-answer : goal.returns-else-is_empty-clause-answer
returns-else-is_empty-clause-answer c =
    let found = rw (c.deref.ensures.value, c.self.invariant.told, c.self.view_is) at c.told_below-told.ensures in
    let some : 0 < length c.told_below-told.result.now = grind (arith, common_steps) in
    rw (
      c.in-At.is,
      ← any_told (λ row. is_below c.in-At.folder.now row.uri) c.args.self.now (rw c.self.view_is at c.self.invariant.database.rising),
      some_folder (told_order c.args.self.now) c.told_below-told.result.now c.in-At.folder.now found some,
    ) (search rules)

pub told_below-told-requires : goal.told_below-told-requires
told_below-told-requires c = rw (c.deref.ensures.value, c.self.invariant.told) (told_rises c.self.inside.rows.items)
