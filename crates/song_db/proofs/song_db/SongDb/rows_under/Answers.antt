use Rattle.std.proofs.Common.{◌≡◌, ◌<◌, ◌∙◌, length, sym, refl, arith, rules}
use Rattle.std.proofs.lemmas.Grind.{common_steps}
use Rattle.std.proofs.lemmas.List.Kept.{IsStrictlySortedBy-filter}
use Rattle.song_db.specs.Place.{is_below}
use Rattle.song_db.specs.Replaced.{by_text}
use Rattle.song_db.specs.Row.{row_uri}
use Rattle.song_db.proofs.Folders.{filter_all, no_folder, some_folder}
use Rattle.song_db.proofs.song_db.SongDb.rows_under.Goals as goal

pub returns-in-Root-clause-rows : goal.returns-in-Root-clause-rows
returns-in-Root-clause-rows c = rw c.in-Root.is (c.as_slice.ensures.value ∙ c.self.view_is ∙ sym (filter_all c.args.self.now))

pub returns-then-is_empty-clause-answer : goal.returns-then-is_empty-clause-answer
returns-then-is_empty-clause-answer c =
    let found = rw (c.deref.ensures.value, c.self.view_is) at c.rows_below-rows.ensures in
    let none : length c.rows_below-rows.result.now ≡ 0 = grind (arith, common_steps) in
    rw (c.in-At.is, no_folder c.args.self.now c.rows_below-rows.result.now c.in-At.folder.now found none) refl

pub returns-else-is_empty-clause-answer : goal.returns-else-is_empty-clause-answer
returns-else-is_empty-clause-answer c =
    let found = rw (c.deref.ensures.value, c.self.view_is) at c.rows_below-rows.ensures in
    let some : 0 < length c.rows_below-rows.result.now = grind (arith, common_steps) in
    rw (c.in-At.is, some_folder c.args.self.now c.rows_below-rows.result.now c.in-At.folder.now found some) (search rules)

pub returns-in-Root-clause-rising : goal.returns-in-Root-clause-rising
returns-in-Root-clause-rising c = rw c.as_slice.ensures.value c.self.invariant.database.rising

pub returns-else-is_empty-clause-rising : goal.returns-else-is_empty-clause-rising
returns-else-is_empty-clause-rising c =
    rw (c.rows_below-rows.ensures, c.deref.ensures.value) (IsStrictlySortedBy-filter (by_text row_uri) (λ row. is_below
    c.in-At.folder.now row.uri) c.self.inside.rows.items c.self.invariant.database.rising)
