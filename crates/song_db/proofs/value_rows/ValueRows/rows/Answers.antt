use Rattle.std.proofs.Common.{ap, ◌∙◌}
use Rattle.song_db.specs.ValueRows.{rows_of, by_value}
use Rattle.song_db.proofs.GroupMaps.{found_rows, group_rises, no_rows}
use Rattle.song_db.proofs.value_rows.ValueRows.rows.Goals as goal

pub returns-in-Some-clause-rows : goal.returns-in-Some-clause-rows
returns-in-Some-clause-rows c = c.as_slice.ensures.value
    ∙ found_rows c.args.value.now c.self.inside.values.entries c.in-Some.rows.now c.in-Some.ensures.value
    ∙ ap (λ values. rows_of values c.args.value.now) c.self.view_is

pub returns-in-Some-clause-rising : goal.returns-in-Some-clause-rising
returns-in-Some-clause-rising c = rw (
  c.as_slice.ensures.value,
  found_rows c.args.value.now c.self.inside.values.entries c.in-Some.rows.now c.in-Some.ensures.value,
) (group_rises (by_value c.self.inside.values.entries) c.args.value.now c.self.invariant)

pub returns-in-None-clause-rows : goal.returns-in-None-clause-rows
returns-in-None-clause-rows c = no_rows c.args.value.now c.self.inside.values.entries c.in-None.ensures.value
    ∙ ap (λ values. rows_of values c.args.value.now) c.self.view_is

pub returns-in-None-clause-rising : goal.returns-in-None-clause-rising
returns-in-None-clause-rising c = rw (no_rows c.args.value.now c.self.inside.values.entries c.in-None.ensures.value)
    (group_rises (by_value c.self.inside.values.entries) c.args.value.now c.self.invariant)
