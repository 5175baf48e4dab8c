use Rattle.std.proofs.Common.{◌≡◌, ◌<◌, [], Some, None, ◌∙◌, sym, refl, rules, arith, length}
use Rattle.std.proofs.lemmas.Grind.{common_steps}
use Rattle.std.proofs.lemmas.Map.Text.{text_cmp}
use Rattle.std.proofs.lemmas.Map.Views.{All-values-set_value}
use Rattle.std.specs.BTreeMap.{is_at}
use Rattle.song_db.specs.ValueRows.{IsGroup, by_value}
use Rattle.song_db.proofs.GroupMaps.{all_groups, filled, found_rows, group_found, group_rises, group_take, no_rows, none_taken}
use Rattle.song_db.proofs.GroupMaps.{replaced_under, updated, updated_again, values_rise, all_left}
use Rattle.song_db.proofs.value_rows.ValueRows.take.Goals as goal
use Rattle.song_db.proofs.value_rows.ValueRows.take.Goals.{in-Some-1, in-None-1}

pub returns-in_default : goal.returns-in_default
returns-in_default c =
    rw (c.get_mut.follows.holds-at-none, ← c.self.view_is) (none_taken c.args.value.now c.args.uri.now (by_value
    c.self.inside.values.entries) (no_rows c.args.value.now c.self.inside.values.entries c.in_default.ensures.value))

pub take_row-requires : goal.take_row-requires
take_row-requires c = rw (found_rows c.args.value.now c.self.inside.values.entries c.in-Some.rows.now c.in-Some.ensures.value)
    (group_rises (by_value c.self.inside.values.entries) c.args.value.now c.self.invariant)

pub invariant_of-self-then-is_empty : goal.invariant_of-self-then-is_empty
invariant_of-self-then-is_empty c = record {
  rising = values_rise _ c.remove.ensures.ordered;
  each = all_groups _ (all_left (is_at (text_cmp c.args.value.now)) c.self.inside.values.entries
      (c.get_mut.follows.lender c.take_row.new.rows).entries c.remove.new.self.entries c.take_row.new.rows
      (filled _ c.self.invariant.each) (c.get_mut.follows.holds c.take_row.new.rows).0 c.remove.ensures.entries);
}

pub invariant_of-self-else-is_empty : goal.invariant_of-self-else-is_empty
invariant_of-self-else-is_empty c =
    let group : IsGroup c.in-Some.rows.now.items = group_found c.args.value.now c.self.inside.values.entries c.in-Some.rows.now
    (filled _ c.self.invariant.each) c.in-Some.ensures.value in
    let some : 0 < length c.take_row.new.rows.items = grind (arith, common_steps) in
    record {
      rising = values_rise _ (c.get_mut.follows.holds c.take_row.new.rows).4;
      each = all_groups _ (rw (c.get_mut.follows.holds c.take_row.new.rows).0 (All-values-set_value (is_at (text_cmp
          c.args.value.now)) (λ rows. IsGroup rows.items) c.self.inside.values.entries c.take_row.new.rows (filled _
          c.self.invariant.each) (group_take c.args.uri.now c.in-Some.rows.now.items c.take_row.new.rows.items group
          c.take_row.ensures some)));
    }

pub returns-then-is_empty : goal.returns-then-is_empty
returns-then-is_empty c =
    let empty : c.take_row.new.rows.items ≡ [] = grind (arith, common_steps) in
    let gone = replaced_under c.args.value.now c.args.uri.now [] c.in-Some.rows.now.items []
    (by_value c.self.inside.values.entries) (by_value c.remove.new.self.entries)
    (updated_again c.args.value.now c.take_row.new.rows.items [] (by_value c.self.inside.values.entries)
    (by_value (c.get_mut.follows.lender c.take_row.new.rows).entries) (by_value c.remove.new.self.entries)
    (updated c.self.inside.values (c.get_mut.follows.lender c.take_row.new.rows) c.args.value.now (Some c.take_row.new.rows)
    c.take_row.new.rows.items ((c.get_mut.follows.holds c.take_row.new.rows).3 (search rules)) refl)
    (updated (c.get_mut.follows.lender c.take_row.new.rows) c.remove.new.self c.args.value.now None [] c.remove.ensures.updates refl))
    (found_rows c.args.value.now c.self.inside.values.entries c.in-Some.rows.now c.in-Some.ensures.value)
    (sym empty ∙ c.take_row.ensures) in
    elim c.match-remove.branch [
      | in-Some-1 w ↦ rw (w.self-is, ← c.self.view_is) gone
      | in-None-1 w ↦ rw (w.self-is, ← c.self.view_is) gone
    ]

pub returns-else-is_empty : goal.returns-else-is_empty
returns-else-is_empty c =
    rw (← c.self.view_is) (replaced_under c.args.value.now
    c.args.uri.now [] c.in-Some.rows.now.items c.take_row.new.rows.items
    (by_value c.self.inside.values.entries) (by_value (c.get_mut.follows.lender c.take_row.new.rows).entries)
    (updated c.self.inside.values (c.get_mut.follows.lender c.take_row.new.rows) c.args.value.now (Some c.take_row.new.rows)
    c.take_row.new.rows.items ((c.get_mut.follows.holds c.take_row.new.rows).3 (search rules)) refl)
    (found_rows c.args.value.now c.self.inside.values.entries c.in-Some.rows.now c.in-Some.ensures.value) c.take_row.ensures)
