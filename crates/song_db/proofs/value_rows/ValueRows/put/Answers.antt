use Rattle.std.proofs.Common.{[], ◌∷◌, Some, sym, refl, rules}
use Rattle.std.proofs.lemmas.Map.Text.{text_cmp}
use Rattle.std.proofs.lemmas.Map.Views.{All-values-set_value}
use Rattle.std.specs.BTreeMap.{is_at}
use Rattle.song_db.specs.ValueRows.{IsGroup, by_value}
use Rattle.song_db.proofs.GroupMaps.{all_groups, filled, found_rows, group_found, group_put, group_rises, no_rows, on_ok, replaced_under}
use Rattle.song_db.proofs.GroupMaps.{updated, values_rise}
use Rattle.song_db.proofs.value_rows.ValueRows.put.Goals as goal

pub put_row-requires : goal.put_row-requires
put_row-requires c = rw (found_rows c.args.value.now c.self.inside.values.entries c.in-Some.rows.now c.in-Some.ensures.value)
    (group_rises (by_value c.self.inside.values.entries) c.args.value.now c.self.invariant)

pub invariant_of-self : goal.invariant_of-self
invariant_of-self c =
    let group : IsGroup c.in-Some.rows.now.items = group_found c.args.value.now c.self.inside.values.entries c.in-Some.rows.now
    (filled _ c.self.invariant.each) c.in-Some.ensures.value in
    record {
      rising = values_rise _ (c.get_mut.follows.holds c.put_row.new.rows).4;
      each = all_groups _ (rw (c.get_mut.follows.holds c.put_row.new.rows).0 (All-values-set_value (is_at (text_cmp
          c.args.value.now)) (λ rows. IsGroup rows.items) c.self.inside.values.entries c.put_row.new.rows (filled _
          c.self.invariant.each) (group_put c.put_row.result c.args.row c.in-Some.rows.now.items c.put_row.new.rows.items group
          c.put_row.ensures.ok c.put_row.ensures.err)));
    }

pub put_first-requires : goal.put_first-requires
put_first-requires c = rw c.get_mut.follows.holds-at-none (sym (no_rows c.args.value.now c.self.inside.values.entries
    c.in-None.ensures.value))

pub returns-in-Some : goal.returns-in-Some
returns-in-Some c = on_ok c.put_row.result c.put_row.ensures.ok (λ ok. rw (← c.self.view_is) (replaced_under c.args.value.now
    c.args.row.uri (c.args.row ∷ []) c.in-Some.rows.now.items c.put_row.new.rows.items
    (by_value c.self.inside.values.entries) (by_value (c.get_mut.follows.lender c.put_row.new.rows).entries)
    (updated c.self.inside.values (c.get_mut.follows.lender c.put_row.new.rows) c.args.value.now (Some c.put_row.new.rows)
    c.put_row.new.rows.items ((c.get_mut.follows.holds c.put_row.new.rows).3 (search rules)) refl)
    (found_rows c.args.value.now c.self.inside.values.entries c.in-Some.rows.now c.in-Some.ensures.value) ok))
