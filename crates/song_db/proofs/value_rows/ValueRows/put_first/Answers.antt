use Rattle.std.proofs.Common.{◌≡◌, [], ◌∷◌, ◌++◌, Some, string_bytes, ap, ◌∙◌, sym, refl}
use Rattle.std.specs.String.{string_cmp}
use Rattle.std.proofs.lemmas.Map.Views.{All-values-insert_entry}
use Rattle.song_db.specs.ValueRows.{IsGroup, by_value, rows_of}
use Rattle.song_db.proofs.GroupMaps.{all_groups, filled, one_group, replaced_under, updated, values_rise}
use Rattle.song_db.proofs.value_rows.ValueRows.put_first.Goals as goal

pub invariant_of-self-2 : goal.invariant_of-self-2
invariant_of-self-2 c =
    let one : c.push.new.self.items ≡ c.args.row ∷ [] = c.in_ok-push.ensures.items ∙ ap (λ l. l ++ c.args.row ∷ []) c.in_ok-rows.ensures.items in
    record {
      rising = values_rise _ c.in_ok-insert.ensures.ordered;
      each = all_groups _ (rw c.in_ok-insert.ensures.entries (All-values-insert_entry string_cmp c.in_ok-value.value c.push.new.self
          (λ rows. IsGroup rows.items) c.self.inside.values.entries (filled _ c.self.invariant.each) (rw one (one_group c.args.row))));
    }

pub returns : goal.returns
returns c =
    let one : c.push.new.self.items ≡ c.args.row ∷ [] = c.in_ok-push.ensures.items ∙ ap (λ l. l ++ c.args.row ∷ []) c.in_ok-rows.ensures.items in
    let none : [] ≡ rows_of (by_value c.self.inside.values.entries) c.args.value.now
    = sym c.requires ∙ ap (λ values. rows_of values c.args.value.now) (sym c.self.view_is) in
    rw (← c.self.view_is) (replaced_under c.args.value.now c.args.row.uri (c.args.row ∷ []) [] (c.args.row ∷ [])
    (by_value c.self.inside.values.entries) (by_value c.insert.new.self.entries)
    (rw c.in_ok-value.ensures.ok at (updated c.self.inside.values c.insert.new.self (string_bytes c.in_ok-value.value) (Some
    c.push.new.self) (c.args.row ∷ []) c.in_ok-insert.ensures.updates one)) none refl)
