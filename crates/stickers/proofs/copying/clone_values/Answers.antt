use Rattle.std.proofs.Common.{◌≡◌, ◌∙◌, [], ◌∷◌, string_bytes, append_assoc, refl, sym, ap, subst}
use Rattle.stickers.specs.ByName.{by_name}
use Rattle.stickers.specs.Named.{IsRising, with_name}
use Rattle.stickers.proofs.Added.{added_last}
use Rattle.stickers.proofs.ByName.{insert_entry-by_name, sorted-by_name}
use Rattle.stickers.proofs.copying.clone_values.Goals as goal

-- one more stands behind those that are copied
pub loop-name-preserved : goal.loop-name-preserved
loop-name-preserved c =
    let front = by_name c.loop-name.copy.entries in
    let text = string_bytes c.in-Some.name.now in
    let it = c.in-Some.value.now in
    let rest = c.next.new.self in
    let steps : c.loop-name.name-iterator ≡ (c.in-Some.name.now, it) ∷ rest = c.in-Some.ensures.steps in
    let whole = rw steps at c.loop-name.invariant in
    let rising = sorted-by_name c.args.values.now.entries c.iter-name-items.ensures.ordered in
    let same : with_name front (string_bytes c.in_ok-from_str.field-0) c.in_ok-value.value ≡ with_name front text it =
    rw (c.in_ok-from_str.ensures.ok, c.as_str.ensures.value, c.in_ok-value.ensures) refl in
    let made = ap by_name c.in_ok-insert.ensures.entries
    ∙ insert_entry-by_name c.loop-name.copy.entries c.in_ok-from_str.field-0 c.in_ok-value.value ∙ same in
    rw (made ∙ added_last front (by_name rest) text it (subst IsRising (sym whole) rising))
    (append_assoc front ((text, it) ∷ []) (by_name rest) ∙ whole)

pub loop-name-preserved-in_ok-insert : goal.loop-name-preserved-in_ok-insert
loop-name-preserved-in_ok-insert c =
    let front = by_name c.loop-name.copy.entries in
    let text = string_bytes c.in-Some.name.now in
    let it = c.in-Some.value.now in
    let rest = c.next.new.self in
    let steps : c.loop-name.name-iterator ≡ (c.in-Some.name.now, it) ∷ rest = c.in-Some.ensures.steps in
    let whole = rw steps at c.loop-name.invariant in
    let rising = sorted-by_name c.args.values.now.entries c.iter-name-items.ensures.ordered in
    let same : with_name front (string_bytes c.in_ok-from_str.field-0) c.in_ok-value.value ≡ with_name front text it =
    rw (c.in_ok-from_str.ensures.ok, c.as_str.ensures.value, c.in_ok-value.ensures) refl in
    let made = ap by_name c.in_ok-insert.ensures.entries
    ∙ insert_entry-by_name c.loop-name.copy.entries c.in_ok-from_str.field-0 c.in_ok-value.value ∙ same in
    rw (made ∙ added_last front (by_name rest) text it (subst IsRising (sym whole) rising))
    (append_assoc front ((text, it) ∷ []) (by_name rest) ∙ whole)
