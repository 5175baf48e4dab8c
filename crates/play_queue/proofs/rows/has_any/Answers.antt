use Rattle.std.proofs.Common.{◌≡◌, [], true, get_or, take, sym, ap, ◌∙◌, arith}
use Rattle.std.proofs.lemmas.List.{get_or-take, length-take-le}
use Rattle.std.proofs.lemmas.List.Folds.{list_any_at, list_any_none}
use Rattle.play_queue.specs.declared.entry.Entry.{Entry}
use Rattle.play_queue.specs.Entries.{is_among}
use Rattle.play_queue.proofs.rows.has_any.Goals as goal

pub returns-then-contains : goal.returns-then-contains
returns-then-contains c =
    let uris = c.args.uris.now in
    let entries = c.args.entries.now in
    let at = c.loop-at.at in
    let d : Entry = record { id = 0; uri = []; priority = 0; stamp = 0 } in
    let told : is_among uris (get_or entries at d).uri ≡ true =
    ap (λ (e : Entry). is_among uris e.uri) (c.at.ensures d) ∙ ap (is_among uris) (sym c.as_uri.ensures) ∙ sym c.contains.ensures
    ∙ c.if-contains.true in
    let long = length-take-le c.args.count entries c.requires in
    sym (list_any_at (λ (entry : Entry). is_among uris entry.uri) (take c.args.count entries) at d (omega (arith, long))
    (ap (λ (e : Entry). is_among uris e.uri) (get_or-take c.args.count entries at d (omega arith)) ∙ told))

pub returns : goal.returns
returns c =
    let uris = c.args.uris.now in
    let entries = c.args.entries.now in
    let long = length-take-le c.args.count entries c.requires in
    sym (list_any_none (λ (entry : Entry). is_among uris entry.uri) (take c.args.count entries)
    (λ k d within.
    ap (λ (e : Entry). is_among uris e.uri) (get_or-take c.args.count entries k d (omega (arith, within, long)))
    ∙ c.loop-at.invariant k d (omega (arith, within, long))))
