use Rattle.std.proofs.Common.{◌≡◌, [], ◌∷◌, Some, None, map, slice_get, ap, sym, ◌∙◌}
use Rattle.std.proofs.lemmas.List.{append-nil, map-append}
use Rattle.std.proofs.lemmas.Option.{slice_get-get_or, slice_get_past}
use Rattle.machine_core.proofs.commands.finding.gathering.push_row.Goals as goal

pub returns-in_ok-push-in-Some : goal.returns-in_ok-push-in-Some
returns-in_ok-push-in-Some c =
    let rows = c.args.rows.now in
    let row = c.in-Some.row.now in
    let found : slice_get rows c.args.number ≡ Some row =
    slice_get-get_or rows c.args.number row c.in-Some.ensures.lookup.3.0 ∙ ap Some (sym c.in-Some.ensures.lookup.1) in
    ap (map (λ row. row.now)) c.in_ok-push-in-Some.ensures.items
    ∙ rw found (map-append (λ row. row.now) c.args.found.now.items (c.in-Some.row ∷ []))

pub returns-in-None : goal.returns-in-None
returns-in-None c =
    let none : slice_get c.args.rows.now c.args.number ≡ None =
    slice_get_past c.args.rows.now c.args.number c.in-None.ensures.lookup.3 in
    rw none (sym (append-nil (map (λ row. row.now) c.args.found.now.items)))
