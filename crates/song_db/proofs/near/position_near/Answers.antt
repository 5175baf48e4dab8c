use Rattle.std.proofs.Common.{◌≡◌, ap, ◌∙◌, arith}
use Rattle.std.specs.Prelude.{Some}
use Rattle.std.specs.List.{slice_get}
use Rattle.std.specs.Option.{option_and_then}
use Rattle.song_db.specs.Query.{number_at}
use Rattle.song_db.proofs.RowSplits.{split_own}
use Rattle.song_db.proofs.Rising.{found_number, number-row}
use Rattle.song_db.proofs.near.position_near.Goals as goal

pub returns-then-eq-clause-number : goal.returns-then-eq-clause-number
returns-then-eq-clause-number c = found_number c.args.rows.now c.args.uri.now c.uri.result.now c.args.number
    c.index-rows-number.result (split_own c.args.rows.now c.args.uri.now c.uri.result.now c.args.number c.index-rows-number.result
    c.requires (omega arith) c.index-rows-number.is c.uri.ensures.text c.if-eq.ensures) (omega arith) c.index-rows-number.is
    c.uri.ensures.text c.if-eq.ensures

pub returns-then-eq-clause-row : goal.returns-then-eq-clause-row
returns-then-eq-clause-row c =
    let at : Some c.args.number ≡ number_at c.args.rows.now c.args.uri.now = returns-then-eq-clause-number c in
    ap (option_and_then (slice_get c.args.rows.now)) at ∙ number-row c.args.rows.now c.args.uri.now
