use Rattle.std.proofs.Common.{◌≡◌, None, ap, ◌∙◌, arith}
use Rattle.song_db.proofs.Rising.{found_number, absent_end, absent_other, number-row}
use Rattle.song_db.specs.Query.{number_at}
use Rattle.std.specs.List.{slice_get}
use Rattle.std.specs.Option.{option_and_then}
use Rattle.song_db.proofs.rows.own_place.Goals as goal
use Rattle.song_db.proofs.rows.own_place.Goals.{else-at-rows-via-then-at-rows+else-eq, else-at-rows-via-else-at-rows}

pub returns-then-eq-clause-number : goal.returns-then-eq-clause-number
returns-then-eq-clause-number c = found_number c.args.rows.now c.args.uri.now c.uri.result.now c.args.at
    c.index-rows-at.result c.requires.split (omega arith) c.index-rows-at.is c.uri.ensures.text c.if-eq.ensures

pub returns-then-eq-clause-row : goal.returns-then-eq-clause-row
returns-then-eq-clause-row c =
    ap (option_and_then (slice_get c.args.rows.now)) (found_number c.args.rows.now c.args.uri.now c.uri.result.now
    c.args.at c.index-rows-at.result c.requires.split (omega arith) c.index-rows-at.is
    c.uri.ensures.text c.if-eq.ensures)
    ∙ number-row c.args.rows.now c.args.uri.now

pub returns-clause-number : goal.returns-clause-number
returns-clause-number c = elim c.else-at-rows.branch [
  | else-at-rows-via-then-at-rows+else-eq w ↦ absent_other c.args.rows.now c.args.uri.now w.uri.result.now c.args.at
      w.index-rows-at.result c.requires.rising c.requires.split (omega arith) w.index-rows-at.is w.uri.ensures.text w.if-eq.ensures
  | else-at-rows-via-else-at-rows w ↦ absent_end c.args.rows.now c.args.uri.now c.args.at c.requires.rising
      c.requires.split (omega arith)
]

pub returns-clause-row : goal.returns-clause-row
returns-clause-row c =
    let none : None ≡ number_at c.args.rows.now c.args.uri.now = returns-clause-number c in
    ap (option_and_then (slice_get c.args.rows.now)) none ∙ number-row c.args.rows.now c.args.uri.now
