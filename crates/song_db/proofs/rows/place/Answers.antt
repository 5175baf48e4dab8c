use Rattle.std.proofs.Common.{◌≡◌, None, ap, ◌∙◌, arith}
use Rattle.std.specs.List.{slice_get}
use Rattle.std.specs.Option.{option_and_then}
use Rattle.song_db.specs.Query.{number_at}
use Rattle.song_db.proofs.Rising.{found_number, absent_end, absent_other, number-row}
use Rattle.song_db.specs.Row.{row_uri}
use Rattle.song_db.proofs.Replaced.{place_of, place_for_end, place_for_other}
use Rattle.song_db.proofs.rows.place.Goals as goal
use Rattle.song_db.proofs.rows.place.Goals.{else-at-rows-via-then-at-rows+else-eq, else-at-rows-via-else-at-rows}

pub returns-then-eq-clause-there : goal.returns-then-eq-clause-there
returns-then-eq-clause-there c = place_of row_uri c.args.uri.now c.uri.result.now c.args.rows.now c.split_point-at.result
    c.index-rows-at.result c.split_point-at.ensures.split (omega arith) c.index-rows-at.is c.uri.ensures.text c.if-eq.ensures

pub returns-clause-absent : goal.returns-clause-absent
returns-clause-absent c = elim c.else-at-rows.branch [
  | else-at-rows-via-then-at-rows+else-eq w ↦ place_for_other row_uri c.args.uri.now w.uri.result.now c.args.rows.now
      c.split_point-at.result w.index-rows-at.result c.split_point-at.ensures.split (omega arith) w.index-rows-at.is
      w.uri.ensures.text w.if-eq.ensures
  | else-at-rows-via-else-at-rows w ↦ place_for_end row_uri c.args.uri.now c.args.rows.now c.split_point-at.result
      c.split_point-at.ensures.split (omega arith) (omega arith)
]

pub returns-then-eq-clause-row : goal.returns-then-eq-clause-row
returns-then-eq-clause-row c =
    ap (option_and_then (slice_get c.args.rows.now)) (found_number c.args.rows.now c.args.uri.now c.uri.result.now
    c.split_point-at.result c.index-rows-at.result c.split_point-at.ensures.split (omega arith) c.index-rows-at.is
    c.uri.ensures.text c.if-eq.ensures)
    ∙ number-row c.args.rows.now c.args.uri.now

pub returns-clause-no_row : goal.returns-clause-no_row
returns-clause-no_row c = ap (option_and_then (slice_get c.args.rows.now)) none ∙ number-row c.args.rows.now c.args.uri.now
  where
    none : None ≡ number_at c.args.rows.now c.args.uri.now
    none = elim c.else-at-rows.branch [
      | else-at-rows-via-then-at-rows+else-eq w ↦ absent_other c.args.rows.now c.args.uri.now w.uri.result.now
          c.split_point-at.result w.index-rows-at.result c.requires c.split_point-at.ensures.split (omega arith) w.index-rows-at.is
          w.uri.ensures.text w.if-eq.ensures
      | else-at-rows-via-else-at-rows w ↦ absent_end c.args.rows.now c.args.uri.now c.split_point-at.result c.requires
          c.split_point-at.ensures.split (omega arith)
    ]
