use Rattle.std.proofs.Common.{length, take, ap, ◌∙◌, arith}
use Rattle.std.specs.List.{flat_map}
use Rattle.std.proofs.lemmas.List.{length-append}
use Rattle.std.proofs.lemmas.List.Folds.{length-flat_map-take}
use Rattle.song_db.specs.Row.{Row}
use Rattle.state_codec.specs.SpellingRows.{row_bytes}
use Rattle.state_codec.proofs.RoomLaws.{more_items}
use Rattle.state_codec.proofs.writing.saved.put_rows.Goals as goal

pub put_row-requires : goal.put_row-requires
put_row-requires c =
    let i = c.loop-row.row-index in
    let item = c.row-item.result in
    omega (
      arith,
      c.requires,
      c.loop-row.out.ok.0,
      c.args.out.now.ok.0,
      c.loop-row.invariant.1,
      ap length c.loop-row.invariant.0,
      length-append c.args.out.now.items (flat_map (row_bytes c.args.profile) (take i c.args.rows.now)),
      length-flat_map-take (row_bytes c.args.profile) c.args.rows.now i item (omega arith),
      ap (λ (x : Row). length (row_bytes c.args.profile x)) c.row-item.is,
    )

pub loop-row-preserved : goal.loop-row-preserved
loop-row-preserved c = (
  c.put_row.ensures.items
      ∙ more_items (row_bytes c.args.profile) c.args.out.now.items c.loop-row.out.items c.args.rows.now c.loop-row.row-index c.row-item.result (omega arith)
      c.row-item.is c.loop-row.invariant.0,
  c.put_row.ensures.capacity ∙ c.loop-row.invariant.1,
)
