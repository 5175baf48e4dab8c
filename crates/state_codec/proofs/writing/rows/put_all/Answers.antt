use Rattle.std.proofs.Common.{length, take, ap, arith}
use Rattle.std.specs.List.{flat_map}
use Rattle.std.proofs.lemmas.List.{length-append}
use Rattle.std.proofs.lemmas.List.Folds.{length-flat_map-take}
use Rattle.song_db.specs.declared.change.RowChange.{RowChange}
use Rattle.state_codec.specs.SpellingRows.{change_bytes}
use Rattle.state_codec.proofs.writing.rows.put_all.Goals as goal

pub put_change-requires-clause-room : goal.put_change-requires-clause-room
put_change-requires-clause-room c =
    let i = c.loop-change.change-index in
    let item = c.change-item.result in
    omega (
      arith,
      c.requires.room,
      c.loop-change.out.ok.0,
      c.args.out.now.ok.0,
      c.loop-change.invariant.1,
      ap length c.loop-change.invariant.0,
      length-append c.args.out.now.items (flat_map (change_bytes c.args.profile) (take i c.args.changes.now)),
      length-flat_map-take (change_bytes c.args.profile) c.args.changes.now i item (omega arith),
      ap (λ (x : RowChange). length (change_bytes c.args.profile x)) c.change-item.is,
    )
