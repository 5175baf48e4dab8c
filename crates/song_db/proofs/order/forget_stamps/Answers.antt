use Rattle.std.proofs.Common.{get_or, arith}
use Rattle.std.proofs.lemmas.List.{get_or_default}
use Rattle.std.proofs.lemmas.List.Edits.{map_over_more}
use Rattle.song_db.specs.Order.{without_stamp}
use Rattle.song_db.proofs.order.forget_stamps.Goals as goal

pub loop-song-preserved : goal.loop-song-preserved
loop-song-preserved c =
    let now = c.loop-song.known in
    let i = c.loop-song.song-index in
    map_over_more without_stamp c.args.known.now now i (get_or now i c.song-item.result) (omega arith) c.loop-song.invariant
    (get_or_default now i c.song-item.result (get_or now i c.song-item.result) (omega arith))
