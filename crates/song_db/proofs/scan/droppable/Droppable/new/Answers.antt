use Rattle.std.proofs.Common.{◌≡◌, length, ap, arith}
use Rattle.song_db.specs.Music.{uris_of}
use Rattle.song_db.proofs.KnownSongs.{uris_len, with_left}
use Rattle.song_db.proofs.Picked.{marked}
use Rattle.song_db.proofs.scan.droppable.Droppable.new.Goals as goal

pub returns : goal.returns
returns c =
    let count : c.len.result ≡ length (uris_of c.args.known.items) = omega (arith, uris_len c.args.known.items) in
    ap (with_left c.args.known.items) (marked (uris_of c.args.known.items) c.new-marks.result.items c.resize.new.self.items _ _ count c.new-marks.ensures.items
    c.new-marks.ensures.len c.in_ok-resize.ensures.items)
