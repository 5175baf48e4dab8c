use Rattle.std.proofs.Common.{refl, ap}
use Rattle.command_text.proofs.Adding.{adds_same}
use Rattle.machine_core.specs.Stickers.{song_found}
use Rattle.machine_core.proofs.Answering.{reads}
use Rattle.machine_core.proofs.machine.Machine.find_at_song.Goals as goal

pub returns : goal.returns
returns c =
    let m = c.args.self.now in
    reads _ _ m m _ c.args.work.now _ c.keep.new.self _ _ refl refl c.len-mark.ensures refl refl
    (adds_same _ _ _ _ _ c.write_found_song-written.ensures (ap
    (song_found c.args.uri.now c.args.name.now) c.value_found-found.ensures)) c.keep.ensures
