use Rattle.std.proofs.Common.{◌≡◌, ◌<◌, length, get_or, refl, sym, ◌∙◌, arith}
use Rattle.std.proofs.lemmas.List.{get_or_default}
use Rattle.play_queue.proofs.Stamped.{length-with_stamps, get_or-with_stamps}
use Rattle.play_queue.proofs.entries.Entries.at.Goals as goal

pub song-id-requires : goal.song-id-requires
song-id-requires c =
    omega (arith, rw (← c.self.view_is) at c.requires, length-with_stamps c.self.inside.stamps.items c.self.inside.songs)

pub index-requires : goal.index-requires
index-requires c =
    omega (arith, rw (← c.self.view_is) at c.requires, length-with_stamps c.self.inside.stamps.items c.self.inside.songs, c.self.invariant)

pub returns : goal.returns
returns c d =
    let stamps = c.self.inside.stamps.items in
    let songs = c.self.inside.songs in
    let within : c.args.at < length songs =
    omega (arith, rw (← c.self.view_is) at c.requires, length-with_stamps stamps songs) in
    let read : get_or stamps c.args.at 0 ≡ c.index.result.now =
    sym (c.index.ensures ∙ get_or_default stamps c.args.at c.index.result.now 0 (omega (arith, c.self.invariant))) in
    rw (← c.self.view_is)
    (get_or-with_stamps stamps songs c.args.at d within c.self.invariant ∙ rw (c.song-id.ensures d, read) refl)
