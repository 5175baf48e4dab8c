use Rattle.std.proofs.Common.{◌≡◌, None, sym}
use Rattle.std.specs.List.{slice_get}
use Rattle.std.proofs.lemmas.List.{append-nil}
use Rattle.state_codec.proofs.Edits.{past_end}
use Rattle.state_codec.proofs.saved.list_edits.push_song.Goals as goal

pub returns-in-None-clause-songs : goal.returns-in-None-clause-songs
returns-in-None-clause-songs c =
    let none : slice_get c.args.rows.now c.args.number ≡ None = past_end c.args.rows.now c.args.number c.in-None.ensures.lookup.3 in
    rw none (sym (append-nil c.args.songs.now))
