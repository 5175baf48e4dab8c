use Rattle.daemon_core.proofs.SongLaws.{song}
use Rattle.daemon_core.proofs.laws.playing_player_has_a_song.Goals as goal

pub returns : goal.returns
returns c = song
