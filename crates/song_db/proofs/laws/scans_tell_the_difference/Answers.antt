use Rattle.song_db.proofs.Differences.{all_is_read, scans_tell}
use Rattle.song_db.proofs.laws.scans_tell_the_difference.Goals as goal

pub returns : goal.returns
returns c = record { difference = scans_tell; without_stamps = all_is_read }
