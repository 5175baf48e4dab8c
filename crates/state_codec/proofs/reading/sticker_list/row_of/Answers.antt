use Rattle.state_codec.proofs.SongsLaws.{found_uri}
use Rattle.state_codec.proofs.reading.sticker_list.row_of.Goals as goal

pub returns-in-Ok-clause-row : goal.returns-in-Ok-clause-row
returns-in-Ok-clause-row c = found_uri c.args.songs.now c.args.uri.now c.in-Ok.row.now c.in-Ok.ensures.row
