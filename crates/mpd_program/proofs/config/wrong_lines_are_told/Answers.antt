use Rattle.mpd_program.proofs.WrongLines.{is_told}
use Rattle.mpd_program.proofs.config.wrong_lines_are_told.Goals as goal

pub returns : goal.returns
returns c = is_told
