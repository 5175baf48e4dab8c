use Rattle.command_text.proofs.Adding.{adds_stop, adds_then}
use Rattle.machine_core.proofs.answer_database.write_told_content.Goals as goal

pub returns-in_err-write_songs_in : goal.returns-in_err-write_songs_in
returns-in_err-write_songs_in c = adds_stop _ _ _ _ _ _ c.in_err-write_songs_in.ensures c.from_residual.ensures.0

pub returns : goal.returns
returns c = adds_then _ _ _ _ _ _ _ c.in_ok-write_songs_in.ensures c.write_folders_in.ensures
