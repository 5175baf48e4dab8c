use Rattle.command_text.proofs.Adding.{adds_stop, adds_then}
use Rattle.machine_core.proofs.answer_database.write_below.Goals as goal

pub returns-in_err-write_folder : goal.returns-in_err-write_folder
returns-in_err-write_folder c = adds_stop _ _ _ _ _ _ c.in_err-write_folder.ensures c.from_residual.ensures.0

pub returns : goal.returns
returns c = adds_then _ _ _ _ _ _ _ c.in_ok-write_folder.ensures c.write_told_walk.ensures
