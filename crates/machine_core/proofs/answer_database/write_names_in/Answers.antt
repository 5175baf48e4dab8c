use Rattle.command_text.proofs.Adding.{adds_stop, adds_then}
use Rattle.machine_core.proofs.answer_database.write_names_in.Goals as goal

pub returns-in_err-write_file_names : goal.returns-in_err-write_file_names
returns-in_err-write_file_names c = adds_stop _ _ _ _ _ _ c.in_err-write_file_names.ensures c.from_residual.ensures.0

pub returns : goal.returns
returns c = adds_then _ _ _ _ _ _ _ c.in_ok-write_file_names.ensures c.write_folder_names.ensures
