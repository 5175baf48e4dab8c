use Rattle.std.proofs.Common.{}
use Rattle.command_text.proofs.Adding.{adds_stop, adds_then}
use Rattle.machine_core.proofs.answer.write_one_found.Goals as goal

pub returns-in_err-write_file : goal.returns-in_err-write_file
returns-in_err-write_file c = adds_stop _ _ _ _ _ _ c.in_err-write_file.ensures c.from_residual.ensures.0

pub returns : goal.returns
returns c = adds_then _ _ _ _ _ _ _ c.in_ok-write_file.ensures c.write_sticker.ensures
