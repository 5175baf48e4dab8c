use Rattle.command_text.proofs.Adding.{adds_stop, adds_then}
use Rattle.machine_core.proofs.answer.write_content.Goals as goal

pub returns-in_err-write_texts : goal.returns-in_err-write_texts
returns-in_err-write_texts c = adds_stop _ _ _ _ _ _ c.in_err-write_texts.ensures c.from_residual.ensures.0

pub returns : goal.returns
returns c = adds_then _ _ _ _ _ _ _ c.in_ok-write_texts.ensures c.write_songs.ensures
