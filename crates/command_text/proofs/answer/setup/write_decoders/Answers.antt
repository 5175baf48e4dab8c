use Rattle.command_text.specs.AnswerSetup.{flac_lines, wave_lines}
use Rattle.command_text.proofs.Adding.{adds_stop, adds_then}
use Rattle.command_text.proofs.answer.setup.write_decoders.Goals as goal

pub returns-in_err-write_wave : goal.returns-in_err-write_wave
returns-in_err-write_wave c = adds_stop wave_lines flac_lines _ _ _ _ c.in_err-write_wave.ensures c.from_residual.ensures.0

pub returns : goal.returns
returns c = adds_then wave_lines flac_lines _ _ _ _ _ c.in_ok-write_wave.ensures c.write_flac.ensures
