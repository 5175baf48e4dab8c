use Rattle.command_text.proofs.AckLength.{memory_fits}
use Rattle.command_text.proofs.laws.want_of_memory_fits.Goals as goal

pub returns : goal.returns
returns c = memory_fits
