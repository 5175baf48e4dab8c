use Rattle.command_text.proofs.FiltersAlone.{alone_so}
use Rattle.command_text.proofs.laws.filters_alone_have_one_reading.Goals as goal

pub returns : goal.returns
returns c = alone_so
