use Rattle.std.proofs.Common.{sym, None, Some}
use Rattle.wave_pcm.proofs.Finds.{data_found}
use Rattle.wave_pcm.proofs.head.first_data.Goals as goal

pub returns-in-Some-clause-data : goal.returns-in-Some-clause-data
returns-in-Some-clause-data c = λ file. data_found file c.args.listing.now.parts.items (Some c.in-Some.head)
    c.in-Some.ensures.found (sym c.if-is_long.ensures)

pub returns-in-None-clause-refused : goal.returns-in-None-clause-refused
returns-in-None-clause-refused c = λ file. data_found file c.args.listing.now.parts.items None c.in-None.ensures.found (sym
    c.if-is_long.ensures)
