use Rattle.machine_core.proofs.Lists.Going.{adds_at_end, adds_past, block_taken, moves_past}
use Rattle.machine_core.proofs.Lists.Gone.{block_stands, songs_stand}
use Rattle.machine_core.proofs.laws.songs_go_to_their_place.Goals as goal

pub returns-clause-block : goal.returns-clause-block
returns-clause-block c = block_stands

pub returns-clause-taken : goal.returns-clause-taken
returns-clause-taken c = block_taken

pub returns-clause-refused : goal.returns-clause-refused
returns-clause-refused c = moves_past

pub returns-clause-added : goal.returns-clause-added
returns-clause-added c = songs_stand

pub returns-clause-at_the_end : goal.returns-clause-at_the_end
returns-clause-at_the_end c = adds_at_end

pub returns-clause-past_the_end : goal.returns-clause-past_the_end
returns-clause-past_the_end c = adds_past
