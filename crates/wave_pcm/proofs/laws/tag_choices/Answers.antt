use Rattle.wave_pcm.proofs.Wanted.{reading_restricted, reading_first}
use Rattle.wave_pcm.proofs.laws.tag_choices.Goals as goal

pub returns-clause-restricted : goal.returns-clause-restricted
returns-clause-restricted c = λ file wanted. reading_restricted file wanted _ c.tag_sets.ensures.all

pub returns-clause-first : goal.returns-clause-first
returns-clause-first c = reading_first
