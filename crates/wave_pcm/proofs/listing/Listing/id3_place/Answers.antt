use Rattle.wave_pcm.proofs.Finds.{id3_found, id3_none}
use Rattle.wave_pcm.proofs.listing.Listing.id3_place.Goals as goal

pub returns-in-Some-clause-place : goal.returns-in-Some-clause-place
returns-in-Some-clause-place c = λ file within.
    id3_found file c.args.self.now.parts.items c.in-Some.head c.args.self.now.end within c.in-Some.ensures.within c.in-Some.ensures.found

pub returns-in-None-clause-place : goal.returns-in-None-clause-place
returns-in-None-clause-place c = λ file within. id3_none file c.args.self.now.parts.items c.in-None.ensures.found
