use Rattle.play_journal.proofs.PlaceLaws.{honest_both, kept_generation}
use Rattle.play_journal.proofs.journal.Journal.generation.Goals as goal

pub returns-clause-content : goal.returns-clause-content
returns-clause-content g c = rw (← c.self.view_is) (λ a b usable.
    let j = c.self.inside in
    let honest = honest_both g.D.Disk.honest j.swapped j.here j.there a b in
    kept_generation _ _ _ _ j.end j.layout j.generation j.base j.count (c.self.invariant.2 usable honest.0 honest.1))
