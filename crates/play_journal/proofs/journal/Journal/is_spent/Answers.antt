use Rattle.play_journal.proofs.PlaceLaws.{honest_both, kept_now, kept_base, kept_count, kept_generation, kept_layout, kept_known}
use Rattle.play_journal.proofs.journal.Journal.is_spent.Goals as goal

pub returns-clause-kept : goal.returns-clause-kept
returns-clause-kept g c = rw (← c.self.view_is) (λ a b usable.
    let j = c.self.inside in
    let honest = honest_both g.D.Disk.honest j.swapped j.here j.there a b in
    kept_now g.D.Disk.content g.D.Disk.history j.swapped j.here j.there j.end j.layout j.generation j.base j.count
    (c.self.invariant.2 usable honest.0 honest.1))

pub returns-clause-numbers : goal.returns-clause-numbers
returns-clause-numbers g c = rw (← c.self.view_is) (λ a b usable.
    let j = c.self.inside in
    let honest = honest_both g.D.Disk.honest j.swapped j.here j.there a b in
    let kept = c.self.invariant.2 usable honest.0 honest.1 in
    record {
      layout = kept_layout _ _ _ _ j.end j.layout j.generation j.base j.count kept;
      known = kept_known _ _ _ _ j.end j.layout j.generation j.base j.count kept;
      generation = kept_generation _ _ _ _ j.end j.layout j.generation j.base j.count kept;
      base = kept_base _ _ _ _ j.end j.layout j.generation j.base j.count kept;
      count = kept_count _ _ _ _ j.end j.layout j.generation j.base j.count kept;
      measured = c.self.invariant.3 usable honest.0 honest.1;
      last = c.self.invariant.1;
    })
