use Rattle.play_journal.proofs.PlaceLaws.{honest_both}
use Rattle.play_journal.proofs.journal.Journal.bytes_since_checkpoint.Goals as goal

pub returns-clause-content : goal.returns-clause-content
returns-clause-content g c = rw (← c.self.view_is) (λ a b usable.
    let honest = honest_both g.D.Disk.honest c.self.inside.swapped c.self.inside.here c.self.inside.there a b in
    let measured = c.self.invariant.3 usable honest.0 honest.1 in
    measured.records)
