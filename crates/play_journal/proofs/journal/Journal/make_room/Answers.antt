use Rattle.std.proofs.Common.{◌≡◌, ◌<◌, ◌^◌, Some, length, refl, ap, arith}
use Rattle.disk_model.proofs.LengthLaws.{later_begun, later_lengthened}
use Rattle.play_journal.specs.JournalState.{content_in}
use Rattle.play_journal.proofs.AheadLaws.{ahead_content, ahead_kept, ahead_since, end_is, in_use_here, since_begun, since_lengthened}
use Rattle.play_journal.proofs.PlaceLaws.{honest_both, kept_now, later_here, still_since}
use Rattle.play_journal.proofs.journal.Journal.make_room.Goals as goal

pub returns-then-len-wanted-clause-any_moment : goal.returns-then-len-wanted-clause-any_moment
returns-then-len-wanted-clause-any_moment g c = rw (← c.self.view_is) (λ a b usable.
    let j = c.self.inside in
    let honest = honest_both g.D.Disk.honest j.swapped j.here j.there a b in
    still_since (λ f. f ≡ Some (content_in (g.D.Disk.content j.here))) _ _
    (kept_now g.D.Disk.content g.D.Disk.history j.swapped j.here j.there j.end j.layout j.generation j.base j.count
    (c.self.invariant.2 usable honest.0 honest.1)))

pub returns-then-len-wanted-clause-kept : goal.returns-then-len-wanted-clause-kept
returns-then-len-wanted-clause-kept g c = rw (← c.self.view_is) (λ a b.
    let j = c.self.inside in
    let honest = honest_both g.D.Disk.honest j.swapped j.here j.there a b in
    record {
      says = refl;
      kept = kept_now g.D.Disk.content g.D.Disk.history j.swapped j.here j.there j.end j.layout j.generation j.base j.count
          (c.self.invariant.2 c.if-self.false honest.0 honest.1);
    })

pub returns-then-len-wanted-clause-room : goal.returns-then-len-wanted-clause-room
returns-then-len-wanted-clause-room g c = rw (← c.self.view_is) (λ a b _.
    let j = c.self.inside in
    let content = g.D.Disk.content in
    let honest = honest_both g.D.Disk.honest j.swapped j.here j.there a b in
    let kept = c.self.invariant.2 c.if-self.false honest.0 honest.1 in
    let end = end_is content g.D.Disk.history j.swapped j.here j.there j.end j.layout j.generation j.base j.count kept in
    let small : length (content j.here) < 2 ^ 63 = g.met.D.Disk.length_fits j.here honest.0 in
    let long = c.len-len.ensures honest.0 in
    let here = ap (λ d. length (content d)) (in_use_here j.swapped j.here j.there) in
    omega (arith, end, small, long, here, c.saturating_add.ensures, c.saturating_add-wanted.ensures, c.if-len-wanted.true))

pub returns-in-Ok-clause-any_moment : goal.returns-in-Ok-clause-any_moment
returns-in-Ok-clause-any_moment g c = rw (← c.self.view_is) (λ a b usable.
    let j = c.self.inside in
    let honest = honest_both g.D.Disk.honest j.swapped j.here j.there a b in
    let kept = c.self.invariant.2 usable honest.0 honest.1 in
    ahead_since g.D.Disk.content g.D.Disk.history j.swapped j.here j.there j.end j.layout j.generation j.base j.count kept
    c.lengthen.new.self
    (since_lengthened _ (g.D.Disk.content j.here) _ _ _ kept.here_settled (c.in-Ok.ensures.lengthened honest.0)))

pub returns-in-Err-clause-any_moment : goal.returns-in-Err-clause-any_moment
returns-in-Err-clause-any_moment g c = rw (← c.self.view_is) (λ a b usable.
    let j = c.self.inside in
    let honest = honest_both g.D.Disk.honest j.swapped j.here j.there a b in
    let kept = c.self.invariant.2 usable honest.0 honest.1 in
    ahead_since g.D.Disk.content g.D.Disk.history j.swapped j.here j.there j.end j.layout j.generation j.base j.count kept
    c.lengthen.new.self
    (since_begun _ (g.D.Disk.content j.here) _ _ kept.here_settled (c.in-Err.ensures.in_part honest.0)))

-- where it succeeded: the invariant, which a fault doesn't need, since the journal is spent then
pub invariant_of-self : goal.invariant_of-self
invariant_of-self g c =
    let j = c.self.inside in
    let content = g.D.Disk.content in
    let history = g.D.Disk.history in
    let new = c.lengthen.new.self in (
      c.self.invariant.0,
      c.self.invariant.1,
      λ usable a b. let first = c.lengthen.ensures.honest.1 a in
          ahead_kept content history j.swapped j.here j.there j.end j.layout j.generation j.base j.count
          (c.self.invariant.2 usable first b) new _ (c.in-Ok.ensures.lengthened first),
      λ usable a b. let first = c.lengthen.ensures.honest.1 a in
          rw (ahead_content content history j.swapped j.here j.there j.end j.layout j.generation j.base j.count
          (c.self.invariant.2 usable first b) new _ (c.in-Ok.ensures.lengthened first)) (c.self.invariant.3 usable first b),
    )

pub returns-in-Ok-clause-kept : goal.returns-in-Ok-clause-kept
returns-in-Ok-clause-kept g c = rw (← c.self.view_is) (λ a b.
    let j = c.self.inside in
    let content = g.D.Disk.content in
    let honest = honest_both g.D.Disk.honest j.swapped j.here j.there a b in
    let kept = c.self.invariant.2 c.if-self.false honest.0 honest.1 in
    let long = c.in-Ok.ensures.lengthened honest.0 in
    let after = ahead_kept content g.D.Disk.history j.swapped j.here j.there j.end j.layout j.generation j.base j.count kept
    c.lengthen.new.self _ long in
    record {
      says = ahead_content content g.D.Disk.history j.swapped j.here j.there j.end j.layout j.generation j.base j.count kept
          c.lengthen.new.self _ long;
      kept = kept_now content g.D.Disk.history j.swapped c.lengthen.new.self j.there j.end j.layout j.generation j.base j.count after;
    })

pub returns-in-Ok-clause-room : goal.returns-in-Ok-clause-room
returns-in-Ok-clause-room g c = rw (← c.self.view_is) (λ a b is_there.
    let j = c.self.inside in
    let content = g.D.Disk.content in
    let new = c.lengthen.new.self in
    let honest = honest_both g.D.Disk.honest j.swapped j.here j.there a b in
    let kept = c.self.invariant.2 c.if-self.false honest.0 honest.1 in
    let long = c.in-Ok.ensures.lengthened honest.0 in
    let after = ahead_kept content g.D.Disk.history j.swapped j.here j.there j.end j.layout j.generation j.base j.count kept new _ long in
    let end = end_is content g.D.Disk.history j.swapped new j.there j.end j.layout j.generation j.base j.count after in
    let small : length (content new) < 2 ^ 63 = g.met.D.Disk.length_fits new (c.lengthen.ensures.honest.0 honest.0) in
    let here = ap (λ d. length (content d)) (in_use_here j.swapped new j.there) in
    omega (arith, end, small, here, c.in-Ok.ensures.long honest.0 is_there, c.saturating_add.ensures, c.saturating_add-wanted.ensures))

pub returns-in-Ok-clause-later : goal.returns-in-Ok-clause-later
returns-in-Ok-clause-later g c = rw (← c.self.view_is)
    (later_here g.D.Disk.honest g.D.Disk.history g.D.Disk.faults c.self.inside.swapped c.self.inside.here c.self.inside.there
    c.lengthen.new.self
    (later_lengthened g.D.Disk.honest g.D.Disk.content g.D.Disk.history g.D.Disk.faults c.self.inside.here c.lengthen.new.self _
    c.lengthen.ensures.honest c.lengthen.ensures.counted.later c.in-Ok.ensures.lengthened))

pub returns-in-Err-clause-later : goal.returns-in-Err-clause-later
returns-in-Err-clause-later g c = rw (← c.self.view_is)
    (later_here g.D.Disk.honest g.D.Disk.history g.D.Disk.faults c.self.inside.swapped c.self.inside.here c.self.inside.there
    c.lengthen.new.self
    (later_begun g.D.Disk.honest g.D.Disk.content g.D.Disk.history g.D.Disk.faults c.self.inside.here c.lengthen.new.self _
    c.lengthen.ensures.honest c.lengthen.ensures.counted.later c.in-Err.ensures.in_part))

-- where there is room, the file is long enough
pub returns-in-Ok-clause-there : goal.returns-in-Ok-clause-there
returns-in-Ok-clause-there g c = rw (← c.self.view_is) (λ a b usable there.
    let j = c.self.inside in
    let content = g.D.Disk.content in
    let honest = honest_both g.D.Disk.honest j.swapped j.here j.there a b in
    let kept = c.self.invariant.2 usable honest.0 honest.1 in
    let end = end_is content g.D.Disk.history j.swapped j.here j.there j.end j.layout j.generation j.base j.count kept in
    let small : length (content j.here) < 2 ^ 63 = g.met.D.Disk.length_fits j.here honest.0 in
    let here = ap (λ d. length (content d)) (in_use_here j.swapped j.here j.there) in
    absurd (omega (arith, c.len-len.ensures honest.0, c.saturating_add.ensures, c.saturating_add-wanted.ensures, c.if-len-wanted.false)))

pub returns-in-Err-clause-there : goal.returns-in-Err-clause-there
returns-in-Err-clause-there g c = rw (← c.self.view_is) (λ a b usable there.
    let j = c.self.inside in
    let content = g.D.Disk.content in
    let honest = honest_both g.D.Disk.honest j.swapped j.here j.there a b in
    let kept = c.self.invariant.2 usable honest.0 honest.1 in
    let end = end_is content g.D.Disk.history j.swapped j.here j.there j.end j.layout j.generation j.base j.count kept in
    let small : length (content j.here) < 2 ^ 63 = g.met.D.Disk.length_fits j.here honest.0 in
    let here = ap (λ d. length (content d)) (in_use_here j.swapped j.here j.there) in
    absurd (omega (arith, c.len-len.ensures honest.0, c.saturating_add.ensures, c.saturating_add-wanted.ensures, c.if-len-wanted.false)))
