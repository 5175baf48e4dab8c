use Rattle.std.proofs.Common.{◌≡◌, ◌<◌, ◌^◌, Some, length, refl, ap, arith}
use Rattle.play_journal.specs.JournalState.{content_in}
use Rattle.play_journal.proofs.AheadLaws.{in_use_here, later_there, other_images, other_kept}
use Rattle.play_journal.proofs.PlaceLaws.{honest_both, kept_now, still_since}
use Rattle.play_journal.proofs.journal.Journal.make_other_room.Goals as goal

pub returns-then-len-wanted-clause-any_moment : goal.returns-then-len-wanted-clause-any_moment
returns-then-len-wanted-clause-any_moment g c = rw (← c.self.view_is) (λ a b usable.
    let j = c.self.inside in
    let honest = honest_both g.D.Disk.honest j.swapped j.here j.there a b in
    still_since (λ f. f ≡ Some (content_in (g.D.Disk.content j.here))) _ _
    (kept_now g.D.Disk.content g.D.Disk.history j.swapped j.here j.there j.end j.layout j.generation j.base j.count
    (c.self.invariant.2 usable honest.0 honest.1)))

pub returns-then-len-wanted-clause-kept : goal.returns-then-len-wanted-clause-kept
returns-then-len-wanted-clause-kept g c = rw (← c.self.view_is) (λ a b.
    let j = c.self.inside in
    let honest = honest_both g.D.Disk.honest j.swapped j.here j.there a b in
    record {
      says = refl;
      kept = kept_now g.D.Disk.content g.D.Disk.history j.swapped j.here j.there j.end j.layout j.generation j.base j.count
          (c.self.invariant.2 c.if-self.false honest.0 honest.1);
    })

pub returns-then-len-wanted-clause-room : goal.returns-then-len-wanted-clause-room
returns-then-len-wanted-clause-room g c = rw (← c.self.view_is) (λ a b _.
    let j = c.self.inside in
    let content = g.D.Disk.content in
    let honest = honest_both g.D.Disk.honest j.swapped j.here j.there a b in
    let small : length (content j.there) < 2 ^ 63 = g.met.D.Disk.length_fits j.there honest.1 in
    let long = c.len-len.ensures honest.1 in
    let there = ap (λ d. length (content d)) (in_use_here j.swapped j.there j.here) in
    omega (arith, small, long, there, c.saturating_add-wanted.ensures, c.if-len-wanted.true))

pub returns-in-Ok-clause-room : goal.returns-in-Ok-clause-room
returns-in-Ok-clause-room g c = rw (← c.self.view_is) (λ a b is_there.
    let j = c.self.inside in
    let content = g.D.Disk.content in
    let new = c.lengthen_shut.new.disk in
    let honest = honest_both g.D.Disk.honest j.swapped j.here j.there a b in
    let small : length (content new) < 2 ^ 63 = g.met.D.Disk.length_fits new (c.lengthen_shut.ensures.later.honesty.0 honest.1) in
    let there = ap (λ d. length (content d)) (in_use_here j.swapped new j.here) in
    omega (arith, small, there, c.in-Ok.ensures.long honest.1 is_there, c.saturating_add-wanted.ensures))

pub returns-in-Ok-clause-any_moment : goal.returns-in-Ok-clause-any_moment
returns-in-Ok-clause-any_moment g c = rw (← c.self.view_is) (λ a b usable.
    let j = c.self.inside in
    let honest = honest_both g.D.Disk.honest j.swapped j.here j.there a b in
    let kept = c.self.invariant.2 usable honest.0 honest.1 in
    other_images g.D.Disk.content g.D.Disk.history j.swapped j.here j.there j.end j.layout j.generation j.base j.count kept
    c.lengthen_shut.new.disk (c.in-Ok.ensures.any_moment honest.1 kept.there_settled))

pub returns-in-Err-clause-any_moment : goal.returns-in-Err-clause-any_moment
returns-in-Err-clause-any_moment g c = rw (← c.self.view_is) (λ a b usable.
    let j = c.self.inside in
    let honest = honest_both g.D.Disk.honest j.swapped j.here j.there a b in
    let kept = c.self.invariant.2 usable honest.0 honest.1 in
    other_images g.D.Disk.content g.D.Disk.history j.swapped j.here j.there j.end j.layout j.generation j.base j.count kept
    c.lengthen_shut.new.disk (c.in-Err.ensures.any_moment honest.1 kept.there_settled))

pub invariant_of-self : goal.invariant_of-self
invariant_of-self g c =
    let j = c.self.inside in (
      c.self.invariant.0,
      c.self.invariant.1,
      λ usable a b. let second = c.lengthen_shut.ensures.later.honesty.1 b in
          other_kept g.D.Disk.content g.D.Disk.history j.swapped j.here j.there j.end j.layout j.generation j.base j.count
          (c.self.invariant.2 usable a second) c.lengthen_shut.new.disk (c.in-Ok.ensures.settled second) (c.in-Ok.ensures.shut second),
      λ usable a b. c.self.invariant.3 usable a (c.lengthen_shut.ensures.later.honesty.1 b),
    )

pub returns-in-Ok-clause-kept : goal.returns-in-Ok-clause-kept
returns-in-Ok-clause-kept g c = rw (← c.self.view_is) (λ a b.
    let j = c.self.inside in
    let honest = honest_both g.D.Disk.honest j.swapped j.here j.there a b in
    let kept = c.self.invariant.2 c.if-self.false honest.0 honest.1 in
    let after = other_kept g.D.Disk.content g.D.Disk.history j.swapped j.here j.there j.end j.layout j.generation j.base j.count kept
    c.lengthen_shut.new.disk (c.in-Ok.ensures.settled honest.1) (c.in-Ok.ensures.shut honest.1) in
    record {
      says = refl;
      kept = kept_now g.D.Disk.content g.D.Disk.history j.swapped j.here c.lengthen_shut.new.disk j.end j.layout j.generation j.base
          j.count after;
    })

pub returns-in-Ok-clause-later : goal.returns-in-Ok-clause-later
returns-in-Ok-clause-later g c = rw (← c.self.view_is)
    (later_there g.D.Disk.honest g.D.Disk.history g.D.Disk.faults c.self.inside.swapped c.self.inside.here c.self.inside.there
    c.lengthen_shut.new.disk c.lengthen_shut.ensures.later)

pub returns-in-Err-clause-later : goal.returns-in-Err-clause-later
returns-in-Err-clause-later g c = rw (← c.self.view_is)
    (later_there g.D.Disk.honest g.D.Disk.history g.D.Disk.faults c.self.inside.swapped c.self.inside.here c.self.inside.there
    c.lengthen_shut.new.disk c.lengthen_shut.ensures.later)

-- where there is room, the file is long enough
pub returns-in-Ok-clause-there : goal.returns-in-Ok-clause-there
returns-in-Ok-clause-there g c = rw (← c.self.view_is) (λ a b usable there.
    let j = c.self.inside in
    let content = g.D.Disk.content in
    let honest = honest_both g.D.Disk.honest j.swapped j.here j.there a b in
    let small : length (content j.there) < 2 ^ 63 = g.met.D.Disk.length_fits j.there honest.1 in
    let other = ap (λ d. length (content d)) (in_use_here j.swapped j.there j.here) in
    absurd (omega (arith, c.len-len.ensures honest.1, c.saturating_add-wanted.ensures, c.if-len-wanted.false)))

pub returns-in-Err-clause-there : goal.returns-in-Err-clause-there
returns-in-Err-clause-there g c = rw (← c.self.view_is) (λ a b usable there.
    let j = c.self.inside in
    let content = g.D.Disk.content in
    let honest = honest_both g.D.Disk.honest j.swapped j.here j.there a b in
    let small : length (content j.there) < 2 ^ 63 = g.met.D.Disk.length_fits j.there honest.1 in
    let other = ap (λ d. length (content d)) (in_use_here j.swapped j.there j.here) in
    absurd (omega (arith, c.len-len.ensures honest.1, c.saturating_add-wanted.ensures, c.if-len-wanted.false)))
