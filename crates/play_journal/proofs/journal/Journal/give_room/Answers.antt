use Rattle.std.proofs.Common.{◌≡◌, ◌∙◌, ◌+◌, ◌^◌, ◌<◌, ◌≤◌, Some, length, refl, ap, arith}
use Rattle.play_journal.specs.JournalState.{content_in}
use Rattle.play_journal.proofs.AheadLaws.{cut_content, cut_kept, cut_len, cut_since, end_is, failed_here, in_use_here}
use Rattle.play_journal.proofs.PlaceLaws.{honest_both, kept_now, later_here, still_since}
use Rattle.play_journal.proofs.journal.Journal.give_room.Goals as goal

pub returns-then-size-end-clause-any_moment : goal.returns-then-size-end-clause-any_moment
returns-then-size-end-clause-any_moment g c = rw (← c.self.view_is) (λ a b usable.
    let j = c.self.inside in
    let honest = honest_both g.D.Disk.honest j.swapped j.here j.there a b in
    still_since (λ f. f ≡ Some (content_in (g.D.Disk.content j.here))) _ _
    (kept_now g.D.Disk.content g.D.Disk.history j.swapped j.here j.there j.end j.layout j.generation j.base j.count
    (c.self.invariant.2 usable honest.0 honest.1)))

pub returns-then-size-end-clause-kept : goal.returns-then-size-end-clause-kept
returns-then-size-end-clause-kept g c = rw (← c.self.view_is) (λ a b.
    let j = c.self.inside in
    let honest = honest_both g.D.Disk.honest j.swapped j.here j.there a b in
    record {
      says = refl;
      kept = kept_now g.D.Disk.content g.D.Disk.history j.swapped j.here j.there j.end j.layout j.generation j.base j.count
          (c.self.invariant.2 c.if-self.false honest.0 honest.1);
    })

pub returns-then-size-end-clause-given : goal.returns-then-size-end-clause-given
returns-then-size-end-clause-given g c = rw (← c.self.view_is) (λ a b.
    let j = c.self.inside in
    let content = g.D.Disk.content in
    let honest = honest_both g.D.Disk.honest j.swapped j.here j.there a b in
    let kept = c.self.invariant.2 c.if-self.false honest.0 honest.1 in
    let end = end_is content g.D.Disk.history j.swapped j.here j.there j.end j.layout j.generation j.base j.count kept in
    let small : length (content j.here) < 2 ^ 63 = g.met.D.Disk.length_fits j.here honest.0 in
    let long = c.len-size.ensures honest.0 in
    let here = ap (λ d. length (content d)) (in_use_here j.swapped j.here j.there) in
    omega (arith, end, small, long, here, kept.in_use.ends, c.saturating_add-end.ensures, c.if-size-end.true))

pub returns-in-Ok-clause-any_moment : goal.returns-in-Ok-clause-any_moment
returns-in-Ok-clause-any_moment g c = rw (← c.self.view_is) (λ a b usable.
    let j = c.self.inside in
    let honest = honest_both g.D.Disk.honest j.swapped j.here j.there a b in
    let kept = c.self.invariant.2 usable honest.0 honest.1 in
    let small : length (g.D.Disk.content j.here) < 2 ^ 63 = g.met.D.Disk.length_fits j.here honest.0 in
    let is : c.saturating_add-end.result ≡ j.end + 1 = omega (arith, small, kept.in_use.ends, c.saturating_add-end.ensures) in
    cut_since g.D.Disk.content g.D.Disk.history j.swapped j.here j.there j.end j.layout j.generation j.base j.count kept
    c.cut_to.new.disk _ is
    (c.cut_to.ensures.any_moment honest.0 kept.here_settled (omega (arith, is, kept.in_use.ends))))

pub returns-in-Err-clause-any_moment : goal.returns-in-Err-clause-any_moment
returns-in-Err-clause-any_moment g c = rw (← c.self.view_is) (λ a b usable.
    let j = c.self.inside in
    let honest = honest_both g.D.Disk.honest j.swapped j.here j.there a b in
    let kept = c.self.invariant.2 usable honest.0 honest.1 in
    let small : length (g.D.Disk.content j.here) < 2 ^ 63 = g.met.D.Disk.length_fits j.here honest.0 in
    let is : c.saturating_add-end.result ≡ j.end + 1 = omega (arith, small, kept.in_use.ends, c.saturating_add-end.ensures) in
    cut_since g.D.Disk.content g.D.Disk.history j.swapped j.here j.there j.end j.layout j.generation j.base j.count kept
    c.cut_to.new.disk _ is
    (c.cut_to.ensures.any_moment honest.0 kept.here_settled (omega (arith, is, kept.in_use.ends))))

-- where it succeeded: the invariant, which a fault doesn't need, since the journal is spent then
pub invariant_of-self : goal.invariant_of-self
invariant_of-self g c =
    let j = c.self.inside in
    let content = g.D.Disk.content in
    let history = g.D.Disk.history in
    let new = c.cut_to.new.disk in (
      c.self.invariant.0,
      c.self.invariant.1,
      λ usable a b.
          let first = c.cut_to.ensures.later.honesty.1 a in
          let kept = c.self.invariant.2 usable first b in
          let small : length (content j.here) < 2 ^ 63 = g.met.D.Disk.length_fits j.here first in
          let is : c.saturating_add-end.result ≡ j.end + 1 = omega (arith, small, kept.in_use.ends, c.saturating_add-end.ensures) in
          cut_kept content history j.swapped j.here j.there j.end j.layout j.generation j.base j.count kept new _ is
          (c.in-Ok.ensures.cut first) (c.in-Ok.ensures.settled first),
      λ usable a b.
          let first = c.cut_to.ensures.later.honesty.1 a in
          let kept = c.self.invariant.2 usable first b in
          let small : length (content j.here) < 2 ^ 63 = g.met.D.Disk.length_fits j.here first in
          let is : c.saturating_add-end.result ≡ j.end + 1 = omega (arith, small, kept.in_use.ends, c.saturating_add-end.ensures) in
          rw (cut_content content history j.swapped j.here j.there j.end j.layout j.generation j.base j.count kept new _ is
          (c.in-Ok.ensures.cut first)) (c.self.invariant.3 usable first b),
    )

pub returns-in-Ok-clause-kept : goal.returns-in-Ok-clause-kept
returns-in-Ok-clause-kept g c = rw (← c.self.view_is) (λ a b.
    let j = c.self.inside in
    let content = g.D.Disk.content in
    let history = g.D.Disk.history in
    let new = c.cut_to.new.disk in
    let honest = honest_both g.D.Disk.honest j.swapped j.here j.there a b in
    let kept = c.self.invariant.2 c.if-self.false honest.0 honest.1 in
    let small : length (g.D.Disk.content j.here) < 2 ^ 63 = g.met.D.Disk.length_fits j.here honest.0 in
    let is : c.saturating_add-end.result ≡ j.end + 1 = omega (arith, small, kept.in_use.ends, c.saturating_add-end.ensures) in
    let cut = c.in-Ok.ensures.cut honest.0 in
    let after = cut_kept content history j.swapped j.here j.there j.end j.layout j.generation j.base j.count kept new _ is cut
    (c.in-Ok.ensures.settled honest.0) in
    record {
      says = cut_content content history j.swapped j.here j.there j.end j.layout j.generation j.base j.count kept new _ is cut;
      kept = kept_now content history j.swapped new j.there j.end j.layout j.generation j.base j.count after;
    })

pub returns-in-Ok-clause-given : goal.returns-in-Ok-clause-given
returns-in-Ok-clause-given g c = rw (← c.self.view_is) (λ a b.
    let j = c.self.inside in
    let content = g.D.Disk.content in
    let history = g.D.Disk.history in
    let new = c.cut_to.new.disk in
    let honest = honest_both g.D.Disk.honest j.swapped j.here j.there a b in
    let kept = c.self.invariant.2 c.if-self.false honest.0 honest.1 in
    let end = end_is content history j.swapped j.here j.there j.end j.layout j.generation j.base j.count kept in
    let small : length (content j.here) < 2 ^ 63 = g.met.D.Disk.length_fits j.here honest.0 in
    let is : c.saturating_add-end.result ≡ j.end + 1 = omega (arith, small, kept.in_use.ends, c.saturating_add-end.ensures) in
    let cut = cut_len content history j.swapped j.here j.there j.end j.layout j.generation j.base j.count kept new _ is
    (c.in-Ok.ensures.cut honest.0) in
    let here = ap (λ d. length (content d)) (in_use_here j.swapped new j.there) in
    omega (arith, end, cut, here))

pub returns-in-Err-clause-fault : goal.returns-in-Err-clause-fault
returns-in-Err-clause-fault g c = rw (← c.self.view_is) (λ a b usable failed.
    let j = c.self.inside in
    let honest = honest_both g.D.Disk.honest j.swapped j.here j.there a b in
    let kept = c.self.invariant.2 usable honest.0 honest.1 in
    let small : length (g.D.Disk.content j.here) < 2 ^ 63 = g.met.D.Disk.length_fits j.here honest.0 in
    failed_here g.D.Disk.faults j.swapped j.here j.there c.cut_to.new.disk
    (c.in-Err.ensures.fault honest.0 (omega (arith, small, kept.in_use.ends, c.saturating_add-end.ensures))))

pub returns-in-Ok-clause-later : goal.returns-in-Ok-clause-later
returns-in-Ok-clause-later g c = rw (← c.self.view_is)
    (later_here g.D.Disk.honest g.D.Disk.history g.D.Disk.faults c.self.inside.swapped c.self.inside.here c.self.inside.there
    c.cut_to.new.disk c.cut_to.ensures.later)

pub returns-in-Err-clause-later : goal.returns-in-Err-clause-later
returns-in-Err-clause-later g c = rw (← c.self.view_is)
    (later_here g.D.Disk.honest g.D.Disk.history g.D.Disk.faults c.self.inside.swapped c.self.inside.here c.self.inside.there
    c.cut_to.new.disk c.cut_to.ensures.later)
