use Rattle.std.proofs.Common.{◌≡◌, ◌∙◌, ◌+◌, ◌^◌, ◌<◌, [], ◌∷◌, ℕ, List, arith, refl}
use Rattle.play_journal.specs.Content.{with_record}
use Rattle.play_journal.specs.JournalState.{content_in, IsKept, IsMeasured}
use Rattle.play_journal.proofs.AddingLaws.{still_either, either_since, added_content, added_kept}
use Rattle.play_journal.proofs.GroupLaws.{one_spelled, one_short, records_len-one}
use Rattle.play_journal.proofs.PlaceLaws.{honest_both, kept_now, later_here}
use Rattle.play_journal.proofs.journal.Journal.append.Goals as goal

pub returns-then-not-is_written-clause-any_moment : goal.returns-then-not-is_written-clause-any_moment
returns-then-not-is_written-clause-any_moment g c = rw (← c.self.view_is) (λ a b usable.
    let j = c.self.inside in
    let honest = honest_both g.D.Disk.honest j.swapped j.here j.there a b in
    still_either g.D.Disk.content g.D.Disk.history j.swapped j.here j.there j.end j.layout j.generation j.base j.count
    (c.self.invariant.2 usable honest.0 honest.1) (with_record (content_in (g.D.Disk.content j.here)) c.args.body.now))

pub returns-then-len-gt-LONGEST_BODY-clause-any_moment : goal.returns-then-len-gt-LONGEST_BODY-clause-any_moment
returns-then-len-gt-LONGEST_BODY-clause-any_moment g c = rw (← c.self.view_is) (λ a b usable.
    let j = c.self.inside in
    let honest = honest_both g.D.Disk.honest j.swapped j.here j.there a b in
    still_either g.D.Disk.content g.D.Disk.history j.swapped j.here j.there j.end j.layout j.generation j.base j.count
    (c.self.invariant.2 usable honest.0 honest.1) (with_record (content_in (g.D.Disk.content j.here)) c.args.body.now))

pub returns-then-number-clause-any_moment : goal.returns-then-number-clause-any_moment
returns-then-number-clause-any_moment g c = rw (← c.self.view_is) (λ a b usable.
    let j = c.self.inside in
    let honest = honest_both g.D.Disk.honest j.swapped j.here j.there a b in
    still_either g.D.Disk.content g.D.Disk.history j.swapped j.here j.there j.end j.layout j.generation j.base j.count
    (c.self.invariant.2 usable honest.0 honest.1) (with_record (content_in (g.D.Disk.content j.here)) c.args.body.now))

pub returns-in-Ok-clause-any_moment : goal.returns-in-Ok-clause-any_moment
returns-in-Ok-clause-any_moment g c = rw (← c.self.view_is) (λ a b usable.
    let j = c.self.inside in
    let honest = honest_both g.D.Disk.honest j.swapped j.here j.there a b in
    let kept = c.self.invariant.2 usable honest.0 honest.1 in
    let body = c.args.body.now in
    let added : List ℕ = c.deref.result.now in
    either_since g.D.Disk.content g.D.Disk.history j.swapped j.here j.there j.end j.layout j.generation j.base j.count kept
    c.append_at.new.disk (body ∷ []) added (one_spelled body added (c.deref.ensures.value ∙ c.put_record.ensures.record))
    (one_short body (omega arith)) (omega (arith, c.self.invariant.1))
    (c.in-Ok.ensures.any_moment honest.0 kept.here_settled kept.in_use.ends))

pub returns-in-Err-clause-any_moment : goal.returns-in-Err-clause-any_moment
returns-in-Err-clause-any_moment g c = rw (← c.self.view_is) (λ a b usable.
    let j = c.self.inside in
    let honest = honest_both g.D.Disk.honest j.swapped j.here j.there a b in
    let kept = c.self.invariant.2 usable honest.0 honest.1 in
    let body = c.args.body.now in
    let added : List ℕ = c.deref.result.now in
    either_since g.D.Disk.content g.D.Disk.history j.swapped j.here j.there j.end j.layout j.generation j.base j.count kept
    c.append_at.new.disk (body ∷ []) added (one_spelled body added (c.deref.ensures.value ∙ c.put_record.ensures.record))
    (one_short body (omega arith)) (omega (arith, c.self.invariant.1))
    (c.in-Err.ensures.any_moment honest.0 kept.here_settled kept.in_use.ends))

after : (g : _) (c : goal.After-self-in-Ok-2-1 g) → g.D.Disk.honest c.self.inside.here → g.D.Disk.honest c.self.inside.there
    → IsKept (g.D.Disk.content c.append_at.new.disk) (g.D.Disk.content c.self.inside.there) (g.D.Disk.history c.append_at.new.disk)
    (g.D.Disk.history c.self.inside.there) c.saturating_add-self-inside.result c.self.inside.layout c.self.inside.generation
    c.self.inside.base (c.self.inside.count + 1)
    × IsMeasured (content_in (g.D.Disk.content c.append_at.new.disk)) c.self.inside.snapshot_len c.saturating_add-self-inside-in-Ok.result
    × (content_in (g.D.Disk.content c.append_at.new.disk) ≡ with_record (content_in (g.D.Disk.content c.self.inside.here)) c.args.body.now)
after g c first second =
    let j = c.self.inside in
    let content = g.D.Disk.content in
    let new = c.append_at.new.disk in
    let kept = c.self.invariant.2 c.if-self.false first second in
    let body = c.args.body.now in
    let added : List ℕ = c.deref.result.now in
    let spelled = one_spelled body added (c.deref.ensures.value ∙ c.put_record.ensures.record) in
    let short = one_short body (omega arith) in
    let number : j.base + j.count + 1 < 2 ^ 64 = omega (arith, c.self.invariant.1) in
    let written = c.in-Ok.ensures.written first kept.in_use.ends in
    let size = records_len-one body in
    let done = added_kept content g.D.Disk.history j.swapped j.here j.there j.end j.layout j.generation j.base j.count kept new (body ∷ [])
    added spelled short number written j.snapshot_len j.bytes c.saturating_add-self-inside.result (j.count + 1)
    c.saturating_add-self-inside-in-Ok.result
    (c.in-Ok.ensures.settled first kept.in_use.ends) (g.met.D.Disk.length_fits new (c.append_at.ensures.later.honesty.0 first))
    (c.self.invariant.3 c.if-self.false first second) (omega (arith, c.saturating_add-self-inside.ensures, size)) refl
    (omega (arith, c.saturating_add-self-inside-in-Ok.ensures, size)) in (
      done.0,
      done.1,
      added_content content g.D.Disk.history j.swapped j.here j.there j.end j.layout j.generation j.base j.count kept new (body ∷ []) added
          spelled short number written,
    )

pub invariant_of-self : goal.invariant_of-self
invariant_of-self g c = (
  omega (arith, c.self.invariant.0, c.put_record.ensures.room),
  omega (arith, c.self.invariant.1),
  λ usable a b. (after g c (c.append_at.ensures.later.honesty.1 a) b).0,
  λ usable a b. (after g c (c.append_at.ensures.later.honesty.1 a) b).1,
)

pub returns-in-Ok-clause-kept : goal.returns-in-Ok-clause-kept
returns-in-Ok-clause-kept g c = rw (← c.self.view_is) (λ a b.
    let j = c.self.inside in
    let honest = honest_both g.D.Disk.honest j.swapped j.here j.there a b in
    let done = after g c honest.0 honest.1 in
    record {
      says = done.2;
      kept = kept_now g.D.Disk.content g.D.Disk.history j.swapped c.append_at.new.disk j.there c.saturating_add-self-inside.result
          j.layout j.generation j.base (j.count + 1) done.0;
    })

pub returns-in-Ok-clause-later : goal.returns-in-Ok-clause-later
returns-in-Ok-clause-later g c = rw (← c.self.view_is)
    (later_here g.D.Disk.honest g.D.Disk.history g.D.Disk.faults c.self.inside.swapped c.self.inside.here c.self.inside.there
    c.append_at.new.disk c.append_at.ensures.later)

pub returns-in-Err-clause-later : goal.returns-in-Err-clause-later
returns-in-Err-clause-later g c = rw (← c.self.view_is)
    (later_here g.D.Disk.honest g.D.Disk.history g.D.Disk.faults c.self.inside.swapped c.self.inside.here c.self.inside.there
    c.append_at.new.disk c.append_at.ensures.later)
