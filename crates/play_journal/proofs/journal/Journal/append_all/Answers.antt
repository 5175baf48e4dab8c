use Rattle.std.proofs.Common.{◌≡◌, ◌∙◌, ◌+◌, ◌^◌, ◌<◌, [], ℕ, List, length, arith, sym, ap}
use Rattle.play_journal.specs.Content.{with_records}
use Rattle.play_journal.specs.JournalState.{content_in, IsKept, IsMeasured}
use Rattle.play_journal.proofs.AddingLaws.{still_either, either_since, added_content, added_kept}
use Rattle.play_journal.proofs.GroupLaws.{no_records}
use Rattle.play_journal.proofs.PlaceLaws.{honest_both, kept_now}
use Rattle.play_journal.proofs.journal.Journal.append_all.Goals as goal

pub returns-then-not-is_written-clause-any_moment : goal.returns-then-not-is_written-clause-any_moment
returns-then-not-is_written-clause-any_moment g c = rw (← c.self.view_is) (λ a b usable.
    let j = c.self.inside in
    let honest = honest_both g.D.Disk.honest j.swapped j.here j.there a b in
    still_either g.D.Disk.content g.D.Disk.history j.swapped j.here j.there j.end j.layout j.generation j.base j.count
    (c.self.invariant.2 usable honest.0 honest.1) (with_records (content_in (g.D.Disk.content j.here)) c.args.group.now))

pub returns-in_default-clause-any_moment : goal.returns-in_default-clause-any_moment
returns-in_default-clause-any_moment g c = rw (← c.self.view_is) (λ a b usable.
    let j = c.self.inside in
    let honest = honest_both g.D.Disk.honest j.swapped j.here j.there a b in
    still_either g.D.Disk.content g.D.Disk.history j.swapped j.here j.there j.end j.layout j.generation j.base j.count
    (c.self.invariant.2 usable honest.0 honest.1) (with_records (content_in (g.D.Disk.content j.here)) c.args.group.now))

pub returns-then-is_empty-clause-any_moment : goal.returns-then-is_empty-clause-any_moment
returns-then-is_empty-clause-any_moment g c = rw (← c.self.view_is) (λ a b usable.
    let j = c.self.inside in
    let honest = honest_both g.D.Disk.honest j.swapped j.here j.there a b in
    still_either g.D.Disk.content g.D.Disk.history j.swapped j.here j.there j.end j.layout j.generation j.base j.count
    (c.self.invariant.2 usable honest.0 honest.1) (with_records (content_in (g.D.Disk.content j.here)) c.args.group.now))

pub returns-then-is_empty-clause-kept : goal.returns-then-is_empty-clause-kept
returns-then-is_empty-clause-kept g c = rw (← c.self.view_is) (λ a b.
    let j = c.self.inside in
    let honest = honest_both g.D.Disk.honest j.swapped j.here j.there a b in
    let content = content_in (g.D.Disk.content j.here) in
    let none : c.args.group.now ≡ [] = c.is_empty.ensures.0 c.if-is_empty.true in
    record {
      says = sym (ap (λ (l : List (List ℕ)). with_records content l) none ∙ no_records content);
      kept = kept_now g.D.Disk.content g.D.Disk.history j.swapped j.here j.there j.end j.layout j.generation j.base j.count
          (c.self.invariant.2 c.if-self.false honest.0 honest.1);
    })

pub returns-in-Ok-clause-any_moment : goal.returns-in-Ok-clause-any_moment
returns-in-Ok-clause-any_moment g c = rw (← c.self.view_is) (λ a b usable.
    let j = c.self.inside in
    let honest = honest_both g.D.Disk.honest j.swapped j.here j.there a b in
    let kept = c.self.invariant.2 usable honest.0 honest.1 in
    either_since g.D.Disk.content g.D.Disk.history j.swapped j.here j.there j.end j.layout j.generation j.base j.count kept
    c.append_at.new.disk c.args.group.now c.behind_gate.result.now c.behind_gate.ensures.spelled c.behind_gate.ensures.fits.short
    (omega (arith, c.in-Some.ensures, c.records.ensures))
    (c.in-Ok.ensures.any_moment honest.0 kept.here_settled kept.in_use.ends))

pub returns-in-Err-clause-any_moment : goal.returns-in-Err-clause-any_moment
returns-in-Err-clause-any_moment g c = rw (← c.self.view_is) (λ a b usable.
    let j = c.self.inside in
    let honest = honest_both g.D.Disk.honest j.swapped j.here j.there a b in
    let kept = c.self.invariant.2 usable honest.0 honest.1 in
    either_since g.D.Disk.content g.D.Disk.history j.swapped j.here j.there j.end j.layout j.generation j.base j.count kept
    c.append_at.new.disk c.args.group.now c.behind_gate.result.now c.behind_gate.ensures.spelled c.behind_gate.ensures.fits.short
    (omega (arith, c.in-Some.ensures, c.records.ensures))
    (c.in-Err.ensures.any_moment honest.0 kept.here_settled kept.in_use.ends))

after : (g : _) (c : goal.After-self-in-Ok-2-1 g) → g.D.Disk.honest c.self.inside.here → g.D.Disk.honest c.self.inside.there
    → IsKept (g.D.Disk.content c.append_at.new.disk) (g.D.Disk.content c.self.inside.there) (g.D.Disk.history c.append_at.new.disk)
    (g.D.Disk.history c.self.inside.there) c.saturating_add-self-inside.result c.self.inside.layout c.self.inside.generation
    c.self.inside.base (c.self.inside.count + c.records-in-Ok.result)
    × IsMeasured (content_in (g.D.Disk.content c.append_at.new.disk)) c.self.inside.snapshot_len c.saturating_add-self-inside-in-Ok.result
    × (content_in (g.D.Disk.content c.append_at.new.disk) ≡ with_records (content_in (g.D.Disk.content c.self.inside.here))
    c.args.group.now)
after g c first second =
    let j = c.self.inside in
    let content = g.D.Disk.content in
    let new = c.append_at.new.disk in
    let kept = c.self.invariant.2 c.if-self.false first second in
    let bodies = c.args.group.now in
    let added : List ℕ = c.behind_gate.result.now in
    let spelled = c.behind_gate.ensures.spelled in
    let short = c.behind_gate.ensures.fits.short in
    let number : j.base + j.count + length bodies < 2 ^ 64 = omega (arith, c.in-Some.ensures, c.records.ensures) in
    let written = c.in-Ok.ensures.written first kept.in_use.ends in
    let done = added_kept content g.D.Disk.history j.swapped j.here j.there j.end j.layout j.generation j.base j.count kept new bodies added
    spelled short number written j.snapshot_len j.bytes c.saturating_add-self-inside.result (j.count + c.records-in-Ok.result)
    c.saturating_add-self-inside-in-Ok.result (c.in-Ok.ensures.settled first kept.in_use.ends)
    (g.met.D.Disk.length_fits new (c.append_at.ensures.later.honesty.0 first)) (c.self.invariant.3 c.if-self.false first second)
    (omega (arith, c.saturating_add-self-inside.ensures, c.bytes-taken.ensures.value)) (omega (arith, c.records-in-Ok.ensures))
    (omega (arith, c.saturating_add-self-inside-in-Ok.ensures, c.bytes-taken.ensures.value)) in (
      done.0,
      done.1,
      added_content content g.D.Disk.history j.swapped j.here j.there j.end j.layout j.generation j.base j.count kept new bodies added
          spelled short number written,
    )

pub invariant_of-self : goal.invariant_of-self
invariant_of-self g c = (
  c.self.invariant.0,
  omega (arith, c.in-Some.ensures, c.records.ensures, c.records-in-Ok.ensures),
  λ usable a b. (after g c (c.append_at.ensures.later.honesty.1 a) b).0,
  λ usable a b. (after g c (c.append_at.ensures.later.honesty.1 a) b).1,
)

pub returns-in-Ok-clause-kept : goal.returns-in-Ok-clause-kept
returns-in-Ok-clause-kept g c = rw (← c.self.view_is) (λ a b.
    let j = c.self.inside in
    let honest = honest_both g.D.Disk.honest j.swapped j.here j.there a b in
    let done = after g c honest.0 honest.1 in
    record {
      says = done.2;
      kept = kept_now g.D.Disk.content g.D.Disk.history j.swapped c.append_at.new.disk j.there c.saturating_add-self-inside.result
          j.layout j.generation j.base (j.count + c.records-in-Ok.result) done.0;
    })
