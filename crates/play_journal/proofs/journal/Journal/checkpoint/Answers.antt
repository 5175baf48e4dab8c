use Rattle.std.proofs.Common.{◌≡◌, ◌∙◌, ◌+◌, ◌^◌, ◌<◌, [], ◌∷◌, ◌++◌, Some, length, arith, ap, subst, sym, refl, ℕ}
use Rattle.std.specs.Prelude.{not}
use Rattle.disk_model.specs.Moments.{AllSince}
use Rattle.play_journal.specs.Content.{IsOldOrNew, with_snapshot}
use Rattle.play_journal.specs.File.{open_gate, head}
use Rattle.play_journal.specs.JournalState.{content_in, IsKept, IsMeasured}
use Rattle.play_journal.specs.Laying.{IsLaidDown}
use Rattle.play_journal.proofs.CheckpointLaws.{first_laid, second_laid, next_kept, next_content}
use Rattle.play_journal.proofs.MeasureLaws.{new_measured}
use Rattle.play_journal.proofs.PlaceLaws.{honest_both, kept_now, still_since, other_since, swapped_since, old_or_new}
use Rattle.play_journal.proofs.journal.Journal.checkpoint.Goals as goal

pub returns-then-len-gt-LONGEST_SNAPSHOT-clause-any_moment : goal.returns-then-len-gt-LONGEST_SNAPSHOT-clause-any_moment
returns-then-len-gt-LONGEST_SNAPSHOT-clause-any_moment g c = rw (← c.self.view_is) (λ a b usable x y left right.
    let j = c.self.inside in
    let honest = honest_both g.D.Disk.honest j.swapped j.here j.there a b in
    let kept = c.self.invariant.2 usable honest.0 honest.1 in
    old_or_new _ c.args.layout (g.P.Pieces.left c.args.snapshot) _ (still_since (λ f. f ≡ Some (content_in (g.D.Disk.content j.here))) _ _
    (kept_now g.D.Disk.content g.D.Disk.history j.swapped j.here j.there j.end j.layout j.generation j.base j.count kept) x y left right))

pub returns-then-self-2-clause-any_moment : goal.returns-then-self-2-clause-any_moment
returns-then-self-2-clause-any_moment g c = rw (← c.self.view_is) (λ a b usable x y left right.
    let j = c.self.inside in
    let honest = honest_both g.D.Disk.honest j.swapped j.here j.there a b in
    let kept = c.self.invariant.2 usable honest.0 honest.1 in
    old_or_new _ c.args.layout (g.P.Pieces.left c.args.snapshot) _ (still_since (λ f. f ≡ Some (content_in (g.D.Disk.content j.here))) _ _
    (kept_now g.D.Disk.content g.D.Disk.history j.swapped j.here j.there j.end j.layout j.generation j.base j.count kept) x y left right))

pub returns-in-Err-clause-any_moment : goal.returns-in-Err-clause-any_moment
returns-in-Err-clause-any_moment g c = rw (← c.self.view_is) (λ a b usable.
    let j = c.self.inside in
    let here = g.D.Disk.content j.here in
    let there = g.D.Disk.content j.there in
    let snapshot = (g.P.Pieces.left c.args.snapshot) in
    let honest = honest_both g.D.Disk.honest j.swapped j.here j.there a b in
    let kept = c.self.invariant.2 usable honest.0 honest.1 in
    let new = open_gate ∷ head c.args.layout (j.generation + 1) (j.base + j.count) (length snapshot) ++ snapshot ++ 0 ∷ [] in
    let short : length snapshot < 2 ^ 32 = omega arith in
    let next : j.generation + 1 < 2 ^ 64 = omega arith in
    let since : AllSince (IsLaidDown there new) (g.D.Disk.history c.lay_down.new.disk) (length (g.D.Disk.history j.there)) =
    subst (λ (n : ℕ). AllSince (IsLaidDown there (open_gate ∷ head c.args.layout (j.generation + 1) (j.base + j.count) n ++ snapshot
    ++ 0 ∷ [])) (g.D.Disk.history c.lay_down.new.disk) (length (g.D.Disk.history j.there))) c.len-len.ensures
    (c.lay_down.ensures.any_moment honest.1 kept.there_settled) in
    let first = first_laid here there j.end j.layout j.generation j.base j.count kept.in_use c.args.layout c.requires.written new snapshot refl next c.self.invariant.1 short
    (g.D.Disk.history j.here) (g.D.Disk.history j.there) (g.D.Disk.history c.lay_down.new.disk) kept.here_settled since in
    let second = second_laid here there j.end j.layout j.generation j.base j.count kept.in_use c.args.layout c.requires.written new snapshot refl next c.self.invariant.1 short
    (g.D.Disk.history j.here) (g.D.Disk.history j.there) (g.D.Disk.history c.lay_down.new.disk) kept.here_settled since in
    other_since g.D.Disk.history (IsOldOrNew (content_in here) c.args.layout snapshot) j.swapped j.here j.there c.lay_down.new.disk first second)

pub returns-clause-any_moment : goal.returns-clause-any_moment
returns-clause-any_moment g c = rw (← c.self.view_is, c.swap.ensures.x_after, c.swap.ensures.y_after) (λ a b usable.
    let j = c.self.inside in
    let here = g.D.Disk.content j.here in
    let there = g.D.Disk.content j.there in
    let snapshot = (g.P.Pieces.left c.args.snapshot) in
    let honest = honest_both g.D.Disk.honest j.swapped j.here j.there a b in
    let kept = c.self.invariant.2 usable honest.0 honest.1 in
    let new = open_gate ∷ head c.args.layout (j.generation + 1) (j.base + j.count) (length snapshot) ++ snapshot ++ 0 ∷ [] in
    let short : length snapshot < 2 ^ 32 = omega arith in
    let next : j.generation + 1 < 2 ^ 64 = omega arith in
    let since : AllSince (IsLaidDown there new) (g.D.Disk.history c.lay_down.new.disk) (length (g.D.Disk.history j.there)) =
    subst (λ (n : ℕ). AllSince (IsLaidDown there (open_gate ∷ head c.args.layout (j.generation + 1) (j.base + j.count) n ++ snapshot
    ++ 0 ∷ [])) (g.D.Disk.history c.lay_down.new.disk) (length (g.D.Disk.history j.there))) c.len-len.ensures
    (c.lay_down.ensures.any_moment honest.1 kept.there_settled) in
    let first = first_laid here there j.end j.layout j.generation j.base j.count kept.in_use c.args.layout c.requires.written new snapshot refl next c.self.invariant.1 short
    (g.D.Disk.history j.here) (g.D.Disk.history j.there) (g.D.Disk.history c.lay_down.new.disk) kept.here_settled since in
    let second = second_laid here there j.end j.layout j.generation j.base j.count kept.in_use c.args.layout c.requires.written new snapshot refl next c.self.invariant.1 short
    (g.D.Disk.history j.here) (g.D.Disk.history j.there) (g.D.Disk.history c.lay_down.new.disk) kept.here_settled since in
    swapped_since g.D.Disk.history (IsOldOrNew (content_in here) c.args.layout snapshot) j.swapped j.here j.there c.lay_down.new.disk first second)

done : (g : _) (c : goal.After-drop-snapshot-2 g) → g.D.Disk.honest c.self.inside.here → g.D.Disk.honest c.self.inside.there
    → IsKept (g.D.Disk.content c.lay_down.new.disk) (g.D.Disk.content c.self.inside.here) (g.D.Disk.history c.lay_down.new.disk)
    (g.D.Disk.history c.self.inside.here) (32 + length (g.P.Pieces.left c.args.snapshot)) c.args.layout (c.self.inside.generation + 1)
    (c.self.inside.base + c.self.inside.count) 0
    × (content_in (g.D.Disk.content c.lay_down.new.disk) ≡ with_snapshot (content_in
    (g.D.Disk.content c.self.inside.here)) c.args.layout (g.P.Pieces.left c.args.snapshot))
done g c first second =
    let j = c.self.inside in
    let here = g.D.Disk.content j.here in
    let there = g.D.Disk.content j.there in
    let snapshot = (g.P.Pieces.left c.args.snapshot) in
    let kept = c.self.invariant.2 c.if-self.false first second in
    let new = g.D.Disk.content c.lay_down.new.disk in
    let short : length snapshot < 2 ^ 32 = omega arith in
    let next : j.generation + 1 < 2 ^ 64 = omega arith in
    let is_new : new ≡ open_gate ∷ head c.args.layout (j.generation + 1) (j.base + j.count) (length snapshot) ++ snapshot ++ 0 ∷ [] =
    c.in_default.ensures.written second ∙ ap (λ (n : ℕ). open_gate ∷ head c.args.layout (j.generation + 1) (j.base + j.count) n
    ++ snapshot ++ 0 ∷ []) c.len-len.ensures in (
      next_kept here there j.end j.layout j.generation j.base j.count kept.in_use c.args.layout c.requires.written new snapshot is_new next c.self.invariant.1 short
          (g.D.Disk.history j.here) (g.D.Disk.history c.lay_down.new.disk) (32 + length snapshot) refl kept.here_settled
          (c.in_default.ensures.settled second),
      next_content here there j.end j.layout j.generation j.base j.count kept.in_use c.args.layout c.requires.written new snapshot is_new next c.self.invariant.1 short,
    )

pub invariant_of-self-2 : goal.invariant_of-self-2
invariant_of-self-2 g c = rw (c.swap.ensures.x_after, c.swap.ensures.y_after) (
  omega (arith, c.self.invariant.0, c.lay_down.ensures.room),
  omega (arith, c.self.invariant.1),
  λ usable a b. subst (λ (n : ℕ). IsKept (g.D.Disk.content c.lay_down.new.disk) (g.D.Disk.content c.self.inside.here)
      (g.D.Disk.history c.lay_down.new.disk) (g.D.Disk.history c.self.inside.here) (32 + n) c.args.layout (c.self.inside.generation + 1)
      (c.self.inside.base + c.self.inside.count) 0) (sym c.len-len.ensures) (done g c b (c.lay_down.ensures.later.honesty.1 a)).0,
  λ usable a b. subst (λ (n : ℕ). IsMeasured (content_in (g.D.Disk.content c.lay_down.new.disk)) n 0) (sym c.len-len.ensures)
      (new_measured (content_in (g.D.Disk.content c.self.inside.here)) (content_in (g.D.Disk.content c.lay_down.new.disk))
      c.args.layout (g.P.Pieces.left c.args.snapshot) (done g c b (c.lay_down.ensures.later.honesty.1 a)).1),
)

pub returns-clause-kept : goal.returns-clause-kept
returns-clause-kept g c = rw (← c.self.view_is, c.swap.ensures.x_after, c.swap.ensures.y_after) (λ a b.
    let j = c.self.inside in
    let honest = honest_both g.D.Disk.honest j.swapped j.here j.there a b in
    let both = done g c honest.0 honest.1 in
    record {
      says = both.1;
      kept = kept_now g.D.Disk.content g.D.Disk.history (not j.swapped) c.lay_down.new.disk j.here (32 + length (g.P.Pieces.left c.args.snapshot))
          c.args.layout (j.generation + 1) (j.base + j.count) 0 both.0;
    })
