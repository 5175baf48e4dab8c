use Rattle.std.proofs.Common.{length, Some, sym, ap, subst, ◌∙◌}
use Rattle.play_journal.specs.Content.{Content, IsEither}
use Rattle.play_journal.specs.Pair.{AllPairsSince}
use Rattle.state_codec.specs.SavedState.{SavedState}
use Rattle.state_codec.specs.Layout.{written_layout}
use Rattle.live_stage.specs.Found.{state_of}
use Rattle.live_stage.specs.Turns.{with_state}
use Rattle.live_stage.proofs.FoundLaws.{find_since, find_same, snapshot_stands}
use Rattle.live_stage.proofs.TurnLaws.{pairs_still}
use Rattle.live_stage.proofs.live.Live.checkpoint.Goals as goal

pub returns-then-generation-clause-any_moment : goal.returns-then-generation-clause-any_moment
returns-then-generation-clause-any_moment g c = rw (← c.self.view_is) (λ ha hb usable.
    let kept = c.is_spent.ensures.kept ha hb usable in
    record {
      before = kept;
      during = pairs_still _ _ c.self.inside.journal.content (with_state c.self.inside.journal.content c.self.inside.core.machine.saved) kept;
    })

pub returns-then-generation-clause-same_state : goal.returns-then-generation-clause-same_state
returns-then-generation-clause-same_state g c = rw (← c.self.view_is) (λ ha hb usable.
    find_since _ _ c.self.inside.journal.content c.self.inside.core.machine.saved (c.is_spent.ensures.kept ha hb usable)
    (c.self.invariant.2 usable ha hb))

pub returns-in_err-write_snapshot-clause-any_moment : goal.returns-in_err-write_snapshot-clause-any_moment
returns-in_err-write_snapshot-clause-any_moment g c = rw (← c.self.view_is) (λ ha hb usable. record {
  before = c.is_spent.ensures.kept ha hb usable;
  during = subst (λ (s : SavedState). AllPairsSince (IsEither c.self.inside.journal.content (with_state c.self.inside.journal.content s))
      (g.D.Disk.history c.write_snapshot.new.journal.a) (length (g.D.Disk.history c.self.inside.journal.a))
      (g.D.Disk.history c.write_snapshot.new.journal.b) (length (g.D.Disk.history c.self.inside.journal.b))) c.as_saved.ensures
      (c.write_snapshot.ensures.any_moment ha hb).during;
})

pub returns-in_err-write_snapshot-clause-same_state : goal.returns-in_err-write_snapshot-clause-same_state
returns-in_err-write_snapshot-clause-same_state g c = rw (← c.self.view_is, ← c.as_saved.ensures) (λ ha hb usable.
    find_same _ _ _ _ c.self.inside.journal.content c.as_saved.result.now
    (c.self.invariant.2 usable ha hb ∙ ap Some (sym c.as_saved.ensures)) c.write_snapshot.ensures.in_range
    (c.write_snapshot.ensures.any_moment ha hb).during)

pub invariant_of-self-2 : goal.invariant_of-self-2
invariant_of-self-2 g c = (
  c.self.invariant.0,
  λ unspent. c.in_ok-write_snapshot.ensures.next.layout ∙ ap (λ (s : SavedState). written_layout s.profile) c.as_saved.ensures,
  λ unspent ha' hb'.
      let ha = c.write_snapshot.ensures.disks.later.a.honesty.1 ha' in
      let hb = c.write_snapshot.ensures.disks.later.b.honesty.1 hb' in
      let held = (c.in_ok-write_snapshot.ensures.any_moment ha hb).kept in
      ap (λ (k : Content). state_of (Some k)) held.says
      ∙ snapshot_stands c.self.inside.journal.content c.as_saved.result.now c.write_snapshot.ensures.in_range
      ∙ ap Some c.as_saved.ensures,
)

pub returns-clause-any_moment : goal.returns-clause-any_moment
returns-clause-any_moment g c = rw (← c.self.view_is) (λ ha hb usable. record {
  before = c.is_spent.ensures.kept ha hb usable;
  during = subst (λ (s : SavedState). AllPairsSince (IsEither c.self.inside.journal.content (with_state c.self.inside.journal.content s))
      (g.D.Disk.history c.write_snapshot.new.journal.a) (length (g.D.Disk.history c.self.inside.journal.a))
      (g.D.Disk.history c.write_snapshot.new.journal.b) (length (g.D.Disk.history c.self.inside.journal.b))) c.as_saved.ensures
      (c.write_snapshot.ensures.any_moment ha hb).during;
})

pub returns-clause-same_state : goal.returns-clause-same_state
returns-clause-same_state g c = rw (← c.self.view_is, ← c.as_saved.ensures) (λ ha hb usable.
    find_same _ _ _ _ c.self.inside.journal.content c.as_saved.result.now
    (c.self.invariant.2 usable ha hb ∙ ap Some (sym c.as_saved.ensures)) c.write_snapshot.ensures.in_range
    (c.write_snapshot.ensures.any_moment ha hb).during)
