use Rattle.std.proofs.Common.{◌≡◌, ℕ, ◌+◌, false, Some, sym, ap, ◌∙◌}
use Rattle.state_codec.specs.Layout.{written_layout}
use Rattle.daemon_core.specs.State.{State}
use Rattle.live_stage.specs.Turns.{is_old, migrated}
use Rattle.live_stage.proofs.TurnLaws.{file_is}
use Rattle.live_stage.proofs.OpeningLaws.{numbers_on, last_is}
use Rattle.live_stage.proofs.live.Live.over.Goals as goal

pub returns-clause-over : goal.returns-clause-over
returns-clause-over g c = λ ha hb.
    let ha' = c.in-Ok.ensures.disks.later.a.honesty.0 ha in
    let hb' = c.in-Ok.ensures.disks.later.b.honesty.0 hb in
    let own = c.args.journal.content in
    let now = c.migrate.new.journal in
    let usable : now.is_spent ≡ false = c.in-Ok.ensures.layout.1 in
    let first = c.is_spent-found.ensures.numbers ha hb c.requires.usable in
    let last = c.is_spent-spent.ensures.numbers ha' hb' usable in
    record {
      numbers = numbers_on own c.args.journal.base c.args.journal.count (now.base + now.count) first.base first.count first.last
          c.in-Ok.ensures.last;
      says = c.in-Ok.ensures.content ha hb ∙ ap (λ (s : State). migrated own s.machine.saved) (sym c.new.ensures);
      stored = record {
        kept = c.is_spent-spent.ensures.kept ha' hb' usable;
        layout = last.layout ∙ c.in-Ok.ensures.layout.0
            ∙ ap (λ (s : State). written_layout s.machine.saved.profile) (sym c.new.ensures);
        state = c.in-Ok.ensures.stands ha hb ∙ ap (λ (s : State). Some s.machine.saved) (sym c.new.ensures);
        file = file_is now last;
        numbered = last_is now.content now.base now.count last.base last.count last.last;
      };
      told = c.in-Ok.ensures.told ∙ ap (λ (n : ℕ). is_old c.args.saved.profile n) (sym first.layout)
          ∙ ap (λ (s : State). is_old s.machine.saved.profile own.layout) (sym c.new.ensures);
    }

pub invariant_of-result : goal.invariant_of-result
invariant_of-result g c = (
  c.requires.room,
  λ usable. c.in-Ok.ensures.layout.0 ∙ ap (λ (s : State). written_layout s.machine.saved.profile) (sym c.new.ensures),
  λ usable ha' hb'.
      let ha = c.in-Ok.ensures.disks.later.a.honesty.1 ha' in
      let hb = c.in-Ok.ensures.disks.later.b.honesty.1 hb' in
      c.in-Ok.ensures.stands ha hb ∙ ap (λ (s : State). Some s.machine.saved) (sym c.new.ensures),
)
