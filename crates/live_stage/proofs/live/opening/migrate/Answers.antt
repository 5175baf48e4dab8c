use Rattle.std.proofs.Common.{◌≡◌, ◌≢◌, Some, ap, sym, ◌∙◌, arith}
use Rattle.play_journal.specs.Content.{Content}
use Rattle.live_stage.specs.Found.{state_of}
use Rattle.live_stage.proofs.FoundLaws.{open_since, open_same, snapshot_stands}
use Rattle.state_codec.specs.Layout.{written_layout}
use Rattle.live_stage.proofs.OpeningLaws.{migrated_other, other_is_old}
use Rattle.live_stage.proofs.ProfileLaws.{own_state}
use Rattle.live_stage.proofs.live.opening.migrate.Goals as goal

pub returns-then-layout-layout_number-clause-same_state : goal.returns-then-layout-layout_number-clause-same_state
returns-then-layout-layout_number-clause-same_state g c = λ ha hb.
    open_since _ _ c.args.saved.now.profile c.args.journal.now.content c.args.saved.now (c.is_spent-spent.ensures.kept ha hb c.requires.usable)
    (c.requires.stands ha hb)

pub returns-then-generation-eq18446744073709551615-clause-same_state : goal.returns-then-generation-eq18446744073709551615-clause-same_state
returns-then-generation-eq18446744073709551615-clause-same_state g c = λ ha hb.
    open_since _ _ c.args.saved.now.profile c.args.journal.now.content c.args.saved.now (c.is_spent-spent.ensures.kept ha hb c.requires.usable)
    (c.requires.stands ha hb)

pub returns-in-Ok-clause-stands : goal.returns-in-Ok-clause-stands
returns-in-Ok-clause-stands g c = λ ha hb.
    let held = (c.in-Ok.ensures.any_moment ha hb).kept in
    ap (λ (k : Content). state_of (Some k)) held.says
    ∙ snapshot_stands c.args.journal.now.content c.args.saved.now c.in-Ok.ensures.in_range

pub returns-in-Ok-clause-same_state : goal.returns-in-Ok-clause-same_state
returns-in-Ok-clause-same_state g c = λ ha hb.
    open_same _ _ _ _ c.args.journal.now.content c.args.saved.now (c.requires.stands ha hb) c.in-Ok.ensures.in_range
    (c.in-Ok.ensures.any_moment ha hb).during

pub returns-in-Err-clause-same_state : goal.returns-in-Err-clause-same_state
returns-in-Err-clause-same_state g c = λ ha hb.
    open_same _ _ _ _ c.args.journal.now.content c.args.saved.now (c.requires.stands ha hb) c.in-Err.ensures.in_range
    (c.in-Err.ensures.any_moment ha hb).during

pub returns-then-layout-layout_number-clause-stands : goal.returns-then-layout-layout_number-clause-stands
returns-then-layout-layout_number-clause-stands g c = λ ha hb. own_state c.args.journal.now.content c.args.saved.now
    ((c.is_spent-spent.ensures.numbers ha hb c.requires.usable).layout
    ∙ (omega (arith, c.layout.ensures.value, c.layout_number.ensures, ap written_layout c.profile.ensures)))
    (c.requires.stands ha hb)

pub returns-in-Ok-clause-told : goal.returns-in-Ok-clause-told
returns-in-Ok-clause-told g c = sym (other_is_old c.args.saved.now.profile c.args.journal.now.layout
    (λ same. omega (arith, same, c.layout.ensures.value, c.layout_number.ensures, ap written_layout c.profile.ensures)))

pub returns-in-Ok-clause-content : goal.returns-in-Ok-clause-content
returns-in-Ok-clause-content g c = λ ha hb.
    let held = (c.in-Ok.ensures.any_moment ha hb).kept in
    held.says ∙ sym (migrated_other c.args.journal.now.content c.args.saved.now (λ same.
    omega (
      arith,
      same,
      (c.is_spent-spent.ensures.numbers ha hb c.requires.usable).layout,
      c.layout.ensures.value,
      c.layout_number.ensures,
      ap written_layout c.profile.ensures,
    )))
