use Rattle.std.proofs.Common.{◌≡◌, [], Some, ap, ◌∙◌, sym, refl, length, ℕ, List}
use Rattle.daemon_core.specs.State.{State}
use Rattle.state_codec.specs.Layout.{written_layout}
use Rattle.state_codec.specs.SavedState.{SavedState}
use Rattle.live_stage.proofs.ProfileLaws.{written_so}
use Rattle.live_stage.proofs.FoundLaws.{find_now}
use Rattle.live_stage.specs.Errors.{start_error}
use Rattle.live_stage.specs.Numbers.{first_file}
use Rattle.live_stage.proofs.StartLaws.{fresh_stands, only_a_fault, only_not_empty}
use Rattle.live_stage.proofs.TurnLaws.{file_made, numbers_made}
use Rattle.live_stage.proofs.live.Live.create.Goals as goal

pub create-requires : goal.create-requires
create-requires g c = record { written = written_so c.args.profile c.layout_number.result c.layout_number.ensures }

pub invariant_of-result : goal.invariant_of-result
invariant_of-result g c = (
  c.in-Ok-room_for.ensures.room,
  λ usable. c.in-Ok-create.ensures.new.layout ∙ c.layout_number.ensures
      ∙ ap written_layout (sym (ap (λ (s : State). s.machine.saved.profile) c.new.ensures
      ∙ ap (λ (s : SavedState). s.profile) c.in-Ok.ensures.ok)),
  λ usable ha' hb'.
      let ha = c.in-Ok-create.ensures.later.a.honesty.1 ha' in
      let hb = c.in-Ok-create.ensures.later.b.honesty.1 hb' in
      let held = c.in-Ok-create.ensures.kept ha hb in
      fresh_stands _ c.layout_number.result c.of.result.pieces c.in-Ok.saved
      (c.layout_number.ensures ∙ ap (λ (s : SavedState). written_layout s.profile) (sym c.in-Ok.ensures.ok)) held.says c.of.ensures.spelled
      c.of.ensures.in_range
      ∙ ap (λ (s : State). Some s.machine.saved) (sym c.new.ensures),
)

pub returns-in-Ok-create-clause-kept : goal.returns-in-Ok-create-clause-kept
returns-in-Ok-create-clause-kept g c = λ ha hb.
    let held = c.in-Ok-create.ensures.kept ha hb in
    find_now (g.D.Disk.history c.in-Ok-create.journal.a) (g.D.Disk.history c.in-Ok-create.journal.b) c.in-Ok-create.journal.content _
    held.kept
    (fresh_stands _ c.layout_number.result c.of.result.pieces c.in-Ok.saved
    (c.layout_number.ensures ∙ ap (λ (s : SavedState). written_layout s.profile) (sym c.in-Ok.ensures.ok)) held.says c.of.ensures.spelled
    c.of.ensures.in_range
    ∙ ap Some c.in-Ok.ensures.ok)

pub returns-in-Err-create-clause-fault : goal.returns-in-Err-create-clause-fault
returns-in-Err-create-clause-fault g c = λ ha hb broken.
    let empty_a : g.D.Disk.content c.args.a ≡ [] = (c.is_empty.ensures ha).0 c.if-not-is_empty.false in
    let empty_b : g.D.Disk.content c.args.b ≡ [] = (c.is_empty-else-not-is_empty.ensures hb).0 c.if-not-is_empty-2.false in
    let fault = only_a_fault c.in-Err-create.refused.error c.of.result.pieces c.in-Ok.saved
    c.of.ensures.spelled c.of.ensures.in_range
    c.in-Err-create.ensures.nothing_else (λ is. (c.in-Err-create.ensures.too_long ha hb empty_a empty_b).0 is)
    (sym c.refused_start.ensures.error ∙ broken) in
    rw (c.refused_start.ensures.a, c.refused_start.ensures.b) (c.in-Err-create.ensures.fault ha hb fault)

pub returns-in-Ok-create-clause-numbers : goal.returns-in-Ok-create-clause-numbers
returns-in-Ok-create-clause-numbers g c =
    let new = c.in-Ok-create.ensures.new in
    let long = ap (λ (l : List ℕ). length l) c.of.ensures.spelled in (
      numbers_made g.D.Disk.faults c.args.a c.args.b c.in-Ok-create.journal c.layout_number.result (length c.of.result.pieces) new,
      file_made g.D.Disk.faults c.args.a c.args.b c.in-Ok-create.journal c.layout_number.result (length c.of.result.pieces)
          c.in-Ok.saved new
          (c.layout_number.ensures ∙ ap (λ (s : SavedState). written_layout s.profile) (sym c.in-Ok.ensures.ok)) long
          ∙ ap (λ (s : SavedState). first_file s) c.in-Ok.ensures.ok,
      refl,
    )

pub returns-in-Err-create-clause-not_empty : goal.returns-in-Err-create-clause-not_empty
returns-in-Err-create-clause-not_empty g c = λ ha hb.
    let was = c.in-Err-create.ensures.not_empty ha hb in (
      λ is. was.0 (only_not_empty c.in-Err-create.refused.error (sym c.refused_start.ensures.error ∙ is)),
      λ some. c.refused_start.ensures.error ∙ ap start_error (was.1 some),
    )

pub returns-in-Err-create-clause-stays : goal.returns-in-Err-create-clause-stays
returns-in-Err-create-clause-stays g c = λ other.
    let same = c.in-Err-create.ensures.stays (λ is. other (c.refused_start.ensures.error ∙ ap start_error is)) in
    (c.refused_start.ensures.a ∙ same.0, c.refused_start.ensures.b ∙ same.1)
