use Rattle.std.proofs.Common.{◌≡◌, ◌≤◌, ◌++◌, ℕ, List, length, Option, Some, sym, ap, subst, ◌∙◌, arith}
use Rattle.std.specs.List.{AllByRecursion}
use Rattle.profile.specs.declared.profile.Profile.{Profile}
use Rattle.state_codec.specs.declared.op.Op.{Op}
use Rattle.state_codec.specs.Applied.{all_applied}
use Rattle.state_codec.specs.Ops.{IsOp}
use Rattle.state_codec.specs.SavedState.{SavedState}
use Rattle.state_codec.specs.Spelling.{body_bytes}
use Rattle.daemon_core.specs.State.{State}
use Rattle.daemon_core.specs.Step.{Stepped, step}
use Rattle.live_stage.specs.Answer.{profile_of_step}
use Rattle.live_stage.specs.Group.{body_of}
use Rattle.live_stage.specs.Numbers.{longest_record, record_bytes}
use Rattle.live_stage.proofs.ProfileLaws.{profile_stays}
use Rattle.live_stage.proofs.TurnLaws.{record_short}
use Rattle.live_stage.proofs.staging.stage_one.Goals as goal

pub stage_ops-number-requires-clause-short : goal.stage_ops-number-requires-clause-short
stage_ops-number-requires-clause-short g c =
    let mine : c.args.core.now.machine.saved.profile ≡ c.profile-profile.result =
    sym (profile_stays c.in_ok-outcome.outcome.ops.items c.args.core.now.machine.saved c.step.new.self.machine.saved
    c.in_ok-outcome.ensures.rebuilt)
    ∙ ap (λ (s : SavedState). s.profile) (sym c.as_saved.ensures) ∙ sym c.profile-profile.ensures in
    omega (
      arith,
      c.in_ok-outcome.ensures.fits,
      ap (λ (p : Profile). length (body_bytes p c.in_ok-outcome.outcome.ops.items)) mine,
      ap (λ (ops : List Op). length (body_bytes c.profile-profile.result ops)) c.deref.ensures.value,
    )

pub returns-clause-added : goal.returns-clause-added
returns-clause-added g c =
    let before : State = c.args.core.now in
    let asked : Option ℕ → Stepped = λ k. step before c.args.event k in
    let place : c.in_ok-outcome.outcome.refused_at ≡ c.new-turn.result.refused_at = sym (ap (λ t. t.refused_at) c.new-turn.ensures) in
    let now : Stepped = asked c.new-turn.result.refused_at in
    let made : c.in_ok-outcome.outcome.ops.items ≡ now.ops =
    c.in_ok-outcome.ensures.ok.ops ∙ ap (λ (k : Option ℕ). let st : Stepped = asked k in st.ops) place in
    let ops_are : c.deref.result.now ≡ now.ops = c.deref.ensures.value ∙ made in
    let after_is : c.step.new.self ≡ now.after =
    c.in_ok-outcome.ensures.ok.after ∙ ap (λ (k : Option ℕ). let st : Stepped = asked k in st.after) place in
    let spelled : c.profile-profile.result ≡ profile_of_step now =
    c.profile-profile.ensures ∙ ap (λ (s : SavedState). s.profile) c.as_saved.ensures
    ∙ ap (λ (s : State). s.machine.saved.profile) after_is in
    let mine : before.machine.saved.profile ≡ c.profile-profile.result =
    sym (profile_stays c.in_ok-outcome.outcome.ops.items before.machine.saved c.step.new.self.machine.saved c.in_ok-outcome.ensures.rebuilt)
    ∙ ap (λ (s : SavedState). s.profile) (sym c.as_saved.ensures) ∙ sym c.profile-profile.ensures in
    record {
      state = after_is;
      put = c.stage_ops-number.ensures.added ∙ ap (λ (ops : List Op). c.args.group.now ++ body_of c.profile-profile.result ops) ops_are
          ∙ ap (λ (p : Profile). c.args.group.now ++ body_of p now.ops) spelled;
      applies = ap (λ (ops : List Op). all_applied ops before.machine.saved) (sym made) ∙ c.in_ok-outcome.ensures.rebuilt
          ∙ ap (λ (s : State). Some s.machine.saved) after_is;
      valid = subst (AllByRecursion IsOp) ops_are c.stage_ops-number.ensures.valid;
      short = subst (λ (p : Profile). record_bytes p now.ops ≤ longest_record) spelled
          (subst (λ (ops : List Op). record_bytes c.profile-profile.result ops ≤ longest_record) ops_are
          (record_short c.profile-profile.result c.deref.result.now (omega (
            arith,
            c.in_ok-outcome.ensures.fits,
            ap (λ (p : Profile). length (body_bytes p c.in_ok-outcome.outcome.ops.items)) mine,
            ap (λ (ops : List Op). length (body_bytes c.profile-profile.result ops)) c.deref.ensures.value,
          ))));
    }
