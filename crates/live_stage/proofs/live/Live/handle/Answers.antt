use Rattle.std.proofs.Common.{rules, ◌≡◌, ◌+◌, ◌<◌, ◌≤◌, ℕ, min, List, length, false, Option, Some, None, sym, ap, subst, ◌∙◌, arith}
use Rattle.profile.specs.declared.profile.Profile.{Profile}
use Rattle.state_codec.specs.declared.op.Op.{Op}
use Rattle.state_codec.specs.Layout.{written_layout}
use Rattle.state_codec.specs.SavedState.{SavedState}
use Rattle.live_stage.specs.Answer.{profile_of_step}
use Rattle.live_stage.specs.Numbers.{FileNumbers, greatest, longest_record, next_numbers, record_bytes, recorded}
use Rattle.live_stage.specs.Turns.{recorded_content}
use Rattle.live_stage.specs.Writing.{file_of}
use Rattle.std.specs.List.{AllByRecursion}
use Rattle.state_codec.specs.Ops.{IsOp}
use Rattle.state_codec.specs.Applied.{all_applied}
use Rattle.state_codec.specs.Spelling.{body_bytes}
use Rattle.daemon_core.specs.State.{State}
use Rattle.daemon_core.specs.Step.{Stepped, step}
use Rattle.live_stage.proofs.FoundLaws.{find_now, find_still, find_either, find_after, content_after, content_recorded}
use Rattle.live_stage.proofs.ProfileLaws.{profile_stays, written_so}
use Rattle.live_stage.proofs.TurnLaws.{still_in_file, no_call_made, numbers_next, put_off_recorded, record_short}
use Rattle.live_stage.proofs.live.Live.handle.Goals as goal

pub record_ops-requires-clause-takes : goal.record_ops-requires-clause-takes
record_ops-requires-clause-takes g c =
    let usable : c.self.inside.journal.is_spent ≡ false = ap (λ v. v.is_broken) c.self.view_is ∙ c.requires.usable in
    let mine : c.self.inside.core.machine.saved.profile ≡ c.profile-profile.result =
    sym (profile_stays c.in-Ok.outcome.ops.items c.self.inside.core.machine.saved c.step.new.self.machine.saved c.in-Ok.ensures.rebuilt)
    ∙ ap (λ (s : SavedState). s.profile) (sym c.as_saved.ensures) ∙ sym c.profile-profile.ensures in
    record {
      usable = usable;
      layout = written_so c.self.inside.core.machine.saved.profile c.self.inside.journal.layout (c.self.invariant.1 usable);
      numbers = search rules;
      fits = omega (
        arith,
        c.in-Ok.ensures.fits,
        ap (λ (p : Profile). length (body_bytes p c.in-Ok.outcome.ops.items)) mine,
        ap (λ (ops : List Op). length (body_bytes c.profile-profile.result ops)) c.deref.ensures.value,
      );
    }

pub returns-in-Err-clause-any_moment : goal.returns-in-Err-clause-any_moment
returns-in-Err-clause-any_moment g c =
    let usable : c.self.inside.journal.is_spent ≡ false = ap (λ v. v.is_broken) c.self.view_is ∙ c.requires.usable in
    rw (← c.self.view_is, c.in-Err.ensures.err) (λ ha hb. record {
      during = (
        None,
        tt,
        find_still _ _ c.self.inside.journal.content c.self.inside.core.machine.saved _ (c.is_spent-spent.ensures.kept ha hb usable)
            (c.self.invariant.2 usable ha hb),
      );
      kept = λ unbroken. find_now (g.D.Disk.history c.self.inside.journal.a) (g.D.Disk.history c.self.inside.journal.b)
          c.self.inside.journal.content c.self.inside.core.machine.saved (c.is_spent-spent.ensures.kept ha hb usable)
          (c.self.invariant.2 usable ha hb);
      content = tt;
      short = tt;
    })

pub returns-in_err-number-clause-any_moment : goal.returns-in_err-number-clause-any_moment
returns-in_err-number-clause-any_moment g c =
    let usable : c.self.inside.journal.is_spent ≡ false = ap (λ v. v.is_broken) c.self.view_is ∙ c.requires.usable in
    let asked : Stepped = step c.self.inside.core c.args.event c.in-Ok.outcome.refused_at in
    let valid : AllByRecursion IsOp c.deref.result.now = c.record_ops.ensures.valid in
    let applies : all_applied c.deref.result.now c.self.inside.core.machine.saved ≡ Some asked.after.machine.saved =
    rw c.deref.ensures.value (c.in-Ok.ensures.rebuilt ∙ ap (λ (s : State). Some s.machine.saved) c.in-Ok.ensures.ok.after) in
    let mine : c.self.inside.core.machine.saved.profile ≡ c.profile-profile.result =
    sym (profile_stays c.in-Ok.outcome.ops.items c.self.inside.core.machine.saved c.step.new.self.machine.saved c.in-Ok.ensures.rebuilt)
    ∙ ap (λ (s : SavedState). s.profile) (sym c.as_saved.ensures) ∙ sym c.profile-profile.ensures in
    rw (← c.self.view_is) (λ ha hb. record {
      during = (
        c.in-Ok.outcome.refused_at,
        search rules,
        find_either c.profile-profile.result _ _ _ _ c.self.inside.journal.content c.deref.result.now c.self.inside.core.machine.saved
            asked.after.machine.saved mine
            (c.is_spent-spent.ensures.kept ha hb usable) (c.self.invariant.2 usable ha hb)
            ((c.is_spent-spent.ensures.numbers ha hb usable).layout ∙ c.self.invariant.1 usable ∙ ap written_layout mine) valid applies
            (λ e. (
              ap (λ j. g.D.Disk.history j.a) (c.record_ops.ensures.none e).1,
              ap (λ j. g.D.Disk.history j.b) (c.record_ops.ensures.none e).1,
            ))
            (λ some. (c.record_ops.ensures.any_moment some ha hb).during),
      );
      kept = search rules;
      content = search rules;
      short = search rules;
    })

pub invariant_of-self-2 : goal.invariant_of-self-2
invariant_of-self-2 g c =
    let usable : c.self.inside.journal.is_spent ≡ false = ap (λ v. v.is_broken) c.self.view_is ∙ c.requires.usable in
    let valid : AllByRecursion IsOp c.deref.result.now = c.record_ops.ensures.valid in
    let applies : all_applied c.deref.result.now c.self.inside.core.machine.saved ≡ Some c.step.new.self.machine.saved =
    rw c.deref.ensures.value c.in-Ok.ensures.rebuilt in
    let mine : c.self.inside.core.machine.saved.profile ≡ c.profile-profile.result =
    sym (profile_stays c.in-Ok.outcome.ops.items c.self.inside.core.machine.saved c.step.new.self.machine.saved c.in-Ok.ensures.rebuilt)
    ∙ ap (λ (s : SavedState). s.profile) (sym c.as_saved.ensures) ∙ sym c.profile-profile.ensures in
    let stays = profile_stays c.in-Ok.outcome.ops.items c.self.inside.core.machine.saved c.step.new.self.machine.saved
    c.in-Ok.ensures.rebuilt in
    let room = c.self.invariant.0 in (
      omega (arith, c.record_ops.ensures.capacity, room),
      λ unspent. c.record_ops.ensures.file.layout ∙ c.self.invariant.1 usable ∙ ap written_layout (sym stays),
      λ unspent ha' hb'.
          let ha = c.record_ops.ensures.disks.later.a.honesty.1 ha' in
          let hb = c.record_ops.ensures.disks.later.b.honesty.1 hb' in
          content_after c.profile-profile.result c.self.inside.journal.content c.record_ops.new.journal.content c.deref.result.now
          c.self.inside.core.machine.saved c.step.new.self.machine.saved mine
          (c.self.invariant.2 usable ha hb)
          ((c.is_spent-spent.ensures.numbers ha hb usable).layout ∙ c.self.invariant.1 usable ∙ ap written_layout mine) valid applies
          (λ e. ap (λ j. j.content) (c.record_ops.ensures.none e).1)
          (λ some. let held = (c.in_ok-number.ensures.any_moment some ha hb).kept in held.says),
    )

pub returns-clause-step : goal.returns-clause-step
returns-clause-step g c =
    let asked : Option ℕ → Stepped = λ k. step c.self.inside.core c.args.event k in
    let did = c.in-Ok.ensures.ok in
    let place : c.in-Ok.outcome.refused_at ≡ c.new-turn.result.refused_at = sym (ap (λ t. t.refused_at) c.new-turn.ensures) in
    let ops_are : c.deref.result.now ≡ (let of_answer : Stepped = asked c.new-turn.result.refused_at in of_answer.ops) =
    c.deref.ensures.value ∙ c.in-Ok.ensures.ok.ops ∙ ap (λ (k : Option ℕ). let of_answer : Stepped = asked k in of_answer.ops) place in
    let below : c.self.inside.journal.base + c.self.inside.journal.count < greatest = search rules in
    let spelled : c.profile-profile.result ≡ profile_of_step (asked c.new-turn.result.refused_at) =
    c.profile-profile.ensures ∙ ap (λ (s : SavedState). s.profile) c.as_saved.ensures
    ∙ ap (λ (s : State). s.machine.saved.profile) c.in-Ok.ensures.ok.after
    ∙ ap (λ (k : Option ℕ). profile_of_step (asked k)) place in
    let begun : FileNumbers = record (file_of c.self.inside.journal) { is_put_off = c.self.inside.put_off } in
    rw (← c.self.view_is) (record {
      state = did.after ∙ ap (λ (k : Option ℕ). let now : Stepped = asked k in now.after) place;
      outputs = ap (λ t. t.outputs) c.new-turn.ensures ∙ did.outputs ∙ ap (λ (k : Option ℕ). let now : Stepped = asked k in now.outputs) place;
      closes = ap (λ t. t.closes) c.new-turn.ensures ∙ did.closes ∙ ap (λ (k : Option ℕ). let now : Stepped = asked k in now.closes) place;
      ended = ap (λ t. t.ended) c.new-turn.ensures ∙ did.ended ∙ ap (λ (k : Option ℕ). let now : Stepped = asked k in now.ended) place;
      refused_at = ap (λ t. t.refused_at) c.new-turn.ensures ∙ did.refused_at
          ∙ ap (λ (k : Option ℕ). let now : Stepped = asked k in now.refused_at) place;
      numbered = search rules;
      numbers = numbers_next c.self.inside.journal c.record_ops.new.journal c.self.inside.event c.deref.result.now below
          c.record_ops.ensures.file.base (λ e. (c.record_ops.ensures.none e).1) (λ some. c.in_ok-number.ensures.number.count some)
          ∙ ap (λ (ops : List Op). next_numbers (record {
            event = c.self.inside.event;
            last_record = min (c.self.inside.journal.base + c.self.inside.journal.count) greatest;
          }) ops) ops_are;
      file = ap (λ (f : FileNumbers). let g : FileNumbers = record f { is_put_off = c.self.inside.put_off } in g)
          c.in_ok-number.ensures.number.file
          ∙ put_off_recorded c.profile-profile.result (file_of c.self.inside.journal) c.deref.result.now c.self.inside.put_off
          ∙ ap (λ (ops : List Op). recorded c.profile-profile.result begun ops) ops_are
          ∙ ap (λ (p : Profile). let of_answer : Stepped = asked c.new-turn.result.refused_at in recorded p begun of_answer.ops) spelled;
      work = omega (arith, c.saturating_add-work.ensures, c.added_work.ensures);
    })

pub returns-clause-any_moment : goal.returns-clause-any_moment
returns-clause-any_moment g c =
    let usable : c.self.inside.journal.is_spent ≡ false = ap (λ v. v.is_broken) c.self.view_is ∙ c.requires.usable in
    let asked : Option ℕ → Stepped = λ k. step c.self.inside.core c.args.event k in
    let now : Stepped = asked c.in-Ok.outcome.refused_at in
    let valid : AllByRecursion IsOp c.deref.result.now = c.record_ops.ensures.valid in
    let rebuilt : all_applied c.deref.result.now c.self.inside.core.machine.saved ≡ Some c.step.new.self.machine.saved =
    rw c.deref.ensures.value c.in-Ok.ensures.rebuilt in
    let applies : all_applied c.deref.result.now c.self.inside.core.machine.saved ≡ Some now.after.machine.saved =
    rebuilt ∙ ap (λ (s : State). Some s.machine.saved) c.in-Ok.ensures.ok.after in
    let place : c.in-Ok.outcome.refused_at ≡ c.new-turn.result.refused_at = sym (ap (λ t. t.refused_at) c.new-turn.ensures) in
    let ops_are : c.deref.result.now ≡ (let of_answer : Stepped = asked c.new-turn.result.refused_at in of_answer.ops) =
    c.deref.ensures.value ∙ c.in-Ok.ensures.ok.ops ∙ ap (λ (k : Option ℕ). let of_answer : Stepped = asked k in of_answer.ops) place in
    let mine : c.self.inside.core.machine.saved.profile ≡ c.profile-profile.result =
    sym (profile_stays c.in-Ok.outcome.ops.items c.self.inside.core.machine.saved c.step.new.self.machine.saved c.in-Ok.ensures.rebuilt)
    ∙ ap (λ (s : SavedState). s.profile) (sym c.as_saved.ensures) ∙ sym c.profile-profile.ensures in
    let spelled : c.profile-profile.result ≡ profile_of_step (asked c.new-turn.result.refused_at) =
    c.profile-profile.ensures ∙ ap (λ (s : SavedState). s.profile) c.as_saved.ensures
    ∙ ap (λ (s : State). s.machine.saved.profile) c.in-Ok.ensures.ok.after
    ∙ ap (λ (k : Option ℕ). profile_of_step (asked k)) place in
    rw (← c.self.view_is) (λ ha hb.
    let first = c.is_spent-spent.ensures.kept ha hb usable in
    let stands = c.self.invariant.2 usable ha hb in
    let layout = (c.is_spent-spent.ensures.numbers ha hb usable).layout ∙ c.self.invariant.1 usable ∙ ap written_layout mine in
    record {
      during = (
        c.in-Ok.outcome.refused_at,
        ap (λ t. t.refused_at) c.new-turn.ensures,
        find_either c.profile-profile.result _ _ _ _ c.self.inside.journal.content c.deref.result.now c.self.inside.core.machine.saved
            now.after.machine.saved mine first stands layout valid applies
            (λ e. (
              ap (λ j. g.D.Disk.history j.a) (c.record_ops.ensures.none e).1,
              ap (λ j. g.D.Disk.history j.b) (c.record_ops.ensures.none e).1,
            ))
            (λ some. (c.record_ops.ensures.any_moment some ha hb).during),
      );
      kept = λ unbroken. find_after c.profile-profile.result _ _ _ _ c.self.inside.journal.content c.record_ops.new.journal.content
          c.deref.result.now c.self.inside.core.machine.saved c.step.new.self.machine.saved mine first stands layout valid rebuilt
          (λ e. (
            ap (λ j. g.D.Disk.history j.a) (c.record_ops.ensures.none e).1,
            ap (λ j. g.D.Disk.history j.b) (c.record_ops.ensures.none e).1,
          ))
          (λ some. let held = (c.in_ok-number.ensures.any_moment some ha hb).kept in held.says)
          (λ some. let held = (c.in_ok-number.ensures.any_moment some ha hb).kept in held.kept);
      content = content_recorded c.profile-profile.result c.self.inside.journal.content c.record_ops.new.journal.content c.deref.result.now
          (λ e. ap (λ j. j.content) (c.record_ops.ensures.none e).1)
          (λ some. let held = (c.in_ok-number.ensures.any_moment some ha hb).kept in held.says)
          ∙ ap (λ (ops : List Op). recorded_content c.profile-profile.result c.self.inside.journal.content ops) ops_are
          ∙ ap (λ (p : Profile). let of_answer : Stepped = asked c.new-turn.result.refused_at in
          recorded_content p c.self.inside.journal.content of_answer.ops) spelled;
      short = subst (λ (p : Profile). let of_answer : Stepped = asked c.new-turn.result.refused_at in record_bytes p of_answer.ops ≤ longest_record)
          spelled (subst (λ (ops : List Op). record_bytes c.profile-profile.result ops ≤ longest_record) ops_are
          (record_short c.profile-profile.result c.deref.result.now (omega (
            arith,
            c.in-Ok.ensures.fits,
            ap (λ (p : Profile). length (body_bytes p c.in-Ok.outcome.ops.items)) mine,
            ap (λ (ops : List Op). length (body_bytes c.profile-profile.result ops)) c.deref.ensures.value,
          ))));
    })

pub returns-in-Err-clause-file : goal.returns-in-Err-clause-file
returns-in-Err-clause-file g c = rw (← c.self.view_is, c.in-Err.ensures.err) (still_in_file _)

pub returns-clause-no_call : goal.returns-clause-no_call
returns-clause-no_call g c =
    let place : c.new-turn.result.refused_at ≡ c.in-Ok.outcome.refused_at = ap (λ t. t.refused_at) c.new-turn.ensures in
    rw (← c.self.view_is) (λ none.
    let empty = c.deref.ensures.value ∙ c.in-Ok.ensures.ok.ops ∙ (rw place at none) in
    let same = (c.record_ops.ensures.none empty).1 in
    no_call_made _ _ (ap (λ j. j.a) same) (ap (λ j. j.b) same))
