use Rattle.std.proofs.Common.{◌≡◌, ◌≢◌, ℕ, false, List, [], length, vec_len, Some, refl, sym, ap, subst, ◌∙◌, arith}
use Rattle.std.specs.Prelude.{sum_by}
use Rattle.std.proofs.lemmas.Bool.{eqb-false, eqb-true}
use Rattle.std.proofs.lemmas.List.{nil_from_length}
use Rattle.play_journal.specs.Content.{Content, with_records}
use Rattle.daemon_core.specs.State.{State}
use Rattle.live_stage.specs.declared.refusal.LiveError.{LiveError}
use Rattle.live_stage.specs.declared.staging.Begin.{Begin}
use Rattle.live_stage.specs.Answer.{Answer, answer_work}
use Rattle.live_stage.specs.Found.{state_of}
use Rattle.live_stage.specs.Group.{RefusesFront, file_with, history_in}
use Rattle.live_stage.specs.LiveState.{LiveState}
use Rattle.live_stage.specs.Numbers.{FileNumbers}
use Rattle.live_stage.specs.Staging.{AreStaged, AreTaken}
use Rattle.live_stage.specs.Transcript.{replayed}
use Rattle.live_stage.specs.Writing.{file_of}
use Rattle.live_stage.proofs.FoundLaws.{find_now}
use Rattle.live_stage.proofs.GroupLaws.{put_off_with}
use Rattle.live_stage.proofs.HandledLaws.{all_refused, handled, none_answered, of_begun, taken_of}
use Rattle.state_codec.specs.Layout.{written_layout}
use Rattle.live_stage.proofs.PhaseLaws.{none_found, records_found}
use Rattle.live_stage.proofs.ProfileLaws.{written_so}
use Rattle.live_stage.proofs.live.Live.handle_group.Goals as goal

pub returns-then-is_empty-clause-any_moment : goal.returns-then-is_empty-clause-any_moment
returns-then-is_empty-clause-any_moment g c =
    let usable : c.self.inside.journal.is_spent ≡ false = ap (λ v. v.is_broken) c.self.view_is ∙ c.requires.usable in
    let staged = c.stage_events-is_refused.ensures.staged in
    let answers = c.stage_events-is_refused.new.turns in
    let many : vec_len c.stage_events-is_refused.new.turns ≡ length c.stage_events-is_refused.new.turns.items = omega arith in
    let empty = eqb-true (vec_len c.stage_events-is_refused.new.turns) 0 (sym c.is_empty.ensures ∙ c.if-is_empty.true) in
    let none : answers.items ≡ [] = nil_from_length answers.items (omega (arith, empty, many)) in
    let same : c.stage_events-is_refused.new.core ≡ c.self.inside.core =
    staged.state ∙ ap (λ (l : List Answer). replayed c.self.inside.core (history_in l)) none in
    let taken = taken_of c.begin-begin.result c.self.inside.core c.args.events.items c.reverse.new.self.items
    c.stage_events-is_refused.new.left.items c.reverse-2.new.self.items answers.items c.stage_events-is_refused.result
    c.stage_events-is_refused.new.group c.reverse.ensures.items c.reverse-2.ensures.items c.stage_events-is_refused.ensures.taken in
    let front = none_answered c.args.self.now c.begin-begin.result c.self.inside.core c.args.events.items answers.items
    c.stage_events-is_refused.result c.reverse-2.new.self.items c.stage_events-is_refused.new.group taken none c.requires.some in
    rw (← c.self.view_is) (λ ha hb.
    let kept = c.is_spent-spent.ensures.kept ha hb usable in
    let stands = c.self.invariant.2 usable ha hb in
    record {
      during = (
        [],
        (front.front, front.parted),
        none_found _ _ c.self.inside.core [] (find_now (g.D.Disk.history c.self.inside.journal.a) (g.D.Disk.history c.self.inside.journal.b)
            c.self.inside.journal.content c.self.inside.core.machine.saved kept stands),
      );
      kept = λ unbroken. find_now (g.D.Disk.history c.self.inside.journal.a) (g.D.Disk.history c.self.inside.journal.b)
          c.self.inside.journal.content c.stage_events-is_refused.new.core.machine.saved kept
          (stands ∙ ap (λ (s : State). Some s.machine.saved) (sym same));
      content = tt;
    })

pub returns-in-Err-clause-front : goal.returns-in-Err-clause-front
returns-in-Err-clause-front g c =
    let answers = c.stage_events-is_refused.new.turns in
    let many : vec_len c.stage_events-is_refused.new.turns ≡ length c.stage_events-is_refused.new.turns.items = omega arith in
    let some : answers.items ≢ [] = λ none. eqb-false (vec_len c.stage_events-is_refused.new.turns) 0
    (sym c.is_empty.ensures ∙ c.if-is_empty.false) (omega (arith, many, ap (λ (l : List Answer). length l) none)) in
    let taken = taken_of c.begin-begin.result c.self.inside.core c.args.events.items c.reverse.new.self.items
    c.stage_events-is_refused.new.left.items c.reverse-2.new.self.items answers.items c.stage_events-is_refused.result
    c.stage_events-is_refused.new.group c.reverse.ensures.items c.reverse-2.ensures.items c.stage_events-is_refused.ensures.taken in
    subst (λ (e : LiveError). RefusesFront c.args.self.now c.args.events.items e c.reverse-2.new.self.items)
    (sym c.in-Err.ensures.refuses.only_a_fault)
    (all_refused c.args.self.now c.args.events.items answers.items c.stage_events-is_refused.result c.reverse-2.new.self.items
    c.requires.usable taken.parted some)

pub returns-in-Err-clause-any_moment : goal.returns-in-Err-clause-any_moment
returns-in-Err-clause-any_moment g c =
    let usable : c.self.inside.journal.is_spent ≡ false = ap (λ v. v.is_broken) c.self.view_is ∙ c.requires.usable in
    let staged = c.stage_events-is_refused.ensures.staged in
    let answers = c.stage_events-is_refused.new.turns in
    let taken = taken_of c.begin-begin.result c.self.inside.core c.args.events.items c.reverse.new.self.items
    c.stage_events-is_refused.new.left.items c.reverse-2.new.self.items answers.items c.stage_events-is_refused.result
    c.stage_events-is_refused.new.group c.reverse.ensures.items c.reverse-2.ensures.items c.stage_events-is_refused.ensures.taken in
    rw (← c.self.view_is) (λ ha hb.
    let stands = c.self.invariant.2 usable ha hb in
    let layout = (c.is_spent-spent.ensures.numbers ha hb usable).layout ∙ c.self.invariant.1 usable in
    record {
      during = (
        history_in answers.items,
        of_begun c.args.events.items answers.items c.stage_events-is_refused.result c.reverse-2.new.self.items taken.parted,
        records_found _ _ _ _ c.self.inside.journal.content c.stage_events-is_refused.new.group c.self.inside.core
            c.stage_events-is_refused.new.core (history_in answers.items) stands
            (staged.stands c.self.inside.journal.content layout stands) staged.state (c.record_group.ensures.any_moment ha hb).during,
      );
      kept = λ unbroken. (let spent = c.in-Err.ensures.refuses.spends in absurd cc);
      content = tt;
    })

pub returns-clause-group : goal.returns-clause-group
returns-clause-group g c =
    let answers = c.stage_events-is_refused.new.turns in
    let many : vec_len c.stage_events-is_refused.new.turns ≡ length c.stage_events-is_refused.new.turns.items = omega arith in
    let some : answers.items ≢ [] = λ none. eqb-false (vec_len c.stage_events-is_refused.new.turns) 0
    (sym c.is_empty.ensures ∙ c.if-is_empty.false) (omega (arith, many, ap (λ (l : List Answer). length l) none)) in
    let taken = taken_of c.begin-begin.result c.self.inside.core c.args.events.items c.reverse.new.self.items
    c.stage_events-is_refused.new.left.items c.reverse-2.new.self.items answers.items c.stage_events-is_refused.result
    c.stage_events-is_refused.new.group c.reverse.ensures.items c.reverse-2.ensures.items c.stage_events-is_refused.ensures.taken in
    let written = c.in_default.ensures.numbers in
    let base = c.record_group.ensures.file.base in
    let numbered = taken.numbered in
    let began = ap (λ (b : Begin). b.last_record) c.begin-begin.ensures.value in
    let last = ap (λ (v : LiveState g.row.D.Denot). v.numbers.last_record) c.self.view_is in
    let event = ap (λ (v : LiveState g.row.D.Denot). v.numbers.event) c.self.view_is in
    handled c.args.self.now c.begin-begin.result c.begin-begin.ensures.value c.args.events.items answers.items
    c.stage_events-is_refused.result c.reverse-2.new.self.items c.stage_events-is_refused.new.core c.stage_events-is_refused.new.group
    (subst (λ (v : LiveState g.row.D.Denot). AreStaged g.row.D.Denot c.begin-begin.result v.state answers.items
    c.stage_events-is_refused.new.core c.stage_events-is_refused.new.group) c.self.view_is c.stage_events-is_refused.ensures.staged)
    (subst (λ (v : LiveState g.row.D.Denot). AreTaken c.begin-begin.result v.state c.args.events.items answers.items
    c.stage_events-is_refused.result c.reverse-2.new.self.items c.stage_events-is_refused.new.group) c.self.view_is taken)
    c.requires.due some _ refl (omega (arith, event, c.len.ensures, many)) (omega (arith, numbered, began, last, base, written.count))
    (ap (λ (f : FileNumbers). let laid : FileNumbers = record f { is_put_off = c.self.inside.put_off } in laid) written.file
    ∙ put_off_with (file_of c.self.inside.journal) c.stage_events-is_refused.new.group c.self.inside.put_off
    ∙ ap (λ (v : LiveState g.row.D.Denot). file_with v.file c.stage_events-is_refused.new.group) c.self.view_is)
    (omega (
      arith,
      c.saturating_add-work.ensures,
      c.work_of.ensures,
      ap (λ (l : List Answer). sum_by answer_work l) c.as_slice.ensures.value,
      ap (λ (v : LiveState g.row.D.Denot). v.work) c.self.view_is,
    ))

pub returns-clause-any_moment : goal.returns-clause-any_moment
returns-clause-any_moment g c =
    let usable : c.self.inside.journal.is_spent ≡ false = ap (λ v. v.is_broken) c.self.view_is ∙ c.requires.usable in
    let staged = c.stage_events-is_refused.ensures.staged in
    let answers = c.stage_events-is_refused.new.turns in
    rw (← c.self.view_is) (λ ha hb.
    let stands = c.self.invariant.2 usable ha hb in
    let layout = (c.is_spent-spent.ensures.numbers ha hb usable).layout ∙ c.self.invariant.1 usable in
    let stands_after = staged.stands c.self.inside.journal.content layout stands in
    let held = (c.in_default.ensures.any_moment ha hb).kept in
    record {
      during = (
        history_in answers.items,
        refl,
        records_found _ _ _ _ c.self.inside.journal.content c.stage_events-is_refused.new.group c.self.inside.core
            c.stage_events-is_refused.new.core (history_in answers.items) stands stands_after staged.state
            (c.record_group.ensures.any_moment ha hb).during,
      );
      kept = λ unbroken. find_now (g.D.Disk.history c.record_group.new.journal.a) (g.D.Disk.history c.record_group.new.journal.b)
          c.record_group.new.journal.content c.stage_events-is_refused.new.core.machine.saved held.kept
          (ap (λ (k : Content). state_of (Some k)) held.says ∙ stands_after);
      content = held.says ∙ ap (λ (l : List (List ℕ)). with_records c.self.inside.journal.content l) staged.records;
    })
