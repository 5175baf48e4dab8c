use Rattle.std.proofs.Common.{◌≡◌, ◌+◌, ℕ, List, [], ◌∷◌, ◌++◌, Bool, true, false, Some, length, length-append, min, reverse, vec_len, refl}
use Rattle.std.proofs.Common.{sym, ap, subst, ◌∙◌, arith}
use Rattle.std.specs.Prelude.{sum_by}
use Rattle.std.proofs.lemmas.List.{append-nil}
use Rattle.daemon_core.specs.declared.event.Event.{Event}
use Rattle.daemon_core.specs.declared.outcome.Output.{Output}
use Rattle.live_stage.specs.declared.staging.Begin.{Begin}
use Rattle.live_stage.specs.Answer.{Answer}
use Rattle.live_stage.specs.Group.{answer_bytes, answer_looks}
use Rattle.live_stage.specs.Numbers.{greatest}
use Rattle.live_stage.specs.Staging.{AreTaken}
use Rattle.live_stage.proofs.StagingLaws.{HasPlace, IsStagedTo, asked_is, begins_with, ends_empty, ends_full, ends_refused, none_yet}
use Rattle.live_stage.proofs.StagingLaws.{place_for, stage_on}
use Rattle.live_stage.proofs.staging.stage_events.Given.{Over}
use Rattle.live_stage.proofs.staging.stage_events.Goals as goal

-- what a group begins with
pub events-init : goal.events-init
events-init g c =
    let well = begins_with c.args.begin c.requires.numbers c.requires.due in
    record {
      staged = none_yet g.row.D.Denot c.args.begin c.args.core.now c.args.left.now.items c.args.turns.now.items c.clear.new.self well
          c.requires.none_yet c.clear.ensures;
      places = omega (arith, c.requires.places, ap length c.requires.none_yet);
      room = refl;
    }

pub may_go_on-requires : goal.may_go_on-requires
may_go_on-requires g c =
    let so_far = c.events.invariant.staged in
    let many : vec_len c.events.turns ≡ length c.events.turns.items = omega arith in
    record { numbers = (omega (arith, so_far.counted, c.len.ensures, many), omega (arith, so_far.numbered)) }

pub returns-in_default-clause-staged : goal.returns-in_default-clause-staged
returns-in_default-clause-staged g c = c.events.invariant.staged.staged

pub returns-in_default-clause-taken : goal.returns-in_default-clause-taken
returns-in_default-clause-taken g c =
    let at = c.events in
    let same : at.left.items ≡ c.pop.new.self.items = (let none = c.in_default.ensures.items in none ∙ append-nil c.pop.new.self.items) in
    let none : at.left.items ≡ [] = (let length_is = c.in_default.ensures.len in let no = c.in_default.ensures.cases in cc) in
    subst (λ (l : List Event). AreTaken c.args.begin c.args.core.now (reverse c.args.left.now.items) at.turns.items false (reverse l) at.group)
    same (ends_empty g.row.D.Denot c.args.begin c.args.core.now (reverse c.args.left.now.items) at.turns.items at.core at.group at.left.items
    at.bytes at.looks at.has_ended at.invariant.staged none)

pub returns-in_default-clause-capacity : goal.returns-in_default-clause-capacity
returns-in_default-clause-capacity g c = c.events.invariant.room

free : (g : Over) (c : goal.After-len-in-events g) → HasPlace c.args.begin c.events.turns.items c.events.group c.events.has_ended
free g c = let at = c.events in place_for g.row.D.Denot c.args.begin c.args.core.now (reverse c.args.left.now.items) at.turns.items at.core at.group
    at.left.items at.bytes at.looks at.has_ended (begins_with c.args.begin c.requires.numbers c.requires.due) at.invariant.staged c.may_go_on.result (asked_is c.args.begin at.turns.items at.group at.bytes at.looks at.has_ended c.may_go_on.result c.len.result
    (c.len.ensures ∙ omega arith) c.may_go_on.ensures) c.events-test.true

pub stage_one-requires-clause-room : goal.stage_one-requires-clause-room
stage_one-requires-clause-room g c = omega (arith, c.requires.room, c.events.invariant.room)

pub stage_one-requires-clause-fits : goal.stage_one-requires-clause-fits
stage_one-requires-clause-fits g c = (free g c).short

pub stage_one-requires-clause-numbers : goal.stage_one-requires-clause-numbers
stage_one-requires-clause-numbers g c =
    let many : vec_len c.events.turns ≡ length c.events.turns.items = omega arith in
    let event = (free g c).event in
    (omega (arith, event, many, c.len-in-events.ensures), (free g c).last)

pub push_reserved-requires : goal.push_reserved-requires
push_reserved-requires g c =
    let many : vec_len c.events.turns ≡ length c.events.turns.items = omega arith in
    let one = ap (λ (l : List Event). length l) c.in-Some.ensures.items in
    omega (arith, many, c.events.invariant.places, one, length-append c.pop.new.self.items (c.in-Some.event ∷ []))

pub events-preserved : goal.events-preserved
events-preserved g c =
    let at = c.events in
    let t = c.in-Ok.staged.0 in
    let looked : c.in-Ok.staged.1 ≡ answer_looks t = c.in-Ok.ensures.looks in
    let out : c.given_out.result ≡ min (answer_bytes t) greatest =
    c.given_out.ensures ∙ ap (λ (l : List Output). min (sum_by (λ o. length o.bytes) l) greatest) c.outputs.ensures.value in
    let many : c.len-in-events.result ≡ length at.turns.items = c.len-in-events.ensures ∙ omega arith in
    let one = ap (λ (l : List Event). length l) c.in-Some.ensures.items in
    let ended : t.ended ≡ c.ended-has_ended.result = sym c.ended-has_ended.ensures in
    record {
      staged = subst (λ (l : List Answer). IsStagedTo g.row.D.Denot c.args.begin c.args.core.now (reverse c.args.left.now.items) l c.stage_one.new.core
          c.stage_one.new.group c.pop.new.self.items c.saturating_add-bytes.result c.saturating_add-looks.result c.ended-has_ended.result) (sym c.push_reserved.ensures.items)
          (subst (λ (b : Bool). IsStagedTo g.row.D.Denot c.args.begin c.args.core.now (reverse c.args.left.now.items) (at.turns.items ++ t ∷ [])
          c.stage_one.new.core c.stage_one.new.group c.pop.new.self.items c.saturating_add-bytes.result c.saturating_add-looks.result b) ended
          (stage_on g.row.D.Denot c.args.begin c.args.core.now (reverse c.args.left.now.items) at.turns.items at.core at.group at.left.items
          at.bytes at.looks at.has_ended (begins_with c.args.begin c.requires.numbers c.requires.due) at.invariant.staged c.may_go_on.result (asked_is c.args.begin at.turns.items at.group at.bytes at.looks at.has_ended c.may_go_on.result c.len.result
          (c.len.ensures ∙ omega arith) c.may_go_on.ensures) c.events-test.true c.pop.new.self.items
          c.in-Some.event t c.stage_one.new.core c.stage_one.new.group c.saturating_add-bytes.result c.saturating_add-looks.result c.in-Some.ensures.items
          (rw many at c.in-Ok.ensures.answer) c.in-Ok.ensures.added (omega (arith, c.saturating_add-bytes.ensures, out))
          (omega (arith, c.saturating_add-looks.ensures, looked))));
      places = omega (
        arith,
        at.invariant.places,
        one,
        length-append c.pop.new.self.items (c.in-Some.event ∷ []),
        ap (λ (l : List Answer). length l) c.push_reserved.ensures.items,
        length-append at.turns.items (t ∷ []),
        c.push_reserved.ensures.capacity,
      );
      room = c.stage_one.ensures.capacity ∙ at.invariant.room;
    }

pub returns-in-Err-clause-staged : goal.returns-in-Err-clause-staged
returns-in-Err-clause-staged g c = rw (c.in-Err.ensures.err.0, c.in-Err.ensures.err.1) c.events.invariant.staged.staged

pub returns-in-Err-clause-taken : goal.returns-in-Err-clause-taken
returns-in-Err-clause-taken g c =
    let at = c.events in
    rw c.in-Err.ensures.err.1 (ends_refused g.row.D.Denot c.args.begin c.args.core.now (reverse c.args.left.now.items) at.turns.items at.core at.group
    at.left.items at.bytes at.looks at.has_ended at.invariant.staged c.may_go_on.result (asked_is c.args.begin at.turns.items at.group at.bytes at.looks at.has_ended c.may_go_on.result c.len.result
    (c.len.ensures ∙ omega arith) c.may_go_on.ensures) c.events-test.true c.pop.new.self.items c.in-Some.event
    c.in-Some.ensures.items)

pub returns-in-Err-clause-capacity : goal.returns-in-Err-clause-capacity
returns-in-Err-clause-capacity g c = c.stage_one.ensures.capacity ∙ c.events.invariant.room

pub returns-clause-staged : goal.returns-clause-staged
returns-clause-staged g c = c.events.invariant.staged.staged

pub returns-clause-taken : goal.returns-clause-taken
returns-clause-taken g c =
    let at = c.events in
    ends_full g.row.D.Denot c.args.begin c.args.core.now (reverse c.args.left.now.items) at.turns.items at.core at.group at.left.items at.bytes
    at.looks at.has_ended at.invariant.staged c.may_go_on.result (asked_is c.args.begin at.turns.items at.group at.bytes at.looks at.has_ended c.may_go_on.result c.len.result
    (c.len.ensures ∙ omega arith) c.may_go_on.ensures) c.events-test.false

pub returns-clause-capacity : goal.returns-clause-capacity
returns-clause-capacity g c = c.events.invariant.room
