use Rattle.std.proofs.Common.{◌≡◌, ◌+◌, ◌<◌, ◌≤◌, List, [], ◌++◌, length, refl, sym, ◌∙◌, ap, arith, length-append, length-drop}
use Rattle.std.proofs.lemmas.Bool.{false≢true}
use Rattle.std.proofs.lemmas.List.{take_rest}
use Rattle.command_text.specs.declared.request.Request.{Request}
use Rattle.client_session.specs.Requests.{fault_behind}
use Rattle.client_session.proofs.Newlines.{no_line_ends}
use Rattle.client_session.proofs.Steps.{cut_step, cut_end, fault_met, no_fault, meets_fault}
use Rattle.client_session.proofs.cutting.cut_requests.Goals as goal
use Rattle.client_session.proofs.cutting.cut_requests.Goals.{then-is_empty+in-None, else-is_empty}

pub loop-end-preserved : goal.loop-end-preserved
loop-end-preserved c =
    let at = rw c.len.ensures.value at c.in-Some.ensures in
    record {
      cut = rw (
        take_rest c.loop-end.rest.now (c.in-Some.end + 1),
        c.in_ok-take_line.ensures.requests,
        c.in_ok-take_line.ensures.listing,
        c.in_ok-take_line.ensures.taken,
      )
          (cut_step _ _ _ _ _ _ _ c.loop-end.invariant.cut at);
      within = c.in_ok-take_line.ensures.within;
      small = rw (take_rest c.loop-end.rest.now (c.in-Some.end + 1))
          (omega (arith, c.loop-end.invariant.small, length-drop (c.in-Some.end + 1) c.loop-end.rest.now));
      none = λ none. absurd (no_line_ends _ _ _ (c.loop-end.invariant.none none) at);
    }

pub returns-in-Some-fault_behind-clause-fault : goal.returns-in-Some-fault_behind-clause-fault
returns-in-Some-fault_behind-clause-fault c =
    let up = cut_end _ _ _ _ _ _ _ c.len.ensures.value c.loop-end.invariant.cut c.in_default.ensures in
    let none = c.is_empty.ensures.0 c.if-is_empty.true in
    let count : c.len-then-is_empty.result + length c.loop-end.rest.now ≡ length (c.loop-end.pending.items ++ c.loop-end.rest.now) =
    omega (arith, length-append c.loop-end.pending.items c.loop-end.rest.now, c.len-then-is_empty.ensures.value) in
    meets_fault {A = List Request} _ c.loop-end.listing _ c.in-Some-fault_behind.fault _
    (fault_met _ _ _ _ _ up none ∙ ap (fault_behind c.loop-end.listing) (sym count))
    (sym c.fault_behind.ensures ∙ c.in-Some-fault_behind.is) refl

pub returns-in-Some-fault_behind-clause-exact : goal.returns-in-Some-fault_behind-clause-exact
returns-in-Some-fault_behind-clause-exact c = λ no_newline.
    let up = cut_end _ _ _ _ _ _ _ c.len.ensures.value c.loop-end.invariant.cut c.in_default.ensures in
    let none = c.is_empty.ensures.0 c.if-is_empty.true in
    let count : c.len-then-is_empty.result + length c.loop-end.rest.now ≡ length (c.loop-end.pending.items ++ c.loop-end.rest.now) =
    omega (arith, length-append c.loop-end.pending.items c.loop-end.rest.now, c.len-then-is_empty.ensures.value) in
    rw (fault_met _ _ _ _ _ up none ∙ ap (fault_behind c.loop-end.listing) (sym count) ∙ sym c.fault_behind.ensures
    ∙ c.in-Some-fault_behind.is) refl

pub returns-in_err-extend_from_slice-clause-exact : goal.returns-in_err-extend_from_slice-clause-exact
returns-in_err-extend_from_slice-clause-exact c = λ no_newline.
    let up = cut_end _ _ _ _ _ _ _ c.len.ensures.value c.loop-end.invariant.cut c.in_default.ensures in
    elim c.if-is_empty.branch [
      | then-is_empty+in-None w ↦
          let none = c.is_empty.ensures.0 w.if-is_empty.true in
          let count : w.len-then-is_empty.result + length c.loop-end.rest.now ≡ length (c.loop-end.pending.items ++ c.loop-end.rest.now) =
          omega (arith, length-append c.loop-end.pending.items c.loop-end.rest.now, w.len-then-is_empty.ensures.value) in
          rw (fault_met _ _ _ _ _ up none ∙ ap (fault_behind c.loop-end.listing) (sym count) ∙ sym w.fault_behind.ensures ∙ w.in-None.is) tt
      | else-is_empty w ↦ rw (no_fault _ _ _ _ _ up (λ none. false≢true (sym w.if-is_empty.false ∙ c.is_empty.ensures.1 none))) tt
    ]

pub returns-in_err-extend_from_slice-clause-unended : goal.returns-in_err-extend_from_slice-clause-unended
returns-in_err-extend_from_slice-clause-unended c = rw c.in_err-extend_from_slice.ensures.err c.loop-end.invariant.cut.unended

pub returns-clause-requests : goal.returns-clause-requests
returns-clause-requests c =
    let up = cut_end _ _ _ _ _ _ _ c.len.ensures.value c.loop-end.invariant.cut c.in_default.ensures in
    up.requests

pub returns-clause-left : goal.returns-clause-left
returns-clause-left c =
    let up = cut_end _ _ _ _ _ _ _ c.len.ensures.value c.loop-end.invariant.cut c.in_default.ensures in
    rw c.in_ok-extend_from_slice.ensures.ok up.behind

pub returns-clause-unended : goal.returns-clause-unended
returns-clause-unended c =
    let up = cut_end _ _ _ _ _ _ _ c.len.ensures.value c.loop-end.invariant.cut c.in_default.ensures in
    rw c.in_ok-extend_from_slice.ensures.ok up.unended

pub returns-clause-fault : goal.returns-clause-fault
returns-clause-fault c =
    let up = cut_end _ _ _ _ _ _ _ c.len.ensures.value c.loop-end.invariant.cut c.in_default.ensures in
    elim c.if-is_empty.branch [
      | then-is_empty+in-None w ↦
          let none = c.is_empty.ensures.0 w.if-is_empty.true in
          let count : w.len-then-is_empty.result + length c.loop-end.rest.now ≡ length (c.loop-end.pending.items ++ c.loop-end.rest.now) =
          omega (arith, length-append c.loop-end.pending.items c.loop-end.rest.now, w.len-then-is_empty.ensures.value) in
          fault_met _ _ _ _ _ up none ∙ ap (fault_behind c.loop-end.listing) (sym count) ∙ sym w.fault_behind.ensures ∙ w.in-None.is
      | else-is_empty w ↦ no_fault _ _ _ _ _ up (λ none. false≢true (sym w.if-is_empty.false ∙ c.is_empty.ensures.1 none))
    ]

pub returns-clause-exact : goal.returns-clause-exact
returns-clause-exact c = λ no_newline. rw (returns-clause-fault c) tt
