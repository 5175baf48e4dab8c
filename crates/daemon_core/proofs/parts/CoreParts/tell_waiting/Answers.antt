use Rattle.std.proofs.Common.{ℕ, ◌<◌, ◌++◌, List, length, map, vec_len, vec_capacity, sym, ap, ◌∙◌, arith}
use Rattle.std.proofs.lemmas.List.{append-nil}
use Rattle.idle_masks.specs.Watched.{after_reports, reports_of}
use Rattle.daemon_core.specs.Pending.{with_news}
use Rattle.daemon_core.specs.Step.{told_to}
use Rattle.daemon_core.specs.declared.parts.CoreParts.{CoreParts}
use Rattle.daemon_core.proofs.ClientLaws.{reports_within, some_are_told}
use Rattle.daemon_core.proofs.RoomLaws.{none_reported, none_taken, news_length}
use Rattle.daemon_core.proofs.parts.CoreParts.tell_waiting.Goals as goal

-- nobody is due anything
pub returns-then-mark-clause-outputs : goal.returns-then-mark-clause-outputs
returns-then-mark-clause-outputs c =
    let told = λ (notified : List ℕ). reports_of (with_news c.args.changed notified c.args.self.now.watch) in
    sym (append-nil c.args.answer.items)
    ∙ ap (λ rs. c.args.answer.items ++ map told_to rs)
    (sym (none_reported (with_news c.args.changed c.as_slice-notified.result.now c.args.self.now.watch) (sym c.if-mark.ensures.value))
    ∙ ap told c.as_slice-notified.ensures.value)

pub returns-then-mark-clause-watch : goal.returns-then-mark-clause-watch
returns-then-mark-clause-watch c =
    c.if-mark.ensures.marked
    ∙ sym (none_taken (with_news c.args.changed c.as_slice-notified.result.now c.args.self.now.watch) (sym c.if-mark.ensures.value))
    ∙ ap (λ notified. after_reports (with_news c.args.changed notified c.args.self.now.watch)) c.as_slice-notified.ensures.value

pub unreachable-requires : goal.unreachable-requires
unreachable-requires c =
    let p : CoreParts = c.args.self.now in
    let some : 0 < length p.watch = some_are_told p c.args.changed c.as_slice-notified.result.now (sym c.if-mark.ensures.value) in
    let room = c.in_default.ensures.room in
    omega (arith, some, c.requires.ready.reports, room)

pub ready_in-reports-requires : goal.ready_in-reports-requires
ready_in-reports-requires c =
    let p : CoreParts = c.args.self.now in
    let room = c.in-Some.ensures.room in
    let long = ap length c.if-mark.ensures.marked ∙ news_length p.watch c.args.changed c.as_slice-notified.result.now in
    omega (arith, c.requires.ready.reports, room, long)

pub tell-requires-clause-texts : goal.tell-requires-clause-texts
tell-requires-clause-texts c =
    let p : CoreParts = c.args.self.now in
    let few = reports_within p _ c.args.changed c.as_slice-notified.result.now c.if-mark.ensures.marked in
    let given = ap length (c.as_slice.ensures ∙ c.ready_in-reports.ensures.reports) in
    let texts = ap (λ ts. vec_len ts) c.give_reports.ensures.texts in
    omega (arith, few, given, c.requires.ready.texts, texts)

pub tell-requires-clause-outputs : goal.tell-requires-clause-outputs
tell-requires-clause-outputs c =
    let p : CoreParts = c.args.self.now in
    let some : 0 < length p.watch = some_are_told p c.args.changed c.as_slice-notified.result.now (sym c.if-mark.ensures.value) in
    let few = reports_within p _ c.args.changed c.as_slice-notified.result.now c.if-mark.ensures.marked in
    let given = ap length (c.as_slice.ensures ∙ c.ready_in-reports.ensures.reports) in
    let outputs = ap (λ os. vec_capacity os) c.give_reports.ensures.outputs in
    let room = c.requires.ready.outputs some in
    omega (arith, few, given, room, outputs)
