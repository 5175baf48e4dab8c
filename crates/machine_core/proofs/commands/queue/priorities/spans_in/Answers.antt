use Rattle.std.proofs.Common.{ℕ, List, sym, ap, ◌+◌, ◌∙◌, drop, arith}
use Rattle.command_text.specs.declared.range.PositionRange.TheVariants.{One}
use Rattle.machine_core.specs.Spans.{spans_in}
use Rattle.machine_core.proofs.Queue.Meanings.{behind, not_found, span_next, span_off, spans_done}
use Rattle.machine_core.proofs.commands.queue.priorities.spans_in.Goals as goal

pub loop-range-preserved : goal.loop-range-preserved
loop-range-preserved c =
    let ranges = c.args.ranges.now in
    let i = c.loop-range.range-index in
    span_next ranges c.args.length i (One 0) _ (omega arith) c.loop-range.invariant c.in_ok-span.span (sym c.in_ok-span.ensures)
    ∙ ap (λ (spans : List (ℕ × ℕ)). behind spans (spans_in (drop (i + 1) ranges) c.args.length)) (sym c.in_ok-push.ensures.items)

pub returns-in_err-span : goal.returns-in_err-span
returns-in_err-span c =
    let ranges = c.args.ranges.now in
    not_found _ c.in_err-span.field-0.0 _
    (span_off ranges c.args.length c.loop-range.range-index (One 0) _ (omega arith) c.loop-range.invariant _ (sym c.in_err-span.ensures))
    c.from_residual-in_err-span.ensures.1

pub returns : goal.returns
returns c = spans_done c.args.ranges.now c.args.length c.loop-range.range-index _ (omega arith) c.loop-range.invariant
