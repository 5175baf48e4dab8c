use Rattle.std.proofs.Common.{ℕ, Option, length, map, ap, ◌∙◌, arith, sym}
use Rattle.filter_expr.specs.Order.{window_of}
use Rattle.machine_core.specs.Finding.{in_window}
use Rattle.machine_core.proofs.Finding.Sorted.{seen_window, window_length}
use Rattle.machine_core.proofs.commands.finding.windowed.Goals as goal

pub returns-in-Some : goal.returns-in-Some
returns-in-Some c =
    let part = c.in-Some.part in
    let rows = c.args.rows.now in
    let is = c.window.ensures ∙ ap (λ (end : Option ℕ). window_of part.start end rows) c.end_of.ensures in
    record {
      rows = ap (map (λ row. row.now)) is ∙ seen_window (λ row. row.now) part.start part.end rows
          ∙ ap (λ asked. in_window asked (map (λ row. row.now) rows)) (sym c.in-Some.is);
      few = omega (arith, ap length is, window_length part.start part.end rows);
    }
