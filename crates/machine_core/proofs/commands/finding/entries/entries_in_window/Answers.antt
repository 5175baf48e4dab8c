use Rattle.std.proofs.Common.{◌≡◌, ◌<◌, length, min, Option, ap, sym, ◌∙◌, subst}
use Rattle.std.specs.Option.{unwrap_or}
use Rattle.command_text.specs.declared.range.Window.{Window}
use Rattle.filter_expr.proofs.Windows.{window_is}
use Rattle.machine_core.specs.Finding.{in_window}
use Rattle.machine_core.proofs.commands.finding.entries.entries_in_window.Goals as goal

pub returns-then-start-end : goal.returns-then-start-end
returns-then-start-end c =
    let found = c.args.found.now in
    let part = c.in-Some.part in
    let end = unwrap_or part.end (length found) in
    let bound : c.min-end.result ≡ min end (length found) =
    c.min-end.ensures ∙ ap (λ n. min n (length found)) (c.unwrap_or.ensures ∙ ap (λ e. unwrap_or e (length found)) c.end_of.ensures) in
    rw bound (window_is part.start end found (subst (λ n. part.start < n) bound c.if-start-end.true)
    ∙ ap (λ (o : Option Window). in_window o found) (sym c.in-Some.is))
