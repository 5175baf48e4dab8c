use Rattle.std.proofs.Common.{map, ◌∙◌, sym, ap}
use Rattle.std.specs.Option.{option_copied, option_map}
use Rattle.machine_core.specs.Grouped.{has_text, run_of}
use Rattle.machine_core.proofs.Finding.Groups.{ends_at}
use Rattle.machine_core.proofs.commands.finding.groups.ends_with.Goals as goal

pub returns-in-None : goal.returns-in-None
returns-in-None c =
    sym (ends_at c.args.runs.now c.args.text.now c.last.result c.last.ensures.value
    ∙ ap (λ last. has_text (option_map run_of (option_copied last)) c.args.text.now) c.in-None.is)

pub returns-in-Some : goal.returns-in-Some
returns-in-Some c =
    c.eq.ensures ∙ sym (ends_at c.args.runs.now c.args.text.now c.last.result c.last.ensures.value
    ∙ ap (λ last. has_text (option_map run_of (option_copied last)) c.args.text.now) c.in-Some.is)
