use Rattle.std.proofs.Common.{◌∙◌, sym, ap}
use Rattle.std.specs.Option.{option_copied}
use Rattle.machine_core.specs.Grouped.{is_last}
use Rattle.machine_core.proofs.Finding.Groups.{last_is}
use Rattle.machine_core.proofs.commands.finding.groups.ends_in.Goals as goal

pub returns-in-None : goal.returns-in-None
returns-in-None c =
    sym (last_is c.args.numbers.now c.args.number c.last.result c.last.ensures.value
    ∙ ap (λ last. is_last (option_copied last) c.args.number) c.in-None.is)

pub returns-in-Some : goal.returns-in-Some
returns-in-Some c =
    sym (last_is c.args.numbers.now c.args.number c.last.result c.last.ensures.value
    ∙ ap (λ last. is_last (option_copied last) c.args.number) c.in-Some.is)
