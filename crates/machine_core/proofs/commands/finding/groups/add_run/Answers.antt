use Rattle.std.proofs.Common.{◌≡◌, ap, ◌∙◌, rules}
use Rattle.std.proofs.lemmas.Result.{on_ok_weaker}
use Rattle.machine_core.specs.Grouped.{numbers_or_none, numbers_under, with_numbers}
use Rattle.machine_core.proofs.Finding.GroupMaps.{numbers_behind, numbers_more, texts_more}
use Rattle.machine_core.proofs.commands.finding.groups.add_run.Goals as goal

pub returns-clause-numbers : goal.returns-clause-numbers
returns-clause-numbers c =
    let text = c.args.run.now.text.now in
    let behind : c.or_default.result.now.items ≡ numbers_under c.args.groups.now text =
    numbers_behind _ c.or_default.result.now c.or_default.ensures.value ∙ ap numbers_or_none c.in_ok-groups.ensures.value in
    on_ok_weaker c.add_numbers.result (λ more q. numbers_more c.args.groups.now c.groups-3-1.given.0 text c.add_numbers.new.known (search rules)
    c.args.run.now.numbers.items (more ∙ (λ i. with_numbers (behind i) (c.as_slice.ensures.value i))) q) c.add_numbers.ensures

pub returns-clause-texts : goal.returns-clause-texts
returns-clause-texts c = on_ok_weaker c.add_numbers.result (λ more q. texts_more c.args.groups.now c.groups-3-1.given.0 c.args.run.now.text.now
    c.add_numbers.new.known (search rules) q) c.add_numbers.ensures
