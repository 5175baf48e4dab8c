use Rattle.std.proofs.Common.{map, take, ap, ◌∙◌, rules, sym, subst, arith}
use Rattle.machine_core.specs.Grouped.{run_of}
use Rattle.machine_core.proofs.Finding.GroupMaps.{Gathers, gathers_more, groups_made, none_gathered, runs_next, whole_taken}
use Rattle.machine_core.proofs.commands.finding.groups.grouped.Goals as goal

pub loop-run-init : goal.loop-run-init
loop-run-init c = none_gathered c.new-groups.result (search rules)

pub loop-run-preserved : goal.loop-run-preserved
loop-run-preserved c =
    let runs = c.deref-run-items.result.now in
    let i = c.loop-run.run-index in
    subst (Gathers c.add_run.new.groups) (sym (runs_next runs i c.run-item.result (omega arith) c.run-item.is))
    (gathers_more c.loop-run.groups c.add_run.new.groups (map run_of (take i runs)) (run_of c.run-item.result) c.loop-run.invariant
    c.in_ok-add_run.ensures.numbers c.in_ok-add_run.ensures.texts)

pub returns : goal.returns
returns c =
    let within = c.args.within in
    let runs = c.deref-run-items.result.now in
    groups_made within.profile c.args.tag within.rows.now c.args.numbers.now c.requires c.loop-run.groups c.len-count.ensures.ordered
    (subst (Gathers c.loop-run.groups) (ap (map run_of) (whole_taken runs c.loop-run.run-index (omega arith) ∙ c.deref-run-items.ensures.value)
    ∙ c.in_ok-runs.ensures) c.loop-run.invariant)
