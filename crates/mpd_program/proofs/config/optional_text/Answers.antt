use Rattle.std.proofs.Common.{rules, ◌≡◌, None, Some, ◌∙◌}
use Rattle.toml.proofs.Views.{table_get}
use Rattle.mpd_program.proofs.config.optional_text.Goals as goal

pub returns-in-None-clause-ok : goal.returns-in-None-clause-ok
returns-in-None-clause-ok c =
    let found = table_get c.get.result c.args.key.now c.args.table.now.entries c.get.ensures.value in
    rw (← rw c.in-None.is at found)

pub returns-in_ok-from_str-in-Some-as_str-clause-ok :
    goal.returns-in_ok-from_str-in-Some-as_str-clause-ok
returns-in_ok-from_str-in-Some-as_str-clause-ok c =
    let found = table_get c.get.result c.args.key.now c.args.table.now.entries c.get.ensures.value in
    let there = rw c.in-Some.is at found in
    search (rules, there)

pub returns-in-None-as_str-clause-bad : goal.returns-in-None-as_str-clause-bad
returns-in-None-as_str-clause-bad c e =
    let found = table_get c.get.result c.args.key.now c.args.table.now.entries c.get.ensures.value in
    let there = rw c.in-Some.is at found in
    search (rules, there)
