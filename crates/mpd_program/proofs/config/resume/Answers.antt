use Rattle.std.proofs.Common.{rules}
use Rattle.toml.proofs.Views.{table_get}
use Rattle.mpd_program.proofs.config.resume.Goals as goal

pub returns-in-None-clause-ok : goal.returns-in-None-clause-ok
returns-in-None-clause-ok c =
    let found = table_get c.get.result c.args.key.now c.args.table.now.entries c.get.ensures.value in
    rw (← rw c.in-None.is at found)

pub returns-in-None-as_str-clause-bad : goal.returns-in-None-as_str-clause-bad
returns-in-None-as_str-clause-bad c =
    let found = table_get c.get.result c.args.key.now c.args.table.now.entries c.get.ensures.value in
    let there = rw c.in-Some.is at found in
    search (rules, there)

pub returns-in-Some-resume_named-clause-ok : goal.returns-in-Some-resume_named-clause-ok
returns-in-Some-resume_named-clause-ok c =
    let found = table_get c.get.result c.args.key.now c.args.table.now.entries c.get.ensures.value in
    let there = rw c.in-Some.is at found in
    search (rules, there)

pub returns-in-None-resume_named-clause-bad : goal.returns-in-None-resume_named-clause-bad
returns-in-None-resume_named-clause-bad c =
    let found = table_get c.get.result c.args.key.now c.args.table.now.entries c.get.ensures.value in
    let there = rw c.in-Some.is at found in
    search (rules, there)
