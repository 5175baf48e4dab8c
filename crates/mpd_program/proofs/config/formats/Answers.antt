use Rattle.std.proofs.Common.{rules}
use Rattle.toml.proofs.Views.{table_get}
use Rattle.mpd_program.proofs.config.formats.Goals as goal

pub returns-in-None-clause-ok : goal.returns-in-None-clause-ok
returns-in-None-clause-ok c =
    let found = table_get c.get.result c.args.key.now c.args.table.now.entries c.get.ensures.value in
    rw (← rw c.in-None.is at found)

pub returns-in-None-as_array-clause-bad : goal.returns-in-None-as_array-clause-bad
returns-in-None-as_array-clause-bad c =
    let found = table_get c.get.result c.args.key.now c.args.table.now.entries c.get.ensures.value in
    let there = rw c.in-Some.is at found in
    search (rules, there)

pub returns-in-Some-formats_in-clause-ok : goal.returns-in-Some-formats_in-clause-ok
returns-in-Some-formats_in-clause-ok c =
    let found = table_get c.get.result c.args.key.now c.args.table.now.entries c.get.ensures.value in
    let there = rw c.in-Some.is at found in
    search (rules, there)

pub returns-in-None-formats_in-clause-bad : goal.returns-in-None-formats_in-clause-bad
returns-in-None-formats_in-clause-bad c =
    let found = table_get c.get.result c.args.key.now c.args.table.now.entries c.get.ensures.value in
    let there = rw c.in-Some.is at found in
    search (rules, there)
