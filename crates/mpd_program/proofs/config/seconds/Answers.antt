use Rattle.std.proofs.Common.{rules}
use Rattle.toml.proofs.Views.{table_get}
use Rattle.mpd_program.proofs.config.seconds.Goals as goal

pub returns-in-None-clause-ok : goal.returns-in-None-clause-ok
returns-in-None-clause-ok c =
    let found = table_get c.get.result c.args.key.now c.args.table.now.entries c.get.ensures.value in
    rw (← rw c.in-None.is at found)

pub returns-in-None-as_integer-clause-bad : goal.returns-in-None-as_integer-clause-bad
returns-in-None-as_integer-clause-bad c =
    let found = table_get c.get.result c.args.key.now c.args.table.now.entries c.get.ensures.value in
    let there = rw c.in-Some.is at found in
    search (rules, there)

pub returns-in-Some-seconds_within-clause-ok : goal.returns-in-Some-seconds_within-clause-ok
returns-in-Some-seconds_within-clause-ok c =
    let found = table_get c.get.result c.args.key.now c.args.table.now.entries c.get.ensures.value in
    let there = rw c.in-Some.is at found in
    search (rules, there)

pub returns-in-None-seconds_within-clause-bad : goal.returns-in-None-seconds_within-clause-bad
returns-in-None-seconds_within-clause-bad c =
    let found = table_get c.get.result c.args.key.now c.args.table.now.entries c.get.ensures.value in
    let there = rw c.in-Some.is at found in
    search (rules, there)
