use Rattle.std.proofs.Common.{◌≡◌, arith}
use Rattle.song_db.specs.Tagged.{count_tagged}
use Rattle.machine_core.proofs.Finding.AllValues.{lacking_values}
use Rattle.machine_core.proofs.commands.finding.values.told_instead.Goals as goal

pub returns-in-Some : goal.returns-in-Some
returns-in-Some c =
    let none : count_tagged c.args.tag c.args.songs.now ≡ 0 = omega (arith, c.count_tagged-count.ensures.count, c.if-count-gt0.false) in
    lacking_values c.args.tag c.in-Some.other c.args.songs.now c.in-Some.ensures none
