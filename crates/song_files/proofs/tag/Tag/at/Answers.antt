use Rattle.std.proofs.Common.{arith}
use Rattle.song_files.proofs.TagRowList.{tag_of_row, rows_long}
use Rattle.song_files.proofs.TagNumbers.{number_at}
use Rattle.song_files.proofs.tag.Tag.at.Goals as goal

pub bounds-rows-number : goal.bounds-rows-number
bounds-rows-number c = omega (arith, rows_long c.rows.result.now c.rows.ensures)

pub returns-clause-tag : goal.returns-clause-tag
returns-clause-tag c = tag_of_row c.rows.result.now c.args.number _ c.rows.ensures c.requires

pub returns-clause-number : goal.returns-clause-number
returns-clause-number c = number_at c.args.number _ (tag_of_row c.rows.result.now c.args.number _ c.rows.ensures c.requires)
