use Rattle.std.proofs.Common.{sym, arith}
use Rattle.song_files.proofs.TagRowList.{name_of_row, rows_long}
use Rattle.song_files.proofs.tag.Tag.name.Goals as goal

pub bounds-rows-from : goal.bounds-rows-from
bounds-rows-from c = omega (arith, rows_long c.rows.result.now c.rows.ensures, c.number.ensures.within)

pub returns : goal.returns
returns c = rw (c.from.ensures, c.number.ensures.number) (sym (name_of_row c.rows.result.now c.args.self _ c.rows.ensures))
