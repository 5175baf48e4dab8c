-- The rows that the program has, as those of the table.
use Rattle.std.specs.Prelude.{List, map}
use Rattle.song_files.specs.Tag.{Row, row}
use Rattle.song_files.specs.declared.tag.TagRow.{TagRow}

abbrev pub row_of : TagRow → Row
row_of r = row r.0 r.1.now r.2.now

abbrev pub rows_of : List TagRow → List Row
rows_of rows = map row_of rows
