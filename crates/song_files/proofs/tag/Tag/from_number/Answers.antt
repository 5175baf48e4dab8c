use Rattle.std.proofs.Common.{sym, arith}
use Rattle.song_files.proofs.TagRowList.{tag_past}
use Rattle.song_files.proofs.tag.Tag.from_number.Goals as goal

pub returns-then-number-ge-TAG_COUNT : goal.returns-then-number-ge-TAG_COUNT
returns-then-number-ge-TAG_COUNT c = sym (tag_past c.args.number (omega arith))
