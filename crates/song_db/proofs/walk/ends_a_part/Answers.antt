use Rattle.std.proofs.Common.{sym, arith}
use Rattle.song_db.proofs.Opened.{part_ends, whole_path}
use Rattle.song_db.proofs.walk.ends_a_part.Goals as goal

pub returns-then-end-path-clause-part : goal.returns-then-end-path-clause-part
returns-then-end-path-clause-part c = sym (whole_path c.args.path.now c.args.end (omega arith))

pub returns-clause-part : goal.returns-clause-part
returns-clause-part c = sym (part_ends c.args.path.now c.args.end (omega arith))
