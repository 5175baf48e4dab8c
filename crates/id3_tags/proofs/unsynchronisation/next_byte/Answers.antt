use Rattle.std.proofs.Common.{arith}
use Rattle.std.proofs.lemmas.Bool.Decides.{nat_tests}
use Rattle.id3_tags.proofs.Resyncs.{pair_more, other_more, last_more}
use Rattle.id3_tags.proofs.unsynchronisation.next_byte.Goals as goal
use Rattle.id3_tags.proofs.unsynchronisation.next_byte.Goals.{else-at-bytes-via-then-at-bytes+then-bytes-at+else-bytes-at-eq0}
use Rattle.id3_tags.proofs.unsynchronisation.next_byte.Goals.{else-at-bytes-via-then-at-bytes+else-bytes-at}
use Rattle.id3_tags.proofs.unsynchronisation.next_byte.Goals.{else-at-bytes-via-else-at-bytes}

pub returns-then-bytes-at-eq0-clause-rest : goal.returns-then-bytes-at-eq0-clause-rest
returns-then-bytes-at-eq0-clause-rest c = pair_more c.args.bytes.now c.args.at (omega arith) (grind (arith, nat_tests))

pub returns-else-at-bytes-clause-rest : goal.returns-else-at-bytes-clause-rest
returns-else-at-bytes-clause-rest c = elim c.else-at-bytes.branch [
  | else-at-bytes-via-then-at-bytes+then-bytes-at+else-bytes-at-eq0 w ↦
      other_more c.args.bytes.now c.args.at (omega arith) (grind (arith, nat_tests))
  | else-at-bytes-via-then-at-bytes+else-bytes-at w ↦
      other_more c.args.bytes.now c.args.at (omega arith) (grind (arith, nat_tests))
  | else-at-bytes-via-else-at-bytes w ↦ last_more c.args.bytes.now c.args.at (omega arith) (omega arith)
]
