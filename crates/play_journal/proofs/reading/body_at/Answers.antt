use Rattle.std.proofs.Common.{refl, arith}
use Rattle.play_journal.proofs.GateLaws.{missing_gate, closed_gate, short_field, long_body, passed_end, last_number, open_record}
use Rattle.play_journal.proofs.reading.body_at.Goals.{then-len-gt-LONGEST_BODY-via-then-len-gt-LONGEST_BODY}
use Rattle.play_journal.proofs.reading.body_at.Goals.{then-len-gt-LONGEST_BODY-via-else-len-gt-LONGEST_BODY+then-bytes-at-2}
use Rattle.play_journal.proofs.reading.body_at.Goals.{then-len-gt-LONGEST_BODY-via-else-len-gt-LONGEST_BODY+else-bytes-at-2+then-before-eq18446744073709551615}
use Rattle.play_journal.proofs.reading.body_at.Goals as goal

pub returns-then-at-bytes-clause-fault : goal.returns-then-at-bytes-clause-fault
returns-then-at-bytes-clause-fault c = (refl, missing_gate c.args.bytes.now c.args.at c.args.before (omega arith))

pub returns-then-bytes-at-clause-closed : goal.returns-then-bytes-at-clause-closed
returns-then-bytes-at-clause-closed c = closed_gate c.args.bytes.now c.args.at c.args.before (omega arith) c.if-bytes-at.true

pub returns-then-bytes-at-lt5-clause-fault : goal.returns-then-bytes-at-lt5-clause-fault
returns-then-bytes-at-lt5-clause-fault c = (
  refl,
  short_field c.args.bytes.now c.args.at c.args.before (omega arith) c.if-bytes-at.false
      (omega arith),
)

pub returns-then-len-gt-LONGEST_BODY-clause-fault : goal.returns-then-len-gt-LONGEST_BODY-clause-fault
returns-then-len-gt-LONGEST_BODY-clause-fault c = (
  refl,
  elim c.then-len-gt-LONGEST_BODY.branch [
    | then-len-gt-LONGEST_BODY-via-then-len-gt-LONGEST_BODY w ↦ long_body c.args.bytes.now c.args.at c.args.before
        (omega arith) c.if-bytes-at.false (omega (arith, c.u32_at-len.ensures))
    | then-len-gt-LONGEST_BODY-via-else-len-gt-LONGEST_BODY+then-bytes-at-2 w ↦ passed_end c.args.bytes.now c.args.at c.args.before
        (omega arith) c.if-bytes-at.false (omega (arith, c.u32_at-len.ensures))
    | then-len-gt-LONGEST_BODY-via-else-len-gt-LONGEST_BODY+else-bytes-at-2+then-before-eq18446744073709551615 w ↦ last_number
        c.args.bytes.now c.args.at c.args.before (omega arith) c.if-bytes-at.false (omega arith)
  ],
)

pub returns-clause-closed : goal.returns-clause-closed
returns-clause-closed c =
    open_record c.args.bytes.now c.args.at c.args.before c.u32_at-len.result (omega arith) c.if-bytes-at.false c.u32_at-len.ensures
    (omega arith) (omega arith) (omega arith)
