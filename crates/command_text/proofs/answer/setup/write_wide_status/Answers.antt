use Rattle.std.proofs.Common.{codes}
use Rattle.command_text.specs.Answer.{pair}
use Rattle.command_text.specs.AnswerSetup.{partition_line}
use Rattle.command_text.proofs.Adding.{adds_stop, adds_then}
use Rattle.command_text.proofs.answer.setup.write_wide_status.Goals as goal

pub returns-in_err-write_partition : goal.returns-in_err-write_partition
returns-in_err-write_partition c =
    adds_stop partition_line (pair (codes "mixrampdb") (codes "0")) _ _ _ _ c.in_err-write_partition.ensures c.from_residual.ensures.0

pub returns : goal.returns
returns c = adds_then partition_line (pair (codes "mixrampdb") (codes "0")) _ _ _ _ _ c.in_ok-write_partition.ensures c.write_pair.ensures
