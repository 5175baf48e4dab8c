use Rattle.std.proofs.Common.{ap, arith, length}
use Rattle.command_text.proofs.AckLength.{memory_fits}
use Rattle.command_text.specs.Answer.{ack}
use Rattle.command_text.specs.Reading.{name_of_line}
use Rattle.machine_core.proofs.work.Work.want_memory.Goals as goal

pub unreachable-requires : goal.unreachable-requires
unreachable-requires c =
    let fits = memory_fits c.args.index (name_of_line c.args.profile c.args.line.now) c.ranges.index.fits in
    let full = c.in-Err.ensures.full in
    let same = ap (λ r. length (ack c.args.index r)) c.want_of_memory-refusal.ensures in
    omega (arith, fits, full, same, c.requires)
