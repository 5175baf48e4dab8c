use Rattle.std.proofs.Common.{◌≡◌, ◌*◌, length, refl, sym, ap, arith}
use Rattle.as_wave.proofs.FlacParts.{length-tail}
use Rattle.as_wave.proofs.FlacPlans.{too_long, fits_in, told_limits, at_least}
use Rattle.as_wave.proofs.flac_plan.layout_for.Goals as goal

pub returns-then-info-ge-SIZE_END-clause-layout : goal.returns-then-info-ge-SIZE_END-clause-layout
returns-then-info-ge-SIZE_END-clause-layout c = λ file samples chunks within tail even.
    let l = told_limits c.args.info.now c.requires in
    too_long c.args.info.now samples chunks (omega (
      arith,
      at_least c.args.info.now.channels c.args.info.now.samples l.some_channels,
      c.if-info-ge-SIZE_END.true,
    ))

pub returns-then-count-len-ge-SIZE_END-clause-layout : goal.returns-then-count-len-ge-SIZE_END-clause-layout
returns-then-count-len-ge-SIZE_END-clause-layout c = λ file samples chunks within tail even.
    let same : c.from.result * c.args.info.now.samples ≡ c.args.info.now.channels * c.args.info.now.samples
    = ap (λ k. k * c.args.info.now.samples) c.from.ensures in
    too_long c.args.info.now samples chunks (omega (
      arith,
      same,
      c.len.ensures.len,
      ap length (sym tail),
      length-tail c.args.tail file within,
      c.if-count-len-ge-SIZE_END.true,
    ))

pub returns-clause-layout : goal.returns-clause-layout
returns-clause-layout c = λ file samples chunks within tail even.
    fits_in c.args.info.now c.flac_format.result c.args.info.now.bits (c.from.result * c.args.info.now.samples) c.args.tail samples file chunks
    c.flac_format.ensures refl (ap (λ k. k * c.args.info.now.samples) c.from.ensures) within tail even
    (omega (arith, c.len.ensures.len, c.if-count-len-ge-SIZE_END.false))
