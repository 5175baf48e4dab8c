use Rattle.std.proofs.Common.{sym, ◌∙◌, arith, length, ap}
use Rattle.std.specs.Prelude.{IsErr}
use Rattle.live_stage.proofs.recording.spell.Goals as goal

pub unreachable-requires : goal.unreachable-requires
unreachable-requires c =
    let refused : IsErr c.put_ops.result = sym c.is_err.ensures.value ∙ c.if-is_err.true in
    let full = c.put_ops.ensures.refused.0 refused in
    omega (arith, full, c.requires)
