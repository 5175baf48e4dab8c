use Rattle.std.proofs.Common.{◌+◌, ◌-◌, ◌≤◌, length, slice_range, arith, ap, ◌∙◌}
use Rattle.std.proofs.lemmas.Grind.{common_steps}
use Rattle.song_files.proofs.Ranges.{filled_more}
use Rattle.song_files.proofs.Sources.{keeps_then}
use Rattle.song_files.proofs.read.read_exact.Goals as goal

pub loop-filled-preserved : goal.loop-filled-preserved
loop-filled-preserved g c =
    let few : c.in-Ok.count ≤ length c.loop-filled.buffer - c.loop-filled.filled = grind (arith, common_steps, c.in-Ok.ensures.count) in
    let few' : c.in-Ok.count ≤ length c.read_at.new.buffer = grind (arith, common_steps, c.in-Ok.ensures.count) in (
      grind (arith, common_steps),
      λ told. let kept = c.loop-filled.invariant.1 told in keeps_then kept (c.in-Ok.ensures.kept kept.is_honest),
      λ told. let kept = c.loop-filled.invariant.1 told in
          filled_more _ _ _ _ _ _ _ (omega arith) few' (c.loop-filled.invariant.2 told)
          (c.in-Ok.ensures.read kept.is_honest
          ∙ ap (λ file. slice_range file (c.args.at + c.loop-filled.filled) (c.args.at + c.loop-filled.filled + c.in-Ok.count))
          kept.same),
    )
