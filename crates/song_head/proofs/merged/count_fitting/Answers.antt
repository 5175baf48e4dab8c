use Rattle.std.proofs.Common.{arith}
use Rattle.song_files.specs.Tags.{TagText}
use Rattle.song_head.proofs.Texts.{one_fits, no_more_fit, all_fit}
use Rattle.std.proofs.lemmas.Option.{slice_get_within}
use Rattle.song_head.proofs.merged.count_fitting.Goals as goal

pub returns-then-size-left-clause-texts : goal.returns-then-size-left-clause-texts
returns-then-size-left-clause-texts c =
    let t : TagText = record { tag = c.at.result.0; text = c.at.result.1.now } in
    no_more_fit c.args.tags.now c.loop-at.at c.loop-at.left t _ (slice_get_within _ _ _ c.at.ensures) c.at.ensures c.if-size-left.true
    c.loop-at.invariant

pub loop-at-preserved : goal.loop-at-preserved
loop-at-preserved c =
    let t : TagText = record { tag = c.at.result.0; text = c.at.result.1.now } in
    one_fits c.args.tags.now c.loop-at.at c.loop-at.left t _ (slice_get_within _ _ _ c.at.ensures) c.at.ensures (omega arith)
    c.loop-at.invariant

pub returns-clause-texts : goal.returns-clause-texts
returns-clause-texts c = rw c.len.ensures.len (all_fit c.args.tags.now c.loop-at.at c.loop-at.left _ (omega arith) c.loop-at.invariant)
