use Rattle.std.proofs.Common.{true, false, add-one, ◌∙◌, arith}
use Rattle.std.proofs.lemmas.List.{get_or_default}
use Rattle.song_db.proofs.Picked.{picked_passed}
use Rattle.song_db.proofs.scan.droppable.next_mark.Goals as goal

pub loop-at-preserved : goal.loop-at-preserved
loop-at-preserved c = λ uris each. rw add-one (c.loop-at.invariant uris each
    ∙ picked_passed uris c.args.marks.now c.loop-at.at (omega arith) each (get_or_default c.args.marks.now c.loop-at.at true false
    (omega arith) ∙ c.if-marks-at.false))
