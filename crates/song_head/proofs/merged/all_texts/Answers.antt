use Rattle.std.proofs.Common.{sym, ◌∙◌}
use Rattle.song_head.proofs.Texts.{one_wanted, not_wanted, whole}
use Rattle.song_head.proofs.merged.all_texts.Goals as goal
use Rattle.song_head.proofs.merged.all_texts.Goals.{then-contains+in_ok-add_texts, else-contains}

pub loop-number-preserved : goal.loop-number-preserved
loop-number-preserved c = elim c.if-contains.branch [
  | then-contains+in_ok-add_texts w ↦ rw (w.tags-is, w.in_ok-add_texts.ensures) (one_wanted c.args.rules c.args.manner c.args.own.now c.args.frames.now
      c.loop-number.number c.loop-number.tags c.at-tag.result c.at-tag.ensures.tag c.at-tag.ensures.number
      (sym c.contains.ensures ∙ w.if-contains.true) c.loop-number.invariant)
  | else-contains w ↦ rw w.tags-is (not_wanted c.args.rules c.args.manner c.args.own.now c.args.frames.now c.loop-number.number c.loop-number.tags
      c.at-tag.result c.at-tag.ensures.tag (sym c.contains.ensures ∙ w.if-contains.false) c.loop-number.invariant)
]

pub returns : goal.returns
returns c = whole c.args.rules c.args.manner c.args.own.now c.args.frames.now c.loop-number.number c.loop-number.tags c.loop-number-test.false
    c.loop-number.invariant
