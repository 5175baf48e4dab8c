use Rattle.std.proofs.Common.{◌≤◌, length, arith, sym, ◌∙◌}
use Rattle.song_db.specs.Query.{distinct_of, with_texts}
use Rattle.song_files.specs.Tags.{texts_of}
use Rattle.song_db.proofs.Ordered.{shown}
use Rattle.song_db.proofs.TextSteps.{text_left, text_taken, texts_taken}
use Rattle.song_db.proofs.values.push_values.Goals as goal
use Rattle.song_db.proofs.values.push_values.Goals.{then-eq+in_ok-push_text, else-eq}

pub loop-at-preserved : goal.loop-at-preserved
loop-at-preserved c =
    let tags = c.tags-tags.result.now in
    let known = distinct_of (shown c.loop-at.values.items) in
    let all = with_texts (distinct_of (shown c.args.values.now.items)) (texts_of tags c.args.tag) in
    elim c.if-eq.branch [
      | then-eq+in_ok-push_text w ↦ rw w.values-is (text_taken tags c.loop-at.at
          (record { tag = c.at-own.result.0; text = c.at-own.result.1.now }) c.args.tag known
          (distinct_of (shown w.push_text.new.values.items)) all c.at-own.ensures (sym c.eq.ensures ∙ w.if-eq.true)
          w.in_ok-push_text.ensures c.loop-at.invariant)
      | else-eq w ↦ rw w.values-is (text_left tags c.loop-at.at
          (record { tag = c.at-own.result.0; text = c.at-own.result.1.now }) c.args.tag known all c.at-own.ensures
          (sym c.eq.ensures ∙ w.if-eq.false) c.loop-at.invariant)
    ]

pub returns : goal.returns
returns c =
    let tags = c.tags-tags.result.now in
    let past : length c.tags-tags.result.now ≤ c.loop-at.at = omega arith in
    rw (← c.tags-tags.ensures) (texts_taken tags c.loop-at.at c.args.tag (distinct_of (shown c.loop-at.values.items))
    (with_texts (distinct_of (shown c.args.values.now.items)) (texts_of tags c.args.tag)) past c.loop-at.invariant)
