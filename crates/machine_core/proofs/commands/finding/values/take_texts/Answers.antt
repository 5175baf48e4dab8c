use Rattle.std.proofs.Common.{◌≤◌, ◌∙◌, length, arith, sym}
use Rattle.song_files.specs.Tags.{TagText, texts_of}
use Rattle.song_db.specs.Query.{with_texts}
use Rattle.song_db.proofs.TextSteps.{text_left, text_taken, texts_taken}
use Rattle.machine_core.proofs.commands.finding.values.take_texts.Goals as goal
use Rattle.machine_core.proofs.commands.finding.values.take_texts.Goals.{then-eq+in_ok-insert, else-eq}

pub loop-at-preserved : goal.loop-at-preserved
loop-at-preserved c =
    let tags = c.tags-tags.result.now in
    let all = with_texts c.args.values.now (texts_of tags c.args.tag) in
    let one : TagText = record { tag = c.at-own.result.0; text = c.at-own.result.1.now } in
    elim c.if-eq.branch [
      | then-eq+in_ok-insert w ↦ rw w.values-is (text_taken tags c.loop-at.at one c.args.tag c.loop-at.values w.insert.new.self all
          c.at-own.ensures (sym c.eq.ensures ∙ w.if-eq.true) w.in_ok-insert.ensures.ok c.loop-at.invariant)
      | else-eq w ↦ rw w.values-is (text_left tags c.loop-at.at one c.args.tag c.loop-at.values all c.at-own.ensures
          (sym c.eq.ensures ∙ w.if-eq.false) c.loop-at.invariant)
    ]

pub returns : goal.returns
returns c =
    let tags = c.tags-tags.result.now in
    let past : length tags ≤ c.loop-at.at = omega arith in
    rw (← c.tags-tags.ensures) (texts_taken tags c.loop-at.at c.args.tag c.loop-at.values
    (with_texts c.args.values.now (texts_of tags c.args.tag)) past c.loop-at.invariant)
