use Rattle.std.proofs.Common.{◌≤◌, ◌∙◌, length, map, arith, sym}
use Rattle.song_files.specs.Tags.{TagText, texts_of}
use Rattle.machine_core.specs.Grouped.{run_of, with_song}
use Rattle.machine_core.proofs.Finding.Groups.{song_done, song_left, song_taken}
use Rattle.machine_core.proofs.commands.finding.groups.add_own.Goals as goal
use Rattle.machine_core.proofs.commands.finding.groups.add_own.Goals.{then-eq+in_ok-add_text, else-eq}

pub loop-at-preserved : goal.loop-at-preserved
loop-at-preserved c =
    let tags = c.tags-tags.result.now in
    let all = with_song (texts_of tags c.args.tag) c.args.number (map run_of c.args.runs.now.items) in
    let known = map run_of c.loop-at.runs.items in
    let one : TagText = record { tag = c.at-own.result.0; text = c.at-own.result.1.now } in
    elim c.if-eq.branch [
      | then-eq+in_ok-add_text w ↦ rw w.runs-is (song_taken tags c.loop-at.at one c.args.tag c.args.number known
          (map run_of w.add_text.new.runs.items) all c.at-own.ensures (sym c.eq.ensures ∙ w.if-eq.true) w.in_ok-add_text.ensures
          c.loop-at.invariant)
      | else-eq w ↦ rw w.runs-is (song_left tags c.loop-at.at one c.args.tag c.args.number known all c.at-own.ensures
          (sym c.eq.ensures ∙ w.if-eq.false) c.loop-at.invariant)
    ]

pub returns : goal.returns
returns c =
    let tags = c.tags-tags.result.now in
    let past : length tags ≤ c.loop-at.at = omega arith in
    rw (← c.tags-tags.ensures) (song_done tags c.loop-at.at c.args.tag c.args.number (map run_of c.loop-at.runs.items)
    (with_song (texts_of tags c.args.tag) c.args.number (map run_of c.args.runs.now.items)) past c.loop-at.invariant)
