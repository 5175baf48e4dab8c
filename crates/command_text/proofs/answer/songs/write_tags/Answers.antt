use Rattle.std.proofs.Common.{◌≤◌, ◌+◌, length, drop, arith}
use Rattle.std.proofs.Math.ListN.{drop_of_length-le}
use Rattle.command_text.specs.AnswerSongs.{shown_line}
use Rattle.command_text.proofs.LineLoops.{leaves_fewer, leaves_none, leaves_off, next_at}
use Rattle.command_text.proofs.answer.songs.write_tags.Goals as goal

pub loop-at-preserved : goal.loop-at-preserved
loop-at-preserved c =
    let all = c.args.tags.now in
    leaves_fewer (shown_line c.args.mask) all (record { tag = c.at-tag.result.0; text = c.at-tag.result.1.now }) (drop
    (c.loop-at.at + 1) all) _ _ _ _
    (rw (next_at all c.loop-at.at (record { tag = c.at-tag.result.0; text = c.at-tag.result.1.now }) c.at-tag.ensures) at
    c.loop-at.invariant) c.in_ok-write_shown.ensures

pub returns-in_err-write_shown : goal.returns-in_err-write_shown
returns-in_err-write_shown c =
    let all = c.args.tags.now in
    leaves_off (shown_line c.args.mask) all (record { tag = c.at-tag.result.0; text = c.at-tag.result.1.now }) (drop
    (c.loop-at.at + 1) all) _ _ _ _ _
    (rw (next_at all c.loop-at.at (record { tag = c.at-tag.result.0; text = c.at-tag.result.1.now }) c.at-tag.ensures) at
    c.loop-at.invariant) c.in_err-write_shown.ensures c.from_residual.ensures.0

pub returns : goal.returns
returns c =
    let over : length c.args.tags.now ≤ c.loop-at.at = omega arith in
    leaves_none (shown_line c.args.mask) c.args.tags.now _ _ _ (rw (drop_of_length-le c.args.tags.now over) at c.loop-at.invariant)
