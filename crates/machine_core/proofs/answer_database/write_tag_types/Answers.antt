use Rattle.std.proofs.Common.{◌≤◌, ◌+◌, drop, length, arith}
use Rattle.std.proofs.Math.ListN.{drop_of_length-le}
use Rattle.command_text.proofs.LineLoops.{leaves_fewer, leaves_none, leaves_off, kept_lines}
use Rattle.song_files.specs.Tag.{all_tags}
use Rattle.song_files.specs.TagSet.{has_tag}
use Rattle.song_files.proofs.TagNumbers.{all_long}
use Rattle.machine_core.specs.Database.{shown_type}
use Rattle.machine_core.proofs.Database.Lines.{next_tag, type_in}
use Rattle.machine_core.proofs.answer_database.write_tag_types.Goals as goal

pub loop-number-preserved : goal.loop-number-preserved
loop-number-preserved c =
    let at = c.loop-number.number in
    let tag = c.at.result in
    leaves_fewer (type_in c.args.mask c.args.tags) all_tags tag (drop (at + 1) all_tags) _ _ _ _
    (rw (next_tag at tag c.at.ensures.tag) at c.loop-number.invariant) c.in_ok-write_if_in.ensures

pub returns-in_err-write_if_in : goal.returns-in_err-write_if_in
returns-in_err-write_if_in c =
    let at = c.loop-number.number in
    let tag = c.at.result in
    rw (← kept_lines (has_tag c.args.tags) (shown_type c.args.mask) all_tags)
    (leaves_off (type_in c.args.mask c.args.tags) all_tags tag (drop (at + 1) all_tags) _ _ _ _ _
    (rw (next_tag at tag c.at.ensures.tag) at c.loop-number.invariant)
    c.in_err-write_if_in.ensures c.from_residual.ensures.0)

pub returns : goal.returns
returns c =
    let over : length all_tags ≤ c.loop-number.number = omega (arith, all_long) in
    rw (← kept_lines (has_tag c.args.tags) (shown_type c.args.mask) all_tags)
    (leaves_none (type_in c.args.mask c.args.tags) all_tags _ _ _ (rw (drop_of_length-le all_tags over) at c.loop-number.invariant))
