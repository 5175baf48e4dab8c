use Rattle.std.proofs.Common.{◌≤◌, ◌+◌, length, drop, arith}
use Rattle.std.proofs.Math.ListN.{drop_of_length-le}
use Rattle.command_text.specs.AnswerNames.{command_line}
use Rattle.command_text.specs.Names.{all_names, is_listed}
use Rattle.command_text.proofs.Adding.{adds_same}
use Rattle.command_text.proofs.LineLoops.{kept_lines, leaves_fewer, leaves_none, leaves_off}
use Rattle.command_text.proofs.Listing.{listed_lines, next_name}
use Rattle.command_text.proofs.answer.names.write_commands.Goals as goal

pub loop-place-preserved : goal.loop-place-preserved
loop-place-preserved c =
    leaves_fewer (listed_lines c.args.profile) all_names c.name_at.result (drop (c.loop-place.place + 1) all_names) _ _ _ _
    (rw (next_name c.loop-place.place c.name_at.result (omega (
      arith,
      c.loop-place-test.true,
      c.count-place-end.ensures,
    )) c.name_at.ensures) at c.loop-place.invariant)
    c.in_ok-write_listed.ensures

pub returns-in_err-write_listed : goal.returns-in_err-write_listed
returns-in_err-write_listed c =
    adds_same _ _ _ _ _
    (leaves_off (listed_lines c.args.profile) all_names c.name_at.result (drop (c.loop-place.place + 1) all_names) _ _ _ _ _
    (rw (next_name c.loop-place.place c.name_at.result (omega (
      arith,
      c.loop-place-test.true,
      c.count-place-end.ensures,
    )) c.name_at.ensures) at c.loop-place.invariant)
    c.in_err-write_listed.ensures c.from_residual.ensures.0)
    (kept_lines (is_listed c.args.profile) command_line all_names)

pub returns : goal.returns
returns c =
    let over : length all_names ≤ c.loop-place.place = omega (arith, c.loop-place-test.false, c.count-place-end.ensures) in
    adds_same _ _ _ _ _
    (leaves_none (listed_lines c.args.profile) all_names _ _ _ (rw (drop_of_length-le all_names over) at c.loop-place.invariant))
    (kept_lines (is_listed c.args.profile) command_line all_names)
