use Rattle.std.proofs.Common.{arith}
use Rattle.flac.proofs.TextTests.{IsSplit, no_name, no_value, unprintable, untagged, split_passes}
use Rattle.flac.proofs.comments.split.Goals as goal

pub returns-in_err-end : goal.returns-in_err-end
returns-in_err-end c = rw c.from_residual.ensures (no_value c.args.field.now c.in_err-end.ensures.found)

pub returns-in_err-name : goal.returns-in_err-name
returns-in_err-name c =
    let split : IsSplit c.args.field.now c.around.result.0.now c.around.result.1.now c.in_ok-end.end = record {
      few = c.requires;
      some = omega arith;
      within = c.in_ok-end.ensures.within;
      found = c.in_ok-end.ensures.found;
      before = c.around.ensures.before;
      behind = c.around.ensures.behind;
    } in
    rw c.from_residual-in_err-name.ensures (unprintable _ _ _ _ split c.in_err-name.ensures)

pub returns-in_err-value : goal.returns-in_err-value
returns-in_err-value c =
    let split : IsSplit c.args.field.now c.around.result.0.now c.around.result.1.now c.in_ok-end.end = record {
      few = c.requires;
      some = omega arith;
      within = c.in_ok-end.ensures.within;
      found = c.in_ok-end.ensures.found;
      before = c.around.ensures.before;
      behind = c.around.ensures.behind;
    } in
    rw c.from_residual-in_err-value.ensures (untagged _ _ _ _ split c.in_err-value.ensures)

pub returns : goal.returns
returns c =
    let split : IsSplit c.args.field.now c.around.result.0.now c.around.result.1.now c.in_ok-end.end = record {
      few = c.requires;
      some = omega arith;
      within = c.in_ok-end.ensures.within;
      found = c.in_ok-end.ensures.found;
      before = c.around.ensures.before;
      behind = c.around.ensures.behind;
    } in
    split_passes _ _ _ _ _ _ split c.in_ok-name.ensures c.in_ok-value.ensures
