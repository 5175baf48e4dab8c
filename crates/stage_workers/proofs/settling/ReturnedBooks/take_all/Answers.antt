use Rattle.std.proofs.Common.{◌∙◌, arith}
use Rattle.std.proofs.lemmas.Grind.{common_steps}
use Rattle.std.proofs.lemmas.List.Sums.{sum_by_push}
use Rattle.stage_workers.specs.Settling.{share_in}
use Rattle.stage_workers.proofs.settling.ReturnedBooks.take_all.Goals as goal

pub loop-pass-preserved : goal.loop-pass-preserved
loop-pass-preserved g c = record {
  back = λ kind. omega (arith, c.take_back.ensures.back kind, c.loop-pass.invariant.back kind, sum_by_push (share_in kind) c.loop-pass.yielded c.in-Some.pass);
  full = λ kind. c.take_back.ensures.full kind ∙ c.loop-pass.invariant.full kind;
  left = grind (arith, common_steps, c.loop-pass.invariant.left);
}
