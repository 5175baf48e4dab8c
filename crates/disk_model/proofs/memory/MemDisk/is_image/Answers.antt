use Rattle.std.specs.Prelude.{IsTrue, ◌↔◌}
use Rattle.std.proofs.lemmas.Result.{IfOk-weaker}
use Rattle.disk_model.specs.Images.{window, IsImage}
use Rattle.disk_model.proofs.MomentLaws.{now_only, counts_now}
use Rattle.disk_model.proofs.memory.MemDisk.is_image.Goals as goal

-- at the present moment there is no other
pub returns : goal.returns
returns c =
    IfOk-weaker c.is_image_since.result _ (λ allowed. IsTrue allowed ↔ IsImage (window c.args.self.now.history) c.args.image.now)
    (λ allowed both. (λ yes. now_only _ _ (both.0 yes), λ now. both.1 (counts_now _ _ _ now)))
    (rw c.moment.ensures at c.is_image_since.ensures)
