use Rattle.std.proofs.Common.{◌≡◌, not, ◌==◌, List, ◌++◌, length, ap, ◌∙◌}
use Rattle.state_codec.specs.declared.op.Op.{Op}
use Rattle.machine_core.specs.Before.{changed_since}
use Rattle.machine_core.specs.Followed.{follows_batch}
use Rattle.machine_core.specs.Keeping.{if_kept, keep_ops_since}
use Rattle.machine_core.specs.Scanning.{changes_rows}
use Rattle.machine_core.specs.State.{MachineState}
use Rattle.machine_core.proofs.KeepingLaws.{keep_short}
use Rattle.machine_core.proofs.Scans.Kept.{kept_rows_changed}
use Rattle.machine_core.proofs.Scans.Size.{batch_fits_with, fits_kept}
use Rattle.machine_core.proofs.machine.Machine.change_rows.Goals as goal

pub returns-clause-ok : goal.returns-clause-ok
returns-clause-ok c =
    let m = c.args.self.now in
    let n = c.make_batch.new.self in
    let k = c.keep_since.new.self in
    let profile = c.keeping-keeping.result in
    let changes = c.args.changes in
    let before = c.before-before.result in
    let had : c.len-stickers.result ≡ length m.saved.stickers =
    c.len-stickers.ensures.count ∙ ap length (c.stickers.ensures ∙ ap (λ (k : MachineState). k.saved.stickers) c.self.view_is) in
    let has : c.len.result ≡ length k.saved.stickers =
    c.len.ensures.count ∙ ap length (c.stickers-2.ensures ∙ ap (λ (k : MachineState). k.saved.stickers) c.self-2.view_is) in
    kept_rows_changed changes m n k profile before _ c.requires c.in_ok-ops.ensures.machine
    c.before-before.ensures.value c.keeping-keeping.ensures c.keep_since.ensures.machine
    (c.keep_since.ensures.ops ∙ ap (λ (l : List Op). l ++ if_kept profile (keep_ops_since before n)) c.in_ok-ops.ensures.ops)
    ((λ i. record (c.changed_since-changed.ensures i) { sticker = not (had i == has i) })
    ∙ (λ i. record (changed_since before (c.deref.ensures.value i) k) {
      sticker = not (length m.saved.stickers == length k.saved.stickers);
    }))
    (batch_fits_with c.body_len.ensures.batch m.saved.profile changes (follows_batch changes m).order _ c.in_ok-ops.ensures.form
    (fits_kept changes m.saved c.requires) (keep_short m.saved.profile m (changes_rows changes m).after))
