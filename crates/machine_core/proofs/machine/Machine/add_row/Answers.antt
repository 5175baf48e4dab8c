use Rattle.std.proofs.Common.{[], ◌∷◌, List, ℕ, refl, sym, ap, ◌∙◌, subst, arith}
use Rattle.command_text.proofs.Adding.{adds_same}
use Rattle.command_text.specs.AnswerSongs.{id_line}
use Rattle.play_queue.specs.Queue.{QueueState}
use Rattle.state_codec.specs.declared.op.Op.TheVariants.{Queue}
use Rattle.state_codec.specs.declared.op.queue_op.QueueOp.TheVariants.{Add}
use Rattle.machine_core.specs.Meaning.{edits}
use Rattle.machine_core.specs.State.{MachineState}
use Rattle.machine_core.specs.Work.{Performs}
use Rattle.machine_core.proofs.Queue.Answered.{was_made, was_not_made}
use Rattle.machine_core.proofs.machine.Machine.add_row.Goals as goal

pub returns-then-is_err : goal.returns-then-is_err
returns-then-is_err c =
    let m = c.args.self.now in
    let op = Queue (Add c.args.at (c.args.row ∷ [])) in
    let queue = c.queue.ensures ∙ ap (λ (n : MachineState). n.saved.queue) c.self.view_is in
    let next = c.next_id.ensures ∙ ap (λ (q : QueueState). q.next_id) queue in
    let added = subst (λ (rows : List ℕ). Performs (edits (Queue (Add c.args.at rows)) [] m) m c.edit-added.new.self c.keep.new.self
    c.edit-added.new.work c.edit-added.result) c.in_ok-rows.ensures.rows c.edit-added.ensures.performs in
    was_not_made op (id_line m.saved.queue.next_id) m _ _ c.args.work.now _ c.keep.new.self c.edit-added.new.work _ _
    c.len-mark.ensures refl refl (adds_same _ _ _ _ _ c.write_id-written.ensures (ap id_line next)) c.in_ok-keep.ensures _ _
    (sym c.is_err.ensures.value ∙ c.if-is_err.true) added c.truncate.ensures.items (omega (arith, c.truncate.ensures.capacity)) refl refl

pub returns-else-is_err : goal.returns-else-is_err
returns-else-is_err c =
    let m = c.args.self.now in
    let op = Queue (Add c.args.at (c.args.row ∷ [])) in
    let queue = c.queue.ensures ∙ ap (λ (n : MachineState). n.saved.queue) c.self.view_is in
    let next = c.next_id.ensures ∙ ap (λ (q : QueueState). q.next_id) queue in
    let added = subst (λ (rows : List ℕ). Performs (edits (Queue (Add c.args.at rows)) [] m) m c.edit-added.new.self c.keep.new.self
    c.edit-added.new.work c.edit-added.result) c.in_ok-rows.ensures.rows c.edit-added.ensures.performs in
    was_made op (id_line m.saved.queue.next_id) m _ _ c.args.work.now _ c.keep.new.self c.edit-added.new.work _ _
    c.len-mark.ensures refl refl (adds_same _ _ _ _ _ c.write_id-written.ensures (ap id_line next)) c.in_ok-keep.ensures _
    (sym c.is_err.ensures.value ∙ c.if-is_err.false) added
