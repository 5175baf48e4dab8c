use Rattle.std.proofs.Common.{◌≡◌, None, Some, refl, sym, ap, subst, ◌∙◌}
use Rattle.state_codec.specs.Applied.{refusal_of, applied}
use Rattle.machine_core.specs.Held.{held}
use Rattle.machine_core.specs.State.{MachineState, shown_of}
use Rattle.machine_core.proofs.Edits.{was_ok, applied_is}
use Rattle.machine_core.proofs.machine.Machine.apply.Goals as goal

pub invariant_of-self-else-could_change_the_shown : goal.invariant_of-self-else-could_change_the_shown
invariant_of-self-else-could_change_the_shown c x is =
    let m = held c.self.inside in
    let same = ap (λ (n : MachineState). n.saved) c.self.view_is in
    let fits = subst (λ s. refusal_of c.args.op.now s ≡ None) (sym same) c.requires in
    let done = was_ok c.apply.result (applied c.args.op.now m.saved ≡ Some c.apply.new.self)
    (sym c.is_err.ensures.value ∙ c.if-is_err.false) c.apply.ensures.ok in
    let made = applied_is c.args.op.now m.saved c.apply.new.self fits done in
    c.self.invariant x is ∙ sym (c.if-could_change_the_shown.ensures refl m) ∙ ap (λ s. shown_of (record m { saved = s })) made
