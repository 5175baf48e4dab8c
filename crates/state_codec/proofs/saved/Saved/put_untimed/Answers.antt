use Rattle.std.proofs.Common.{◌≡◌, ℕ, false, List, ap, ◌∙◌}
use Rattle.std.specs.Prelude.{option_map}
use Rattle.stored_lists.specs.Times.{with_time}
use Rattle.state_codec.specs.SavedState.{SavedState}
use Rattle.state_codec.specs.Stored.{state_of}
use Rattle.state_codec.specs.declared.op.list_op.ListOp.TheVariants.{Move}
use Rattle.state_codec.proofs.KeptOps.{utf8_of, with_times}
use Rattle.state_codec.proofs.TimeLaws.{kept_list_times}
use Rattle.state_codec.proofs.saved.Saved.put_untimed.Goals as goal

pub invariant_of-self : goal.invariant_of-self
invariant_of-self c =
    let s : SavedState = state_of c.self.inside.parts in
    let name = c.args.of.now in
    let times : c.put_untimed.new.times ≡ option_map (with_time name 0) s.changed =
    c.put_untimed.ensures ∙ ap (λ (text : List ℕ). option_map (with_time text 0) s.changed) c.as_str.ensures.text in
    rw times (with_times s (option_map (with_time name 0) s.changed) c.self.invariant
    (kept_list_times false (Move name 0 0) s.profile s.changed
    (record { good = c.requires.good; text = utf8_of name c.as_str.ensures.form }) c.self.invariant.changed))
