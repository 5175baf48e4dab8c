use Rattle.std.proofs.Common.{◌≡◌, ◌∷◌, [], length, sym, ap, subst, ◌∙◌}
use Rattle.std.specs.Prelude.{unwrap_or}
use Rattle.play_queue.specs.Positions.{position_of}
use Rattle.state_codec.specs.Applied.{after}
use Rattle.state_codec.specs.Spelling.{ops_bytes}
use Rattle.state_codec.specs.declared.op.Op.{Op}
use Rattle.machine_core.specs.Held.{held}
use Rattle.machine_core.specs.Meaning.{does}
use Rattle.machine_core.specs.Memory.{grows}
use Rattle.machine_core.specs.Queue.{shuffle_ops}
use Rattle.machine_core.specs.State.{MachineState}
use Rattle.machine_core.specs.Work.{AddsOps}
use Rattle.machine_core.proofs.Edits.{refused_failed, too_much}
use Rattle.machine_core.proofs.Queue.Around.{around_went, free_there}
use Rattle.machine_core.proofs.Queue.Shuffled.{around_means}
use Rattle.machine_core.proofs.Shuffling.{shuffle}
use Rattle.machine_core.proofs.machine.Machine.shuffle_around.Goals as goal

pub returns-in_err-check_shuffle-clause-performs : goal.returns-in_err-check_shuffle-clause-performs
returns-in_err-check_shuffle-clause-performs c =
    refused_failed _ c.args.self.now c.args.work.now c.in_err-check_shuffle.field-0.0 c.from_residual.result
    (c.in_err-check_shuffle.ensures.around c.args.id) c.from_residual.ensures.1

pub returns-in_err-admit_both-clause-performs : goal.returns-in_err-admit_both-clause-performs
returns-in_err-admit_both-clause-performs c =
    let m = c.args.self.now in
    let p = c.profile-profile.result in
    let profile : p ≡ m.saved.profile = c.profile-profile.ensures ∙ ap (λ (n : MachineState). n.saved.profile) c.self.view_is in
    too_much p _ (does [] (shuffle_ops c.args.id c.args.span m.saved) m.player m)
    (length (ops_bytes p (c.shuffle_op-op.result ∷ c.move_op.result ∷ []))) m c.args.work.now c.admit_both.new.self
    c.in_err-admit_both.field-0.0 c.from_residual-in_err-admit_both.result profile
    (around_means c.args.id c.args.span m c.in_ok-check_shuffle.ensures.fits c.requires.several)
    (λ i. length (ops_bytes p (c.shuffle_op-op.ensures i ∷ c.move_op.ensures i ∷ [])))
    c.in_err-admit_both.ensures.nothing c.in_err-admit_both.ensures.refused c.from_residual-in_err-admit_both.ensures.1

pub returns-in_err-admit_both-clause-memory : goal.returns-in_err-admit_both-clause-memory
returns-in_err-admit_both-clause-memory c want =
    ap grows (around_means c.args.id c.args.span c.args.self.now c.in_ok-check_shuffle.ensures.fits c.requires.several)

pub returns-in_err-apply-clause-memory : goal.returns-in_err-apply-clause-memory
returns-in_err-apply-clause-memory c want =
    ap grows (around_means c.args.id c.args.span c.args.self.now c.in_ok-check_shuffle.ensures.fits c.requires.several)

pub move_entries-requires : goal.move_entries-requires
move_entries-requires c =
    let m = c.args.self.now in
    let n : MachineState = held c.self-2.inside in
    let stands : n ≡ record m { saved = after (shuffle c.args.span) m.saved } =
    c.self-2.view_is ∙ c.in_ok-apply.ensures.ok ∙ ap (λ (op : Op). record m { saved = after op m.saved }) c.shuffle_op-op.ensures in
    free_there c.args.id c.place_of_id_or-at.result c.args.span m n stands
    (c.place_of_id_or-at.ensures.place
    ∙ ap (λ (k : MachineState). unwrap_or (position_of k.saved.queue.entries c.args.id) c.args.span.start) (sym c.self-2.view_is))
    c.in_ok-check_shuffle.ensures.fits c.requires.several

pub returns-clause-performs : goal.returns-clause-performs
returns-clause-performs c =
    let m = c.args.self.now in
    let n : MachineState = held c.self-2.inside in
    let p = c.profile-profile.result in
    let profile : p ≡ m.saved.profile = c.profile-profile.ensures ∙ ap (λ (k : MachineState). k.saved.profile) c.self.view_is in
    let stands : n ≡ record m { saved = after (shuffle c.args.span) m.saved } =
    c.self-2.view_is ∙ c.in_ok-apply.ensures.ok ∙ ap (λ (op : Op). record m { saved = after op m.saved }) c.shuffle_op-op.ensures in
    around_went c.args.id c.place_of_id_or-at.result c.args.span m n stands
    (c.place_of_id_or-at.ensures.place
    ∙ ap (λ (k : MachineState). unwrap_or (position_of k.saved.queue.entries c.args.id) c.args.span.start) (sym c.self-2.view_is))
    p c.move_entries.new.self c.args.work.now c.admit_both.new.self c.push_both.new.self profile c.in_ok-check_shuffle.ensures.fits
    c.requires.several c.move_entries.ensures c.requires.room c.in_ok-admit_both.ensures.nothing c.in_ok-admit_both.ensures.same
    (subst (λ ops. AddsOps ops (length (ops_bytes p ops)) c.admit_both.new.self c.push_both.new.self)
    (λ i. c.shuffle_op-op.ensures i ∷ c.move_op-2.ensures i ∷ []) c.push_both.ensures.ops)
    c.push_both.ensures.text c.push_both.ensures.keeps
