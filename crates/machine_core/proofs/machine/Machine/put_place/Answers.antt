use Rattle.std.proofs.Common.{◌≡◌, ◌+◌, List, [], ◌∷◌, ◌++◌, length, sym, ap, ◌∙◌, arith}
use Rattle.std.specs.Option.{option_to_list}
use Rattle.profile.specs.declared.profile.Profile.TheVariants.{Wide}
use Rattle.state_codec.specs.Spelling.{ops_bytes}
use Rattle.state_codec.specs.declared.op.Op.{Op}
use Rattle.machine_core.specs.Keeping.{place_ops, round_ops, telling_ops, with_ops}
use Rattle.machine_core.specs.State.{MachineState}
use Rattle.machine_core.proofs.KeepingLaws.{place_short}
use Rattle.machine_core.proofs.KeptSteps.{machine_made, ops_made, place_told, put_bytes}
use Rattle.machine_core.proofs.machine.Machine.put_place.Goals as goal

pub returns-clause-ops : goal.returns-clause-ops
returns-clause-ops c =
    let m = c.args.self.now in
    let n = c.make_if_any-one.new.self in
    let k = c.make_place-two.new.self in
    let first = c.round_step-first.result.0 in
    let last = c.round_step-first.result.1 in
    let told : place_ops c.args.before m.player m.saved m.saved.place
    ≡ telling_ops (option_to_list first) m.saved
    ++ (telling_ops (last ∷ []) n.saved ++ telling_ops (c.put_op-put.result ∷ []) k.saved) =
    place_told c.args.before m n k c.in-Some.place.now first last c.put_op-put.result
    (ap (λ (x : MachineState). x.saved.place) (sym c.self.view_is) ∙ sym c.in-Some.ensures)
    (c.round_step-first.ensures ∙ (λ i. round_ops c.args.before (c.played.ensures.ids i)
    ((c.played-2.ensures ∙ ap (λ (x : MachineState). x.player.played) c.self.view_is) i)))
    c.put_op-put.ensures c.make_if_any-one.ensures.machine c.make_place-two.ensures.machine in
    ops_made c.args.ops.now.items c.make_if_any-one.new.ops.items c.make_place-two.new.ops.items c.make_place-three.new.ops.items _ _ _
    c.make_if_any-one.ensures.ops c.make_place-two.ensures.ops c.make_place-three.ensures.ops
    ∙ ap (λ (l : List Op). c.args.ops.now.items ++ l) (sym told)

pub returns-clause-machine : goal.returns-clause-machine
returns-clause-machine c =
    let m = c.args.self.now in
    let n = c.make_if_any-one.new.self in
    let k = c.make_place-two.new.self in
    let first = c.round_step-first.result.0 in
    let last = c.round_step-first.result.1 in
    let told : place_ops c.args.before m.player m.saved m.saved.place
    ≡ telling_ops (option_to_list first) m.saved
    ++ (telling_ops (last ∷ []) n.saved ++ telling_ops (c.put_op-put.result ∷ []) k.saved) =
    place_told c.args.before m n k c.in-Some.place.now first last c.put_op-put.result
    (ap (λ (x : MachineState). x.saved.place) (sym c.self.view_is) ∙ sym c.in-Some.ensures)
    (c.round_step-first.ensures ∙ (λ i. round_ops c.args.before (c.played.ensures.ids i)
    ((c.played-2.ensures ∙ ap (λ (x : MachineState). x.player.played) c.self.view_is) i)))
    c.put_op-put.ensures c.make_if_any-one.ensures.machine c.make_place-two.ensures.machine in
    machine_made m n k c.make_place-three.new.self (telling_ops (option_to_list first) m.saved) (telling_ops (last ∷ []) n.saved)
    (telling_ops (c.put_op-put.result ∷ []) k.saved) c.make_if_any-one.ensures.machine c.make_place-two.ensures.machine
    c.make_place-three.ensures.machine
    ∙ ap (λ (l : List Op). with_ops l m) (sym told)

pub returns-clause-bytes : goal.returns-clause-bytes
returns-clause-bytes c = λ profile.
    let m = c.args.self.now in
    let n = c.make_if_any-one.new.self in
    let k = c.make_place-two.new.self in
    let first = c.round_step-first.result.0 in
    let last = c.round_step-first.result.1 in
    let told : place_ops c.args.before m.player m.saved m.saved.place
    ≡ telling_ops (option_to_list first) m.saved
    ++ (telling_ops (last ∷ []) n.saved ++ telling_ops (c.put_op-put.result ∷ []) k.saved) =
    place_told c.args.before m n k c.in-Some.place.now first last c.put_op-put.result
    (ap (λ (x : MachineState). x.saved.place) (sym c.self.view_is) ∙ sym c.in-Some.ensures)
    (c.round_step-first.ensures ∙ (λ i. round_ops c.args.before (c.played.ensures.ids i)
    ((c.played-2.ensures ∙ ap (λ (x : MachineState). x.player.played) c.self.view_is) i)))
    c.put_op-put.ensures c.make_if_any-one.ensures.machine c.make_place-two.ensures.machine in
    put_bytes profile _ _ _ _ _ _ _ told (c.make_if_any-one.ensures.bytes profile) (c.make_place-two.ensures.bytes profile)
    (c.make_place-three.ensures.bytes profile)

pub returns-clause-within : goal.returns-clause-within
returns-clause-within c =
    let m = c.args.self.now in
    let n = c.make_if_any-one.new.self in
    let k = c.make_place-two.new.self in
    let first = c.round_step-first.result.0 in
    let last = c.round_step-first.result.1 in
    let told : place_ops c.args.before m.player m.saved m.saved.place
    ≡ telling_ops (option_to_list first) m.saved
    ++ (telling_ops (last ∷ []) n.saved ++ telling_ops (c.put_op-put.result ∷ []) k.saved) =
    place_told c.args.before m n k c.in-Some.place.now first last c.put_op-put.result
    (ap (λ (x : MachineState). x.saved.place) (sym c.self.view_is) ∙ sym c.in-Some.ensures)
    (c.round_step-first.ensures ∙ (λ i. round_ops c.args.before (c.played.ensures.ids i)
    ((c.played-2.ensures ∙ ap (λ (x : MachineState). x.player.played) c.self.view_is) i)))
    c.put_op-put.ensures c.make_if_any-one.ensures.machine c.make_place-two.ensures.machine in
    let bytes : (c.make_if_any-one.result + c.make_place-two.result) + c.make_place-three.result
    ≡ length (ops_bytes Wide (place_ops c.args.before m.player m.saved m.saved.place)) =
    put_bytes Wide _ _ _ _ _ _ _ told (c.make_if_any-one.ensures.bytes Wide) (c.make_place-two.ensures.bytes Wide)
    (c.make_place-three.ensures.bytes Wide) in
    omega (arith, bytes, place_short Wide c.args.before m.player m.saved m.saved.place)
