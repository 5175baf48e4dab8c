use Rattle.std.proofs.Common.{◌≡◌, ◌∙◌, ◌-◌, ◌++◌, ◌∷◌, [], inl, inr, ℕ, List, length, take, arith, refl, ap}
use Rattle.std.specs.Int.{w32, to_le_bytes}
use Rattle.play_journal.specs.File.{open_gate}
use Rattle.play_journal.proofs.GroupLaws.{length-group, few, pushed, pushed_bodies}
use Rattle.play_journal.proofs.group.Group.push.Goals as goal
use Rattle.play_journal.proofs.group.Group.push.Goals.{then-body-gt-LONGEST_BODY-via-then-body-gt-LONGEST_BODY}
use Rattle.play_journal.proofs.group.Group.push.Goals.{then-body-gt-LONGEST_BODY-via-else-body-gt-LONGEST_BODY+then-gate-body-gt-GROUP_LEN}

pub returns-then-body-gt-LONGEST_BODY-clause-refuses : goal.returns-then-body-gt-LONGEST_BODY-clause-refuses
returns-then-body-gt-LONGEST_BODY-clause-refuses c = rw (← c.self.view_is) (
  λ same. elim c.then-body-gt-LONGEST_BODY.branch [
    | then-body-gt-LONGEST_BODY-via-then-body-gt-LONGEST_BODY w ↦ inl (omega (arith, w.if-body-gt-LONGEST_BODY))
    | then-body-gt-LONGEST_BODY-via-else-body-gt-LONGEST_BODY+then-gate-body-gt-GROUP_LEN w ↦ inr (omega (
      arith,
      w.if-gate-body-gt-GROUP_LEN,
      c.len-gate.ensures,
      length-group c.self.inside.bytes.items c.self.inside.count c.self.invariant.0,
    ))
  ],
  λ long. refl,
)

pub overflow_add-self : goal.overflow_add-self
overflow_add-self c = omega (arith, few c.self.inside.bytes.items c.self.inside.count c.self.invariant.0)

-- what the buffer then holds
made : (c : goal.After-self-1) → c.put_behind.new.buffer.items ≡ take (c.len-gate.result - 1) c.self.inside.bytes.items ++ open_gate ∷ []
    ++ to_le_bytes w32 (length c.args.body.now) ++ c.args.body.now ++ 0 ∷ []
made c = c.put_behind.ensures.record
    ∙ ap (λ (l : List ℕ). l ++ to_le_bytes w32 (length c.args.body.now) ++ c.args.body.now ++ 0 ∷ [])
    (c.push_reserved.ensures.items ∙ ap (λ (l : List ℕ). l ++ open_gate ∷ []) c.truncate.ensures.items)

pub invariant_of-self : goal.invariant_of-self
invariant_of-self c =
    let bytes = c.self.inside.bytes.items in
    let size = length-group bytes c.self.inside.count c.self.invariant.0 in (
      pushed bytes c.self.inside.count c.self.invariant.0 (c.len-gate.result - 1) c.args.body.now c.put_behind.new.buffer.items
          (omega (arith, size, c.len-gate.ensures)) (omega arith) (omega arith) (made c),
      omega (
        arith,
        c.self.invariant.1,
        c.truncate.ensures.capacity,
        c.push_reserved.ensures.capacity,
        c.put_behind.ensures.room,
      ),
    )

pub returns-clause-added : goal.returns-clause-added
returns-clause-added c = rw (← c.self.view_is)
    (let bytes = c.self.inside.bytes.items in
    let size = length-group bytes c.self.inside.count c.self.invariant.0 in
    pushed_bodies bytes c.self.inside.count c.self.invariant.0 (c.len-gate.result - 1) c.args.body.now c.put_behind.new.buffer.items
    (omega (arith, size, c.len-gate.ensures)) (omega arith) (omega arith) (made c))

pub returns-clause-refuses : goal.returns-clause-refuses
returns-clause-refuses c = rw (← c.self.view_is) (
  λ same. absurd cc,
  λ long. absurd (elim long [
    | inl body ↦ omega arith
    | inr all ↦ omega (arith, all, c.len-gate.ensures, length-group c.self.inside.bytes.items c.self.inside.count c.self.invariant.0)
  ]),
)
