use Rattle.std.proofs.Common.{◌≡◌, ℕ, false, Some, refl, ap, ◌∙◌}
use Rattle.play_journal.specs.Content.{Content}
use Rattle.live_stage.specs.Found.{state_of}
use Rattle.live_stage.specs.Numbers.{FileNumbers, Numbers}
use Rattle.live_stage.proofs.AheadLaws.{file_stays, last_stays, since_stands}
use Rattle.live_stage.proofs.live.Live.give_record_room.Goals as goal

pub returns-clause-same_state : goal.returns-clause-same_state
returns-clause-same_state g c =
    let usable : c.self.inside.journal.is_spent ≡ false = ap (λ v. v.is_broken) c.self.view_is ∙ c.requires.usable in
    rw (← c.self.view_is) (λ ha hb. since_stands _ _ _ _ c.self.inside.journal.content c.self.inside.core.machine.saved
    (c.self.invariant.2 usable ha hb) (c.give_room.ensures.any_moment ha hb usable))

pub returns-in-Err-clause-same_state : goal.returns-in-Err-clause-same_state
returns-in-Err-clause-same_state g c =
    let usable : c.self.inside.journal.is_spent ≡ false = ap (λ v. v.is_broken) c.self.view_is ∙ c.requires.usable in
    rw (← c.self.view_is) (λ ha hb. since_stands _ _ _ _ c.self.inside.journal.content c.self.inside.core.machine.saved
    (c.self.invariant.2 usable ha hb) (c.give_room.ensures.any_moment ha hb usable))

pub invariant_of-self-2 : goal.invariant_of-self-2
invariant_of-self-2 g c =
    let usable : c.self.inside.journal.is_spent ≡ false = ap (λ v. v.is_broken) c.self.view_is ∙ c.requires.usable in (
      c.self.invariant.0,
      λ unspent. c.in-Ok.ensures.same.layout ∙ c.self.invariant.1 usable,
      λ unspent ha' hb'.
          let ha = c.give_room.ensures.later.a.honesty.1 ha' in
          let hb = c.give_room.ensures.later.b.honesty.1 hb' in
          let held = c.in-Ok.ensures.kept ha hb in
          ap (λ (k : Content). state_of (Some k)) held.says ∙ c.self.invariant.2 usable ha hb,
    )

pub returns-clause-same : goal.returns-clause-same
returns-clause-same g c =
    let usable : c.self.inside.journal.is_spent ≡ false = ap (λ v. v.is_broken) c.self.view_is ∙ c.requires.usable in
    let same = c.in-Ok.ensures.same in
    let numbers : ℕ → Numbers = λ last. record { event = c.self.inside.event; last_record = last } in
    rw (← c.self.view_is) (record {
      state = refl;
      numbers = ap numbers (last_stays c.self.inside.journal c.give_room.new.self same);
      file = ap (λ (f : FileNumbers). let g : FileNumbers = record f { is_put_off = c.self.inside.put_off } in g)
          (file_stays c.self.inside.journal c.give_room.new.self same);
      work = refl;
      same_file = same.same_file;
      usable = same.usable ∙ usable;
    })

pub returns-clause-given : goal.returns-clause-given
returns-clause-given g c = rw (← c.self.view_is) (λ ha hb. c.in-Ok.ensures.given ha hb)
