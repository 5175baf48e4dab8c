-- Room that is looked for under the lock.
use Rattle.std.proofs.Common.{◌≡◌, ◌⊎◌, inl, inr, ℕ, ◌+◌, Bool, true, false, List, Option, Some, None, refl, sym, ap, ◌∙◌}
use Rattle.std.specs.Prelude.{IfSome}
use Rattle.disk_model.specs.History.{Change}
use Rattle.daemon_core.specs.declared.event.Event.{Event}
use Rattle.daemon_core.specs.declared.event.Event.TheVariants as events
use Rattle.daemon_core.specs.Step.{Stepped, step}
use Rattle.live_stage.specs.Answer.{Answer}
use Rattle.live_stage.specs.Group.{answer_looks}
use Rattle.live_stage.specs.LiveState.{LiveState}
use Rattle.live_stage.proofs.TurnLaws.{found_same}
use Rattle.stage_workers.specs.declared.kind.Kind.{Kind}
use Rattle.stage_workers.specs.declared.refusal.StageError.{StageError}
use Rattle.stage_workers.specs.declared.refusal.StageError.TheVariants.{Broken, NoMemory, Rewound, NumbersSpent}
use Rattle.stage_workers.specs.declared.served.Served.{Served}
use Rattle.stage_workers.specs.declared.served.Way.TheVariants.{Serve}
use Rattle.stage_workers.specs.Entry.{IsCounted, IsEntered, TellsRewound}
use Rattle.stage_workers.specs.LockState.{FindsItsState, LockState}
use Rattle.stage_workers.specs.PassState.{PassState}
use Rattle.stage_workers.specs.Room.{FindsTheSame, is_batch, is_resume}

-- nothing was done
pub none_looked : {D : Type 0} (honest : D → Type 0) (history : D → List Change) (live : LiveState D) → FindsItsState honest history live
    → honest live.a → honest live.b → live.is_broken ≡ false → FindsTheSame history live live
none_looked honest history live kept ha hb usable =
    found_same (history live.a) (history live.b) live.state.machine.saved (kept ha hb usable)

-- an event that tells of room looks at nothing
pub room_looks : (t : Answer) (is_there : Bool) → t.asked ≡ events.Room is_there → answer_looks t ≡ 0
unfolding step
room_looks t is_there asked =
    ap (λ (e : Event). let now : Stepped = step t.before e t.refused_at in now.looks) asked

-- and is counted for its pass
pub room_told : {D D' : Type 0} (honest : D → Type 0) (history : D → List Change) (old new : LockState D) (pass passed : PassState)
    (is_there : Bool) (r : Option (Served D')) → IsEntered honest history Serve old new (events.Room is_there) r
    → IsCounted old new pass passed
    → IfSome r (λ served. (answer_looks served.turn ≡ 0)
    × (passed ≡ record { kind = pass.kind; seen = served.turn.event; share = pass.share + 1 }))
room_told honest history old new pass passed is_there None entered counted = tt
room_told honest history old new pass passed is_there (Some served) entered counted =
    let same = entered.handed_over.0 in
    let one = entered.one_turn in
    let after : Kind → ℕ → ℕ → PassState = λ kind seen share. record { kind = kind; seen = seen; share = share } in (
      room_looks served.turn is_there (ap (λ (t : Answer). t.asked) same ∙ one.asked),
      ap (λ (k : Kind). after k passed.seen passed.share) counted.kind
          ∙ ap (λ (n : ℕ). after pass.kind n passed.share) (counted.seen ∙ sym one.last ∙ sym (ap (λ (t : Answer). t.event) same))
          ∙ ap (λ (n : ℕ). after pass.kind served.turn.event n) counted.share,
    )

-- it is what was told
pub room_asked : {D D' : Type 0} (honest : D → Type 0) (history : D → List Change) (old new : LockState D) (is_there : Bool)
    (r : Option (Served D')) → IsEntered honest history Serve old new (events.Room is_there) r
    → IfSome r (λ served. (told : Bool) × (served.turn.asked ≡ events.Room told))
room_asked honest history old new is_there None entered = tt
room_asked honest history old new is_there (Some served) entered =
    (is_there, ap (λ (t : Answer). t.asked) entered.handed_over.0 ∙ entered.one_turn.asked)

-- an answer is handed over
pub never_none : {D D' : Type 0} (honest : D → Type 0) (history : D → List Change) (old new : LockState D) (event : Event)
    (r : Option (Served D')) → IsEntered honest history Serve old new event r → r ≡ None → ⊥
never_none honest history old new event None entered none = entered.handed_over
never_none honest history old new event (Some served) entered none = cc none

-- a refusal of room tells of no event
pub refuses_unseen : (pass : PassState) (e : StageError) → (e ≡ Broken) ⊎ (e ≡ NumbersSpent) → TellsRewound pass e
refuses_unseen pass Broken is = tt
refuses_unseen pass NoMemory is = tt
refuses_unseen pass (Rewound seen found) (inl is) = absurd (cc is)
refuses_unseen pass (Rewound seen found) (inr is) = absurd (cc is)
refuses_unseen pass NumbersSpent is = tt

-- the event with which a life begins is nothing that a scan found
pub resume_apart : (event : Event) → is_resume event ≡ true → is_batch event ≡ false
resume_apart (events.Resume plays) is = refl
resume_apart _ is = absurd (cc is)
