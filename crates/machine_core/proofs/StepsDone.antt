-- From the parts of a step that was made to what it means.
use Rattle.std.proofs.Common.{◌≡◌, ℕ, ◌+◌, ◌<◌, ◌≤◌, List, ◌++◌, length, Some, refl, sym, subst, ap, ◌∙◌, arith}
use Rattle.std.specs.Prelude.{Result, Ok, Err, IfOk, IsOkAnd}
use Rattle.std.proofs.lemmas.List.{append-nil}
use Rattle.play_queue.specs.declared.entry.Entry.{Entry}
use Rattle.player_core.specs.Answered.{OnStep}
use Rattle.player_core.specs.Player.{PlayerState, Step}
use Rattle.player_core.specs.Refusal.{AnswersIfMemory, refusal_of}
use Rattle.player_core.specs.declared.changes.Changes.{Changes}
use Rattle.player_core.specs.declared.refusal.PlayerError.{PlayerError}
use Rattle.player_core.specs.declared.settings.PlaySettings.{PlaySettings}
use Rattle.profile.specs.declared.profile.Profile.{Profile}
use Rattle.state_codec.specs.Spelling.{ops_bytes}
use Rattle.std.specs.Vec.{vec_len, vec_capacity}
use Rattle.machine_core.specs.Front.{front_of}
use Rattle.machine_core.specs.Steps.{step_ops, steps, moves}
use Rattle.machine_core.specs.State.{MachineState}
use Rattle.machine_core.specs.Work.{AddsNothing, AddsOps, Admits, CanKeep, HasRoom, Went, command_room}
use Rattle.machine_core.specs.declared.work.Work.{Work}
use Rattle.machine_core.proofs.Playing.Steps.{FairIfMade}

-- a step was made, and its ops were added
pub made_went : (s : Result Step PlayerError) (m n : MachineState) (w a d : Work) (changes : Changes) →
    AnswersIfMemory {T = Changes} (refusal_of s) (Ok changes) →
    IfOk s (λ (made : Step). (changes ≡ made.changes) × (n ≡ (steps made m).after)) →
    AddsNothing w a → a.text ≡ w.text → AddsOps (step_ops changes) (length (ops_bytes m.saved.profile (step_ops changes))) a d →
    d.text ≡ a.text → CanKeep d → HasRoom command_room w → Went m.saved.profile (moves s m) n w d
made_went (Err e) m n w a d changes answer is nothing same ops text can room = absurd (cc)
made_went (Ok made) m n w a d changes answer is nothing same ops text can room = record {
  meaning = steps made m;
  means = refl;
  stands = is.1;
  text = ap front_of (ap (λ t. t.items) (text ∙ same) ∙ sym (append-nil w.text.items));
  ops = record {
    ops = ops.ops ∙ (λ i. nothing.ops i ++ step_ops (is.0 i));
    size = ops.size ∙ (λ i. nothing.size i + length (ops_bytes m.saved.profile (step_ops (is.0 i))));
    fits = ops.fits;
  };
  room = subst (λ t. vec_len t + command_room ≤ vec_capacity t) (sym (text ∙ same)) room;
  keeps = λ could. can;
}

-- the room that was taken for the ops of a step is room for what it changed
pub room_made : (s : Result Step PlayerError) (told : Profile) (m n : MachineState) (a : Work) (changes : Changes) →
    AnswersIfMemory {T = Changes} (refusal_of s) (Ok changes) →
    IfOk s (λ (made : Step). (changes ≡ made.changes) × (n ≡ (steps made m).after)) →
    IfOk s (λ (made : Step). Admits 4 (length (ops_bytes m.saved.profile (step_ops made.changes))) a) → told ≡ m.saved.profile →
    Admits 4 (length (ops_bytes told (step_ops changes))) a
room_made (Err e) told m n a changes answer is admits same = absurd (cc)
room_made (Ok made) told m n a changes answer is admits same =
    subst (λ (p : Profile). Admits 4 (length (ops_bytes p (step_ops changes))) a) (sym same)
    (subst (λ (x : Changes). Admits 4 (length (ops_bytes m.saved.profile (step_ops x))) a) (sym is.0) admits)

-- how many bytes are enough for the ops of a step, and how many they take
pub bytes_enough : (s : Result Step PlayerError) (profile : Profile) (player : PlayerState) (changes : Changes) (bytes : ℕ) →
    IfOk s (λ (made : Step). OnStep made player (Ok changes)) → ((p : Profile) → bytes ≡ length (ops_bytes p (step_ops changes))) →
    IfOk s (λ (made : Step). length (ops_bytes profile (step_ops made.changes)) ≤ bytes)
bytes_enough (Err e) profile player changes bytes on is = tt
bytes_enough (Ok made) profile player changes bytes on is =
    omega (arith, is profile, ap (λ (step : Step). length (ops_bytes profile (step_ops step.changes))) on)

pub bytes_exact : (s : Result Step PlayerError) (profile : Profile) (player : PlayerState) (changes : Changes) (bytes : ℕ) →
    AnswersIfMemory {T = Changes} (refusal_of s) (Ok changes) → IfOk s (λ (made : Step). OnStep made player (Ok changes)) →
    ((p : Profile) → bytes ≡ length (ops_bytes p (step_ops changes))) →
    IsOkAnd s (λ (made : Step). length (ops_bytes profile (step_ops made.changes)) ≡ bytes)
bytes_exact (Err e) profile player changes bytes answer on is = absurd (cc)
bytes_exact (Ok made) profile player changes bytes answer on is =
    sym (is profile ∙ ap (λ (step : Step). length (ops_bytes profile (step_ops step.changes))) on)

-- the entry that leaves by a step stands in the queue
pub leaves_within : (s : Result Step PlayerError) (entries : List Entry) (settings : PlaySettings) (player : PlayerState)
    (changes : Changes) → FairIfMade s entries settings → AnswersIfMemory {T = Changes} (refusal_of s) (Ok changes)
    → IfOk s (λ (made : Step). OnStep made player (Ok changes)) → (at : ℕ) → changes.removed ≡ Some at → at < length entries
leaves_within (Err e) entries settings player changes fair answer on = absurd (cc)
leaves_within (Ok made) entries settings player changes fair answer on = λ at is.
    fair.removed at (sym (ap (λ (step : Step). step.changes.removed) on) ∙ is)
