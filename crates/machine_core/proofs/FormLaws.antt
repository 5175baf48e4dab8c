-- What every command keeps, proved of the shared forms of meanings: its ops rebuild the saved half, it makes none where the saved
-- half stays, and an op of playlists or of stickers stands among them exactly where that part differs.
use Rattle.std.proofs.Common.{◌≡◌, ℕ, Bool, true, false, not, ◌||◌, List, [], ◌∷◌, ◌++◌, refl, sym, ap, ◌∙◌}
use Rattle.std.proofs.Common.{Option, Some, None}
use Rattle.std.specs.List.{list_any}
use Rattle.std.specs.Option.{ok_or}
use Rattle.std.specs.Result.{result_ok}
use Rattle.player_core.specs.Place.{PlaceState}
use Rattle.player_core.specs.Player.{PlayerState}
use Rattle.state_codec.specs.Applied.{refusal_of, changes_nothing, after, after_all, all_applied, applied_from}
use Rattle.state_codec.specs.Applied.{unless_refused as unless_op_refused}
use Rattle.state_codec.specs.Laws.{but_kept, is_batch, is_behind, uses_order}
use Rattle.state_codec.specs.SavedState.{SavedState, IsSavedState}
use Rattle.state_codec.specs.Steps.{◌>>=◌}
use Rattle.state_codec.specs.declared.op.Op.{Op}
use Rattle.state_codec.specs.declared.op.Op.TheVariants.{SetOption, SetVolume, SetOrder, Queue, List as Lists, Sticker, Batch, Place, Timed}
use Rattle.state_codec.specs.declared.op.queue_op.QueueOp.{QueueOp}
use Rattle.state_codec.specs.declared.op.queue_op.QueueOp.TheVariants as queue
use Rattle.state_codec.proofs.OpsUnchanged.{op_apart, op_refused, op_first}
use Rattle.stickers.specs.Sticker.{Sticker as Stuck}
use Rattle.stored_lists.specs.Lists.{Stored}
use Rattle.machine_core.specs.Before.{is_of_lists, is_of_stickers}
use Rattle.machine_core.specs.Changed.{same_lists, same_stickers}
use Rattle.machine_core.specs.Followed.{Following, followed}
use Rattle.machine_core.specs.Meaning.{Meaning, Meant, stands, turns, begins, order_ops, edited, waits}
use Rattle.machine_core.specs.State.{MachineState}
use Rattle.machine_core.specs.declared.job.Job.{Job}
use Rattle.machine_core.specs.declared.job.WaitingJob.{WaitingJob}
use Rattle.machine_core.proofs.CommandForms.{Holds, is_commanded}
use Rattle.machine_core.proofs.OrderSteps.{IsApart, followed_apart, order_stays}
use Rattle.machine_core.proofs.SameParts.{lists_decide, stickers_decide, told_apart, told_same}

-- What the ops of a command tell of a machine that was saved well; nothing of the player's place and the playlists' times alone, which are kept behind them.
pub record TellsChanges (m : MachineState) (x : Meaning) : Type 0 where
  pub none : (t : SavedState) → x.after.saved ≡ but_kept t m.saved → x.ops ≡ []
  pub lists : list_any is_of_lists x.ops ≡ not (same_lists m.saved.lists x.after.saved.lists)
  pub stickers : list_any is_of_stickers x.ops ≡ not (same_stickers m.saved.stickers x.after.saved.stickers)

pub record IsLawful (m : MachineState) (x : Meaning) : Type 0 where
  pub rebuilt : all_applied x.ops m.saved ≡ Some x.after.saved
  pub tells : IsSavedState m.saved → TellsChanges m x
  pub place : x.after.job.number ≡ m.job.number → x.after.job.place ≡ m.job.place
  pub room : x.after.has_room ≡ m.has_room

abbrev pub Lawful : MachineState → Meant → Type 0
Lawful m meant = Holds IsLawful m meant

-- a part that stays tells nothing
pub same_lists_told : (s t : SavedState) → t.lists ≡ s.lists → false ≡ not (same_lists s.lists t.lists)
same_lists_told s t same = sym (told_same s.lists t.lists _ (lists_decide s.lists t.lists) (sym same))

pub same_stickers_told : (s t : SavedState) → t.stickers ≡ s.stickers → false ≡ not (same_stickers s.stickers t.stickers)
same_stickers_told s t same = sym (told_same s.stickers t.stickers _ (stickers_decide s.stickers t.stickers) (sym same))

-- nothing is told where playlists and stickers stay
stays_told : (m : MachineState) (x : Meaning) → x.ops ≡ [] → x.after.saved ≡ m.saved → TellsChanges m x
stays_told m x empty same = record {
  none = λ place e. empty;
  lists = ap (list_any is_of_lists) empty ∙ same_lists_told m.saved x.after.saved (ap (λ (s : SavedState). s.lists) same);
  stickers = ap (list_any is_of_stickers) empty ∙ same_stickers_told m.saved x.after.saved (ap (λ (s : SavedState). s.stickers) same);
}

-- lines alone
pub says_lawful : (text : List ℕ) (m : MachineState) → IsLawful m (stands text m)
says_lawful text m = record { rebuilt = refl; tells = λ kept. stays_told m (stands text m) refl refl; place = λ e. refl; room = refl }

-- the player alone changes
pub turns_lawful : (player : PlayerState) (m : MachineState) → Lawful m (turns player m)
turns_lawful player m = record { rebuilt = refl; tells = λ kept. stays_told m _ refl refl; place = λ e. refl; room = refl }

-- a job begins under a number of its own
pub begins_lawful : (job : Job) (text : List ℕ) (m : MachineState) → (job.number ≡ m.job.number → ⊥) → Lawful m (begins job text m)
begins_lawful job text m own = record { rebuilt = refl; tells = λ kept. stays_told m _ refl refl; place = λ e. absurd (own e); room = refl }

-- a job waits
pub waits_lawful : (job : WaitingJob) (text : List ℕ) (m : MachineState) → Lawful m (waits job text m)
waits_lawful job text m = record { rebuilt = refl; tells = λ kept. stays_told m _ refl refl; place = λ e. refl; room = refl }

-- what an edit does to the saved half
abbrev done : Op → Option ℕ → SavedState → SavedState
done op order s = after_all (order_ops order ++ op ∷ []) s

abbrev with_order : ℕ → SavedState → SavedState
with_order g s = record s { order = g }

applies : (op : Op) (s : SavedState) → refusal_of op s ≡ None → all_applied (op ∷ []) s ≡ Some (after op s)
applies op s free = ap (λ r. result_ok (ok_or (unless_op_refused r (after op s)) 0 >>= λ t. applied_from 1 [] t)) free

applies_behind : (op : Op) (s : SavedState) (g : ℕ) → refusal_of op s ≡ None →
    all_applied (SetOrder g ∷ op ∷ []) s ≡ Some (done op (Some g) s)
applies_behind op s g free =
    ap (λ r. result_ok (ok_or (unless_op_refused r (after op (with_order g s))) 1 >>= λ t. applied_from 2 [] t))
    (op_refused op g s ∙ free)

done_rebuilt : (op : Op) (order : Option ℕ) (s : SavedState) → refusal_of op s ≡ None →
    all_applied (order_ops order ++ op ∷ []) s ≡ Some (done op order s)
done_rebuilt op None s free = applies op s free
done_rebuilt op (Some g) s free = applies_behind op s g free

-- it differs where the op changes something
done_differs : (op : Op) (order : Option ℕ) (place : SavedState) (s : SavedState) → IsApart op order
    → (after op s ≡ but_kept place s → ⊥) → done op order s ≡ but_kept place s → ⊥
done_differs op None place s apart other same = other same
done_differs op (Some g) place s apart other same =
    let free : uses_order op ≡ false = apart g refl in
    let moved : with_order g (after op s) ≡ but_kept place s = sym (op_first op g s free) ∙ same in
    let order : (after op s).order ≡ g = order_stays op s free ∙ sym (ap (λ (t : SavedState). t.order) moved) in
    other (ap (λ (o : ℕ). with_order o (after op s)) order ∙ moved)

-- what commands make of ops
batch_apart : (op : Op) → is_commanded op ≡ true → is_batch op ≡ false
batch_apart (SetOption setting) fits = refl
batch_apart (SetVolume volume) fits = refl
batch_apart (SetOrder g) fits = refl
batch_apart (Queue op) fits = refl
batch_apart (Lists op) fits = refl
batch_apart (Sticker op) fits = refl
batch_apart (Batch changes) fits = absurd (cc)
batch_apart (Place op) fits = refl
batch_apart (Timed seconds) fits = refl

place_apart : (op : Op) → is_commanded op ≡ true → is_behind op ≡ false
place_apart (SetOption setting) fits = refl
place_apart (SetVolume volume) fits = refl
place_apart (SetOrder g) fits = refl
place_apart (Queue op) fits = refl
place_apart (Lists op) fits = refl
place_apart (Sticker op) fits = refl
place_apart (Batch changes) fits = refl
place_apart (Place op) fits = absurd (cc)
place_apart (Timed seconds) fits = absurd (cc)

-- playlists and stickers are those that the op leaves
done_lists : (op : Op) (order : Option ℕ) (s : SavedState) → IsApart op order → (done op order s).lists ≡ (after op s).lists
done_lists op None s apart = refl
done_lists op (Some g) s apart = ap (λ (t : SavedState). t.lists) (op_first op g s (apart g refl))

done_stickers : (op : Op) (order : Option ℕ) (s : SavedState) → IsApart op order → (done op order s).stickers ≡ (after op s).stickers
done_stickers op None s apart = refl
done_stickers op (Some g) s apart = ap (λ (t : SavedState). t.stickers) (op_first op g s (apart g refl))

or_false : (b : Bool) → (b || false) ≡ b
or_false true = refl
or_false false = refl

-- the order is no op of either
told_of : (test : Op → Bool) (op : Op) (order : Option ℕ) → ((g : ℕ) → test (SetOrder g) ≡ false) →
    list_any test (order_ops order ++ op ∷ []) ≡ test op
told_of test op None apart = or_false (test op)
told_of test op (Some g) apart = ap (λ b. b || (test op || false)) (apart g) ∙ or_false (test op)

-- the op tells of playlists
queue_lists_stay : (op : QueueOp) (s : SavedState) → (after (Queue op) s).lists ≡ s.lists
queue_lists_stay (queue.Add at rows) s = refl
queue_lists_stay (queue.Delete start end) s = refl
queue_lists_stay (queue.Move start end to) s = refl
queue_lists_stay (queue.Swap one other) s = refl
queue_lists_stay (queue.Shuffle start end) s = refl
queue_lists_stay (queue.Prio priority ranges) s = refl

queue_stickers_stay : (op : QueueOp) (s : SavedState) → (after (Queue op) s).stickers ≡ s.stickers
queue_stickers_stay (queue.Add at rows) s = refl
queue_stickers_stay (queue.Delete start end) s = refl
queue_stickers_stay (queue.Move start end to) s = refl
queue_stickers_stay (queue.Swap one other) s = refl
queue_stickers_stay (queue.Shuffle start end) s = refl
queue_stickers_stay (queue.Prio priority ranges) s = refl

lists_told : (op : Op) (s : SavedState) → ((t : SavedState) → after op s ≡ but_kept t s → ⊥) → is_of_lists op ≡ not (same_lists s.lists (after op s).lists)
lists_told (SetOption setting) s other = same_lists_told s (after (SetOption setting) s) refl
lists_told (SetVolume volume) s other = same_lists_told s (after (SetVolume volume) s) refl
lists_told (SetOrder g) s other = same_lists_told s (after (SetOrder g) s) refl
lists_told (Queue op) s other = same_lists_told s (after (Queue op) s) (queue_lists_stay op s)
lists_told (Lists op) s other = let t : SavedState = after (Lists op) s in
    sym (told_apart s.lists t.lists _ (lists_decide s.lists t.lists)
    (λ e. other t (ap (λ (l : Stored). record t { lists = l }) (sym e))))
lists_told (Sticker op) s other = same_lists_told s (after (Sticker op) s) refl
lists_told (Batch changes) s other = same_lists_told s (after (Batch changes) s) refl
lists_told (Place op) s other = same_lists_told s (after (Place op) s) refl
lists_told (Timed seconds) s other = same_lists_told s (after (Timed seconds) s) refl

-- the op tells of stickers, unless it is a batch
stickers_told : (op : Op) (s : SavedState) → is_batch op ≡ false → (after op s ≡ s → ⊥) →
    is_of_stickers op ≡ not (same_stickers s.stickers (after op s).stickers)
stickers_told (SetOption setting) s fits other = same_stickers_told s (after (SetOption setting) s) refl
stickers_told (SetVolume volume) s fits other = same_stickers_told s (after (SetVolume volume) s) refl
stickers_told (SetOrder g) s fits other = same_stickers_told s (after (SetOrder g) s) refl
stickers_told (Queue op) s fits other = same_stickers_told s (after (Queue op) s) (queue_stickers_stay op s)
stickers_told (Lists op) s fits other = same_stickers_told s (after (Lists op) s) refl
stickers_told (Sticker op) s fits other = let t : SavedState = after (Sticker op) s in
    sym (told_apart s.stickers t.stickers _ (stickers_decide s.stickers t.stickers)
    (λ e. other (ap (λ (l : List Stuck). record s { stickers = l }) (sym e))))
stickers_told (Batch changes) s fits other = absurd (cc)
stickers_told (Place op) s fits other = same_stickers_told s (after (Place op) s) refl
stickers_told (Timed seconds) s fits other = same_stickers_told s (after (Timed seconds) s) refl

edited_tells : (op : Op) (text : List ℕ) (next : Following) (m : MachineState) → is_commanded op ≡ true → IsApart op next.order →
    refusal_of op m.saved ≡ None → changes_nothing op m.saved ≡ false → IsSavedState m.saved → TellsChanges m (edited op text next m)
edited_tells op text next m fits apart free changes kept =
    let s : SavedState = m.saved in
    let one : is_batch op ≡ false = batch_apart op fits in
    let more : (place : SavedState) → after op s ≡ but_kept place s → ⊥ = λ place same.
    let none : changes_nothing op s ≡ true = op_apart op place s kept free one (place_apart op fits) same in cc in
    let other : after op s ≡ s → ⊥ = λ same. more s same in
    record {
      none = λ place same. absurd (done_differs op next.order place s apart (more place) same);
      lists = told_of is_of_lists op next.order (λ g. refl) ∙ lists_told op s more
          ∙ ap (λ l. not (same_lists s.lists l)) (sym (done_lists op next.order s apart));
      stickers = told_of is_of_stickers op next.order (λ g. refl) ∙ stickers_told op s one other
          ∙ ap (λ l. not (same_stickers s.stickers l)) (sym (done_stickers op next.order s apart));
    }

-- an op that changes something, behind the random order that begins before it
pub edited_lawful : (op : Op) (text : List ℕ) (m : MachineState) → is_commanded op ≡ true → refusal_of op m.saved ≡ None →
    changes_nothing op m.saved ≡ false → IsLawful m (edited op text (followed op m) m)
edited_lawful op text m fits free changes = record {
  rebuilt = done_rebuilt op (followed op m).order m.saved free;
  tells = edited_tells op text (followed op m) m fits (followed_apart op m) free changes;
  place = λ e. refl;
  room = refl;
}
