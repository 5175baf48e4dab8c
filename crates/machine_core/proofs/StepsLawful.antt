-- The steps of the player are lawful: their ops rebuild the saved half, and each changes something.
use Rattle.std.proofs.Common.{◌≡◌, ℕ, ◌+◌, ◌<◌, Bool, true, false, List, [], ◌∷◌, ◌++◌, length}
use Rattle.std.proofs.Common.{refl, sym, ap, ◌∙◌, arith}
use Rattle.std.proofs.Common.{Option, Some, None, Result, Ok, Err, suc}
use Rattle.std.specs.List.{list_any}
use Rattle.std.specs.Option.{option_map}
use Rattle.std.specs.Prelude.{◌&&◌, ◌||◌, nat_lt, if◌then◌else◌}
use Rattle.std.specs.Result.{result_ok}
use Rattle.std.proofs.lemmas.Bool.{le-ltb, false≢true}
use Rattle.std.proofs.lemmas.List.{length-append, length-drop, length-take-le}
use Rattle.play_queue.specs.Entries.{deleted}
use Rattle.play_queue.specs.Queue.{QueueState, is_same, is_unchanged}
use Rattle.play_queue.specs.declared.entry.Entry.{Entry}
use Rattle.play_queue.specs.declared.refusal.QueueError.TheVariants.{BadIndex}
use Rattle.player_core.specs.Place.{PlaceState}
use Rattle.player_core.specs.Player.{PlayerState, Step}
use Rattle.player_core.specs.declared.options.Single.TheVariants.{Off, Oneshot}
use Rattle.player_core.specs.declared.refusal.PlayerError.{PlayerError}
use Rattle.state_codec.specs.Applied.{refusal_of, after, after_all}
use Rattle.state_codec.specs.Laws.{but_kept}
use Rattle.state_codec.specs.OpsQueue.{queue_refusal}
use Rattle.state_codec.specs.SavedState.{SavedState, IsSavedState}
use Rattle.state_codec.specs.declared.op.Op.{Op}
use Rattle.state_codec.specs.declared.op.Op.TheVariants.{SetOption, SetOrder, Queue as OfQueue}
use Rattle.state_codec.specs.declared.op.queue_op.QueueOp.TheVariants.{Delete}
use Rattle.state_codec.specs.declared.op.setting.Setting.TheVariants.{Single, Consume}
use Rattle.state_codec.specs.declared.refusal.OpRefusal.TheVariants.{Queue}
use Rattle.state_codec.proofs.QueueUnchanged.{version_tells}
use Rattle.machine_core.specs.Before.{is_of_lists, is_of_stickers}
use Rattle.machine_core.specs.Meaning.{order_ops}
use Rattle.machine_core.specs.State.{MachineState, settings_of}
use Rattle.machine_core.specs.Steps.{step_ops, removal_ops, single_ops, consume_ops, steps, moves, puts, step_in}
use Rattle.machine_core.specs.declared.steps.PlayerStep.{PlayerStep}
use Rattle.machine_core.proofs.FormLaws.{TellsChanges, IsLawful, Lawful, same_lists_told, same_stickers_told, turns_lawful}
use Rattle.machine_core.proofs.InTurn.{AreFree, all_apply}
use Rattle.machine_core.proofs.Playing.Steps.{IsFair, FairIfMade, next_is_other, step_fair}

removal_free : (at : ℕ) (s : SavedState) → at < length s.queue.entries → queue_refusal (Delete at (at + 1)) s ≡ None
removal_free at s within =
    let low : nat_lt (at + 1) at ≡ false = le-ltb (at + 1) at (omega arith) in
    let high : nat_lt (length s.queue.entries) (at + 1) ≡ false = le-ltb (length s.queue.entries) (at + 1) (omega (arith, within)) in
    (λ i. option_map Queue (if low i || high i then Some BadIndex else None))

options_free : (single consume : Bool) (s : SavedState) → AreFree (single_ops single ++ consume_ops consume) s
options_free true true s = (refl, (refl, tt))
options_free true false s = (refl, tt)
options_free false true s = (refl, tt)
options_free false false s = tt

behind_free : (removed : Option ℕ) (single consume : Bool) (s : SavedState) →
    ((at : ℕ) → removed ≡ Some at → at < length s.queue.entries) →
    AreFree (removal_ops removed ++ (single_ops single ++ consume_ops consume)) s
behind_free None single consume s within = options_free single consume s
behind_free (Some at) single consume s within =
    (removal_free at s (within at refl), options_free single consume (after (OfQueue (Delete at (at + 1))) s))

step_free : (order removed : Option ℕ) (single consume : Bool) (s : SavedState) →
    ((at : ℕ) → removed ≡ Some at → at < length s.queue.entries) →
    AreFree (order_ops order ++ (removal_ops removed ++ (single_ops single ++ consume_ops consume))) s
step_free None removed single consume s within = behind_free removed single consume s within
step_free (Some g) removed single consume s within = (refl, behind_free removed single consume (after (SetOrder g) s) within)

-- the state after the options have turned off, after the entry has left before that, and after the whole step
abbrev turned : Bool → Bool → SavedState → SavedState
turned single consume s = after_all (single_ops single ++ consume_ops consume) s

abbrev left : Option ℕ → Bool → Bool → SavedState → SavedState
left removed single consume s = after_all (removal_ops removed ++ (single_ops single ++ consume_ops consume)) s

abbrev done : Option ℕ → Option ℕ → Bool → Bool → SavedState → SavedState
done order removed single consume s =
    after_all (order_ops order ++ (removal_ops removed ++ (single_ops single ++ consume_ops consume))) s

-- playlists and stickers stay
turned_lists : (single consume : Bool) (s : SavedState) → (turned single consume s).lists ≡ s.lists
turned_lists true true s = refl
turned_lists true false s = refl
turned_lists false true s = refl
turned_lists false false s = refl

left_lists : (removed : Option ℕ) (single consume : Bool) (s : SavedState) → (left removed single consume s).lists ≡ s.lists
left_lists None single consume s = turned_lists single consume s
left_lists (Some at) single consume s = turned_lists single consume (after (OfQueue (Delete at (at + 1))) s)

lists_stay : (order removed : Option ℕ) (single consume : Bool) (s : SavedState) → (done order removed single consume s).lists ≡ s.lists
lists_stay None removed single consume s = left_lists removed single consume s
lists_stay (Some g) removed single consume s = left_lists removed single consume (after (SetOrder g) s)

turned_stickers : (single consume : Bool) (s : SavedState) → (turned single consume s).stickers ≡ s.stickers
turned_stickers true true s = refl
turned_stickers true false s = refl
turned_stickers false true s = refl
turned_stickers false false s = refl

left_stickers : (removed : Option ℕ) (single consume : Bool) (s : SavedState) → (left removed single consume s).stickers ≡ s.stickers
left_stickers None single consume s = turned_stickers single consume s
left_stickers (Some at) single consume s = turned_stickers single consume (after (OfQueue (Delete at (at + 1))) s)

stickers_stay : (order removed : Option ℕ) (single consume : Bool) (s : SavedState) →
    (done order removed single consume s).stickers ≡ s.stickers
stickers_stay None removed single consume s = left_stickers removed single consume s
stickers_stay (Some g) removed single consume s = left_stickers removed single consume (after (SetOrder g) s)

-- no op is one of playlists or of stickers
turned_told : (test : Op → Bool) (single consume : Bool) → test (SetOption (Single Off)) ≡ false →
    test (SetOption (Consume Off)) ≡ false → list_any test (single_ops single ++ consume_ops consume) ≡ false
turned_told test true true s c = λ i. s i || (c i || false)
turned_told test true false s c = λ i. s i || false
turned_told test false true s c = λ i. c i || false
turned_told test false false s c = refl

left_told : (test : Op → Bool) (removed : Option ℕ) (single consume : Bool) →
    ((at : ℕ) → test (OfQueue (Delete at (at + 1))) ≡ false) → list_any test (single_ops single ++ consume_ops consume) ≡ false →
    list_any test (removal_ops removed ++ (single_ops single ++ consume_ops consume)) ≡ false
left_told test None single consume r behind = behind
left_told test (Some at) single consume r behind = λ i. r at i || behind i

none_told : (test : Op → Bool) (order removed : Option ℕ) (single consume : Bool) → ((g : ℕ) → test (SetOrder g) ≡ false) →
    list_any test (removal_ops removed ++ (single_ops single ++ consume_ops consume)) ≡ false →
    list_any test (order_ops order ++ (removal_ops removed ++ (single_ops single ++ consume_ops consume))) ≡ false
none_told test None removed single consume o behind = behind
none_told test (Some g) removed single consume o behind = λ i. o g i || behind i

no_list_op : (order removed : Option ℕ) (single consume : Bool) →
    list_any is_of_lists (order_ops order ++ (removal_ops removed ++ (single_ops single ++ consume_ops consume))) ≡ false
no_list_op order removed single consume =
    none_told is_of_lists order removed single consume (λ g. refl)
    (left_told is_of_lists removed single consume (λ at. refl) (turned_told is_of_lists single consume refl refl))

no_sticker_op : (order removed : Option ℕ) (single consume : Bool) →
    list_any is_of_stickers (order_ops order ++ (removal_ops removed ++ (single_ops single ++ consume_ops consume))) ≡ false
no_sticker_op order removed single consume =
    none_told is_of_stickers order removed single consume (λ g. refl)
    (left_told is_of_stickers removed single consume (λ at. refl) (turned_told is_of_stickers single consume refl refl))

-- the queue without an entry is another one
unchanged_length : (a b : List Entry) → is_unchanged [] a b ≡ true → length a ≡ length b
unchanged_length [] [] same = refl
unchanged_length [] (y ∷ b) same = absurd (false≢true same)
unchanged_length (x ∷ a) [] same = absurd (false≢true same)
unchanged_length (x ∷ a) (y ∷ b) same = of (is_same [] x y) (is_unchanged [] a b) (λ rest. unchanged_length a b rest) same where
  of : (t u : Bool) → (u ≡ true → length a ≡ length b) → (t && u) ≡ true → suc (length a) ≡ suc (length b)
  of true u below rest = ap suc (below rest)
  of false u below rest = absurd (false≢true rest)

deleted_length : (at : ℕ) (entries : List Entry) → at < length entries → length (deleted entries at (at + 1)) + 1 ≡ length entries
deleted_length at entries within =
    simp (length-append, length-drop) (omega (arith, length-take-le at entries (omega arith)))

removal_differs : (at : ℕ) (s : SavedState) → IsSavedState s → at < length s.queue.entries →
    (after (OfQueue (Delete at (at + 1))) s).queue ≡ s.queue → ⊥
removal_differs at s kept within same =
    let entries : List Entry = s.queue.entries in
    let unchanged : is_unchanged [] entries (deleted entries at (at + 1)) ≡ true =
    version_tells s.queue (deleted entries at (at + 1)) [] (ap (λ (q : QueueState). q.version) same) in
    let equal : length entries ≡ length (deleted entries at (at + 1)) = unchanged_length entries _ unchanged in
    absurd (omega (arith, equal, deleted_length at entries within))

turned_queue : (single consume : Bool) (s : SavedState) → (turned single consume s).queue ≡ s.queue
turned_queue true true s = refl
turned_queue true false s = refl
turned_queue false true s = refl
turned_queue false false s = refl

queue_of_removal : (order : Option ℕ) (at : ℕ) (single consume : Bool) (s : SavedState) →
    (done order (Some at) single consume s).queue ≡ (after (OfQueue (Delete at (at + 1))) s).queue
queue_of_removal None at single consume s = turned_queue single consume (after (OfQueue (Delete at (at + 1))) s)
queue_of_removal (Some g) at single consume s = turned_queue single consume (after (OfQueue (Delete at (at + 1))) (after (SetOrder g) s))

-- each option that turned off is off
single_of_turn : (order : Option ℕ) (consume : Bool) (s : SavedState) → (done order None true consume s).options.single ≡ Off
single_of_turn None true s = refl
single_of_turn None false s = refl
single_of_turn (Some g) true s = refl
single_of_turn (Some g) false s = refl

consume_of_turn : (order : Option ℕ) (s : SavedState) → (done order None false true s).options.consume ≡ Off
consume_of_turn None s = refl
consume_of_turn (Some g) s = refl

none_if_same : (order removed : Option ℕ) (single consume : Bool) (s : SavedState) → IsSavedState s →
    ((g : ℕ) → order ≡ Some g → g ≡ s.order → ⊥) → ((at : ℕ) → removed ≡ Some at → at < length s.queue.entries) →
    (single ≡ true → s.options.single ≡ Oneshot) → (consume ≡ true → s.options.consume ≡ Oneshot) →
    (place : SavedState) → done order removed single consume s ≡ but_kept place s →
    order_ops order ++ (removal_ops removed ++ (single_ops single ++ consume_ops consume)) ≡ []
none_if_same order (Some at) single consume s kept grows within once too place same =
    absurd (removal_differs at s kept (within at refl)
    (sym (queue_of_removal order at single consume s) ∙ ap (λ (t : SavedState). t.queue) same))
none_if_same order None true consume s kept grows within once too place same =
    let turned : Off ≡ Oneshot =
    sym (single_of_turn order consume s) ∙ ap (λ (t : SavedState). t.options.single) same ∙ once refl in
    absurd (cc)
none_if_same order None false true s kept grows within once too place same =
    let turned : Off ≡ Oneshot = sym (consume_of_turn order s) ∙ ap (λ (t : SavedState). t.options.consume) same ∙ too refl in
    absurd (cc)
none_if_same (Some g) None false false s kept grows within once too place same =
    absurd (grows g refl (ap (λ (t : SavedState). t.order) same))
none_if_same None None false false s kept grows within once too place same = refl

step_tells : (made : Step) (m : MachineState) → IsFair made m.saved.queue.entries (settings_of m.saved) → IsSavedState m.saved →
    TellsChanges m (steps made m)
step_tells made m fair kept =
    let order : Option ℕ = made.changes.order in
    let removed : Option ℕ = made.changes.removed in
    let single : Bool = made.changes.single_off in
    let consume : Bool = made.changes.consume_off in
    let s : SavedState = m.saved in
    record {
      none = none_if_same order removed single consume s kept
          (λ g begins same. next_is_other s.order (sym (fair.order g begins) ∙ same)) fair.removed fair.single fair.consume;
      lists = no_list_op order removed single consume
          ∙ same_lists_told s (done order removed single consume s) (lists_stay order removed single consume s);
      stickers = no_sticker_op order removed single consume
          ∙ same_stickers_told s (done order removed single consume s) (stickers_stay order removed single consume s);
    }

pub steps_lawful : (made : Step) (m : MachineState) → IsFair made m.saved.queue.entries (settings_of m.saved) → IsLawful m (steps made m)
steps_lawful made m fair = record {
  rebuilt = ap result_ok (all_apply 0 (step_ops made.changes) m.saved
      (step_free made.changes.order made.changes.removed made.changes.single_off made.changes.consume_off m.saved fair.removed));
  tells = step_tells made m fair;
  place = λ e. refl;
  room = refl;
}

fair_lawful : (made : Result Step PlayerError) (m : MachineState) → FairIfMade made m.saved.queue.entries (settings_of m.saved) →
    Lawful m (moves made m)
fair_lawful (Ok made) m fair = steps_lawful made m fair
fair_lawful (Err refusal) m fair = tt

-- each command that makes a step is lawful
pub moves_lawful : (step : PlayerStep) (m : MachineState) → Lawful m (moves (step_in step m) m)
moves_lawful step m = fair_lawful (step_in step m) m (step_fair step m.saved.queue.entries (settings_of m.saved) m.player)

-- and each that changes the player alone
pub puts_lawful : (player : Result PlayerState PlayerError) (m : MachineState) → Lawful m (puts player m)
puts_lawful (Ok player) m = turns_lawful player m
puts_lawful (Err refusal) m = tt
