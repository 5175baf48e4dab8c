-- The laws of ops: what changes nothing, which parts change, and what the order number has to do with it.
use Rattle.std.proofs.Common.{◌≡◌, ℕ, ◌↔◌, Bool, true, false, not, List, Option, None, refl, sym, ap, ◌∙◌}
use Rattle.std.proofs.lemmas.Bool.{eqb-true, eq-eqb}
use Rattle.player_core.specs.Place.{PlaceState}
use Rattle.player_core.specs.declared.options.Options.{Options}
use Rattle.player_core.specs.declared.options.Single.{Single as SingleMode}
use Rattle.player_core.specs.declared.options.Single.TheVariants.{Off, On, Oneshot}
use Rattle.play_queue.specs.Queue.{QueueState}
use Rattle.stored_lists.specs.Times.{Times}
use Rattle.stickers.specs.Sticker.{Sticker as Stuck}
use Rattle.state_codec.specs.Applied.{refusal_of, after, changes_nothing}
use Rattle.state_codec.specs.Laws.{but_kept, is_batch, is_behind, with_queue_of, with_parts_of, uses_order}
use Rattle.state_codec.specs.OpsLists.{list_refusal, leaves_lists, after_list}
use Rattle.state_codec.specs.OpsQueue.{queue_refusal, leaves_queue, after_queue}
use Rattle.state_codec.specs.OpsSettings.{with_setting, same_flag, same_single, is_set}
use Rattle.state_codec.specs.OpsStickers.{sticker_refusal, leaves_stickers}
use Rattle.state_codec.specs.OpsTimes.{list_times}
use Rattle.state_codec.specs.SavedState.{SavedState, IsSavedState}
use Rattle.state_codec.specs.declared.op.Op.{Op}
use Rattle.state_codec.specs.declared.op.Op.TheVariants.{SetOption, SetVolume, SetOrder, Queue, List as Lists, Sticker, Batch, Place, Timed}
use Rattle.state_codec.specs.declared.op.setting.Setting.{Setting}
use Rattle.state_codec.specs.declared.op.setting.Setting.TheVariants.{Repeat, Random, Single, Consume}
use Rattle.state_codec.specs.declared.op.queue_op.QueueOp.{QueueOp}
use Rattle.state_codec.specs.declared.op.queue_op.QueueOp.TheVariants as queue
use Rattle.state_codec.specs.declared.op.list_op.ListOp.{ListOp}
use Rattle.state_codec.specs.declared.op.list_op.ListOp.TheVariants as lists
use Rattle.state_codec.specs.declared.op.sticker_op.StickerOp.{StickerOp}
use Rattle.state_codec.specs.declared.op.sticker_op.StickerOp.TheVariants as stickers
use Rattle.state_codec.proofs.PlaceLaws.{place_only, place_stays}
use Rattle.state_codec.proofs.TimeLaws.{times_only, times_stay}
use Rattle.state_codec.proofs.QueueUnchanged.{queue_apart, queue_stays, queue_only, queue_version}
use Rattle.state_codec.proofs.ListsUnchanged.{lists_stay, lists_only}
use Rattle.state_codec.proofs.StickersUnchanged.{stickers_stay, stickers_only}
use Rattle.state_codec.proofs.RowsUnchanged.{batch_stays, batch_version}

flag_is : (a b : Bool) → same_flag a b ≡ true → b ≡ a
flag_is true b same = same
flag_is false true same = absurd (cc)
flag_is false false same = refl

flag_itself : (a b : Bool) → b ≡ a → same_flag a b ≡ true
flag_itself true b same = same
flag_itself false b same = ap not same

single_is : (a b : SingleMode) → same_single a b ≡ true → b ≡ a
single_is Off Off same = refl
single_is Off On same = absurd (cc)
single_is Off Oneshot same = absurd (cc)
single_is On Off same = absurd (cc)
single_is On On same = refl
single_is On Oneshot same = absurd (cc)
single_is Oneshot Off same = absurd (cc)
single_is Oneshot On same = absurd (cc)
single_is Oneshot Oneshot same = refl

single_itself : (a : SingleMode) → same_single a a ≡ true
single_itself Off = refl
single_itself On = refl
single_itself Oneshot = refl

setting_stays : (setting : Setting) (options : Options) → is_set setting options ≡ true → with_setting setting options ≡ options
setting_stays (Repeat on) options same = ap (λ (b : Bool). record options { repeat = b }) (sym (flag_is on options.repeat same))
setting_stays (Random on) options same = ap (λ (b : Bool). record options { random = b }) (sym (flag_is on options.random same))
setting_stays (Single mode) options same = ap (λ (m : SingleMode). record options { single = m }) (sym (single_is mode options.single same))
setting_stays (Consume mode) options same =
    ap (λ (m : SingleMode). record options { consume = m }) (sym (single_is mode options.consume same))

setting_only : (setting : Setting) (options : Options) → with_setting setting options ≡ options → is_set setting options ≡ true
setting_only (Repeat on) options same = flag_itself on options.repeat (sym (ap (λ (o : Options). o.repeat) same))
setting_only (Random on) options same = flag_itself on options.random (sym (ap (λ (o : Options). o.random) same))
setting_only (Single mode) options same =
    ap (same_single mode) (sym (ap (λ (o : Options). o.single) same)) ∙ single_itself mode
setting_only (Consume mode) options same =
    ap (same_single mode) (sym (ap (λ (o : Options). o.consume) same)) ∙ single_itself mode

pub op_stays : (op : Op) (s : SavedState) → IsSavedState s → refusal_of op s ≡ None → changes_nothing op s ≡ true → after op s ≡ s
op_stays (SetOption setting) s saved none same =
    ap (λ (o : Options). record s { options = o }) (setting_stays setting s.options same)
op_stays (SetVolume volume) s saved none same = ap (λ (n : ℕ). record s { volume = n }) (eqb-true volume s.volume same)
op_stays (SetOrder order) s saved none same = ap (λ (n : ℕ). record s { order = n }) (eqb-true order s.order same)
op_stays (Queue op) s saved none same = queue_stays op s none same
op_stays (Lists op) s saved none same =
    λ i. record s { lists = lists_stay op s none same i; changed = list_times (same i) op s.changed }
op_stays (Sticker op) s saved none same = ap (λ (l : List Stuck). record s { stickers = l }) (stickers_stay op s saved same)
op_stays (Batch changes) s saved none same = batch_stays changes s saved same
op_stays (Place op) s saved none same = ap (λ (p : Option PlaceState). record s { place = p })
    (place_stays op s.profile s.place saved.place same)
op_stays (Timed seconds) s saved none same = ap (λ (times : Option Times). record s { changed = times }) (times_stay seconds s.changed same)

pub op_only : (op : Op) (s : SavedState) → IsSavedState s → refusal_of op s ≡ None → is_batch op ≡ false → after op s ≡ s
    → changes_nothing op s ≡ true
op_only (SetOption setting) s saved none one same = setting_only setting s.options (ap (λ (t : SavedState). t.options) same)
op_only (SetVolume volume) s saved none one same = eq-eqb volume s.volume (ap (λ (t : SavedState). t.volume) same)
op_only (SetOrder order) s saved none one same = eq-eqb order s.order (ap (λ (t : SavedState). t.order) same)
op_only (Queue op) s saved none one same = queue_only op s none same
op_only (Lists op) s saved none one same = lists_only op s none (ap (λ (t : SavedState). t.lists) same)
op_only (Sticker op) s saved none one same = stickers_only op s saved none (ap (λ (t : SavedState). t.stickers) same)
op_only (Batch changes) s saved none one same = absurd (cc)
op_only (Place op) s saved none one same = place_only op s.place (ap (λ (t : SavedState). t.place) same)
op_only (Timed seconds) s saved none one same = times_only seconds s.changed (ap (λ (t : SavedState). t.changed) same)

-- an op other than those of the place and of a time that changes anything changes more than place and times
pub op_apart : (op : Op) (other : SavedState) (s : SavedState) → IsSavedState s → refusal_of op s ≡ None → is_batch op ≡ false
    → is_behind op ≡ false → after op s ≡ but_kept other s → changes_nothing op s ≡ true
op_apart (SetOption setting) other s saved none one far same = setting_only setting s.options (ap (λ (t : SavedState). t.options) same)
op_apart (SetVolume volume) other s saved none one far same = eq-eqb volume s.volume (ap (λ (t : SavedState). t.volume) same)
op_apart (SetOrder order) other s saved none one far same = eq-eqb order s.order (ap (λ (t : SavedState). t.order) same)
op_apart (Queue op) other s saved none one far same = queue_apart op other s none same
op_apart (Lists op) other s saved none one far same = lists_only op s none (ap (λ (t : SavedState). t.lists) same)
op_apart (Sticker op) other s saved none one far same = stickers_only op s saved none (ap (λ (t : SavedState). t.stickers) same)
op_apart (Batch changes) other s saved none one far same = absurd (cc)
op_apart (Place op) other s saved none one far same = absurd (cc)
op_apart (Timed seconds) other s saved none one far same = absurd (cc)

queue_alone : (op : QueueOp) (s : SavedState) → after_queue op s ≡ with_queue_of op s (after_queue op s)
queue_alone (queue.Add at rows) s = refl
queue_alone (queue.Delete start end) s = refl
queue_alone (queue.Move start end to) s = refl
queue_alone (queue.Swap one other) s = refl
queue_alone (queue.Shuffle start end) s = refl
queue_alone (queue.Prio priority ranges) s = refl

pub op_alone : (op : Op) (s : SavedState) → after op s ≡ with_parts_of op s (after op s)
op_alone (SetOption setting) s = refl
op_alone (SetVolume volume) s = refl
op_alone (SetOrder order) s = refl
op_alone (Queue op) s = queue_alone op s
op_alone (Lists op) s = refl
op_alone (Sticker op) s = refl
op_alone (Batch changes) s = refl
op_alone (Place op) s = refl
op_alone (Timed seconds) s = refl

same_both : (q : QueueState) → (q.version ≡ q.version) ↔ (q ≡ q)
same_both q = (λ same. refl, λ same. refl)

pub op_version : (op : Op) (s : SavedState) → ((after op s).queue.version ≡ s.queue.version) ↔ ((after op s).queue ≡ s.queue)
op_version (SetOption setting) s = same_both s.queue
op_version (SetVolume volume) s = same_both s.queue
op_version (SetOrder order) s = same_both s.queue
op_version (Queue op) s = queue_version op s
op_version (Lists op) s = same_both s.queue
op_version (Sticker op) s = same_both s.queue
op_version (Batch changes) s = batch_version changes s
op_version (Place op) s = same_both s.queue
op_version (Timed seconds) s = same_both s.queue

abbrev ordered : ℕ → SavedState → SavedState
ordered order s = record s { order = order }

queue_refused : (op : QueueOp) (order : ℕ) (s : SavedState) → queue_refusal op (ordered order s) ≡ queue_refusal op s
queue_refused (queue.Add at rows) order s = refl
queue_refused (queue.Delete start end) order s = refl
queue_refused (queue.Move start end to) order s = refl
queue_refused (queue.Swap one other) order s = refl
queue_refused (queue.Shuffle start end) order s = refl
queue_refused (queue.Prio priority ranges) order s = refl

list_refused : (op : ListOp) (order : ℕ) (s : SavedState) → list_refusal op (ordered order s) ≡ list_refusal op s
list_refused (lists.Save name) order s = refl
list_refused (lists.Add name rows) order s = refl
list_refused (lists.Remove name start end) order s = refl
list_refused (lists.Move name from to) order s = refl
list_refused (lists.Clear name) order s = refl
list_refused (lists.Rename from to) order s = refl
list_refused (lists.Drop name) order s = refl

sticker_refused : (op : StickerOp) (order : ℕ) (s : SavedState) → sticker_refusal op (ordered order s) ≡ sticker_refusal op s
sticker_refused (stickers.Set uri name value) order s = refl
sticker_refused (stickers.Delete uri name) order s = refl
sticker_refused (stickers.DeleteAll uri) order s = refl

pub op_refused : (op : Op) (order : ℕ) (s : SavedState) → refusal_of op (ordered order s) ≡ refusal_of op s
op_refused (SetOption setting) order s = refl
op_refused (SetVolume volume) order s = refl
op_refused (SetOrder other) order s = refl
op_refused (Queue op) order s = queue_refused op order s
op_refused (Lists op) order s = list_refused op order s
op_refused (Sticker op) order s = sticker_refused op order s
op_refused (Batch changes) order s = refl
op_refused (Place op) order s = refl
op_refused (Timed seconds) order s = refl

queue_nothing : (op : QueueOp) (order : ℕ) (s : SavedState) → leaves_queue op (ordered order s) ≡ leaves_queue op s
queue_nothing (queue.Add at rows) order s = refl
queue_nothing (queue.Delete start end) order s = refl
queue_nothing (queue.Move start end to) order s = refl
queue_nothing (queue.Swap one other) order s = refl
queue_nothing (queue.Shuffle start end) order s = refl
queue_nothing (queue.Prio priority ranges) order s = refl

list_nothing : (op : ListOp) (order : ℕ) (s : SavedState) → leaves_lists op (ordered order s) ≡ leaves_lists op s
list_nothing (lists.Save name) order s = refl
list_nothing (lists.Add name rows) order s = refl
list_nothing (lists.Remove name start end) order s = refl
list_nothing (lists.Move name from to) order s = refl
list_nothing (lists.Clear name) order s = refl
list_nothing (lists.Rename from to) order s = refl
list_nothing (lists.Drop name) order s = refl

sticker_nothing : (op : StickerOp) (order : ℕ) (s : SavedState) → leaves_stickers op (ordered order s) ≡ leaves_stickers op s
sticker_nothing (stickers.Set uri name value) order s = refl
sticker_nothing (stickers.Delete uri name) order s = refl
sticker_nothing (stickers.DeleteAll uri) order s = refl

pub op_nothing : (op : Op) (order : ℕ) (s : SavedState) → uses_order op ≡ false
    → changes_nothing op (ordered order s) ≡ changes_nothing op s
op_nothing (SetOption setting) order s apart = refl
op_nothing (SetVolume volume) order s apart = refl
op_nothing (SetOrder other) order s apart = absurd (cc)
op_nothing (Queue op) order s apart = queue_nothing op order s
op_nothing (Lists op) order s apart = list_nothing op order s
op_nothing (Sticker op) order s apart = sticker_nothing op order s
op_nothing (Batch changes) order s apart = refl
op_nothing (Place op) order s apart = refl
op_nothing (Timed seconds) order s apart = refl

queue_first : (op : QueueOp) (order : ℕ) (s : SavedState) → uses_order (Queue op) ≡ false
    → after_queue op (ordered order s) ≡ ordered order (after_queue op s)
queue_first (queue.Add at rows) order s apart = refl
queue_first (queue.Delete start end) order s apart = refl
queue_first (queue.Move start end to) order s apart = refl
queue_first (queue.Swap one other) order s apart = refl
queue_first (queue.Shuffle start end) order s apart = absurd (cc)
queue_first (queue.Prio priority ranges) order s apart = refl

list_first : (op : ListOp) (order : ℕ) (s : SavedState) → after_list op (ordered order s) ≡ ordered order (after_list op s)
list_first (lists.Save name) order s = refl
list_first (lists.Add name rows) order s = refl
list_first (lists.Remove name start end) order s = refl
list_first (lists.Move name from to) order s = refl
list_first (lists.Clear name) order s = refl
list_first (lists.Rename from to) order s = refl
list_first (lists.Drop name) order s = refl

pub op_first : (op : Op) (order : ℕ) (s : SavedState) → uses_order op ≡ false → after op (ordered order s) ≡ ordered order (after op s)
op_first (SetOption setting) order s apart = refl
op_first (SetVolume volume) order s apart = refl
op_first (SetOrder other) order s apart = absurd (cc)
op_first (Queue op) order s apart = queue_first op order s apart
op_first (Lists op) order s apart = list_first op order s
op_first (Sticker op) order s apart = refl
op_first (Batch changes) order s apart = refl
op_first (Place op) order s apart = refl
op_first (Timed seconds) order s apart = refl
