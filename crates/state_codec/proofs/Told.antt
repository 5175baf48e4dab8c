-- What is told of a deletion and of a move in a playlist.
use Rattle.std.proofs.Common.{◌≡◌, ◌≢◌, ℕ, Bool, true, false, not, ◌==◌, List, Option, Some, None, Result, Ok, Err, refl}
use Rattle.std.proofs.Common.{sym, ap, ◌∙◌}
use Rattle.std.specs.Prelude.{OnOk}
use Rattle.std.specs.Bool.{OnTrue, OnFalse}
use Rattle.play_queue.specs.Refusal.{Answers}
use Rattle.play_queue.specs.Queue.{QueueState}
use Rattle.play_queue.specs.declared.refusal.QueueError.{QueueError}
use Rattle.stored_lists.specs.Lists.{Stored, songs_or_none, move_refusal}
use Rattle.stored_lists.specs.Refusal.{Answers as AnswersLists}
use Rattle.stored_lists.specs.declared.refusal.ListsError.{ListsError}
use Rattle.stored_lists.specs.Songs.{Uris, moved}
use Rattle.state_codec.specs.Editing.{AnswersCheck}
use Rattle.state_codec.specs.OpsLists.{list_refusal, leaves_lists, same_uris}
use Rattle.state_codec.specs.OpsQueue.{queue_refusal, leaves_queue}
use Rattle.state_codec.specs.SavedState.{SavedState}
use Rattle.state_codec.specs.declared.op.list_op.ListOp.{ListOp}
use Rattle.state_codec.specs.declared.op.list_op.ListOp.TheVariants.{Move}
use Rattle.state_codec.specs.declared.op.queue_op.QueueOp.{QueueOp}
use Rattle.state_codec.specs.declared.op.queue_op.QueueOp.TheVariants.{Delete}
use Rattle.state_codec.specs.declared.refusal.OpRefusal.{OpRefusal}
use Rattle.state_codec.proofs.KeptOps.{map_none, range_within}
use Rattle.state_codec.proofs.ListsUnchanged.{uris_same, uris_itself}
use Rattle.state_codec.proofs.Unchanged.{deleted_none}

-- an edit of the queue that isn't refused is made
pub edit_made : (o : Option QueueError) (r : Result (Unit {0}) QueueError) (q edited : QueueState) → o ≡ None → Answers o r
    → OnOk r (q ≡ edited) → q ≡ edited
edit_made None (Ok x) q edited none answer made = made
edit_made None (Err e) q edited none answer made = absurd (cc)
edit_made (Some e) r q edited none answer made = absurd (cc)

-- an edit of the playlists that isn't refused is made
pub lists_made : (o : Option ListsError) (r : Result (Unit {0}) ListsError) (l edited : Stored) → o ≡ None → AnswersLists o r
    → OnOk r (l ≡ edited) → l ≡ edited
lists_made None (Ok x) l edited none answer made = made
lists_made None (Err e) l edited none answer made = absurd (cc)
lists_made (Some e) r l edited none answer made = absurd (cc)

pub deletion_told : (op : QueueOp) (s : SavedState) (start end : ℕ) → op ≡ Delete start end
    → queue_refusal (Delete start end) s ≡ None
    → (start == end) ≡ leaves_queue op s
deletion_told op s start end is none =
    let within = range_within s.queue.entries start end (map_none _ _ none) in
    rw is (sym (deleted_none s.queue.entries start end within.0 within.1))

-- an op that a check passes isn't refused
pub checked_none : {T : Type 0} (o : Option OpRefusal) (x : T) → AnswersCheck o (Ok x) → o ≡ None
checked_none None x answer = refl
checked_none (Some refusal) x answer = absurd (cc)

-- whether songs would stand otherwise, told of equal ones
songs_told : (told : Bool) (new old : Uris) → OnTrue told (new ≢ old) → OnFalse told (new ≡ old) → told ≡ not (same_uris new old)
songs_told true new old changes stays = of (same_uris new old) refl
  where
    of : (b : Bool) → same_uris new old ≡ b → true ≡ not b
    of true same = absurd (changes (uris_same new old same))
    of false other = refl
songs_told false new old changes stays = sym (ap not (ap (λ (l : Uris). same_uris l old) stays ∙ uris_itself old))

pub move_told : (op : ListOp) (s : SavedState) (name text : List ℕ) (from to : ℕ) (told : Bool) → op ≡ Move name from to → text ≡ name
    → (move_refusal s.lists text from to ≡ None → OnTrue told (moved (songs_or_none s.lists text) from to ≢ songs_or_none s.lists text))
    → (move_refusal s.lists text from to ≡ None → OnFalse told (moved (songs_or_none s.lists text) from to ≡ songs_or_none s.lists text))
    → list_refusal (Move text from to) s ≡ None → told ≡ not (leaves_lists op s)
move_told op s name text from to told is same changes stays none =
    let free : move_refusal s.lists text from to ≡ None = map_none _ _ none in
    let songs : Uris = songs_or_none s.lists text in
    let here : told ≡ not (same_uris (moved songs from to) songs) = songs_told told (moved songs from to) songs (changes free) (stays free) in
    rw is (here ∙ ap (λ (n : List ℕ). not (same_uris (moved (songs_or_none s.lists n) from to) (songs_or_none s.lists n))) same)
