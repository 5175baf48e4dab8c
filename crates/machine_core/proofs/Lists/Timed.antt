-- Songs of a playlist that move, and its time: the ops of the songs leave it as one change does.
use Rattle.std.proofs.Common.{◌≡◌, ℕ, zero, suc, ◌+◌, ◌-◌, ◌<◌, Bool, true, false, ◌==◌, ◌&&◌, nat_lt, List, [], ◌∷◌, length, is_some, Option, Some}
use Rattle.std.proofs.Common.{None, refl, sym, ap, ◌∙◌, ◌⊎◌, inl, inr, arith}
use Rattle.std.proofs.lemmas.Bool.{false≢true, ne_eqb}
use Rattle.std.specs.Option.{option_map, option_or}
use Rattle.std.specs.Prelude.{if◌then◌else◌}
use Rattle.state_codec.proofs.ListsUnchanged.{lists_stay}
use Rattle.state_codec.specs.Applied.{after, after_all, refusal_of}
use Rattle.state_codec.specs.OpsLists.{leaves_lists, list_refusal, lists_after, lists_edited}
use Rattle.state_codec.specs.OpsTimes.{list_times, times_after, untimed}
use Rattle.state_codec.specs.SavedState.{SavedState}
use Rattle.state_codec.specs.declared.op.Op.TheVariants.{List as Lists}
use Rattle.state_codec.specs.declared.op.list_op.ListOp.{ListOp}
use Rattle.state_codec.specs.declared.op.list_op.ListOp.TheVariants.{Save, Add, Remove, Move, Clear, Rename, Drop}
use Rattle.stored_lists.proofs.Timed.{put_again}
use Rattle.stored_lists.specs.Lists.{Stored, songs_of}
use Rattle.stored_lists.specs.Times.{Times, with_time}
use Rattle.machine_core.specs.Changed.{same_lists}
use Rattle.machine_core.specs.ListMoves.{block_moves, of_lists, song_moves}
use Rattle.machine_core.specs.ListMovesLeft.{all_edited}
use Rattle.machine_core.specs.Meaning.{refusal_of_all}
use Rattle.machine_core.specs.Spans.{count_of}
use Rattle.machine_core.specs.State.{MachineState, shown_of}
use Rattle.machine_core.specs.declared.span.Span.{Span}
use Rattle.machine_core.proofs.Lists.Left.{one_free_then}
use Rattle.machine_core.proofs.SameParts.{lists_decide}

-- ---- what refuses an op of playlists, and what it makes of them, doesn't hang on the times

abbrev timed_by : Option Times → SavedState → SavedState
timed_by times s = record s { changed = times }

abbrev times_by : ListOp → SavedState → Option Times
times_by op s = list_times (leaves_lists op s) op s.changed

refusal_apart : (op : ListOp) (times : Option Times) (s : SavedState) → list_refusal op (timed_by times s) ≡ list_refusal op s
refusal_apart (Save name) times s = refl
refusal_apart (Add name rows) times s = refl
refusal_apart (Remove name start end) times s = refl
refusal_apart (Move name from to) times s = refl
refusal_apart (Clear name) times s = refl
refusal_apart (Rename from to) times s = refl
refusal_apart (Drop name) times s = refl

lists_apart : (op : ListOp) (times : Option Times) (s : SavedState) → lists_after op (timed_by times s) ≡ lists_after op s
lists_apart (Save name) times s = refl
lists_apart (Add name rows) times s = refl
lists_apart (Remove name start end) times s = refl
lists_apart (Move name from to) times s = refl
lists_apart (Clear name) times s = refl
lists_apart (Rename from to) times s = refl
lists_apart (Drop name) times s = refl

pub refusals_apart : (ops : List ListOp) (times : Option Times) (s : SavedState)
    → refusal_of_all (of_lists ops) (timed_by times s) ≡ refusal_of_all (of_lists ops) s
refusals_apart [] times s = refl
refusals_apart (op ∷ ops) times s =
    let edited : SavedState = lists_edited op s in
    let there : after (Lists op) (timed_by times s) ≡ timed_by (times_by op (timed_by times s)) edited =
    ap (λ (l : Stored). record s { lists = l; changed = times_by op (timed_by times s) }) (lists_apart op times s) in
    let rest : refusal_of_all (of_lists ops) (after (Lists op) (timed_by times s)) ≡ refusal_of_all (of_lists ops) (after (Lists op) s) =
    ap (refusal_of_all (of_lists ops)) there ∙ refusals_apart ops (times_by op (timed_by times s)) edited
    ∙ sym (refusals_apart ops (times_by op s) edited) in
    λ i. option_or (refusal_apart op times s i) (rest i)

edited_apart : (ops : List ListOp) (times : Option Times) (s : SavedState)
    → all_edited ops (timed_by times s) ≡ timed_by times (all_edited ops s)
edited_apart [] times s = refl
edited_apart (op ∷ ops) times s =
    ap (λ (l : Stored). all_edited ops (record s { lists = l; changed = times })) (lists_apart op times s)
    ∙ edited_apart ops times (lists_edited op s)

pub edited_keeps : (ops : List ListOp) (s : SavedState) → (all_edited ops s).changed ≡ s.changed
edited_keeps [] s = refl
edited_keeps (op ∷ ops) s = edited_keeps ops (lists_edited op s)

-- the playlists alone change, and so nothing that is shown of the player
edited_only : (ops : List ListOp) (s : SavedState) → all_edited ops s ≡ record s { lists = (all_edited ops s).lists }
edited_only [] s = refl
edited_only (op ∷ ops) s = edited_only ops (lists_edited op s)

pub shown_edited : (ops : List ListOp) (m : MachineState) → shown_of (record m { saved = all_edited ops m.saved }) ≡ shown_of m
shown_edited ops m = ap (λ (s : SavedState). shown_of (record m { saved = s })) (edited_only ops m.saved)

-- where the first that is left goes, none of the others is refused
pub left_free : (op : ListOp) (ops : List ListOp) (s : SavedState) → refusal_of_all (of_lists ops) (after (Lists op) s) ≡ None
    → refusal_of_all (of_lists ops) (lists_edited op s) ≡ None
left_free op ops s free = sym (refusals_apart ops (times_by op s) (lists_edited op s)) ∙ free

-- ---- ops of one playlist, each of which leaves it changed

abbrev pub OfOne : List ℕ → List ListOp → Type 0
OfOne name [] = Unit {0}
OfOne name (op ∷ ops) = ((times : Times) → times_after op times ≡ with_time name 0 times) × OfOne name ops

pub moves_of_one : (last_first : Bool) (name : List ℕ) (from to n : ℕ) → OfOne name (song_moves last_first name from to n)
moves_of_one true name from to zero = tt
moves_of_one false name from to zero = tt
moves_of_one true name from to (suc n) = ((λ times. refl), moves_of_one true name from to n)
moves_of_one false name from to (suc n) = ((λ times. refl), moves_of_one false name (from + 1) (to + 1) n)

pub block_of_one : (name : List ℕ) (block : Span) (to : ℕ) → OfOne name (block_moves name block to)
block_of_one name block to = of (nat_lt block.start to) (nat_lt (to - block.start) (count_of block)) (nat_lt (block.start - to) (count_of block))
  where
    of : (on passes comes : Bool) → OfOne name (if on then (if passes then song_moves false name block.end block.start (to - block.start)
        else song_moves true name block.start to (count_of block)) else (if comes then song_moves true name to (to + count_of block)
        (block.start - to) else song_moves false name block.start to (count_of block)))
    of true true comes = moves_of_one false name block.end block.start (to - block.start)
    of true false comes = moves_of_one true name block.start to (count_of block)
    of false passes true = moves_of_one true name to (to + count_of block) (block.start - to)
    of false passes false = moves_of_one false name block.start to (count_of block)

mapped : (f g : Times → Times) (times : Option Times) → ((one : Times) → f one ≡ g one) → option_map f times ≡ option_map g times
mapped f g None same = refl
mapped f g (Some one) same = ap Some (same one)

untimed_again : (name : List ℕ) (times : Option Times)
    → option_map (with_time name 0) (option_map (with_time name 0) times) ≡ option_map (with_time name 0) times
untimed_again name None = refl
untimed_again name (Some times) = ap Some (put_again name 0 times)

-- where the playlist was changed last and isn't timed yet, they change no time
moved_untimed : (name : List ℕ) (ops : List ListOp) (s : SavedState) → OfOne name ops → option_map (with_time name 0) s.changed ≡ s.changed
    → after_all (of_lists ops) s ≡ all_edited ops s
moved_untimed name [] s each last = refl
moved_untimed name (op ∷ ops) s each last =
    ap (λ (times : Option Times). after_all (of_lists ops) (timed_by times (lists_edited op s))) (of (leaves_lists op s))
    ∙ moved_untimed name ops (lists_edited op s) each.1 last
  where
    of : (b : Bool) → list_times b op s.changed ≡ s.changed
    of true = refl
    of false = mapped (times_after op) (with_time name 0) s.changed each.0 ∙ last

-- else the first that changes something changes the time
moved_timed : (name : List ℕ) (ops : List ListOp) (s : SavedState) → OfOne name ops → refusal_of_all (of_lists ops) s ≡ None
    → (after_all (of_lists ops) s ≡ untimed name (all_edited ops s)) ⊎ ((after_all (of_lists ops) s).lists ≡ s.lists)
moved_timed name [] s each free = inr refl
moved_timed name (op ∷ ops) s each free = of (leaves_lists op s) refl (moved_timed name ops s each.1)
  where
    parts : (refusal_of (Lists op) s ≡ None) × (refusal_of_all (of_lists ops) (after (Lists op) s) ≡ None)
    parts = one_free_then op ops s free

    stays : leaves_lists op s ≡ true → after (Lists op) s ≡ s
    stays leaves = λ i. record s { lists = lists_stay op s parts.0 leaves i; changed = list_times (leaves i) op s.changed }

    behind : leaves_lists op s ≡ true
        → (after_all (of_lists ops) s ≡ untimed name (all_edited ops s)) ⊎ ((after_all (of_lists ops) s).lists ≡ s.lists)
        → (after_all (of_lists ops) (after (Lists op) s) ≡ untimed name (all_edited ops (lists_edited op s)))
        ⊎ ((after_all (of_lists ops) (after (Lists op) s)).lists ≡ s.lists)
    behind leaves (inl is) =
        let same : s ≡ lists_edited op s = ap (λ (l : Stored). record s { lists = l }) (sym (lists_stay op s parts.0 leaves)) in
        inl (ap (after_all (of_lists ops)) (stays leaves) ∙ is ∙ ap (λ (t : SavedState). untimed name (all_edited ops t)) same)
    behind leaves (inr is) = inr (ap (λ (t : SavedState). (after_all (of_lists ops) t).lists) (stays leaves) ∙ is)

    of : (b : Bool) → leaves_lists op s ≡ b
        → (refusal_of_all (of_lists ops) s ≡ None
        → (after_all (of_lists ops) s ≡ untimed name (all_edited ops s)) ⊎ ((after_all (of_lists ops) s).lists ≡ s.lists))
        → (after_all (of_lists ops) (after (Lists op) s) ≡ untimed name (all_edited ops (lists_edited op s)))
        ⊎ ((after_all (of_lists ops) (after (Lists op) s)).lists ≡ s.lists)
    of true leaves rest = behind leaves (rest (ap (refusal_of_all (of_lists ops)) (sym (stays leaves)) ∙ parts.1))
    of false changes rest =
        let t : SavedState = lists_edited op s in
        let put : Option Times = option_map (with_time name 0) s.changed in
        let times : times_by op s ≡ put =
        (λ i. list_times (changes i) op s.changed) ∙ mapped (times_after op) (with_time name 0) s.changed each.0 in
        let first : after (Lists op) s ≡ timed_by put t = ap (λ (o : Option Times). timed_by o t) times in
        inl (ap (after_all (of_lists ops)) first
        ∙ moved_untimed name ops (timed_by put t) each.1 (untimed_again name s.changed)
        ∙ edited_apart ops put t
        ∙ ap (λ (o : Option Times). timed_by (option_map (with_time name 0) o) (all_edited ops t)) (sym (edited_keeps ops t)))

-- Songs that move and change their playlist: it is changed once, behind all of them.
pub moves_made : (name : List ℕ) (ops : List ListOp) (s moved done : SavedState) → OfOne name ops → refusal_of_all (of_lists ops) s ≡ None
    → same_lists s.lists (after_all (of_lists ops) s).lists ≡ false → moved ≡ all_edited ops s → done ≡ untimed name moved
    → done ≡ after_all (of_lists ops) s
moves_made name ops s moved done each free other went put = of (moved_timed name ops s each free)
  where
    of : (after_all (of_lists ops) s ≡ untimed name (all_edited ops s)) ⊎ ((after_all (of_lists ops) s).lists ≡ s.lists)
        → done ≡ after_all (of_lists ops) s
    of (inl is) = put ∙ ap (untimed name) went ∙ sym is
    of (inr same) =
        absurd (false≢true (sym other ∙ (lists_decide s.lists (after_all (of_lists ops) s).lists).1 (sym same)))

-- Songs that move behind an addition, which has put the time already.
adds_something : (name : List ℕ) (row : ℕ) (rows : List ℕ) (s : SavedState) → leaves_lists (Add name (row ∷ rows)) s ≡ false
adds_something name row rows s = of (is_some (songs_of s.lists name))
  where
    of : (b : Bool) → (b && length (row ∷ rows) == 0) ≡ false
    of true = ne_eqb (length (row ∷ rows)) 0 (λ none. let no : ⊥ = omega (arith, none) in no)
    of false = refl

pub added_made : (name rows : List ℕ) (ops : List ListOp) (s added moved : SavedState) → OfOne name ops → 0 < length rows
    → added ≡ after (Lists (Add name rows)) s → moved ≡ all_edited ops added → moved ≡ after_all (of_lists (Add name rows ∷ ops)) s
added_made name [] ops s added moved each some first went = let no : ⊥ = omega (arith, some) in absurd no
added_made name (row ∷ rows) ops s added moved each some first went =
    let t : SavedState = after (Lists (Add name (row ∷ rows))) s in
    let put : t.changed ≡ option_map (with_time name 0) s.changed =
    (λ i. list_times (adds_something name row rows s i) (Add name (row ∷ rows)) s.changed)
    ∙ mapped (times_after (Add name (row ∷ rows))) (with_time name 0) s.changed (λ times. refl) in
    let last : option_map (with_time name 0) t.changed ≡ t.changed =
    ap (option_map (with_time name 0)) put ∙ untimed_again name s.changed ∙ sym put in
    went ∙ ap (all_edited ops) first ∙ sym (moved_untimed name ops t each last)
