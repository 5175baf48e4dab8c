-- The move behind a shuffle is never refused, and a shuffle around a song is refused as the shuffle is.
use Rattle.std.proofs.Common.{◌≡◌, ℕ, ◌+◌, ◌-◌, ◌<◌, ◌≤◌, Bool, false, List, [], ◌∷◌, length, Option, Some, None}
use Rattle.std.proofs.Common.{refl, sym, ap, subst, ◌∙◌, arith, nat_lt}
use Rattle.std.proofs.lemmas.Bool.Decides.{nat_tests}
use Rattle.std.proofs.lemmas.List.{length-map}
use Rattle.std.proofs.lemmas.List.Edits.{length-between}
use Rattle.std.proofs.lemmas.List.Sorted.{length_permutation}
use Rattle.std.specs.Prelude.{Result, Ok, Err, IfErr, unwrap_or, option_map}
use Rattle.std.specs.Option.{option_or}
use Rattle.std.specs.Result.{IsErrAnd}
use Rattle.play_queue.specs.declared.entry.Entry.{Entry}
use Rattle.play_queue.specs.Entries.{block}
use Rattle.play_queue.specs.Positions.{position_of}
use Rattle.play_queue.specs.Queue.{ids_of}
use Rattle.play_queue.specs.Refused.{move_refusal}
use Rattle.play_queue.specs.Shuffle.{shuffled}
use Rattle.play_queue.proofs.Moved.{ids-ruled, shuffled-permutes}
use Rattle.player_core.specs.Player.{stopped_without_song}
use Rattle.player_core.specs.Words.{word, next_order}
use Rattle.profile.specs.declared.profile.Profile.{Profile}
use Rattle.state_codec.specs.Applied.{after, refusal_of}
use Rattle.state_codec.specs.Editing.{AnswersCheck}
use Rattle.state_codec.specs.OpsQueue.{queue_refusal, words_for}
use Rattle.state_codec.specs.SavedState.{SavedState}
use Rattle.state_codec.specs.declared.op.Op.{Op}
use Rattle.state_codec.specs.declared.op.Op.TheVariants.{Queue}
use Rattle.state_codec.specs.declared.op.queue_op.QueueOp.TheVariants.{Shuffle}
use Rattle.state_codec.specs.declared.refusal.OpRefusal.{OpRefusal}
use Rattle.state_codec.specs.declared.refusal.OpRefusal.TheVariants as refusals
use Rattle.state_codec.proofs.KeptOps.{map_none, range_within}
use Rattle.machine_core.specs.Meaning.{does, refusal_of_all, unless_refused}
use Rattle.machine_core.specs.Queue.{bring, shuffle_ops, shuffles_around, shuffles_stopped}
use Rattle.machine_core.specs.Size.{within}
use Rattle.machine_core.specs.State.{MachineState}
use Rattle.machine_core.specs.Told.{op_told, told}
use Rattle.machine_core.specs.Work.{IsRefusalOf}
use Rattle.machine_core.specs.declared.span.Span.{Span}
use Rattle.machine_core.specs.declared.work.Failure.{Failure}
use Rattle.machine_core.specs.declared.work.Failure.TheVariants.{Refused}
use Rattle.machine_core.proofs.Edits.{refused_by}
use Rattle.machine_core.proofs.Queue.Meanings.{place_within}

-- a shuffle leaves as many entries
pub as_many : (start end : ℕ) (s : SavedState) → queue_refusal (Shuffle start end) s ≡ None
    → length (after (Queue (Shuffle start end)) s).queue.entries ≡ length s.queue.entries
as_many start end s free =
    let in_it = range_within s.queue.entries start end (map_none _ _ free) in
    let words = words_for s.key (next_order s.order) s.queue.entries start end in
    let long : length words ≡ end - start =
    length-map (block s.queue.entries start end) (λ (entry : Entry). word s.key (next_order s.order) entry.id)
    ∙ length-between s.queue.entries start end in_it.1 in
    let ids = ids-ruled s.queue (shuffled s.queue.entries start end words)
    (shuffled-permutes s.queue.entries start end words in_it.0 in_it.1 long) in
    sym (length-map (after (Queue (Shuffle start end)) s).queue.entries (λ (entry : Entry). entry.id))
    ∙ length_permutation (ids_of s.queue.entries) (ids_of (after (Queue (Shuffle start end)) s).queue.entries) ids
    ∙ length-map s.queue.entries (λ (entry : Entry). entry.id)

-- an entry that is brought to a place stands in the queue, or the place does
brought_within : (entries : List Entry) (id to : ℕ) (found : Option ℕ) → position_of entries id ≡ found → to < length entries
    → unwrap_or found to < length entries
brought_within entries id to None is here = here
brought_within entries id to (Some at) is here = place_within entries id at is

one_free : (entries : List Entry) (at to : ℕ) → at < length entries → to < length entries → move_refusal entries at (at + 1) to ≡ None
one_free entries at to here there =
    let forward : nat_lt (at + 1) at ≡ false = grind (arith, nat_tests) in
    let inside : nat_lt (length entries) (at + 1) ≡ false = grind (arith, nat_tests, here) in
    let placed : nat_lt (length entries - ((at + 1) - at)) to ≡ false = grind (arith, nat_tests, there) in
    rw (forward, inside, placed) refl

-- the move behind a shuffle
abbrev move_behind : ℕ → Span → SavedState → Op
move_behind id span s = Queue (bring (after (Queue (Shuffle span.start span.end)) s).queue.entries id span.start)

-- so the move is free
pub move_is_free : (id : ℕ) (span : Span) (s : SavedState) → queue_refusal (Shuffle span.start span.end) s ≡ None
    → 2 ≤ span.end - span.start
    → refusal_of (Queue (bring (after (Queue (Shuffle span.start span.end)) s).queue.entries id span.start))
    (after (Queue (Shuffle span.start span.end)) s) ≡ None
move_is_free id span s free several =
    let t : SavedState = after (Queue (Shuffle span.start span.end)) s in
    let in_it = range_within s.queue.entries span.start span.end (map_none _ _ free) in
    let there : span.start < length t.queue.entries = omega (arith, several, in_it.1, as_many span.start span.end s free) in
    ap (option_map refusals.Queue) (one_free t.queue.entries (unwrap_or (position_of t.queue.entries id) span.start) span.start
    (brought_within t.queue.entries id span.start (position_of t.queue.entries id) refl there) there)

pub both_free : (id : ℕ) (span : Span) (s : SavedState) → queue_refusal (Shuffle span.start span.end) s ≡ None
    → 2 ≤ span.end - span.start → refusal_of_all (shuffle_ops id span s) s ≡ None
both_free id span s free several =
    ap (λ o. option_or o (refusal_of_all (move_behind id span s ∷ []) (after (Queue (Shuffle span.start span.end)) s))) free
    ∙ ap (λ o. option_or o None) (move_is_free id span s free several)

-- what they mean then
pub around_means : (id : ℕ) (span : Span) (m : MachineState) → queue_refusal (Shuffle span.start span.end) m.saved ≡ None
    → 2 ≤ span.end - span.start → shuffles_around id span m ≡ Ok (does [] (shuffle_ops id span m.saved) m.player m)
around_means id span m free several =
    ap (λ o. unless_refused (told o) (does [] (shuffle_ops id span m.saved) m.player m)) (both_free id span m.saved free several)

pub stopped_means : (span : Span) (m : MachineState) → queue_refusal (Shuffle span.start span.end) m.saved ≡ None
    → shuffles_stopped span m ≡ Ok (does [] (Queue (Shuffle span.start span.end) ∷ []) (stopped_without_song m.player) m)
stopped_means span m free =
    ap (λ o. unless_refused (told o) (does [] (Queue (Shuffle span.start span.end) ∷ []) (stopped_without_song m.player) m)) free

-- one that is refused
pub refused_around : (id : ℕ) (span : Span) (m : MachineState) (e : OpRefusal) (r : Result (Unit {0}) Failure) →
    AnswersCheck {T = Bool} (refusal_of (Queue (Shuffle span.start span.end)) m.saved) (Err e)
    → IsErrAnd r (λ failure. failure ≡ Refused (op_told e))
    → (profile : Profile) (size : ℕ) → IfErr r (IsRefusalOf profile (shuffles_around id span m) size)
refused_around id span m e (Ok x) answer told_so profile size = tt
refused_around id span m e (Err failure) answer told_so profile size =
    let behind : SavedState = after (Queue (Shuffle span.start span.end)) m.saved in
    subst (IsRefusalOf profile (shuffles_around id span m) size) (sym told_so)
    (ap (λ o. within profile size (unless_refused (told (option_or o (refusal_of_all (move_behind id span m.saved ∷ []) behind)))
    (does [] (shuffle_ops id span m.saved) m.player m)))
    (refused_by Bool (refusal_of (Queue (Shuffle span.start span.end)) m.saved) e answer))

pub refused_stopped : (span : Span) (m : MachineState) (e : OpRefusal) (r : Result (Unit {0}) Failure) →
    AnswersCheck {T = Bool} (refusal_of (Queue (Shuffle span.start span.end)) m.saved) (Err e)
    → IsErrAnd r (λ failure. failure ≡ Refused (op_told e))
    → (profile : Profile) (size : ℕ) → IfErr r (IsRefusalOf profile (shuffles_stopped span m) size)
refused_stopped span m e (Ok x) answer told_so profile size = tt
refused_stopped span m e (Err failure) answer told_so profile size =
    subst (IsRefusalOf profile (shuffles_stopped span m) size) (sym told_so)
    (ap (λ o. within profile size (unless_refused (told o)
    (does [] (Queue (Shuffle span.start span.end) ∷ []) (stopped_without_song m.player) m)))
    (refused_by Bool (refusal_of (Queue (Shuffle span.start span.end)) m.saved) e answer))
