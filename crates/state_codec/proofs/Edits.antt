-- What the edits of songs by their row numbers answer.
use Rattle.std.proofs.lemmas.Bool.Decides.{nat_tests}
use Rattle.std.proofs.Common.{◌≡◌, ℕ, zero, suc, ◌&&◌, Bool, true, false, List, [], ◌∷◌, ◌≤◌, length, Option, Some, None, Result, Ok, Err}
use Rattle.std.proofs.Common.{nat_lt, refl, ap, arith}
use Rattle.std.specs.List.{slice_get}
use Rattle.std.specs.Option.{option_map}
use Rattle.play_queue.specs.Refusal.{Answers as AnswersQueue, AnswersIfMemory as QueueIfMemory}
use Rattle.play_queue.specs.declared.refusal.QueueError.{QueueError}
use Rattle.play_queue.specs.declared.refusal.QueueError.TheVariants.{NoMemory as QueueMemory}
use Rattle.song_db.specs.Row.{Row}
use Rattle.stored_lists.specs.Refusal.{Answers as AnswersLists, AnswersIfMemory as ListsIfMemory}
use Rattle.stored_lists.specs.declared.refusal.ListsError.{ListsError}
use Rattle.stored_lists.specs.declared.refusal.ListsError.TheVariants.{NoMemory as ListsMemory}
use Rattle.state_codec.specs.Editing.{AnswersCheck, IsEdit, QueueEdit, queue_told, lists_told}
use Rattle.state_codec.specs.OpsSongs.{have_rows, uris_at, if_named}
use Rattle.state_codec.specs.SavedState.{SavedState}
use Rattle.state_codec.specs.declared.refusal.ApplyError.{ApplyError}
use Rattle.state_codec.specs.declared.refusal.OpRefusal.{OpRefusal}
use Rattle.state_codec.specs.declared.refusal.OpRefusal.TheVariants.{Queue, Lists}

pub named_from : {T : Type 0} (b : Bool) (x : T) → AnswersCheck (if_named b None) (Ok x) → b ≡ true
named_from true x answer = refl
named_from false x answer = absurd (cc)

pub queue_none : {T : Type 0} (o : Option QueueError) (x : T) → AnswersQueue o (Ok x) → o ≡ None
queue_none None x answer = refl
queue_none (Some e) x answer = absurd (cc)

pub lists_none : {T : Type 0} (o : Option ListsError) (x : T) → AnswersLists o (Ok x) → o ≡ None
lists_none None x answer = refl
lists_none (Some e) x answer = absurd (cc)

pub refused_add : (T : Type 0) (b : Bool) (o : Option QueueError) (edited before after : SavedState) (e : QueueError)
    (r : Result (Unit {0}) ApplyError) → b ≡ true → o ≡ None → QueueIfMemory {T = T} o (Err e) → r ≡ Err (queue_told e) → after ≡ before
    → IsEdit (if_named b (option_map Queue o)) edited before after r
refused_add T b o edited before after e r named none answer is same =
    let memory : e ≡ QueueMemory = rw none at answer in
    rw (named, none, is, memory) (record { ok = tt; err = same; answer = refl })

pub refused_extend : (T : Type 0) (b : Bool) (o : Option ListsError) (edited before after : SavedState) (e : ListsError)
    (r : Result (Unit {0}) ApplyError) → b ≡ true → o ≡ None → ListsIfMemory {T = T} o (Err e) → r ≡ Err (lists_told e) → after ≡ before
    → IsEdit (if_named b (option_map Lists o)) edited before after r
refused_extend T b o edited before after e r named none answer is same =
    let memory : e ≡ ListsMemory = rw none at answer in
    rw (named, none, is, memory) (record { ok = tt; err = same; answer = refl })

some_at : {X : Type 0} (xs : List X) (n : ℕ) → nat_lt n (length xs) ≡ true → (x : X) × (slice_get xs n ≡ Some x)
some_at [] n within = absurd (grind (arith, nat_tests))
some_at (x ∷ xs) zero within = (x, refl)
some_at (x ∷ xs) (suc n) within = some_at xs n (grind (arith, nat_tests))

pub length-uris_at : (songs : List Row) (numbers : List ℕ) → have_rows songs numbers ≡ true
    → length (uris_at songs numbers) ≡ length numbers
length-uris_at songs [] all = refl
length-uris_at songs (number ∷ numbers) all = of (nat_lt number (length songs)) refl all (length-uris_at songs numbers)
  where
    of : (b : Bool) → nat_lt number (length songs) ≡ b → (b && have_rows songs numbers) ≡ true
        → (have_rows songs numbers ≡ true → length (uris_at songs numbers) ≡ length numbers)
        → length (uris_at songs (number ∷ numbers)) ≡ length (number ∷ numbers)
    of true here rest more = let found = some_at songs number here in rw found.1 (ap (λ n. suc n) (more rest))
    of false gone rest more = absurd (cc)

pub check_none : {T : Type 0} (o : Option OpRefusal) (x : T) → AnswersCheck o (Ok x) → o ≡ None
check_none None x answer = refl
check_none (Some refusal) x answer = absurd (cc)

pub past_end : {X : Type 0} (xs : List X) (n : ℕ) → length xs ≤ n → slice_get xs n ≡ None
past_end [] n past = refl
past_end (x ∷ xs) zero past = absurd (omega arith)
past_end (x ∷ xs) (suc n) past = past_end xs n (omega arith)

-- an edit of the queue that isn't refused succeeds
pub told_made : (o : Option QueueError) (q : Result (Unit {0}) QueueError) (r : Result (Unit {0}) ApplyError) (edited before after : SavedState)
    → o ≡ None → AnswersQueue o q → QueueEdit q r → after ≡ edited → IsEdit (option_map Queue o) edited before after r
told_made None (Ok x) (Ok y) edited before after none answer told same = record { ok = same; err = tt; answer = tt }
told_made None (Ok x) (Err e) edited before after none answer told same = absurd (cc)
told_made None (Err e) r edited before after none answer told same = absurd (cc)
told_made (Some e) q r edited before after none answer told same = absurd (cc)
