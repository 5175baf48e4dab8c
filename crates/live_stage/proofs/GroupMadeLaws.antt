-- What a group that was handled, or refused, adds to a run.
use Rattle.std.proofs.Common.{◌≡◌, ◌≢◌, ◌⊎◌, inl, inr, ◌↔◌, ℕ, zero, suc, ◌+◌, ◌≤◌, min, Bool, true, false, not, List, [], ◌∷◌, ◌++◌, map, length}
use Rattle.std.proofs.Common.{length-append, append_assoc, Option, Some, Result, Ok, Err, refl, sym, ap, subst, ◌∙◌, arith}
use Rattle.std.specs.List.{AllByRecursion}
use Rattle.std.proofs.lemmas.List.{append-nil, append_cancel_right}
use Rattle.disk_model.specs.History.{Change}
use Rattle.disk_model.specs.Moments.{LeftSince, Continues}
use Rattle.disk_model.proofs.MomentLaws.{continues_same, counts_now, now_only}
use Rattle.play_journal.specs.File.{records_len}
use Rattle.play_journal.proofs.GroupLaws.{records_len-append}
use Rattle.state_codec.specs.SavedState.{SavedState}
use Rattle.daemon_core.specs.declared.event.Event.{Event}
use Rattle.daemon_core.specs.State.{State}
use Rattle.daemon_core.specs.Step.{Stepped}
use Rattle.daemon_core.specs.Replay.{Entry, stepped}
use Rattle.live_stage.specs.declared.refusal.LiveError.{LiveError}
use Rattle.live_stage.specs.declared.refusal.LiveError.TheVariants.{Broken, NoMemory, NumbersSpent}
use Rattle.live_stage.specs.Answer.{Answer, profile_of_step}
use Rattle.live_stage.specs.Found.{given_state, AllFindNow, AllFindSince}
use Rattle.live_stage.specs.Group.{EndsThere, IsGroup, IsNoneOrAll, IsOfFront, RefusesFront, asked_by, bodies_after, body_of_step, events_in, file_with, group_file, history_in}
use Rattle.live_stage.specs.GroupRun.{AddsToFile, FindsPrefixOfGroups, FindsWholeOfGroups, IsGroupsSoFar, from_fault, refusals, tells_spent}
use Rattle.live_stage.specs.LiveState.{LiveState}
use Rattle.live_stage.specs.Numbers.{AreSpent, FileNumbers, Numbers, is_due}
use Rattle.live_stage.specs.Transcript.{HasRoomFor, IsTranscript, StaysBroken, broken_after, broken_by, bytes_after, history_of, replayed}
use Rattle.live_stage.specs.Turns.{IsReady, IsStill, RefusesInOrder, WritesOneFile, writes_to_b}
use Rattle.live_stage.proofs.GroupLaws.{Reply, body_few, body_takes, file_layout, file_records, file_snapshot, length-history}
use Rattle.live_stage.proofs.HistoryLaws.{as_many, oks}
use Rattle.live_stage.proofs.TurnLaws.{IsOtherKept, other_same, undue}

-- ---- answers alone

oks_orderly : (turns : List Answer) → StaysBroken false (oks turns)
oks_orderly [] = tt
oks_orderly (t ∷ turns) = (λ was. absurd cc, oks_orderly turns)

oks_broken : (was : Bool) (turns : List Answer) → broken_after was (oks turns) ≡ was
oks_broken was [] = refl
oks_broken was (t ∷ turns) = oks_broken was turns

oks_fault : (turns : List Answer) → from_fault (asked_by turns) (oks turns) ≡ []
oks_fault [] = refl
oks_fault (t ∷ turns) = oks_fault turns

oks_unspent : (turns : List Answer) → tells_spent (oks turns) ≡ false
oks_unspent [] = refl
oks_unspent (t ∷ turns) = oks_unspent turns

bodies_few : (s : State) (whole : List Entry) → length (bodies_after s whole) ≤ length whole
bodies_few s [] = omega arith
bodies_few s (entry ∷ earlier) =
    let now : Stepped = stepped (replayed s earlier) entry in
    let more = bodies_few s earlier in
    omega (arith, more, length-append (bodies_after s earlier) (body_of_step now), body_few (profile_of_step now) now.ops)

bodies_take : (s : State) (whole : List Entry) → records_len (bodies_after s whole) ≡ bytes_after s whole
bodies_take s [] = refl
bodies_take s (entry ∷ earlier) =
    let now : Stepped = stepped (replayed s earlier) entry in
    let more = bodies_take s earlier in
    omega (arith, more, records_len-append (bodies_after s earlier) (body_of_step now), body_takes (profile_of_step now) now.ops)

file_short : (file : FileNumbers) (bodies : List (List ℕ)) → (let f = file_with file bodies in f.bytes) ≤ file.bytes + records_len bodies
file_short file [] = omega arith
file_short file (body ∷ bodies) = omega arith

asked_len : (turns : List Answer) → length (asked_by turns) ≡ length turns
asked_len [] = refl
asked_len (t ∷ turns) = (let more = asked_len turns in omega (arith, more))

some_many : (events : List Event) → events ≢ [] → 1 ≤ length events
some_many [] some = absurd (some refl)
some_many (event ∷ events) some = omega arith

-- nothing is added to a file
adds_none : {D : Type 0} (v : LiveState D) (events : List Event) (answers : List Reply) → AddsToFile v v events answers
adds_none v events answers = record {
  other_file = other_same v.is_in_b v;
  same_file = refl;
  few = λ is. omega arith;
  short = λ is. omega arith;
  behind = λ is. refl;
  laid = λ is. refl;
}

-- a call before which no checkpoint is due writes to the file in use
in_file : {D : Type 0} (old new : LiveState D) (answer : Reply) → is_due old.file ≡ false → WritesOneFile old new answer
    → IsOtherKept old.is_in_b old new
in_file old new answer due one =
    subst (λ (in_b : Bool). IsOtherKept in_b old new) (let same : writes_to_b old ≡ old.is_in_b = (rw due refl) in same) one.other_file

adds_group : {D : Type 0} (old new : LiveState D) (turns : List Answer) → IsGroup old turns new
    → AllByRecursion (λ t. WritesOneFile old new (Ok t)) turns → HasRoomFor old (asked_by turns) (oks turns)
    → AddsToFile old new (asked_by turns) (oks turns)
adds_group {D} old new [] group files room =
    subst (λ (v : LiveState D). AddsToFile old v [] []) (sym (group.none refl)) (adds_none old [] [])
adds_group old new (t ∷ turns) group files room =
    let all : List Answer = t ∷ turns in
    let whole = history_in all in
    let bodies = bodies_after old.state whole in
    let many = as_many turns in
    let long = length-history all in
    let due : is_due old.file ≡ false = undue old.file (omega (arith, room.records)) (omega (arith, room.bytes)) in
    let same : group_file old all ≡ old.file = (rw due refl) in
    let file : new.file ≡ file_with old.file bodies = group.file ∙ ap (λ (f : FileNumbers). file_with f bodies) same in
    record {
      other_file = in_file old new (Ok t) due files.0;
      same_file = files.0.same_file due;
      few = λ is. omega (arith, ap (λ (f : FileNumbers). f.records) file, file_records old.file bodies, bodies_few old.state whole, long, asked_len turns);
      short = λ is. omega (arith, ap (λ (f : FileNumbers). f.bytes) file, file_short old.file bodies, bodies_take old.state whole);
      behind = λ is. ap (λ (f : FileNumbers). f.snapshot_len) file ∙ file_snapshot old.file bodies;
      laid = λ is. ap (λ (f : FileNumbers). f.layout) file ∙ file_layout old.file bodies;
    }

-- ---- a group that was answered

module _ {D : Type 0} (honest : D → Type 0) (history : D → List Change) (old new : LiveState D) (turns : List Answer)
    (usable : old.is_broken ≡ false) (unspent : AreSpent old.numbers old.file → ⊥) (fine : new.is_broken ≡ false) (group : IsGroup old turns new)
    (files : AllByRecursion (λ t. WritesOneFile old new (Ok t)) turns)
    (moments : honest old.a → honest old.b → old.is_broken ≡ false
    → (whole : List Entry) × (whole ≡ history_in turns) × AllFindSince (IsNoneOrAll old.state whole)
    (history new.a) (length (history old.a)) (history new.b) (length (history old.b)))
    (kept : honest old.a → honest old.b → new.is_broken ≡ false
    → AllFindNow (λ f. f ≡ Some new.state.machine.saved) (history new.a) (history new.b))
    (continues_a : honest old.a → Continues (history old.a) (history new.a))
    (continues_b : honest old.b → Continues (history old.b) (history new.b))
    (honest_a : honest old.a ↔ honest new.a) (honest_b : honest old.b ↔ honest new.b) where
  pub answered : IsGroupsSoFar honest history old new (asked_by turns) (oks turns)
  answered = record {
    counted = as_many turns;
    transcript = group.transcript;
    orderly = subst (λ (b : Bool). StaysBroken b (oks turns)) (sym usable) (oks_orderly turns);
    broken = fine ∙ sym (oks_broken old.is_broken turns ∙ usable);
    stays = λ was. absurd cc;
    spent = λ tells is. (let not = oks_unspent turns in absurd cc);
    stays_spent = λ was is. absurd (unspent is);
    unbroken = λ is. (oks_fault turns, usable);
    state = λ is. group.state;
    event = group.event ∙ ap (λ (n : ℕ). old.numbers.event + n) (sym (length-history turns));
    numbers = λ is. group.numbers;
    in_file = λ room was. adds_group old new turns group files room;
    kept = kept;
    given_out = λ ha hb was x y at_x at_y. record {
      whole = history_in turns;
      is_whole = record { more = []; rest = from_fault (asked_by turns) (oks turns); on_top = refl; front = refl };
      finds = kept ha hb fine x y at_x at_y ∙ ap (λ (s : State). Some s.machine.saved) group.state;
    };
    any_moment = λ ha hb was room x y at_x at_y.
        let found = moments ha hb was in
        elim (found.2 x y at_x at_y) [
          | inl before ↦ record {
            whole = history_in turns;
            is_whole = record { more = []; rest = from_fault (asked_by turns) (oks turns); on_top = refl; front = refl };
            later = history_in turns;
            prefix = [];
            parts = sym (append-nil (history_in turns));
            finds = before;
          }
          | inr after ↦ record {
            whole = history_in turns;
            is_whole = record { more = []; rest = from_fault (asked_by turns) (oks turns); on_top = refl; front = refl };
            later = [];
            prefix = history_in turns;
            parts = refl;
            finds = after ∙ ap (λ (w : List Entry). let now : State = replayed old.state w in Some now.machine.saved) found.1;
          }
        ];
    continues_a = continues_a;
    continues_b = continues_b;
    honest_a = honest_a;
    honest_b = honest_b;
  }

-- ---- an event that was refused without a fault

is_passed : (was : Bool) (e : LiveError) → e ≢ Broken → broken_by was (Err e) ≡ was
is_passed was Broken other = absurd (other refl)
is_passed was NoMemory other = refl
is_passed was NumbersSpent other = refl

no_fault : (event : Event) (e : LiveError) → e ≢ Broken → from_fault (event ∷ []) (Err e ∷ []) ≡ []
no_fault event Broken other = absurd (other refl)
no_fault event NoMemory other = refl
no_fault event NumbersSpent other = refl

is_spent : (e : LiveError) → tells_spent (Err e ∷ []) ≡ true → e ≡ NumbersSpent
is_spent Broken is = absurd cc
is_spent NoMemory is = absurd cc
is_spent NumbersSpent is = refl

-- nothing was done
pub refused_still : {D : Type 0} (honest : D → Type 0) (history : D → List Change) (v : LiveState D) (event : Event) (e : LiveError)
    → e ≢ Broken → (e ≡ NumbersSpent → AreSpent v.numbers v.file) → v.is_broken ≡ false
    → (honest v.a → honest v.b → v.is_broken ≡ false
    → AllFindNow (λ f. f ≡ Some v.state.machine.saved) (history v.a) (history v.b))
    → IsGroupsSoFar honest history v v (event ∷ []) (Err e ∷ [])
refused_still honest history v event e other so_spent usable kept = record {
  counted = refl;
  transcript = tt;
  orderly = (λ was. absurd cc, tt);
  broken = sym (is_passed v.is_broken e other);
  stays = λ was. refl;
  spent = λ tells is. so_spent (is_spent e tells);
  stays_spent = λ was is. refl;
  unbroken = λ is. (no_fault event e other, usable);
  state = λ is. refl;
  event = omega arith;
  numbers = λ is. refl;
  in_file = λ room was. adds_none v (event ∷ []) (Err e ∷ []);
  kept = kept;
  given_out = λ ha hb was x y at_x at_y. record {
    whole = [];
    is_whole = record { more = []; rest = from_fault (event ∷ []) (Err e ∷ []); on_top = refl; front = refl };
    finds = kept ha hb was x y at_x at_y;
  };
  any_moment = λ ha hb was room x y at_x at_y. record {
    whole = [];
    is_whole = record { more = []; rest = from_fault (event ∷ []) (Err e ∷ []); on_top = refl; front = refl };
    later = [];
    prefix = [];
    parts = refl;
    finds = kept ha hb was x y (now_only (history v.a) x at_x) (now_only (history v.b) y at_y);
  };
  continues_a = λ ha. continues_same (history v.a);
  continues_b = λ hb. continues_same (history v.b);
  honest_a = (λ h. h, λ h. h);
  honest_b = (λ h. h, λ h. h);
}

-- nothing was done but the checkpoint that was due
pub refused_ready : {D : Type 0} (honest : D → Type 0) (history : D → List Change) (old new : LiveState D) (event : Event)
    → old.is_broken ≡ false → (AreSpent old.numbers old.file → ⊥) → IsReady old new
    → (honest old.a → honest old.b → old.is_broken ≡ false
    → AllFindNow (λ f. f ≡ Some old.state.machine.saved) (history old.a) (history old.b))
    → (honest old.a → honest old.b → new.is_broken ≡ false
    → AllFindNow (λ f. f ≡ Some new.state.machine.saved) (history new.a) (history new.b))
    → (honest old.a → Continues (history old.a) (history new.a)) → (honest old.b → Continues (history old.b) (history new.b))
    → (honest old.a ↔ honest new.a) → (honest old.b ↔ honest new.b)
    → IsGroupsSoFar honest history old new (event ∷ []) (Err NoMemory ∷ [])
refused_ready {D} honest history old new event usable unspent ready was_kept kept continues_a continues_b honest_a honest_b =
    let same : HasRoomFor old (event ∷ []) (Err NoMemory ∷ []) → new ≡ old =
    λ room. ready.nothing_made (undue old.file (omega (arith, room.records)) (omega (arith, room.bytes))) in
    record {
      counted = refl;
      transcript = tt;
      orderly = (λ was. absurd cc, tt);
      broken = ready.usable ∙ sym usable;
      stays = λ was. absurd cc;
      spent = λ tells is. absurd cc;
      stays_spent = λ was is. absurd (unspent is);
      unbroken = λ is. (refl, usable);
      state = λ is. ready.state;
      event = (let numbers = ap (λ (n : Numbers). n.event) ready.numbers in omega (arith, numbers));
      numbers = λ is. ready.numbers;
      in_file = λ room was. subst (λ (v : LiveState D). AddsToFile old v (event ∷ []) (Err NoMemory ∷ [])) (sym (same room))
          (adds_none old (event ∷ []) (Err NoMemory ∷ []));
      kept = kept;
      given_out = λ ha hb was x y at_x at_y. record {
        whole = [];
        is_whole = record { more = []; rest = []; on_top = refl; front = refl };
        finds = kept ha hb ready.usable x y at_x at_y ∙ ap (λ (s : State). Some s.machine.saved) ready.state;
      };
      any_moment = λ ha hb was room x y at_x at_y. record {
        whole = [];
        is_whole = record { more = []; rest = []; on_top = refl; front = refl };
        later = [];
        prefix = [];
        parts = refl;
        finds = was_kept ha hb was x y
            (now_only (history old.a) x (subst (λ (v : LiveState D). LeftSince (history v.a) (length (history old.a)) x) (same room) at_x))
            (now_only (history old.b) y (subst (λ (v : LiveState D). LeftSince (history v.b) (length (history old.b)) y) (same room) at_y));
      };
      continues_a = continues_a;
      continues_b = continues_b;
      honest_a = honest_a;
      honest_b = honest_b;
    }

pub refused_memory : {D : Type 0} (honest : D → Type 0) (history : D → List Change) (old new : LiveState D) (event : Event)
    → old.is_broken ≡ false → (AreSpent old.numbers old.file → ⊥) → IsStill old new
    → (honest old.a → honest old.b → old.is_broken ≡ false
    → AllFindNow (λ f. f ≡ Some old.state.machine.saved) (history old.a) (history old.b))
    → (honest old.a → honest old.b → new.is_broken ≡ false
    → AllFindNow (λ f. f ≡ Some new.state.machine.saved) (history new.a) (history new.b))
    → (honest old.a → Continues (history old.a) (history new.a)) → (honest old.b → Continues (history old.b) (history new.b))
    → (honest old.a ↔ honest new.a) → (honest old.b ↔ honest new.b)
    → IsGroupsSoFar honest history old new (event ∷ []) (Err NoMemory ∷ [])
refused_memory {D} honest history old new event usable unspent (inl same) was_kept kept continues_a continues_b honest_a honest_b =
    subst (λ (v : LiveState D). IsGroupsSoFar honest history old v (event ∷ []) (Err NoMemory ∷ [])) (sym same)
    (refused_still honest history old event NoMemory (λ is. absurd cc) (λ is. absurd cc) usable was_kept)
refused_memory honest history old new event usable unspent (inr ready) was_kept kept continues_a continues_b honest_a honest_b =
    refused_ready honest history old new event usable unspent ready was_kept kept continues_a continues_b honest_a honest_b

-- ---- a fault

refusals_len : (n : ℕ) (e : LiveError) → length (refusals n e) ≡ n
refusals_len zero e = refl
refusals_len (suc n) e = (let more = refusals_len n e in omega (arith, more))

refused_transcript : {D : Type 0} (first : LiveState D) (earlier : List Entry) (events : List Event) (e : LiveError)
    → IsTranscript first earlier events (refusals (length events) e)
refused_transcript first earlier [] e = tt
refused_transcript first earlier (event ∷ events) e = refused_transcript first earlier events e

refused_history : (earlier : List Entry) (events : List Event) (n : ℕ) (e : LiveError) → history_of earlier events (refusals n e) ≡ earlier
refused_history earlier [] n e = refl
refused_history earlier (event ∷ events) zero e = refl
refused_history earlier (event ∷ events) (suc n) e = refused_history earlier events n e

fault_orderly : (was : Bool) (n : ℕ) → StaysBroken was (refusals n Broken)
fault_orderly was zero = tt
fault_orderly was (suc n) = (λ is. refl, fault_orderly true n)

fault_broken : (n : ℕ) → broken_after true (refusals n Broken) ≡ true
fault_broken zero = refl
fault_broken (suc n) = fault_broken n

fault_unspent : (n : ℕ) → tells_spent (refusals n Broken) ≡ false
fault_unspent zero = refl
fault_unspent (suc n) = fault_unspent n

fault_from : (events : List Event) → from_fault events (refusals (length events) Broken) ≡ events
fault_from [] = refl
fault_from (event ∷ events) = refl

fault_breaks : (events : List Event) (was : Bool) → events ≢ [] → broken_after was (refusals (length events) Broken) ≡ true
fault_breaks [] was some = absurd (some refl)
fault_breaks (event ∷ events) was some = fault_broken (length events)

-- the stage was broken before
pub refused_broken : {D : Type 0} (honest : D → Type 0) (history : D → List Change) (v : LiveState D) (front : List Event) → v.is_broken ≡ true
    → IsGroupsSoFar honest history v v front (refusals (length front) Broken)
refused_broken honest history v front was =
    let none = refused_history [] front (length front) Broken in
    record {
      counted = refusals_len (length front) Broken;
      transcript = refused_transcript v [] front Broken;
      orderly = fault_orderly v.is_broken (length front);
      broken = was ∙ sym (ap (λ (b : Bool). broken_after b (refusals (length front) Broken)) was ∙ fault_broken (length front));
      stays = λ is. refl;
      spent = λ tells is. absurd cc;
      stays_spent = λ usable is. refl;
      unbroken = λ is. absurd cc;
      state = λ is. absurd cc;
      event = omega (arith, ap length none);
      numbers = λ is. absurd cc;
      in_file = λ room is. absurd cc;
      kept = λ ha hb is. absurd cc;
      given_out = λ ha hb is. absurd cc;
      any_moment = λ ha hb is. absurd cc;
      continues_a = λ ha. continues_same (history v.a);
      continues_b = λ hb. continues_same (history v.b);
      honest_a = (λ h. h, λ h. h);
      honest_b = (λ h. h, λ h. h);
    }

-- a disk failed: all events that were begun are refused, of which a restart may find all
module _ {D : Type 0} (honest : D → Type 0) (history : D → List Change) (old new : LiveState D) (events front rest : List Event)
    (usable : old.is_broken ≡ false) (unspent : AreSpent old.numbers old.file → ⊥) (failed : new.is_broken ≡ true) (some : front ≢ []) (parted : events ≡ front ++ rest)
    (file : WritesOneFile old new (Err Broken)) (not_counted : new.numbers.event ≡ old.numbers.event)
    (moments : honest old.a → honest old.b → old.is_broken ≡ false
    → (whole : List Entry) × IsOfFront whole events rest × AllFindSince (IsNoneOrAll old.state whole)
    (history new.a) (length (history old.a)) (history new.b) (length (history old.b)))
    (continues_a : honest old.a → Continues (history old.a) (history new.a))
    (continues_b : honest old.b → Continues (history old.b) (history new.b))
    (honest_a : honest old.a ↔ honest new.a) (honest_b : honest old.b ↔ honest new.b) where
  abbrev replies : List Reply
  replies = refusals (length front) Broken

  -- those on top are the first ones of those that were begun
  on_front : (whole : List Entry) → (of : IsOfFront whole events rest) → from_fault front replies ≡ events_in whole ++ of.0
  on_front whole of =
      let same : front ++ rest ≡ (events_in whole ++ of.0) ++ rest = sym parted ∙ of.1 in
      fault_from front ∙ append_cancel_right front (events_in whole ++ of.0) rest same

  on_none : (whole : List Entry) → whole ≡ whole ++ history_of [] front replies
  on_none whole = sym (ap (λ (h : List Entry). whole ++ h) (refused_history [] front (length front) Broken) ∙ append-nil whole)

  finds : (whole : List Entry) (of : IsOfFront whole events rest) (f : Option SavedState) → IsNoneOrAll old.state whole f
      → FindsWholeOfGroups old.state front replies f
  finds whole of f (inl before) = record {
    whole = [];
    is_whole = record { more = []; rest = from_fault front replies; on_top = on_none []; front = refl };
    finds = before;
  }
  finds whole of f (inr after) = record {
    whole = whole;
    is_whole = record { more = whole; rest = of.0; on_top = on_none whole; front = on_front whole of };
    finds = after;
  }

  finds_prefix : (whole : List Entry) (of : IsOfFront whole events rest) (f : Option SavedState) → IsNoneOrAll old.state whole f
      → FindsPrefixOfGroups old.state front replies f
  finds_prefix whole of f either =
      let w = finds whole of f either in
      record { whole = w.whole; is_whole = w.is_whole; later = []; prefix = w.whole; parts = refl; finds = w.finds }

  pub refused_fault : IsGroupsSoFar honest history old new front replies
  refused_fault =
      let none = refused_history [] front (length front) Broken in
      record {
        counted = refusals_len (length front) Broken;
        transcript = refused_transcript old [] front Broken;
        orderly = fault_orderly old.is_broken (length front);
        broken = failed ∙ sym (fault_breaks front old.is_broken some);
        stays = λ was. absurd cc;
        spent = λ tells is. (let not = fault_unspent (length front) in absurd cc);
        stays_spent = λ was is. absurd (unspent is);
        unbroken = λ is. absurd cc;
        state = λ is. absurd cc;
        event = omega (arith, not_counted, ap length none);
        numbers = λ is. absurd cc;
        in_file = λ room was.
            let many = some_many front some in
            let due : is_due old.file ≡ false = undue old.file (omega (arith, room.records, many)) (omega (arith, room.bytes)) in
            record {
              other_file = in_file old new (Err Broken) due file;
              same_file = file.same_file due;
              few = λ is. absurd cc;
              short = λ is. absurd cc;
              behind = λ is. absurd cc;
              laid = λ is. absurd cc;
            };
        kept = λ ha hb is. absurd cc;
        given_out = λ ha hb was x y at_x at_y.
            let found = moments ha hb was in
            finds found.0 found.1 (given_state x y) (found.2 x y (counts_now (history new.a) (length (history old.a)) x at_x)
            (counts_now (history new.b) (length (history old.b)) y at_y));
        any_moment = λ ha hb was room x y at_x at_y.
            let found = moments ha hb was in
            finds_prefix found.0 found.1 (given_state x y) (found.2 x y at_x at_y);
        continues_a = continues_a;
        continues_b = continues_b;
        honest_a = honest_a;
        honest_b = honest_b;
      }

-- ---- what a call made of a group

pub is_or_not : (was : Bool) → (was ≡ true) ⊎ (was ≡ false)
is_or_not true = inl refl
is_or_not false = inr refl

one_of : (front : List Event) → front ≢ [] → length front ≤ 1 → (event : Event) × (front ≡ event ∷ [])
one_of [] some few = absurd (some refl)
one_of (event ∷ []) some few = (event, refl)
one_of (event ∷ other ∷ front) some few = absurd (omega (arith, few))

-- a group that isn't empty answers or refuses an event
pub some_answered : {D : Type 0} (old : LiveState D) (events : List Event) (turns : List Answer) (rest : List Event)
    → EndsThere old events turns false rest → events ≢ [] → asked_by turns ≢ []
some_answered old events [] rest ends some = λ _.
    let all : events ≡ rest = ends.parted in
    let full = ends.full refl (λ none. some (all ∙ none)) in
    absurd cc
some_answered old events (t ∷ turns) rest ends some = λ none. absurd cc

pub some_refused : (front : List Event) (event : Event) → front ++ event ∷ [] ≢ []
some_refused front event = λ none. absurd (omega (arith, ap length none, length-append front (event ∷ [])))

pub parted_refused : (events front rest : List Event) (event : Event) → events ≡ front ++ event ∷ rest → events ≡ (front ++ event ∷ []) ++ rest
parted_refused events front rest event is = is ∙ sym (append_assoc front (event ∷ []) rest)

module _ {D : Type 0} (honest : D → Type 0) (history : D → List Change) (old new : LiveState D) (events rest : List Event)
    (some : events ≢ [])
    (was_kept : honest old.a → honest old.b → old.is_broken ≡ false
    → AllFindNow (λ f. f ≡ Some old.state.machine.saved) (history old.a) (history old.b))
    (kept : honest old.a → honest old.b → new.is_broken ≡ false
    → AllFindNow (λ f. f ≡ Some new.state.machine.saved) (history new.a) (history new.b))
    (moments : honest old.a → honest old.b → old.is_broken ≡ false
    → (whole : List Entry) × IsOfFront whole events rest × AllFindSince (IsNoneOrAll old.state whole)
    (history new.a) (length (history old.a)) (history new.b) (length (history old.b)))
    (continues_a : honest old.a → Continues (history old.a) (history new.a))
    (continues_b : honest old.b → Continues (history old.b) (history new.b))
    (honest_a : honest old.a ↔ honest new.a) (honest_b : honest old.b ↔ honest new.b) where
  pub refused_group : {T : Type 0} (error : LiveError) (f : RefusesFront old events error rest)
      → (let result : Result T LiveError = Err error in RefusesInOrder old new result) → WritesOneFile old new (Err error)
      → IsGroupsSoFar honest history old new f.front (refusals (length f.front) error)
  refused_group Broken f refuses file = elim (is_or_not old.is_broken) [
    | inl was ↦ subst (λ (v : LiveState D). IsGroupsSoFar honest history old v f.front (refusals (length f.front) Broken))
        (sym (refuses.broken was).1) (refused_broken honest history old f.front was)
    | inr usable ↦ refused_fault honest history old new events f.front rest usable
        (λ is. (let spent = (refuses.numbers_spent usable).1 is in absurd cc)) (refuses.breaks refl) (f.some some) f.parted file
        refuses.not_counted moments continues_a continues_b honest_a honest_b
  ]
  refused_group NoMemory f refuses file = elim (is_or_not old.is_broken) [
    | inl was ↦ (let not = (refuses.broken was).0 in absurd cc)
    | inr usable ↦
        let one = one_of f.front (f.some some) (f.alone (inr (λ is. absurd cc))) in
        subst (λ (l : List Event). IsGroupsSoFar honest history old new l (refusals (length l) NoMemory)) (sym one.1)
        (refused_memory honest history old new one.0 usable (λ is. (let spent = (refuses.numbers_spent usable).1 is in absurd cc)) (refuses.stays (λ is. absurd cc)) was_kept kept continues_a continues_b
        honest_a honest_b)
  ]
  refused_group NumbersSpent f refuses file = elim (is_or_not old.is_broken) [
    | inl was ↦ (let not = (refuses.broken was).0 in absurd cc)
    | inr usable ↦
        let one = one_of f.front (f.some some) (f.alone (inr (λ is. absurd cc))) in
        subst (λ (l : List Event). IsGroupsSoFar honest history old new l (refusals (length l) NumbersSpent)) (sym one.1)
        (subst (λ (v : LiveState D). IsGroupsSoFar honest history old v (one.0 ∷ []) (Err NumbersSpent ∷ [])) (sym (refuses.nothing_done refl))
        (refused_still honest history old one.0 NumbersSpent (λ is. absurd cc) (λ is. (refuses.numbers_spent usable).0 refl) usable was_kept))
  ]

-- what answers was not broken, and its numbers were not spent
pub ok_usable : {D T : Type 0} (old new : LiveState D) (t : T) → (let result : Result T LiveError = Ok t in RefusesInOrder old new result)
    → old.is_broken ≡ false
ok_usable old new t refuses = elim (is_or_not old.is_broken) [
  | inl was ↦ (let not = (refuses.broken was).0 in absurd cc)
  | inr usable ↦ usable
]

pub ok_unspent : {D T : Type 0} (old new : LiveState D) (t : T) → (let result : Result T LiveError = Ok t in RefusesInOrder old new result)
    → AreSpent old.numbers old.file → ⊥
ok_unspent old new t refuses is = (let spent = (refuses.numbers_spent (ok_usable old new t refuses)).1 is in cc)
