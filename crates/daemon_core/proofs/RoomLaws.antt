-- The memory that was taken before an event is enough for what it gives out.
use Rattle.std.proofs.Common.{◌≡◌, ℕ, suc, ◌≤◌, ◌<◌, Bool, true, false, ◌==◌, ◌&&◌, not, List, [], ◌∷◌, length}
use Rattle.std.proofs.Common.{cond, Option, Some, None, refl, sym, ◌∙◌, ap, arith}
use Rattle.std.specs.List.{cons_option, list_all}
use Rattle.std.specs.Prelude.{IsSome, IsOk, OnOk, OnErr, Result, Ok, Err, ◌↔◌}
use Rattle.std.proofs.lemmas.Bool.{false≢true}
use Rattle.idle_masks.specs.Subsystems.{none, difference, is_empty}
use Rattle.idle_masks.specs.Watched.{watched, left, with_waiting, due, reports_of, reported}
use Rattle.idle_masks.specs.Watched.{after_reports}
use Rattle.idle_masks.specs.declared.ready.Report.{Report}
use Rattle.idle_masks.specs.declared.refusal.WatchError.{WatchError}
use Rattle.idle_masks.specs.declared.subsystem.Subsystems.{Subsystems}
use Rattle.idle_masks.specs.declared.watch.Watched.{Watched}
use Rattle.daemon_core.specs.Pending.{with_news}
use Rattle.daemon_core.specs.Room.{IsRoomFor, KeepsRoom}
use Rattle.daemon_core.specs.declared.room.Room.{Room}
use Rattle.daemon_core.proofs.PendingLaws.{set_ext, contains-set_of, contains-empty}
use Rattle.daemon_core.proofs.RequestLaws.{union_none_right}

-- a client gets at most one report
one_at_most : (r : Report) (rest : List Report) (empty : Bool) → length (cons_option (cond empty None (Some r)) rest) ≤ suc (length rest)
one_at_most r rest true = omega arith
one_at_most r rest false = omega arith

pub reports_fit : (ws : List Watched) → length (reports_of ws) ≤ length ws
reports_fit [] = omega arith
reports_fit (w ∷ ws) =
    let one = one_at_most (record { client = w.client; changed = due w }) (reports_of ws) (is_empty (due w)) in
    omega (arith, one, reports_fit ws)

pub news_length : (ws : List Watched) (changed : Subsystems) (notified : List ℕ) → length (with_news changed notified ws) ≡ length ws
news_length [] changed notified = refl
news_length (w ∷ ws) changed notified = ap suc (news_length ws changed notified)

-- nothing more is pending where nothing changed and nobody is notified
no_news : (ws : List Watched) → with_news none [] ws ≡ ws
no_news [] = refl
no_news (w ∷ ws) = λ i. record w { pending = union_none_right w.pending i } ∷ no_news ws i

is_none : (set : Subsystems) → is_empty set ≡ true → set ≡ none
is_none set empty = set_ext set none (λ x. contains-empty set x empty ∙ sym (contains-set_of (λ _. false) x))

pub none_news : (ws : List Watched) (changed : Subsystems) (notified : List ℕ) → is_empty changed ≡ true → notified ≡ [] →
    with_news changed notified ws ≡ ws
none_news ws changed notified empty nobody = (λ i. with_news (is_none changed empty i) (nobody i) ws) ∙ no_news ws

-- where nothing is due, nothing is reported
both_true : (a b : Bool) → (a && b) ≡ true → (a ≡ true) × (b ≡ true)
both_true true b h = (refl, h)
both_true false b h = absurd (false≢true h)

pub none_reported : (ws : List Watched) → list_all (λ w. is_empty (due w)) ws ≡ true → reports_of ws ≡ []
none_reported [] h = refl
none_reported (w ∷ ws) h =
    let both = both_true (is_empty (due w)) (list_all (λ v. is_empty (due v)) ws) h in
    ap (λ b. cons_option (cond b None (Some (record { client = w.client; changed = due w }))) (reports_of ws)) both.0
    ∙ none_reported ws both.1

reported_nothing : (w : Watched) → is_empty (due w) ≡ true → reported w ≡ w
reported_nothing w h = ap (λ b. cond b w (record w { pending = difference w.pending (due w); waiting = None })) h

pub none_taken : (ws : List Watched) → list_all (λ w. is_empty (due w)) ws ≡ true → after_reports ws ≡ ws
none_taken [] h = refl
none_taken (w ∷ ws) h =
    let both = both_true (is_empty (due w)) (list_all (λ v. is_empty (due v)) ws) h in
    λ i. reported_nothing w both.0 i ∷ none_taken ws both.1 i

-- somebody is there to whom something is due
pub some_are : (ws : List Watched) → list_all (λ w. is_empty (due w)) ws ≡ false → 0 < length ws
some_are [] h = absurd (false≢true (sym h))
some_are (w ∷ ws) h = omega arith

pub length_with : (ws : List Watched) (c : ℕ) (mask : Option Subsystems) → length (with_waiting ws c mask) ≡ length ws
length_with [] c mask = refl
length_with (w ∷ ws) c mask = ap suc (length_with ws c mask)

-- one who is connected is one
pub some_watched : (ws : List Watched) (c : ℕ) → IsSome (watched ws c) → 0 < length ws
some_watched [] c h = absurd (false≢true h)
some_watched (w ∷ ws) c h = omega arith

-- room for more is room for less, and room that was kept is still there
pub fewer_fit : (clients fewer : ℕ) (room : Room) → IsRoomFor clients room → fewer ≤ clients → IsRoomFor fewer room
fewer_fit clients fewer room has h = record {
  texts = omega (arith, has.texts, h);
  outputs = λ some. let o = has.outputs (omega (arith, some, h)) in omega (arith, o, h);
  reports = omega (arith, has.reports, h);
}

pub still_fits : (clients : ℕ) (before after : Room) → IsRoomFor clients before → KeepsRoom before after → IsRoomFor clients after
still_fits clients before after has kept = record {
  texts = omega (arith, has.texts, kept.texts);
  outputs = λ some. let o = has.outputs some in omega (arith, o, kept.outputs);
  reports = omega (arith, has.reports, kept.reports);
}

-- a client that isn't watched leaves nothing behind
absent_one : (w : Watched) (ws kept : List Watched) (rest : Option Watched) (b : Bool) → (IsSome (cond b (Some w) rest) → ⊥) →
    ((IsSome rest → ⊥) → kept ≡ ws) →
    cond (not b) (w ∷ kept) kept ≡ w ∷ ws
absent_one w ws kept rest true h same = absurd (h refl)
absent_one w ws kept rest false h same = ap (λ k. w ∷ k) (same h)

pub left_absent : (ws : List Watched) (c : ℕ) → (IsSome (watched ws c) → ⊥) → left ws c ≡ ws
left_absent [] c h = refl
left_absent (w ∷ ws) c h = absent_one w ws (left ws c) (watched ws c) (w.client == c) h (left_absent ws c)

pub left_so : (r : Result (Unit {0}) WatchError) (old new : List Watched) (c : ℕ) → OnOk r (new ≡ left old c) → OnErr r (new ≡ old) →
    (IsOk r ↔ IsSome (watched old c)) → new ≡ left old c
left_so (Ok u) old new c went stayed found = went
left_so (Err e) old new c went stayed found = stayed ∙ sym (left_absent old c (λ s. false≢true (found.1 s)))
