-- Clients that come and go leave room for what those that wait are told.
use Rattle.std.proofs.Common.{◌≡◌, ℕ, ◌+◌, ◌≤◌, ◌<◌, Bool, true, false, not, ◌==◌, List, [], ◌∷◌, length, filter, cond}
use Rattle.std.proofs.Common.{refl, sym, ◌∙◌, ap, subst, arith, ltb-true, Option, Some, None, Result, Ok, Err, length-append}
use Rattle.std.proofs.lemmas.Bool.{false≢true}
use Rattle.std.specs.Prelude.{nat_lt, is_some, is_err, IsOk, OnOk}
use Rattle.idle_masks.specs.declared.refusal.WatchError.{WatchError}
use Rattle.std.specs.List.{list_all}
use Rattle.idle_masks.specs.Subsystems.{none, is_empty}
use Rattle.idle_masks.specs.declared.subsystem.Subsystems.{Subsystems}
use Rattle.idle_masks.specs.Watched.{newcomer, joined, left, with_waiting, due, reports_of}
use Rattle.idle_masks.specs.declared.watch.Watched.{Watched}
use Rattle.daemon_core.specs.Handled.{Does, IsNothingBut}
use Rattle.daemon_core.specs.Parts.{state_of}
use Rattle.daemon_core.specs.Pending.{with_news}
use Rattle.daemon_core.specs.Room.{IsRoomFor, IsReadyToTell}
use Rattle.daemon_core.specs.Session.{Acted}
use Rattle.daemon_core.specs.declared.handled.Handled.{Handled}
use Rattle.daemon_core.specs.declared.parts.CoreParts.{CoreParts}
use Rattle.daemon_core.specs.declared.room.Room.{Room}
use Rattle.daemon_core.proofs.RoomLaws.{fewer_fit, length_with, reports_fit, news_length, some_are}

-- what an event does that answers or closes, and nothing else
pub does_but : (a : Acted) (q : CoreParts) (h : Handled) → IsNothingBut a.answer a.closes h → state_of q ≡ a.after → a.ops ≡ [] →
    a.refused_at ≡ None → a.looks ≡ 0 → a.ended ≡ false → a.changed ≡ none → q.talks.notified.items ≡ a.notified → IsReadyToTell q →
    Does a q h
does_but a q h but state ops refused looks ended changed notified ready = record {
  state = state;
  answer = but.answer;
  closes = but.closes;
  ops = but.ops ∙ sym ops;
  refused_at = but.refused_at ∙ sym refused;
  looks = but.looks ∙ sym looks;
  ended = but.ended ∙ sym ended;
  changed = but.changed ∙ sym changed;
  notified = notified;
  one = but.one;
  ready = ready;
}

-- room that is enough for the parts of before is enough for these
pub ready_with : (p q : CoreParts) (ws : List Watched) → IsRoomFor (length ws) p.room → q.watch ≡ ws → q.room ≡ p.room → IsReadyToTell q
ready_with p q ws fits watch room =
    subst (λ (r : Room). IsRoomFor (length q.watch) r) (sym room)
    (subst (λ (vs : List Watched). IsRoomFor (length vs) p.room) (sym watch) fits)

pub filtered_shorter : (q : Watched → Bool) (ws : List Watched) → length (filter q ws) ≤ length ws
filtered_shorter q [] = omega arith
filtered_shorter q (w ∷ ws) =
    elim (q w) as (λ b. length (cond b (w ∷ filter q ws) (filter q ws)) ≤ length (w ∷ ws)) [
      | true ↦ omega (arith, filtered_shorter q ws)
      | false ↦ omega (arith, filtered_shorter q ws)
    ]

-- a client that leaves
pub left_ready : (p q : CoreParts) (c : ℕ) → IsReadyToTell p → q.watch ≡ left p.watch c → q.room ≡ p.room → IsReadyToTell q
left_ready p q c ready watch room = ready_with p q (left p.watch c)
    (fewer_fit (length p.watch) (length (left p.watch c)) p.room ready (filtered_shorter (λ w. not (w.client == c)) p.watch))
    watch room

-- a client that begins to wait, or waits no more
pub waiting_ready : (p q : CoreParts) (c : ℕ) (mask : Option Subsystems) → IsReadyToTell p → q.watch ≡ with_waiting p.watch c mask →
    q.room ≡ p.room → IsReadyToTell q
waiting_ready p q c mask ready watch room = ready_with p q (with_waiting p.watch c mask)
    (subst (λ n. IsRoomFor n p.room) (sym (length_with p.watch c mask)) ready) watch room

-- those below and those above a number, of which no client is both
apart_one : (w : Watched) (below above all : List Watched) (c : ℕ) (lt gt : Bool) → nat_lt w.client c ≡ lt → nat_lt c w.client ≡ gt →
    length below + length above ≤ length all →
    length (cond lt (w ∷ below) below) + length (cond gt (w ∷ above) above) ≤ length (w ∷ all)
apart_one w below above all c true true less more fits =
    let a : w.client < c = ltb-true w.client c less in let b : c < w.client = ltb-true c w.client more in absurd (omega (arith, a, b))
apart_one w below above all c true false less more fits = omega (arith, fits)
apart_one w below above all c false true less more fits = omega (arith, fits)
apart_one w below above all c false false less more fits = omega (arith, fits)

apart : (c : ℕ) (ws : List Watched) →
    length (filter (λ w. nat_lt w.client c) ws) + length (filter (λ w. nat_lt c w.client) ws) ≤ length ws
apart c [] = omega arith
apart c (w ∷ ws) = apart_one w (filter (λ v. nat_lt v.client c) ws) (filter (λ v. nat_lt c v.client) ws) ws c
    (nat_lt w.client c) (nat_lt c w.client) refl refl (apart c ws)

-- a client that comes
pub joined_length : (ws : List Watched) (c : ℕ) → length (joined ws c) ≤ length ws + 1
joined_length ws c =
    let below : List Watched = filter (λ w. nat_lt w.client c) ws in
    let above : List Watched = filter (λ w. nat_lt c w.client) ws in
    omega (arith, apart c ws, length-append below (newcomer c ∷ above))

pub joined_ready : (p q : CoreParts) (c : ℕ) (room : Room) → IsRoomFor (length p.watch + 1) room → q.watch ≡ joined p.watch c →
    q.room ≡ room → IsReadyToTell q
joined_ready p q c room fits watch same =
    subst (λ (r : Room). IsRoomFor (length q.watch) r) (sym same)
    (subst (λ (ws : List Watched). IsRoomFor (length ws) room) (sym watch)
    (fewer_fit (length p.watch + 1) (length (joined p.watch c)) room fits (joined_length p.watch c)))

-- what a call that went well says
pub so_ok : {P : Type 0} (r : Result (Unit {0}) WatchError) → IsOk r → OnOk r P → P
so_ok (Ok u) is went = went
so_ok (Err e) is went = absurd (false≢true is)

pub not_err : {P : Type 0} (r : Result (Unit {0}) WatchError) → is_err r ≡ false → OnOk r P → P
not_err (Ok u) is went = went
not_err (Err e) is went = absurd (false≢true (sym is))

pub none_is : (o : Option Watched) → is_some o ≡ false → o ≡ None
none_is None is = refl
none_is (Some w) is = absurd (false≢true (sym is))

-- as many reports as clients, or fewer
pub reports_within : (p : CoreParts) (ws : List Watched) (changed : Subsystems) (notified : List ℕ) →
    ws ≡ with_news changed notified p.watch → length (reports_of ws) ≤ length p.watch
reports_within p ws changed notified is =
    let fits = reports_fit (with_news changed notified p.watch) in
    omega (arith, fits, ap length (ap reports_of is), news_length p.watch changed notified)

-- those that are told are some, where one is due something
pub some_are_told : (p : CoreParts) (changed : Subsystems) (notified : List ℕ) →
    list_all (λ w. is_empty (due w)) (with_news changed notified p.watch) ≡ false → 0 < length p.watch
some_are_told p changed notified due =
    let some = some_are (with_news changed notified p.watch) due in omega (arith, some, news_length p.watch changed notified)
