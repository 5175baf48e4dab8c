-- After an event nobody waits for what is pending for it.
use Rattle.std.proofs.Common.{◌≡◌, Bool, true, false, List, [], ◌∷◌, Option, Some, None, cond, refl, sym, ◌∙◌, ap}
use Rattle.std.specs.Prelude.{unwrap_or}
use Rattle.std.proofs.lemmas.Bool.{and_from, and_parts}
use Rattle.idle_masks.specs.Subsystems.{none, difference, intersection, is_empty}
use Rattle.idle_masks.specs.Watched.{due, reported, after_reports}
use Rattle.idle_masks.specs.declared.subsystem.Subsystems.{Subsystems}
use Rattle.idle_masks.specs.declared.watch.Watched.{Watched}
use Rattle.state_codec.specs.SavedState.{SavedState}
use Rattle.daemon_core.specs.Agreement.{Agree}
use Rattle.daemon_core.specs.Pending.{Moment, pending_of, with_news}
use Rattle.daemon_core.specs.Quiet.{is_quiet, NobodyIsDue}
use Rattle.daemon_core.specs.Replay.{Entry, replay, moments, told_waiting}
use Rattle.daemon_core.specs.Session.{Acted}
use Rattle.daemon_core.specs.Step.{acted, step}
use Rattle.daemon_core.proofs.HistoryLaws.{holds, intersection-none}

-- a client that was told waits no more, and one that was not has nothing due
quiet_one : (g : Watched) (empty : Bool) → is_empty (due g) ≡ empty →
    let after : Watched = cond empty g (record g { pending = difference g.pending (due g); waiting = None }) in
    is_empty (due after) ≡ true
quiet_one g true h = h
quiet_one g false h = ap is_empty (intersection-none (difference g.pending (due g)))

pub quiet_after : (ws : List Watched) → is_quiet (after_reports ws) ≡ true
quiet_after [] = refl
quiet_after (g ∷ gs) = and_from (is_empty (due (reported g))) (is_quiet (after_reports gs)) (quiet_one g (is_empty (due g)) refl)
    (quiet_after gs)

pub quiet : (kept : SavedState) (history : List Entry) → is_quiet (replay kept history).clients ≡ true
unfolding replay step
quiet kept [] = refl
quiet kept (entry ∷ earlier) =
    let a : Acted = acted (replay kept earlier) entry.event entry.refused in quiet_after (with_news a.changed a.notified a.after.clients)

-- so it is by the history
told_one : (so_far : List Moment) (w : Watched) (waiting : Option Subsystems) → w.waiting ≡ waiting →
    w.pending ≡ pending_of so_far w.client → is_empty (due w) ≡ true → told_waiting so_far w.client waiting ≡ None
told_one so_far w None waits agree quiet = refl
told_one so_far w (Some mask) waits agree quiet =
    ap (λ b. cond b None (Some (record { client = w.client; changed = intersection (pending_of so_far w.client) mask })))
    (ap (λ s. is_empty (intersection s mask)) (sym agree)
    ∙ ap (λ m. is_empty (intersection w.pending (unwrap_or m none))) (sym waits) ∙ quiet)

told_each : (so_far : List Moment) (ws : List Watched) → Agree so_far ws → is_quiet ws ≡ true → NobodyIsDue so_far ws
told_each so_far [] agree quiet = tt
told_each so_far (w ∷ ws) agree quiet =
    let parts = and_parts (is_empty (due w)) (is_quiet ws) quiet in
    (told_one so_far w w.waiting refl agree.0 parts.0, told_each so_far ws agree.1 parts.1)

pub nobody_is_due : (kept : SavedState) (history : List Entry) → NobodyIsDue (moments kept history) (replay kept history).clients
nobody_is_due kept history =
    let h = holds kept history in told_each (moments kept history) _ h.agree (quiet kept history)
