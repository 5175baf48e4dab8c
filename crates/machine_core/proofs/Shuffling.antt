-- A shuffle around the song that plays, and one in stop: what every command keeps, and that the song comes to its place.
use Rattle.std.proofs.Common.{◌≡◌, ℕ, ◌+◌, ◌==◌, Bool, true, false, [], ◌∷◌, None}
use Rattle.std.proofs.Common.{refl, ap, arith}
use Rattle.std.proofs.lemmas.Bool.{eqb-true}
use Rattle.std.specs.Prelude.{if◌then◌else◌}
use Rattle.std.specs.Result.{result_ok}
use Rattle.player_core.specs.Player.{stopped_without_song}
use Rattle.player_core.specs.Words.{next_order}
use Rattle.state_codec.specs.Applied.{after, after_all, refusal_of}
use Rattle.state_codec.specs.SavedState.{SavedState}
use Rattle.state_codec.specs.declared.op.Op.{Op}
use Rattle.state_codec.specs.declared.op.Op.TheVariants.{Queue}
use Rattle.state_codec.specs.declared.op.queue_op.QueueOp.TheVariants.{Shuffle}
use Rattle.machine_core.specs.Meaning.{does, refusal_of_all}
use Rattle.machine_core.specs.Queue.{bring, shuffle_ops}
use Rattle.machine_core.specs.Sound.{IsSound, IsSoundMachine}
use Rattle.machine_core.specs.State.{MachineState}
use Rattle.machine_core.specs.declared.span.Span.{Span}
use Rattle.machine_core.proofs.FormLaws.{IsLawful, TellsChanges, edited_lawful, same_lists_told, same_stickers_told}
use Rattle.machine_core.proofs.InTurn.{all_apply, none_refused}
use Rattle.machine_core.proofs.Sound.Forms.{edited_sound}
use Rattle.machine_core.proofs.Sound.Within.{edited_holds}

-- the order number after one is another
next_is_another : (order : ℕ) → next_order order ≡ order → ⊥
next_is_another order same = by_cases (order == 18446744073709551615) refl same
  where
    by_cases : (last : Bool) → (order == 18446744073709551615) ≡ last → (if last then 0 else order + 1) ≡ order → ⊥
    by_cases true is e = (let greatest = eqb-true order 18446744073709551615 is in omega (arith, greatest, e))
    by_cases false is e = omega (arith, e)

abbrev pub shuffle : Span → Op
shuffle span = Queue (Shuffle span.start span.end)

-- what is shuffled, and then moved
abbrev both : ℕ → Span → SavedState → SavedState
both id span s = after_all (shuffle_ops id span s) s

-- ---- around a song

shuffled_tells : (id : ℕ) (span : Span) (m : MachineState) → TellsChanges m (does [] (shuffle_ops id span m.saved) m.player m)
shuffled_tells id span m = record {
  none = λ place same. absurd (next_is_another m.saved.order (ap (λ (t : SavedState). t.order) same));
  lists = same_lists_told m.saved (both id span m.saved) refl;
  stickers = same_stickers_told m.saved (both id span m.saved) refl;
}

pub shuffled_lawful : (id : ℕ) (span : Span) (m : MachineState) → refusal_of_all (shuffle_ops id span m.saved) m.saved ≡ None →
    IsLawful m (does [] (shuffle_ops id span m.saved) m.player m)
shuffled_lawful id span m none = record {
  rebuilt = ap result_ok (all_apply 0 (shuffle_ops id span m.saved) m.saved (none_refused (shuffle_ops id span m.saved) m.saved none));
  tells = λ kept. shuffled_tells id span m;
  place = λ e. refl;
  room = refl;
}

-- behind the shuffle alone
abbrev behind_it : Span → MachineState → MachineState
behind_it span m = record m { saved = after (shuffle span) m.saved }

pub shuffled_sound : (id : ℕ) (span : Span) (m : MachineState) → refusal_of_all (shuffle_ops id span m.saved) m.saved ≡ None → IsSound m
    → let x = does [] (shuffle_ops id span m.saved) m.player m in IsSound x.after
shuffled_sound id span m none sound =
    let free = none_refused (shuffle_ops id span m.saved) m.saved none in
    let n : MachineState = behind_it span m in
    edited_sound (Queue (bring n.saved.queue.entries id span.start)) [] n free.1.0 (edited_sound (shuffle span) [] m free.0 sound)

pub shuffled_holds : (id : ℕ) (span : Span) (m : MachineState) → refusal_of_all (shuffle_ops id span m.saved) m.saved ≡ None
    → IsSoundMachine m → let x = does [] (shuffle_ops id span m.saved) m.player m in IsSoundMachine x.after
shuffled_holds id span m none holds =
    let free = none_refused (shuffle_ops id span m.saved) m.saved none in
    let n : MachineState = behind_it span m in
    let first : IsSoundMachine n = (let h = edited_holds (shuffle span) [] m free.0 holds in
    record { queue = h.queue; sound = h.sound; frame = h.frame }) in
    let h = edited_holds (Queue (bring n.saved.queue.entries id span.start)) [] n free.1.0 first in
    record { queue = h.queue; sound = h.sound; frame = h.frame }

-- ---- in stop

pub stopped_lawful : (span : Span) (m : MachineState) → refusal_of (shuffle span) m.saved ≡ None →
    IsLawful m (does [] (shuffle span ∷ []) (stopped_without_song m.player) m)
stopped_lawful span m free =
    let h = edited_lawful (shuffle span) [] m refl free refl in
    record {
      rebuilt = h.rebuilt;
      tells = λ kept. (let t = h.tells kept in record { none = t.none; lists = t.lists; stickers = t.stickers });
      place = λ e. refl;
      room = refl;
    }

pub stopped_sound : (span : Span) (m : MachineState) → refusal_of (shuffle span) m.saved ≡ None → IsSound m
    → let x = does [] (shuffle span ∷ []) (stopped_without_song m.player) m in IsSound x.after
stopped_sound span m free sound =
    let h = edited_sound (shuffle span) [] m free sound in
    record { current = tt; played = h.played; once = h.once; ordered = h.ordered }

pub stopped_holds : (span : Span) (m : MachineState) → refusal_of (shuffle span) m.saved ≡ None → IsSoundMachine m
    → let x = does [] (shuffle span ∷ []) (stopped_without_song m.player) m in IsSoundMachine x.after
stopped_holds span m free holds =
    let h = edited_holds (shuffle span) [] m free holds in
    record { queue = h.queue; sound = stopped_sound span m free holds.sound; frame = tt }
