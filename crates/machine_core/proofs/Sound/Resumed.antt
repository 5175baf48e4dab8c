-- What is kept behind a command or an event keeps the player sound and its frame within the song, and so is the player that goes on.
use Rattle.std.proofs.Common.{◌≡◌, ℕ, suc, ◌+◌, ◌<◌, ltb-true, lt-ltb, Bool, true, false, cond, ◌==◌, List, [], ◌∷◌, ◌++◌, length, nat_lt, is_some, min}
use Rattle.std.proofs.Common.{Option, Some, None, Ok, refl, sym, subst, arith}
use Rattle.std.specs.List.{position_or_len}
use Rattle.std.specs.Prelude.{option_and_then}
use Rattle.std.proofs.lemmas.Bool.{false≢true}
use Rattle.command_text.specs.declared.command.Command.{Command}
use Rattle.command_text.specs.declared.tag_mask.TagMask.{TagMask}
use Rattle.play_queue.specs.declared.entry.Entry.{Entry}
use Rattle.player_core.specs.Order.{current_entry}
use Rattle.player_core.specs.Place.{PlaceState, at_id, found_ids, resumed, resumed_at, resumed_round}
use Rattle.player_core.specs.Player.{noted, without}
use Rattle.player_core.specs.Reports.{counts}
use Rattle.player_core.specs.declared.failure.BrokenCause.{BrokenCause}
use Rattle.player_core.specs.declared.selector.Selector.TheVariants.{Id}
use Rattle.song_db.specs.Row.{Row}
use Rattle.song_db.specs.declared.change.RowChange.{RowChange}
use Rattle.machine_core.specs.Command.{meaning}
use Rattle.machine_core.specs.Followed.{current_row, entry_row}
use Rattle.machine_core.specs.Happening.{nothing_happens}
use Rattle.machine_core.specs.Keeping.{keeps, keeps_place, kept, kept_event, resumed_from, resumes, when_kept, when_resumed}
use Rattle.machine_core.specs.Meaning.{Meaning}
use Rattle.machine_core.specs.Reports.{when_broken, when_ended}
use Rattle.machine_core.specs.Room.{caught, is_idle, room_back, when_room}
use Rattle.machine_core.specs.Scanning.{when_found}
use Rattle.machine_core.specs.Sound.{AreOwn, IsIn, IsSound, IsSoundMachine, IsSoundPlayer}
use Rattle.machine_core.specs.State.{MachineState, lacks_room, told_room}
use Rattle.machine_core.specs.Steps.{length_of, named_length}
use Rattle.std.specs.List.{AllByRecursion}
use Rattle.machine_core.proofs.KeepingLaws.{at_holds, at_sound, kept_holds, kept_sound}
use Rattle.machine_core.proofs.KeptLaws.{kept_is}
use Rattle.machine_core.proofs.KeptTimes.{times_keep}
use Rattle.machine_core.proofs.Sound.Commands.{command_sound, when_broken_sound, when_ended_sound, when_found_sound}
use Rattle.machine_core.proofs.Sound.Forms.{turned_sound}
use Rattle.machine_core.proofs.Sound.Frame.{FrameWithin}
use Rattle.machine_core.proofs.Sound.Ids.{all_behind, all_without, apart_without, has_here, has_later, own_behind, own_without}
use Rattle.machine_core.proofs.Sound.Kept.{command_holds, when_broken_holds, when_ended_holds, when_found_holds}

-- ---- commands and events, with what is kept behind them

pub kept_command_sound : (mask : TagMask) (command : Command) (m : MachineState) (x : Meaning) → IsSound m
    → kept m (meaning mask command m) ≡ Ok x → IsSound x.after
kept_command_sound mask command m x sound is =
    let y = kept_is m (meaning mask command m) x is in
    let placed = kept_sound m y.0.after (command_sound mask command m y.0 sound y.1) in
    subst (λ (z : Meaning). IsSound z.after) y.2
    (times_keep (λ (z : Meaning). IsSound z.after) m (keeps m y.0) placed (λ wide lists changes. placed))

pub kept_command_holds : (mask : TagMask) (command : Command) (m : MachineState) (x : Meaning) → IsSoundMachine m
    → kept m (meaning mask command m) ≡ Ok x → IsSoundMachine x.after
kept_command_holds mask command m x holds is =
    let y = kept_is m (meaning mask command m) x is in
    let placed = kept_holds m y.0.after (command_holds mask command m y.0 holds y.1) in
    subst (λ (z : Meaning). IsSoundMachine z.after) y.2
    (times_keep (λ (z : Meaning). IsSoundMachine z.after) m (keeps m y.0) placed (λ wide lists changes. record {
      sound = placed.sound;
      queue = placed.queue;
      frame = placed.frame;
    }))

pub kept_ended_sound : (ticket : ℕ) (m : MachineState) → IsSound m → let h = kept_event m (when_ended ticket m) in IsSound h.after
kept_ended_sound ticket m sound = let h = when_ended ticket m in kept_sound m h.after (when_ended_sound ticket m sound)

pub kept_ended_holds : (ticket : ℕ) (m : MachineState) → IsSoundMachine m
    → let h = kept_event m (when_ended ticket m) in IsSoundMachine h.after
kept_ended_holds ticket m holds = let h = when_ended ticket m in kept_holds m h.after (when_ended_holds ticket m holds)

pub kept_broken_sound : (ticket : ℕ) (cause : BrokenCause) (m : MachineState) → IsSound m
    → let h = kept_event m (when_broken ticket cause m) in IsSound h.after
kept_broken_sound ticket cause m sound =
    let h = when_broken ticket cause m in kept_sound m h.after (when_broken_sound ticket cause m sound)

pub kept_broken_holds : (ticket : ℕ) (cause : BrokenCause) (m : MachineState) → IsSoundMachine m
    → let h = kept_event m (when_broken ticket cause m) in IsSoundMachine h.after
kept_broken_holds ticket cause m holds =
    let h = when_broken ticket cause m in kept_holds m h.after (when_broken_holds ticket cause m holds)

pub kept_found_sound : (job : ℕ) (changes : List RowChange) (m : MachineState) → IsSound m
    → let h = kept_event m (when_found job changes m) in IsSound h.after
kept_found_sound job changes m sound =
    let h = when_found job changes m in kept_sound m h.after (when_found_sound job changes m sound)

pub kept_found_holds : (job : ℕ) (changes : List RowChange) (m : MachineState) → IsSoundMachine m
    → let h = kept_event m (when_found job changes m) in IsSoundMachine h.after
kept_found_holds job changes m holds =
    let h = when_found job changes m in kept_holds m h.after (when_found_holds job changes m holds)

pub when_kept_sound : (ticket : ℕ) (m : MachineState) → IsSound m → let h = when_kept ticket m in IsSound h.after
when_kept_sound ticket m sound = of (counts m.player.state m.player.ticket ticket)
  where
    of : (b : Bool) → let h = cond b (keeps_place m) (nothing_happens m) in IsSound h.after
    of true = at_sound m sound
    of false = sound

pub when_kept_holds : (ticket : ℕ) (m : MachineState) → IsSoundMachine m → let h = when_kept ticket m in IsSoundMachine h.after
when_kept_holds ticket m holds = of (counts m.player.state m.player.ticket ticket)
  where
    of : (b : Bool) → let h = cond b (keeps_place m) (nothing_happens m) in IsSoundMachine h.after
    of true = at_holds m holds
    of false = holds

-- ---- it is told whether there is room

caught_sound : (m : MachineState) → IsSound m → IsSound (caught m)
caught_sound m sound = turned_sound m.saved.options.random m.saved.queue.entries m.saved.options.random m.player sound

pub when_room_sound : (is_there : Bool) (m : MachineState) → IsSound m → let h = when_room is_there m in IsSound h.after
when_room_sound false m sound = sound
when_room_sound true m sound = of (lacks_room m)
  where
    caught_by : (b : Bool) → let h = cond b (nothing_happens (told_room true m)) (keeps_place (caught m)) in IsSound h.after
    caught_by true = sound
    caught_by false = at_sound (caught m) (caught_sound m sound)

    of : (b : Bool) → let h = room_back b m in IsSound h.after
    of true = caught_by (is_idle m.player)
    of false = sound

pub when_room_holds : (is_there : Bool) (m : MachineState) → IsSoundMachine m
    → let h = when_room is_there m in IsSoundMachine h.after
when_room_holds false m holds = record { queue = holds.queue; sound = holds.sound; frame = holds.frame }
when_room_holds true m holds = of (lacks_room m)
  where
    caught_by : (b : Bool) → let h = cond b (nothing_happens (told_room true m)) (keeps_place (caught m)) in IsSoundMachine h.after
    caught_by true = record { queue = holds.queue; sound = holds.sound; frame = holds.frame }
    caught_by false =
        at_holds (caught m) (record { queue = holds.queue; sound = caught_sound m holds.sound; frame = holds.frame })

    of : (b : Bool) → let h = room_back b m in IsSoundMachine h.after
    of true = caught_by (is_idle m.player)
    of false = record { queue = holds.queue; sound = holds.sound; frame = holds.frame }

-- ---- the player that goes on

ends_before : (entries : List Entry) (id : ℕ) → nat_lt (position_or_len (λ entry. entry.id == id) entries) (length entries) ≡ true
    → IsIn entries id
ends_before [] id less = absurd (cc)
ends_before (entry ∷ entries) id less = of (entry.id == id) refl less (ends_before entries id)
  where
    of : (b : Bool) → (entry.id == id) ≡ b
        → nat_lt (position_or_len (λ entry. entry.id == id) (entry ∷ entries)) (suc (length entries)) ≡ true
        → (nat_lt (position_or_len (λ entry. entry.id == id) entries) (length entries) ≡ true → IsIn entries id) → IsIn (entry ∷ entries) id
    of true is less rest = has_here (λ e. e.id == id) entry entries is
    of false is less rest =
        let more : nat_lt (1 + position_or_len (λ entry. entry.id == id) entries) (suc (length entries)) ≡ true = rw is at less in
        let before : 1 + position_or_len (λ entry. entry.id == id) entries < suc (length entries) =
        ltb-true (1 + position_or_len (λ entry. entry.id == id) entries) (suc (length entries)) more in
        has_later (λ e. e.id == id) entry entries
        (rest (lt-ltb (position_or_len (λ entry. entry.id == id) entries) (length entries) (omega (arith, before))))

pub found_in : (entries : List Entry) (id : ℕ) → is_some (at_id entries id) ≡ true → IsIn entries id
found_in entries id is = of (nat_lt (position_or_len (λ entry. entry.id == id) entries) (length entries)) refl is
  where
    of : (b : Bool) → nat_lt (position_or_len (λ entry. entry.id == id) entries) (length entries) ≡ b
        → is_some (cond b (Some (position_or_len (λ entry. entry.id == id) entries)) None) ≡ true → IsIn entries id
    of true less is = ends_before entries id less
    of false none is = absurd (false≢true is)

-- each id that is found again stands in the queue, and once
found_sound : (entries : List Entry) (ids known : List ℕ) → AllByRecursion (IsIn entries) known → AreOwn known
    → AllByRecursion (IsIn entries) (found_ids entries ids known) × AreOwn (found_ids entries ids known)
found_sound entries [] known all own = (all, own)
found_sound entries (id ∷ ids) known all own = of (is_some (at_id entries id)) refl (found_sound entries ids)
  where
    of : (b : Bool) → is_some (at_id entries id) ≡ b
        → ((known : List ℕ) → AllByRecursion (IsIn entries) known → AreOwn known
        → AllByRecursion (IsIn entries) (found_ids entries ids known) × AreOwn (found_ids entries ids known))
        → AllByRecursion (IsIn entries) (found_ids entries ids (noted b id known)) × AreOwn (found_ids entries ids (noted b id known))
    of true is rest =
        rest (without id known ++ id ∷ [])
        (all_behind (IsIn entries) (without id known) id (all_without (IsIn entries) id known all) (found_in entries id is))
        (own_behind (without id known) id (own_without id known own) (apart_without id known own))
    of false is rest = rest known all own

round_sound : (random : Bool) (entries : List Entry) (played : List ℕ)
    → (AllByRecursion (IsIn entries) (resumed_round random entries played) × AreOwn (resumed_round random entries played))
    × (random ≡ false → resumed_round random entries played ≡ [])
round_sound true entries played = (found_sound entries played [] tt tt, λ off. absurd (false≢true (sym off)))
round_sound false entries played = ((tt, tt), λ off. refl)

resumed_sound : (plays random : Bool) (frames : ℕ) (entries : List Entry) (place : PlaceState)
    → IsSoundPlayer entries random (resumed plays random frames entries place)
resumed_sound plays random frames entries place = of (at_id entries place.song) refl
  where
    of : (at : Option ℕ) → at_id entries place.song ≡ at
        → IsSoundPlayer entries random (resumed_at plays frames place (resumed_round random entries place.played) at)
    of None is = let h = round_sound random entries place.played in
        record { current = tt; played = h.0.0; once = h.0.1; ordered = h.1 }
    of (Some at) is = let h = round_sound random entries place.played in
        record { current = found_in entries place.song (rw is refl); played = h.0.0; once = h.0.1; ordered = h.1 }

resumes_sound : (plays : Bool) (m : MachineState) (place : Option PlaceState) → IsSound m
    → let h = resumes plays m place in IsSound h.after
resumes_sound plays m None sound = sound
resumes_sound plays m (Some place) sound =
    resumed_sound plays m.saved.options.random (named_length (Id place.song) m).frames m.saved.queue.entries place

pub when_resumed_sound : (plays : Bool) (m : MachineState) → IsSound m → let h = when_resumed plays m in IsSound h.after
when_resumed_sound plays m sound = of (m.player.ticket == 0)
  where
    of : (b : Bool) → let h = cond b (resumes plays m m.saved.place) (nothing_happens m) in IsSound h.after
    of true = resumes_sound plays m m.saved.place sound
    of false = sound

cut_within : (row : Option Row) (frame : ℕ) → FrameWithin row (min frame (length_of row).frames)
cut_within None frame = tt
cut_within (Some row) frame = omega arith

resumed_within : (plays : Bool) (m : MachineState) (place : PlaceState) → let player = resumed_from plays m place in
    FrameWithin (current_row m.saved player) player.frame
resumed_within plays m place = of (at_id m.saved.queue.entries place.song)
  where
    of : (at : Option ℕ)
        → let player = resumed_at plays (named_length (Id place.song) m).frames place
        (resumed_round m.saved.options.random m.saved.queue.entries place.played) at in
        FrameWithin (current_row m.saved player) player.frame
    of None = tt
    of (Some at) =
        cut_within (option_and_then (entry_row m.saved.songs) (current_entry m.saved.queue.entries (Some place.song))) place.frame

resumes_holds : (plays : Bool) (m : MachineState) (place : Option PlaceState) → IsSoundMachine m
    → let h = resumes plays m place in IsSoundMachine h.after
resumes_holds plays m None holds = holds
resumes_holds plays m (Some place) holds = record {
  queue = holds.queue;
  sound = resumes_sound plays m (Some place) holds.sound;
  frame = resumed_within plays m place;
}

pub when_resumed_holds : (plays : Bool) (m : MachineState) → IsSoundMachine m → let h = when_resumed plays m in IsSoundMachine h.after
when_resumed_holds plays m holds = of (m.player.ticket == 0)
  where
    of : (b : Bool) → let h = cond b (resumes plays m m.saved.place) (nothing_happens m) in IsSoundMachine h.after
    of true = resumes_holds plays m m.saved.place holds
    of false = holds
