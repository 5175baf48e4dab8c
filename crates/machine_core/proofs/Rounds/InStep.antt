-- Behind each command and each event the kept place is in step with the player.
use Rattle.std.proofs.Common.{◌≡◌, ℕ, ◌+◌, Bool, true, false, cond, not, ◌==◌, ◌&&◌, List, [], ◌∷◌, ◌++◌}
use Rattle.std.proofs.Common.{Option, Some, None, Result, Ok, Err, refl, sym, ap, ◌∙◌, subst, arith, ◌⊎◌, inl, inr}
use Rattle.std.specs.Prelude.{min}
use Rattle.std.specs.Option.{option_map}
use Rattle.std.proofs.lemmas.Bool.{false≢true}
use Rattle.command_text.specs.declared.command.Command.{Command}
use Rattle.command_text.specs.declared.tag_mask.TagMask.{TagMask}
use Rattle.play_queue.specs.Entries.{deleted, kept as kept_entries}
use Rattle.play_queue.specs.declared.entry.Entry.{Entry}
use Rattle.player_core.specs.Choice.{placed}
use Rattle.player_core.specs.Commands.{gone_back, named, paused, played_from}
use Rattle.player_core.specs.Ending.{ended, over}
use Rattle.player_core.specs.Order.{current_entry}
use Rattle.player_core.specs.Place.{PlaceState, id_leaves, place_left}
use Rattle.player_core.specs.Player.{PlayerState, Step, left_by, stopped_without_song}
use Rattle.player_core.specs.Reports.{counts, failed, only, turned as turned_random}
use Rattle.player_core.specs.Seek.{sought, sought_current}
use Rattle.player_core.specs.Staying.{all_staying}
use Rattle.player_core.specs.declared.block.Block.{Block}
use Rattle.player_core.specs.declared.failure.BrokenCause.{BrokenCause}
use Rattle.player_core.specs.declared.options.Single.TheVariants.{Off}
use Rattle.player_core.specs.declared.refusal.PlayerError.{PlayerError}
use Rattle.profile.specs.declared.profile.Profile.{Profile}
use Rattle.profile.specs.declared.profile.Profile.TheVariants.{Wide}
use Rattle.song_db.specs.Row.{Row}
use Rattle.song_db.specs.Scan.{drops_of}
use Rattle.song_db.specs.declared.change.RowChange.{RowChange}
use Rattle.state_codec.specs.Applied.{after, after_all, changes_nothing, refusal_of}
use Rattle.state_codec.specs.OpsQueue.{after_queue, queue_refusal, range}
use Rattle.state_codec.specs.OpsSettings.{same_flag}
use Rattle.state_codec.specs.SavedState.{SavedState}
use Rattle.state_codec.specs.declared.op.Op.{Op}
use Rattle.state_codec.specs.declared.op.Op.TheVariants.{SetOption, SetVolume, SetOrder, Queue, List as Lists, Sticker, Batch, Place, Timed}
use Rattle.state_codec.specs.declared.op.list_op.ListOp.{ListOp}
use Rattle.state_codec.specs.declared.op.queue_op.QueueOp.{QueueOp}
use Rattle.state_codec.specs.declared.op.queue_op.QueueOp.TheVariants as queue
use Rattle.state_codec.specs.declared.op.setting.Setting.{Setting}
use Rattle.state_codec.specs.declared.op.setting.Setting.TheVariants as setting
use Rattle.machine_core.specs.Changed.{same_playing}
use Rattle.machine_core.specs.Command.{meaning}
use Rattle.machine_core.specs.Followed.{current_row, cut_to, followed, no_block, step_as_they_leave}
use Rattle.machine_core.specs.Happening.{Happening, if_room, nothing_happens}
use Rattle.machine_core.specs.Keeping.{goes_on, if_kept, keeps, keeps_place, kept, kept_event, place_ops, when_kept, with_ops}
use Rattle.machine_core.specs.Lists.{replaced}
use Rattle.machine_core.specs.ListMoves.{of_lists}
use Rattle.machine_core.specs.Meaning.{Meaning, does, edited, order_ops, refusal_of_all}
use Rattle.machine_core.specs.Queue.{bring, shuffle_ops}
use Rattle.machine_core.specs.Reports.{fed_in, when_broken, when_ended, when_fed}
use Rattle.machine_core.specs.Restart.{IsIdle, IsInStep, IsKeptPlace, IsSoundPlace, IsThere}
use Rattle.machine_core.specs.Scanning.{ends_scan, finds, found_a_change, is_running, kept_changes, telling as telling_rows, when_found, spared}
use Rattle.machine_core.specs.Scanning.{when_scanned}
use Rattle.machine_core.specs.Sound.{is_in_queue, IsSoundMachine}
use Rattle.machine_core.specs.State.{keeping, lacks_room, MachineState, settings_of, told_time}
use Rattle.machine_core.specs.Steps.{consume_ops, current_length, from_named, moves, puts, removal_ops, single_ops, step_in, steps}
use Rattle.machine_core.specs.declared.clock.ClockTime.{ClockTime}
use Rattle.machine_core.specs.declared.span.Span.{Span}
use Rattle.machine_core.specs.declared.steps.PlayerStep.{PlayerStep}
use Rattle.machine_core.specs.declared.steps.PlayerStep.TheVariants.{Resume, Play as PlayNamed, Seek, Next, Ended, Failed}
use Rattle.machine_core.proofs.CommandForms.{Holds, OfForms, Turn, command_so, is_commanded, turned}
use Rattle.machine_core.proofs.FullLaws.{room_happens}
use Rattle.machine_core.proofs.InTurn.{none_refused}
use Rattle.machine_core.proofs.KeepingLaws.{wide_room}
use Rattle.machine_core.proofs.KeptLaws.{kept_is}
use Rattle.machine_core.proofs.KeptTimes.{times_keep, with_time_op}
use Rattle.machine_core.proofs.ListMoves.{lists_only, with_lists_of}
use Rattle.machine_core.proofs.Rounds.Following.{RoundStep}
use Rattle.machine_core.proofs.Rounds.Kept.{Follows, and_first, at_the_player, few_played, filter_own, filter_short, follows_left}
use Rattle.machine_core.proofs.Rounds.Kept.{follows_same, left_round, place_comes, same_round, short_place, stays_in_step}
use Rattle.machine_core.proofs.Rounds.Moves.{Leaves as LeavesRound, MadeMoves, Moves, PlayerMoves, StepMoves, back_moves, ended_moves}
use Rattle.machine_core.proofs.Rounds.Moves.{failed_moves, followed_leaves, halted_moves, next_one_moves, over_moves, played_from_moves}
use Rattle.machine_core.proofs.Rounds.Moves.{resumed_moves, seek_moves, sought_moves, stays_moves, unless_moves}
use Rattle.machine_core.proofs.Sound.Edits.{id_test, keeps_entries, op_has, ruled_has}
use Rattle.machine_core.proofs.Sound.Kept.{command_holds, when_found_holds}
use Rattle.machine_core.proofs.Sound.Leaving.{stays_deleted, stays_kept}
use Rattle.machine_core.proofs.Sound.Steps.{Within}
use Rattle.machine_core.proofs.Sound.Within.{ended_holds, failed_holds}

-- each place behind what a command does follows
abbrev AllFollow : MachineState → MachineState → Type 0
AllFollow m n = (place : PlaceState) → n.saved.place ≡ Some place → Follows m n place

same_follows : (m n : MachineState) → IsSoundMachine m → IsInStep m → n.saved.place ≡ m.saved.place
    → Moves m.saved.queue.entries None m.player n.player → Within m.saved.queue.entries n.saved.queue.entries → AllFollow m n
same_follows m n holds step same moved within place is =
    follows_same m n place holds (step place (sym same ∙ is)) moved within

-- the player stays, and all entries
stays_follow : (m n : MachineState) → IsSoundMachine m → IsInStep m → n.saved.place ≡ m.saved.place → n.player ≡ m.player
    → Within m.saved.queue.entries n.saved.queue.entries → AllFollow m n
stays_follow m n holds step same stays within =
    same_follows m n holds step same
    (stays_moves m.saved.queue.entries m.player n.player (ap (λ (p : PlayerState). p.played) stays)) within

left_follows : (m n : MachineState) (block : Block) (dropped : List (List ℕ)) → IsSoundMachine m → IsInStep m
    → n.saved.place ≡ option_map (place_left block dropped m.saved.queue.entries) m.saved.place
    → LeavesRound m.saved.queue.entries block dropped m.player n.player
    → Within (all_staying block dropped m.saved.queue.entries) n.saved.queue.entries → AllFollow m n
left_follows m n block dropped holds step same leaves within place is = of m.saved.place refl
  where
    of : (before : Option PlaceState) → m.saved.place ≡ before → Follows m n place
    of None none = absurd (cc (is, same, ap (option_map (place_left block dropped m.saved.queue.entries)) none))
    of (Some one) some =
        let left : PlaceState = place_left block dropped m.saved.queue.entries one in
        let found : Some left ≡ Some place =
        sym (ap (option_map (place_left block dropped m.saved.queue.entries)) some) ∙ sym same ∙ is in
        let this : left ≡ place = (cc) in
        subst (Follows m n) this (follows_left m n block dropped one holds (step one some) leaves within)

-- what plays, or whether at random, is another
other_follows : (m n : MachineState) → IsSoundMachine m → IsInStep m → n.saved.place ≡ m.saved.place
    → RoundStep m.player.current m.player.played n.player.played → goes_on m n ≡ false → AllFollow m n
other_follows m n holds step same round other place is =
    let before = step place (sym same ∙ is) in
    record {
      once = before.sound.once;
      short = short_place m place holds before;
      round = same_round m place n.player.played before.here round;
      on = λ goes. absurd (false≢true (sym other ∙ goes));
    }

-- ---- edits

and_false : (a b : Bool) → b ≡ false → (a && b) ≡ false
and_false true b none = none
and_false false b none = refl

turned_round : (on : Bool) (player : PlayerState) → RoundStep player.current player.played (turned_random on player).played
turned_round true player = of player.current
  where
    of : (current : Option ℕ) → RoundStep player.current player.played (only current)
    of None = RoundStep.Empties refl
    of (Some id) = RoundStep.Opens id refl
turned_round false player = RoundStep.Empties refl

flag_turned : (a b : Bool) → same_flag a b ≡ false → same_flag b a ≡ false
flag_turned true true h = h
flag_turned true false h = refl
flag_turned false true h = refl
flag_turned false false h = h

abbrev after_edit : Op → MachineState → MachineState
after_edit op m = (let x = edited op [] (followed op m) m in x.after)

setting_follows : (op : Setting) (m : MachineState) → changes_nothing (SetOption op) m.saved ≡ false → IsSoundMachine m → IsInStep m
    → AllFollow m (after_edit (SetOption op) m)
setting_follows (setting.Repeat on) m other holds step =
    stays_follow m (after_edit (SetOption (setting.Repeat on)) m) holds step refl refl (λ id h. h)
setting_follows (setting.Random true) m other holds step =
    other_follows m (after_edit (SetOption (setting.Random true)) m) holds step refl (turned_round true m.player)
    (and_false (same_playing m.player (turned_random true m.player)) (same_flag m.saved.options.random true)
    (flag_turned true m.saved.options.random other))
setting_follows (setting.Random false) m other holds step =
    other_follows m (after_edit (SetOption (setting.Random false)) m) holds step refl (turned_round false m.player)
    (and_false (same_playing m.player (turned_random false m.player)) (same_flag m.saved.options.random false)
    (flag_turned false m.saved.options.random other))
setting_follows (setting.Single single) m other holds step =
    stays_follow m (after_edit (SetOption (setting.Single single)) m) holds step refl refl (λ id h. h)
setting_follows (setting.Consume consume) m other holds step =
    stays_follow m (after_edit (SetOption (setting.Consume consume)) m) holds step refl refl (λ id h. h)

-- entries come or are moved
carried : (op : QueueOp) (m : MachineState) → queue_refusal op m.saved ≡ None → keeps_entries op ≡ true
    → Within m.saved.queue.entries (after_queue op m.saved).queue.entries
carried op m none keeps = λ id h. op_has (λ e. e.id == id) (id_test id) op m.saved none keeps h

queue_follows : (op : QueueOp) (m : MachineState) → queue_refusal op m.saved ≡ None → IsSoundMachine m → IsInStep m
    → AllFollow m (after_edit (Queue op) m)
queue_follows (queue.Add at rows) m none holds step =
    stays_follow m (after_edit (Queue (queue.Add at rows)) m) holds step refl refl (carried (queue.Add at rows) m none refl)
queue_follows (queue.Delete start end) m none holds step = of (let next = followed (Queue (queue.Delete start end)) m in next.order)
  where
    entries : List Entry
    entries = m.saved.queue.entries

    block : Block
    block = range start end

    after_it : Step
    after_it = step_as_they_leave block [] m

    leaves : LeavesRound entries block [] m.player after_it.player
    leaves = followed_leaves entries (settings_of m.saved) block [] m.player

    within : Within (all_staying block [] entries) (after_queue (queue.Delete start end) m.saved).queue.entries
    within id h =
        ruled_has (λ e. e.id == id) (id_test id) m.saved.queue (deleted entries start end) []
        (stays_deleted (λ e. e.id == id) start end entries h)

    of : (order : Option ℕ) → AllFollow m (record m {
      saved = after_all (order_ops order ++ Queue (queue.Delete start end) ∷ []) m.saved;
      player = after_it.player;
    })
    of None = left_follows m _ block [] holds step refl leaves within
    of (Some order) = left_follows m _ block [] holds step refl leaves within
queue_follows (queue.Move start end to) m none holds step =
    stays_follow m (after_edit (Queue (queue.Move start end to)) m) holds step refl refl (carried (queue.Move start end to) m none refl)
queue_follows (queue.Swap one other) m none holds step =
    stays_follow m (after_edit (Queue (queue.Swap one other)) m) holds step refl refl (carried (queue.Swap one other) m none refl)
queue_follows (queue.Shuffle start end) m none holds step =
    stays_follow m (after_edit (Queue (queue.Shuffle start end)) m) holds step refl refl (carried (queue.Shuffle start end) m none refl)
queue_follows (queue.Prio priority ranges) m none holds step =
    stays_follow m (after_edit (Queue (queue.Prio priority ranges)) m) holds step refl refl
    (carried (queue.Prio priority ranges) m none refl)

edit_follows : (op : Op) (m : MachineState) → is_commanded op ≡ true → refusal_of op m.saved ≡ None → changes_nothing op m.saved ≡ false
    → IsSoundMachine m → IsInStep m → AllFollow m (after_edit op m)
edit_follows (SetOption op) m fits free other holds step = setting_follows op m other holds step
edit_follows (SetVolume volume) m fits free other holds step =
    stays_follow m (after_edit (SetVolume volume) m) holds step refl refl (λ id h. h)
edit_follows (SetOrder order) m fits free other holds step =
    stays_follow m (after_edit (SetOrder order) m) holds step refl refl (λ id h. h)
edit_follows (Queue op) m fits free other holds step = queue_follows op m free holds step
edit_follows (Lists op) m fits free other holds step =
    stays_follow m (after_edit (Lists op) m) holds step refl refl (λ id h. h)
edit_follows (Sticker op) m fits free other holds step =
    stays_follow m (after_edit (Sticker op) m) holds step refl refl (λ id h. h)
edit_follows (Batch changes) m fits free other holds step = absurd (cc)
edit_follows (Place op) m fits free other holds step = absurd (cc)
edit_follows (Timed seconds) m fits free other holds step = absurd (cc)

-- ---- shuffles

abbrev shuffle : Span → QueueOp
shuffle span = queue.Shuffle span.start span.end

shuffled_follow : (id : ℕ) (span : Span) (m : MachineState) → refusal_of_all (shuffle_ops id span m.saved) m.saved ≡ None
    → IsSoundMachine m → IsInStep m → let x = does [] (shuffle_ops id span m.saved) m.player m in AllFollow m x.after
shuffled_follow id span m none holds step =
    let free = none_refused (shuffle_ops id span m.saved) m.saved none in
    let first : MachineState = record m { saved = after (Queue (shuffle span)) m.saved } in
    stays_follow m (let x = does [] (shuffle_ops id span m.saved) m.player m in x.after) holds step refl refl
    (λ one h. carried (bring first.saved.queue.entries id span.start) first free.1.0 refl one (carried (shuffle span) m free.0 refl one h))

stopped_follow : (span : Span) (m : MachineState) → refusal_of (Queue (shuffle span)) m.saved ≡ None → IsSoundMachine m → IsInStep m
    → let x = does [] (Queue (shuffle span) ∷ []) (stopped_without_song m.player) m in AllFollow m x.after
stopped_follow span m none holds step =
    same_follows m (let x = does [] (Queue (shuffle span) ∷ []) (stopped_without_song m.player) m in x.after) holds step refl
    (stays_moves m.saved.queue.entries m.player (stopped_without_song m.player) refl) (carried (shuffle span) m none refl)

-- ---- playlists

together_follow : (ops : List ListOp) (m : MachineState) → IsSoundMachine m → IsInStep m
    → let x = does [] (of_lists ops) m.player m in AllFollow m x.after
together_follow ops m holds step =
    subst (λ (s : SavedState). AllFollow m (record m { saved = s })) (sym (lists_only ops m.saved))
    (stays_follow m (record m { saved = with_lists_of m.saved (after_all (of_lists ops) m.saved) }) holds step refl refl (λ id h. h))

-- ---- steps

-- the place behind the changes of a step
abbrev place_by : Option ℕ → SavedState → Option PlaceState
place_by None s = s.place
place_by (Some at) s = option_map (place_left (range at (at + 1)) [] s.queue.entries) s.place

abbrev changed_by : Option ℕ → Option ℕ → Bool → Bool → SavedState → SavedState
changed_by order removed single consume s =
    after_all (order_ops order ++ (removal_ops removed ++ (single_ops single ++ consume_ops consume))) s

turned_place : (single consume : Bool) (s : SavedState) → (after_all (single_ops single ++ consume_ops consume) s).place ≡ s.place
turned_place true true s = refl
turned_place true false s = refl
turned_place false true s = refl
turned_place false false s = refl

turned_entries : (single consume : Bool) (s : SavedState)
    → (after_all (single_ops single ++ consume_ops consume) s).queue.entries ≡ s.queue.entries
turned_entries true true s = refl
turned_entries true false s = refl
turned_entries false true s = refl
turned_entries false false s = refl

step_place : (order removed : Option ℕ) (single consume : Bool) (s : SavedState)
    → (changed_by order removed single consume s).place ≡ place_by removed s
step_place None None single consume s = turned_place single consume s
step_place (Some order) None single consume s = turned_place single consume (after (SetOrder order) s)
step_place None (Some at) single consume s = turned_place single consume (after (Queue (queue.Delete at (at + 1))) s)
step_place (Some order) (Some at) single consume s =
    turned_place single consume (after (Queue (queue.Delete at (at + 1))) (after (SetOrder order) s))

step_entries : (order : Option ℕ) (single consume : Bool) (s : SavedState)
    → (changed_by order None single consume s).queue.entries ≡ s.queue.entries
step_entries None single consume s = turned_entries single consume s
step_entries (Some order) single consume s = turned_entries single consume (after (SetOrder order) s)

-- an entry leaves by a step: what plays is then another
consumed_follow : (m n : MachineState) (at : ℕ) (place : PlaceState) → IsSoundMachine m → IsKeptPlace m place
    → RoundStep m.player.current (left_by (range at (at + 1)) [] 0 m.saved.queue.entries m.player.played) n.player.played
    → (goes_on m n ≡ true → ⊥) → Follows m n (place_left (range at (at + 1)) [] m.saved.queue.entries place)
consumed_follow m n at place holds before round other =
    let entries = m.saved.queue.entries in
    let block : Block = range at (at + 1) in
    record {
      once = filter_own (λ id. not (id_leaves block [] entries id)) place.played before.sound.once;
      short = omega (arith, short_place m place holds before, filter_short (λ id. not (id_leaves block [] entries id)) place.played);
      round = left_round m block [] place n.player.played holds before.sound.once before.here round;
      on = λ goes. absurd (other goes);
    }

changed_follow : (m : MachineState) (player : PlayerState) (order removed : Option ℕ) (single consume : Bool) → IsSoundMachine m
    → IsInStep m → Moves m.saved.queue.entries removed m.player player
    → AllFollow m (record m { saved = changed_by order removed single consume m.saved; player = player })
changed_follow m player order None single consume holds step moved =
    let n : MachineState = record m { saved = changed_by order None single consume m.saved; player = player } in
    same_follows m n holds step (step_place order None single consume m.saved) moved
    (λ id h. subst (λ (entries : List Entry). is_in_queue entries id ≡ true) (sym (step_entries order single consume m.saved)) h)
changed_follow m player order (Some at) single consume holds step moved = λ place is. of place is m.saved.place refl
  where
    n : MachineState
    n = record m { saved = changed_by order (Some at) single consume m.saved; player = player }

    other : goes_on m n ≡ true → ⊥
    other goes = (let same = moved.same (and_first _ _ goes) in let gone : Some at ≡ None = same.0 in cc)

    of : (place : PlaceState) → n.saved.place ≡ Some place → (before : Option PlaceState) → m.saved.place ≡ before → Follows m n place
    of place is None none =
        absurd (cc (
          is,
          step_place order (Some at) single consume m.saved,
          ap (option_map (place_left (range at (at + 1)) [] m.saved.queue.entries)) none,
        ))
    of place is (Some one) some =
        let left : PlaceState = place_left (range at (at + 1)) [] m.saved.queue.entries one in
        let found : Some left ≡ Some place =
        sym (ap (option_map (place_left (range at (at + 1)) [] m.saved.queue.entries)) some)
        ∙ sym (step_place order (Some at) single consume m.saved) ∙ is in
        let this : left ≡ place = (cc) in
        subst (Follows m n) this (consumed_follow m n at one holds (step one some) moved.round other)

steps_follow : (step : Step) (m : MachineState) → StepMoves m.saved.queue.entries m.player step → IsSoundMachine m → IsInStep m
    → let x = steps step m in AllFollow m x.after
steps_follow step m moved holds in_step =
    changed_follow m step.player step.changes.order step.changes.removed step.changes.single_off step.changes.consume_off holds in_step
    moved

named_moves : (m : MachineState) (found : Result ℕ PlayerError) (step : ℕ → Step)
    → ((id : ℕ) → StepMoves m.saved.queue.entries m.player (step id)) → MadeMoves m.saved.queue.entries m.player (from_named found step)
named_moves m (Ok id) step moved = moved id
named_moves m (Err refusal) step moved = tt

step_moves : (step : PlayerStep) (m : MachineState) → MadeMoves m.saved.queue.entries m.player (step_in step m)
step_moves Resume m = resumed_moves m.player.state m.saved.queue.entries (settings_of m.saved) m.player
step_moves (PlayNamed selector) m =
    named_moves m (named selector m.saved.queue.entries) (λ id. played_from (settings_of m.saved) m.player id)
    (λ id. played_from_moves m.saved.queue.entries (settings_of m.saved) m.player id)
step_moves (Seek selector song milliseconds) m =
    named_moves m (named selector m.saved.queue.entries) (λ id. sought (settings_of m.saved) song milliseconds m.player id)
    (λ id. sought_moves m.saved.queue.entries (settings_of m.saved) song milliseconds m.player id)
step_moves Next m =
    next_one_moves m.saved.queue.entries m.player.state m.player (over m.saved.queue.entries (settings_of m.saved) Off m.player)
    (λ plays. over_moves m.saved.queue.entries (settings_of m.saved) Off m.player plays)
step_moves (Ended ticket) m = ended_moves m.player.state m.saved.queue.entries (settings_of m.saved) m.player ticket refl
step_moves (Failed ticket cause) m =
    failed_moves m.saved.queue.entries (settings_of m.saved) m.player ticket cause (current_entry m.saved.queue.entries m.player.current)

-- what holds of a command that isn't refused
abbrev InStepWith : MachineState → Meaning → Type 0
InStepWith m x = IsSoundMachine m → IsInStep m → AllFollow m x.after

made_follow : (made : Result Step PlayerError) (m : MachineState) → MadeMoves m.saved.queue.entries m.player made
    → Holds InStepWith m (moves made m)
made_follow (Ok step) m moved = λ holds in_step. steps_follow step m moved holds in_step
made_follow (Err refusal) m moved = tt

-- ---- the player alone

put_follows : (made : Result PlayerState PlayerError) (m : MachineState)
    → (IsSoundMachine m → PlayerMoves m.saved.queue.entries m.player made) → Holds InStepWith m (puts made m)
put_follows (Ok player) m moved = λ holds in_step.
    same_follows m (record m { player = player }) holds in_step refl (moved holds) (λ id h. h)
put_follows (Err refusal) m moved = tt

turn_follows : (turn : Turn) (m : MachineState) → Holds InStepWith m (puts (turned turn m) m)
turn_follows Turn.ClearError m =
    put_follows (turned Turn.ClearError m) m
    (λ holds. stays_moves m.saved.queue.entries m.player (record m.player { error = None }) refl)
turn_follows (Turn.Pause switch) m =
    put_follows (turned (Turn.Pause switch) m) m
    (λ holds. stays_moves m.saved.queue.entries m.player (record m.player { state = paused switch m.player.state }) refl)
turn_follows Turn.Previous m =
    put_follows (turned Turn.Previous m) m
    (λ holds. unless_moves m.saved.queue.entries m.player.state m.player
    (gone_back m.saved.queue.entries (settings_of m.saved) m.player (placed m.saved.queue.entries m.player.current))
    (back_moves m.saved.queue.entries (settings_of m.saved) m.player (placed m.saved.queue.entries m.player.current) refl holds.sound.once))
turn_follows (Turn.SeekCurrent time) m =
    put_follows (turned (Turn.SeekCurrent time) m) m
    (λ holds. unless_moves m.saved.queue.entries m.player.state m.player
    (sought_current (settings_of m.saved) (current_length m) time m.player m.player.current)
    (seek_moves m.saved.queue.entries (settings_of m.saved) (current_length m) time m.player m.player.current))
turn_follows Turn.Stop m =
    put_follows (turned Turn.Stop m) m (λ holds. halted_moves m.saved.queue.entries m.player)

-- ---- commands

forms_follow : OfForms InStepWith
forms_follow = record {
  says = λ text m holds step. stays_follow m m holds step refl refl (λ id h. h);
  edits = λ op text m fits free other holds step. edit_follows op m fits free other holds step;
  replaces = λ name m free other holds step.
      stays_follow m (let x = replaced name m in x.after) holds step refl refl (λ id h. h);
  together = λ ops m free other. together_follow ops m;
  shuffles = shuffled_follow;
  stops = stopped_follow;
  begins = λ job text m own holds step. stays_follow m (record m { job = job }) holds step refl refl (λ id h. h);
  waits = λ job text m holds step.
      stays_follow m (record m { waiting = m.waiting ++ job ∷ [] }) holds step refl refl (λ id h. h);
  moves = λ step m knows. made_follow (step_in step m) m (step_moves step m);
  turns = turn_follows;
}

-- the times of playlists have nothing to do with it
timed_in_step : (z : Meaning) → IsInStep z.after → let x = with_time_op z in IsInStep x.after
timed_in_step z step place is = let before = step place is in record { sound = before.sound; here = before.here }

pub command_in_step : (mask : TagMask) (command : Command) (m : MachineState) (x : Meaning) → keeping m ≡ Wide
    → m.saved.profile ≡ Wide → IsSoundMachine m → IsInStep m → kept m (meaning mask command m) ≡ Ok x → IsInStep x.after
command_in_step mask command m x under wide holds step is =
    let y = kept_is m (meaning mask command m) x is in
    let placed = stays_in_step m y.0.after under (command_holds mask command m y.0 holds y.1)
    (subst (λ meant. Holds InStepWith m meant) y.1 (command_so InStepWith forms_follow mask command m) holds step) in
    subst (λ (z : Meaning). IsInStep z.after) y.2
    (times_keep (λ (z : Meaning). IsInStep z.after) m (keeps m y.0) placed (λ wide lists changes. timed_in_step (keeps m y.0) placed))

-- ---- events

pub ended_in_step : (ticket : ℕ) (m : MachineState) → keeping m ≡ Wide → m.saved.profile ≡ Wide → IsSoundMachine m → IsInStep m
    → let h = kept_event m (when_ended ticket m) in IsInStep h.after
ended_in_step ticket m keeps wide holds step =
    let made = ended m.saved.queue.entries (settings_of m.saved) m.player ticket in
    let x = steps made m in
    subst (λ (h : Happening). IsInStep h.after)
    (sym (room_happens m (λ settings. ended m.saved.queue.entries settings m.player ticket) (wide_room m keeps)))
    (stays_in_step m x.after keeps (ended_holds m ticket holds)
    (steps_follow made m (ended_moves m.player.state m.saved.queue.entries (settings_of m.saved) m.player ticket refl) holds step))

pub broken_in_step : (ticket : ℕ) (cause : BrokenCause) (m : MachineState) → keeping m ≡ Wide
    → m.saved.profile ≡ Wide → IsSoundMachine m → IsInStep m → let h = kept_event m (when_broken ticket cause m) in IsInStep h.after
broken_in_step ticket cause m keeps wide holds step =
    let made = failed m.saved.queue.entries (settings_of m.saved) m.player ticket cause in
    let x = steps made m in
    subst (λ (h : Happening). IsInStep h.after)
    (sym (room_happens m (λ settings. failed m.saved.queue.entries settings m.player ticket cause) (wide_room m keeps)))
    (stays_in_step m x.after keeps (failed_holds m ticket cause holds)
    (steps_follow made m (failed_moves m.saved.queue.entries (settings_of m.saved) m.player ticket cause
    (current_entry m.saved.queue.entries m.player.current)) holds step))

cut_leaves : (row : Option Row) (entries : List Entry) (block : Block) (dropped : List (List ℕ)) (p q : PlayerState)
    → LeavesRound entries block dropped p q → LeavesRound entries block dropped p (cut_to row q)
cut_leaves None entries block dropped p q leaves = leaves
cut_leaves (Some row) entries block dropped p q leaves =
    record { round = leaves.round; same = leaves.same; taken = leaves.taken }

batch_follows : (changes : List RowChange) (m : MachineState) → IsSoundMachine m → IsInStep m
    → let h = finds changes m in AllFollow m h.after
batch_follows [] m holds step = stays_follow m m holds step refl refl (λ id h. h)
batch_follows (change ∷ changes) m holds step = of (let next = followed (Batch all) m in next.order)
  where
    all : List RowChange
    all = change ∷ changes

    dropped : List (List ℕ)
    dropped = drops_of all

    entries : List Entry
    entries = m.saved.queue.entries

    after_it : Step
    after_it = step_as_they_leave no_block dropped m

    row : Option Row
    row = current_row (after (Batch all) m.saved) after_it.player

    leaves : LeavesRound entries no_block dropped m.player (cut_to row after_it.player)
    leaves =
        cut_leaves row entries no_block dropped m.player after_it.player
        (followed_leaves entries (settings_of m.saved) no_block dropped m.player)

    within : Within (all_staying no_block dropped entries) (after (Batch all) m.saved).queue.entries
    within id h =
        ruled_has (λ e. e.id == id) (id_test id) m.saved.queue (kept_entries entries dropped) _
        (stays_kept (λ e. e.id == id) dropped 0 entries h)

    of : (order : Option ℕ) → AllFollow m (record m {
      saved = after_all (order_ops order ++ Batch all ∷ []) m.saved;
      player = cut_to row after_it.player;
      job = found_a_change m.job;
    })
    of None = left_follows m _ no_block dropped holds step refl leaves within
    of (Some order) = left_follows m _ no_block dropped holds step refl leaves within

found_follows : (job : ℕ) (changes : List RowChange) (m : MachineState) → IsSoundMachine m → IsInStep m
    → let h = when_found job changes m in AllFollow m h.after
found_follows job changes m holds step = of (is_running job m)
  where
    rows : Happening
    rows = finds (telling_rows m.saved.songs (kept_changes m.saved.profile (spared m changes))) m

    in_room : (b : Bool) → let h = cond b (nothing_happens m) rows in AllFollow m h.after
    in_room true = stays_follow m m holds step refl refl (λ id h. h)
    in_room false = batch_follows (telling_rows m.saved.songs (kept_changes m.saved.profile (spared m changes))) m holds step

    of : (b : Bool) → let h = cond b (if_room m rows) (nothing_happens m) in AllFollow m h.after
    of true = in_room (lacks_room m)
    of false = stays_follow m m holds step refl refl (λ id h. h)

pub found_in_step : (job : ℕ) (changes : List RowChange) (m : MachineState) → keeping m ≡ Wide
    → m.saved.profile ≡ Wide → IsSoundMachine m → IsInStep m → let h = kept_event m (when_found job changes m) in IsInStep h.after
found_in_step job changes m keeps wide holds step =
    let h = when_found job changes m in
    stays_in_step m h.after keeps (when_found_holds job changes m holds) (found_follows job changes m holds step)

-- frames count: nothing else of the player changes
frame_moves : (m : MachineState) (q : PlayerState) (frame : ℕ) → q ≡ record m.player { frame = frame } → IsInStep m
    → IsInStep (record m { player = q })
frame_moves m q frame same step =
    subst (λ (p : PlayerState). IsInStep (record m { player = p })) (sym same) (λ place is.
    let before = step place is in record { sound = before.sound; here = of place before.here })
  where
    of : (place : PlaceState) → (IsIdle m.player) ⊎ (IsThere m.player place)
        → (IsIdle (record m.player { frame = frame })) ⊎ (IsThere (record m.player { frame = frame }) place)
    of place (inl idle) =
        inl (record { state = idle.state; current = idle.current; ticket = idle.ticket; played = idle.played })
    of place (inr there) =
        inr (record { plays = there.plays; state = there.state; song = there.song; played = there.played })

pub fed_in_step : (ticket frames : ℕ) (m : MachineState) → IsInStep m → let h = when_fed ticket frames m in IsInStep h.after
fed_in_step ticket frames m step = by (current_row m.saved m.player)
  where
    counted : (row : Row) (b : Bool)
        → IsInStep (record m { player = cond b (record m.player { frame = min (m.player.frame + frames) row.frames }) m.player })
    counted row true =
        frame_moves m (record m.player { frame = min (m.player.frame + frames) row.frames }) (min (m.player.frame + frames) row.frames)
        refl step
    counted row false = step

    by : (row : Option Row) → IsInStep (record m { player = fed_in row ticket frames m.player })
    by None = step
    by (Some row) = counted row (counts m.player.state m.player.ticket ticket)

pub same_player : (m n : MachineState) → n.saved ≡ m.saved → n.player ≡ m.player → IsInStep m → IsInStep n
same_player m n saved player step place is =
    let before = step place (ap (λ (s : SavedState). s.place) (sym saved) ∙ is) in
    record {
      sound = subst (λ (s : SavedState). IsSoundPlace s.queue.entries s.options.random place) (sym saved) before.sound;
      here = subst (λ (p : PlayerState). (IsIdle p) ⊎ (IsThere p place)) (sym player) before.here;
    }

pub scanned_in_step : (job : ℕ) (m : MachineState) → IsInStep m → let h = when_scanned job m in IsInStep h.after
scanned_in_step job m step = of (is_running job m)
  where
    of : (b : Bool) → let h = cond b (ends_scan m) (nothing_happens m) in IsInStep h.after
    of true = same_player m (let h = ends_scan m in h.after) refl refl step
    of false = step

pub clocked_in_step : (time : ClockTime) (m : MachineState) → IsInStep m → IsInStep (told_time time m)
clocked_in_step time m step = same_player m (told_time time m) refl refl step

-- where the player is now is kept
at_in_step : (m : MachineState) → keeping m ≡ Wide → m.saved.profile ≡ Wide → IsSoundMachine m → IsInStep m
    → let h = keeps_place m in IsInStep h.after
at_in_step m keeps wide holds step =
    subst (λ (p : Profile). IsInStep (with_ops (if_kept p (place_ops m.player.current m.player m.saved m.saved.place)) m)) (sym keeps)
    (of m.saved.place refl)
  where
    round : (place : PlaceState) → (IsIdle m.player) ⊎ (IsThere m.player place)
        → RoundStep m.player.current place.played m.player.played
    round place (inl idle) = RoundStep.Empties idle.played
    round place (inr there) = RoundStep.Stays (sym there.played)

    of : (place : Option PlaceState) → m.saved.place ≡ place
        → IsInStep (with_ops (place_ops m.player.current m.player m.saved place) m)
    of None is = step
    of (Some place) is =
        let before = step place is in
        subst (λ (s : SavedState). IsInStep (record m { saved = s }))
        (sym (place_comes m.player.current m place is (short_place m place holds before) (round place before.here) before.sound.once
        holds.sound.once (few_played m holds))) (at_the_player m holds)

pub kept_in_step : (ticket : ℕ) (m : MachineState) → keeping m ≡ Wide → m.saved.profile ≡ Wide → IsSoundMachine m → IsInStep m
    → let h = when_kept ticket m in IsInStep h.after
kept_in_step ticket m keeps wide holds step = of (counts m.player.state m.player.ticket ticket)
  where
    of : (b : Bool) → let h = cond b (keeps_place m) (nothing_happens m) in IsInStep h.after
    of true = at_in_step m keeps wide holds step
    of false = step
