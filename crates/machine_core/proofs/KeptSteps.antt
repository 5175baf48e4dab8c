-- How the ops of the player's place are made one after the other, and that of the playlists' time; and that an event of the place happened
-- as it must.
use Rattle.std.proofs.Common.{◌≡◌, ℕ, ◌+◌, ◌-◌, ◌≤◌, Bool, true, false, cond, ◌==◌, List, [], ◌∷◌, ◌++◌, length, get_or, take, drop}
use Rattle.std.proofs.Common.{Option, Some, None, append_assoc, refl, sym, ap, subst, ◌∙◌, eq-eqb, arith}
use Rattle.std.proofs.lemmas.Bool.{ne_eqb}
use Rattle.std.specs.List.{list_any}
use Rattle.std.specs.Option.{option_to_list}
use Rattle.std.specs.Vec.{vec_capacity, vec_len}
use Rattle.std.proofs.lemmas.Grind.{flat_map-append}
use Rattle.std.proofs.lemmas.List.{length-append, length-drop, take_all}
use Rattle.idle_masks.specs.Subsystems.{none}
use Rattle.play_queue.specs.declared.entry.Entry.{Entry}
use Rattle.player_core.specs.Commands.{last_or}
use Rattle.player_core.specs.Place.{PlaceState, resumed}
use Rattle.player_core.specs.Player.{PlayerState}
use Rattle.player_core.specs.Reports.{counts}
use Rattle.player_core.specs.declared.selector.Selector.TheVariants.{Id}
use Rattle.profile.specs.declared.profile.Profile.{Profile}
use Rattle.profile.specs.declared.profile.Profile.TheVariants.{Named, Wide}
use Rattle.state_codec.specs.Applied.{after, after_all, all_applied, changes_nothing}
use Rattle.state_codec.specs.SavedState.{SavedState, IsSavedState}
use Rattle.state_codec.specs.Sealed.{checksum_len}
use Rattle.state_codec.specs.Spelling.{ops_bytes}
use Rattle.state_codec.specs.SpellingOps.{op_bytes}
use Rattle.state_codec.specs.declared.op.Op.{Op}
use Rattle.state_codec.specs.declared.op.Op.TheVariants.{Place}
use Rattle.state_codec.specs.declared.op.place_op.PlaceOp.{PlaceOp}
use Rattle.state_codec.specs.declared.op.place_op.PlaceOp.TheVariants.{Played}
use Rattle.machine_core.specs.Before.{before_of, changed_since, is_of_lists}
use Rattle.machine_core.specs.Happening.{HasHappened, Happening, nothing_happens}
use Rattle.machine_core.specs.Keeping.{goes_on_since, if_kept, keep_ops_since, keeps_place, leave_ops, place_ops, put_op}
use Rattle.machine_core.specs.Keeping.{resumed_from, resumes, round_ops, telling_ops, telling_time, time_ops, when_kept, when_resumed}
use Rattle.machine_core.specs.Keeping.{with_ops}
use Rattle.machine_core.specs.Size.{longest_keep, longest_place, max_request_bytes}
use Rattle.machine_core.specs.State.{MachineState}
use Rattle.machine_core.specs.Steps.{named_length}
use Rattle.machine_core.specs.Work.{CanKeepBy, CanTime, keep_count}
use Rattle.machine_core.specs.declared.changed.Before.{Before}
use Rattle.machine_core.specs.declared.happened.Happened.{Happened}
use Rattle.machine_core.specs.declared.work.Work.{Work}
use Rattle.machine_core.proofs.KeepingLaws.{at_applied, at_short}
use Rattle.machine_core.proofs.ReportsLaws.{player_happened}
use Rattle.machine_core.proofs.Scans.Laws.{nothing_happened}
use Rattle.machine_core.proofs.Sizes.{body_short}

-- ---- the step of the round

-- the last of some ids is found at the end
last_at : (first : ℕ) (ids : List ℕ) (d : ℕ) → get_or (first ∷ ids) (length ids) d ≡ last_or first ids
last_at first [] d = refl
last_at first (id ∷ ids) d = last_at id ids d

-- of more than one
pub round_goes_on : (before : Option ℕ) (kept played : List ℕ) (last : ℕ) (left : List PlaceOp) → 2 ≤ length played
    → last ≡ get_or played (length played - 1) 0 → left ≡ leave_ops before played → left ++ Played last ∷ [] ≡ round_ops before kept played
round_goes_on before kept [] last left more is gone = absurd (omega arith)
round_goes_on before kept (id ∷ []) last left more is gone = absurd (omega arith)
round_goes_on before kept (id ∷ next ∷ ids) last left more is gone =
    let counted : length (id ∷ next ∷ ids) - 1 ≡ length (next ∷ ids) = omega arith in
    ap (λ (l : List PlaceOp). l ++ Played last ∷ []) gone
    ∙ ap (λ (other : ℕ). leave_ops before (id ∷ next ∷ ids) ++ Played other ∷ [])
    (is ∙ ap (λ (k : ℕ). get_or (id ∷ next ∷ ids) k 0) counted ∙ last_at id (next ∷ ids) 0)

-- ---- one op

pub told_none : (op : PlaceOp) (s : SavedState) → changes_nothing (Place op) s ≡ true → telling_ops (op ∷ []) s ≡ []
told_none op s is = ap (λ (b : Bool). cond b [] (Place op ∷ [])) is

pub told_one : (op : PlaceOp) (s : SavedState) → changes_nothing (Place op) s ≡ false → telling_ops (op ∷ []) s ≡ Place op ∷ []
told_one op s is = ap (λ (b : Bool). cond b [] (Place op ∷ [])) is

-- ---- one after the other

telling_joined : (xs ys : List PlaceOp) (s : SavedState)
    → telling_ops (xs ++ ys) s ≡ telling_ops xs s ++ telling_ops ys (after_all (telling_ops xs s) s)
telling_joined [] ys s = refl
telling_joined (op ∷ xs) ys s =
    of (changes_nothing (Place op) s) (telling_joined xs ys s) (telling_joined xs ys (after (Place op) s))
  where
    of : (b : Bool) → telling_ops (xs ++ ys) s ≡ telling_ops xs s ++ telling_ops ys (after_all (telling_ops xs s) s)
        → (let t = after (Place op) s in telling_ops (xs ++ ys) t ≡ telling_ops xs t ++ telling_ops ys (after_all (telling_ops xs t) t))
        → let all = cond b (telling_ops xs s) (Place op ∷ telling_ops xs (after (Place op) s)) in
        cond b (telling_ops (xs ++ ys) s) (Place op ∷ telling_ops (xs ++ ys) (after (Place op) s))
        ≡ all ++ telling_ops ys (after_all all s)
    of true here rest = here
    of false here rest = ap (λ (l : List Op). Place op ∷ l) rest

after_joined : (xs ys : List Op) (s : SavedState) → after_all (xs ++ ys) s ≡ after_all ys (after_all xs s)
after_joined [] ys s = refl
after_joined (op ∷ xs) ys s = after_joined xs ys (after op s)

ops_joined : (a b c : List PlaceOp) → (a ++ b) ++ c ≡ a ++ (b ++ c)
ops_joined [] b c = refl
ops_joined (op ∷ a) b c = ap (λ (l : List PlaceOp). op ∷ l) (ops_joined a b c)

three_told : (first : List PlaceOp) (last put : PlaceOp) (s t u : SavedState) → t ≡ after_all (telling_ops first s) s
    → u ≡ after_all (telling_ops (last ∷ []) t) t
    → telling_ops ((first ++ last ∷ []) ++ put ∷ []) s
    ≡ telling_ops first s ++ (telling_ops (last ∷ []) t ++ telling_ops (put ∷ []) u)
three_told first last put s t u first_is last_is =
    ap (λ (l : List PlaceOp). telling_ops l s) (ops_joined first (last ∷ []) (put ∷ []))
    ∙ telling_joined first (last ∷ put ∷ []) s
    ∙ ap (λ (v : SavedState). telling_ops first s ++ telling_ops (last ∷ put ∷ []) v) (sym first_is)
    ∙ ap (λ (l : List Op). telling_ops first s ++ l)
    (telling_joined (last ∷ []) (put ∷ []) t
    ∙ ap (λ (v : SavedState). telling_ops (last ∷ []) t ++ telling_ops (put ∷ []) v) (sym last_is))

-- so the three of a step are those of the place
pub place_told : (before : Option ℕ) (m n k : MachineState) (place : PlaceState) (first : Option PlaceOp) (last put : PlaceOp)
    → m.saved.place ≡ Some place → option_to_list first ++ last ∷ [] ≡ round_ops before place.played m.player.played
    → put ≡ put_op m.player → n ≡ with_ops (telling_ops (option_to_list first) m.saved) m
    → k ≡ with_ops (telling_ops (last ∷ []) n.saved) n
    → place_ops before m.player m.saved m.saved.place
    ≡ telling_ops (option_to_list first) m.saved ++ (telling_ops (last ∷ []) n.saved ++ telling_ops (put ∷ []) k.saved)
place_told before m n k place first last put is round here one two =
    ap (place_ops before m.player m.saved) is
    ∙ (λ i. telling_ops (sym round i ++ sym here i ∷ []) m.saved)
    ∙ three_told (option_to_list first) last put m.saved n.saved k.saved (ap (λ (x : MachineState). x.saved) one)
    (ap (λ (x : MachineState). x.saved) two)

pub machine_made : (m n k l : MachineState) (x y z : List Op) → n ≡ with_ops x m → k ≡ with_ops y n → l ≡ with_ops z k
    → l ≡ with_ops (x ++ (y ++ z)) m
machine_made m n k l x y z one two three =
    three
    ∙ ap (with_ops z) two
    ∙ ap (λ (a : MachineState). with_ops z (with_ops y a)) one
    ∙ sym (ap (λ (s : SavedState). record m { saved = s }) (after_joined x (y ++ z) m.saved ∙ after_joined y z (after_all x m.saved)))

pub ops_made : (made one two three x y z : List Op) → one ≡ made ++ x → two ≡ one ++ y → three ≡ two ++ z
    → three ≡ made ++ (x ++ (y ++ z))
ops_made made one two three x y z first second third =
    third ∙ ap (λ (l : List Op). l ++ z) (second ∙ ap (λ (l : List Op). l ++ y) first) ∙ regroup made x y z
  where
    regroup : (a b c d : List Op) → ((a ++ b) ++ c) ++ d ≡ a ++ (b ++ (c ++ d))
    regroup a b c d = simp append_assoc

pub bytes_made : (profile : Profile) (x y z : List Op)
    → length (ops_bytes profile (x ++ (y ++ z)))
    ≡ length (ops_bytes profile x) + (length (ops_bytes profile y) + length (ops_bytes profile z))
bytes_made profile x y z =
    joined x (y ++ z) ∙ ap (λ (n : ℕ). length (ops_bytes profile x) + n) (joined y z)
  where
    joined : (a b : List Op) → length (ops_bytes profile (a ++ b)) ≡ length (ops_bytes profile a) + length (ops_bytes profile b)
    joined a b = ap length (flat_map-append (op_bytes profile) a b) ∙ length-append (ops_bytes profile a) (ops_bytes profile b)

pub put_bytes : (profile : Profile) (x y z all : List Op) (one two three : ℕ) → all ≡ x ++ (y ++ z) → one ≡ length (ops_bytes profile x)
    → two ≡ length (ops_bytes profile y) → three ≡ length (ops_bytes profile z) → (one + two) + three ≡ length (ops_bytes profile all)
put_bytes profile x y z all one two three told first second third =
    omega (arith, ap (λ (l : List Op). length (ops_bytes profile l)) told, bytes_made profile x y z, first, second, third)

-- ---- where what plays goes on nothing is kept

pub since_some : (before : Before) (n : MachineState) → goes_on_since before n ≡ false
    → keep_ops_since before n ≡ place_ops before.current n.player n.saved n.saved.place
since_some before n goes = ap (λ (b : Bool). cond b [] (place_ops before.current n.player n.saved n.saved.place)) goes

-- ---- the room and the bytes of what is kept

pub room_if_wide : (profile : Profile) (work : Work) → CanKeepBy profile work → profile ≡ Wide
    → vec_len work.ops + keep_count ≤ vec_capacity work.ops
room_if_wide Named work can wide = absurd (cc)
room_if_wide Wide work can wide = can

pub kept_fits : (profile : Profile) (ops : List Op) (size bytes : ℕ) → size ≤ max_request_bytes
    → (profile ≡ Wide → size + longest_keep ≤ max_request_bytes) → bytes ≡ length (ops_bytes profile (if_kept profile ops))
    → bytes ≤ longest_place → size + bytes ≤ max_request_bytes
kept_fits Named ops size bytes fits room is few = omega (arith, is)
kept_fits Wide ops size bytes fits room is few = let wide : size + longest_keep ≤ max_request_bytes = room refl in omega (arith, wide)

-- a time fits behind them
pub time_fits : (profile : Profile) (ops : List Op) (work : Work) (bytes : ℕ) → (profile ≡ Wide → CanTime work)
    → bytes ≡ length (ops_bytes profile (if_kept profile ops)) → bytes ≤ 9 → work.size + bytes ≤ max_request_bytes
time_fits Named ops work bytes room is few = omega (arith, is, work.fits)
time_fits Wide ops work bytes room is few = let wide : CanTime work = room refl in omega (arith, wide.fits)

-- ---- the time of playlists, behind the ops of a command

-- the ops from one on are all behind it
made_behind : (made : ℕ) (all ops : List Op) → all ≡ ops → take (length all - made) (drop made all) ≡ drop made ops
made_behind made all ops same =
    take_all (length all - made) (drop made all) (omega (arith, length-drop made all)) ∙ ap (drop made) same

pub some_time : (made : ℕ) (all ops : List Op) (m : MachineState) → all ≡ ops
    → list_any is_of_lists (take (length all - made) (drop made all)) ≡ true → time_ops (drop made ops) m ≡ telling_time m
some_time made all ops m same some =
    ap (λ (b : Bool). cond b (telling_time m) []) (sym (ap (list_any is_of_lists) (made_behind made all ops same)) ∙ some)

-- ---- the events

sum_short : (profile : Profile) → checksum_len profile ≤ 4
sum_short Named = omega arith
sum_short Wide = omega arith

pub kept_here : (ticket : ℕ) (m n : MachineState) (happened : Happened) → n ≡ (when_kept ticket m).after
    → happened.ops.items ≡ (when_kept ticket m).ops → happened.changed ≡ none → HasHappened (when_kept ticket m) m n happened
kept_here ticket m n happened stands ops told = record {
  state = stands;
  ops = ops;
  changed = told ∙ sym (tells (counts m.player.state m.player.ticket ticket));
  rebuilt = rebuilds (counts m.player.state m.player.ticket ticket);
  fits = body_short m.saved.profile (when_kept ticket m).ops
      (omega (arith, fits (counts m.player.state m.player.ticket ticket), sum_short m.saved.profile));
}
  where
    tells : (b : Bool) → (cond b (keeps_place m) (nothing_happens m)).changed ≡ none
    tells true = refl
    tells false = refl

    rebuilds : (b : Bool) → let h = cond b (keeps_place m) (nothing_happens m) in all_applied h.ops m.saved ≡ Some h.after.saved
    rebuilds true = at_applied m
    rebuilds false = refl

    fits : (b : Bool) → let h = cond b (keeps_place m) (nothing_happens m) in
        length (ops_bytes m.saved.profile h.ops) ≤ longest_keep
    fits true = at_short m.saved.profile m
    fits false = omega arith

-- nothing happens where something was started in this life, or no place is kept
pub none_resumed : (plays : Bool) (m : MachineState) (happened : Happened) → when_resumed plays m ≡ nothing_happens m
    → happened.ops.items ≡ [] → happened.changed ≡ none → HasHappened (when_resumed plays m) m m happened
none_resumed plays m happened is ops told =
    subst (λ (h : Happening). HasHappened h m m happened) (sym is) (nothing_happened m happened ops told)

pub started_already : (plays : Bool) (m : MachineState) → (m.player.ticket == 0) ≡ false → when_resumed plays m ≡ nothing_happens m
started_already plays m is = ap (λ (b : Bool). cond b (resumes plays m m.saved.place) (nothing_happens m)) is

pub resumes_so : (plays : Bool) (m : MachineState) (place : Option PlaceState) → (m.player.ticket == 0) ≡ true
    → m.saved.place ≡ place → when_resumed plays m ≡ resumes plays m place
resumes_so plays m place first is =
    ap (λ (b : Bool). cond b (resumes plays m m.saved.place) (nothing_happens m)) first ∙ ap (resumes plays m) is

-- the same, told of a machine by another name
pub begun_already : (plays : Bool) (m k : MachineState) (ticket : ℕ) (happened : Happened) → k ≡ m → ticket ≡ k.player.ticket
    → (ticket ≡ 0 → ⊥) → happened.ops.items ≡ [] → happened.changed ≡ none → HasHappened (when_resumed plays m) m m happened
begun_already plays m k ticket happened same is begun ops told =
    none_resumed plays m happened
    (started_already plays m (ne_eqb m.player.ticket 0 (λ e. begun (is ∙ ap (λ (x : MachineState). x.player.ticket) same ∙ e)))) ops told

pub first_ticket : (m k : MachineState) (ticket : ℕ) → k ≡ m → ticket ≡ k.player.ticket → ticket ≡ 0 → (m.player.ticket == 0) ≡ true
first_ticket m k ticket same is first =
    eq-eqb m.player.ticket 0 (ap (λ (x : MachineState). x.player.ticket) (sym same) ∙ sym is ∙ first)

pub no_place_kept : (plays : Bool) (m k : MachineState) (ticket : ℕ) (happened : Happened) → k ≡ m → ticket ≡ k.player.ticket
    → ticket ≡ 0 → None ≡ k.saved.place → happened.ops.items ≡ [] → happened.changed ≡ none
    → HasHappened (when_resumed plays m) m m happened
no_place_kept plays m k ticket happened same is first away ops told =
    none_resumed plays m happened
    (resumes_so plays m None (first_ticket m k ticket same is first) (sym (away ∙ ap (λ (x : MachineState). x.saved.place) same))) ops told

pub resumed_so : (plays : Bool) (m k : MachineState) (place : PlaceState) (player : PlayerState) (random : Bool) (frames : ℕ)
    (entries : List Entry) → k ≡ m → random ≡ k.saved.options.random → frames ≡ (named_length (Id place.song) m).frames
    → entries ≡ k.saved.queue.entries → player ≡ resumed plays random frames entries place
    → record k { player = player } ≡ record m { player = resumed_from plays m place }
resumed_so plays m k place player random frames entries same at_random long among is =
    (λ i. record (same i) {
      player = (is
          ∙ (λ j. resumed plays (at_random j) (long j) (among j) place)
          ∙ ap (λ (x : MachineState). resumed plays x.saved.options.random (named_length (Id place.song) m).frames x.saved.queue.entries place)
          same) i;
    })

pub player_resumed : (plays : Bool) (m n : MachineState) (place : PlaceState) (happened : Happened) (before : Before) (made : List Op)
    → (m.player.ticket == 0) ≡ true → m.saved.place ≡ Some place → IsSavedState m.saved
    → n ≡ record m { player = resumed_from plays m place } → happened.ops.items ≡ [] → made ≡ [] → before ≡ before_of m
    → happened.changed ≡ changed_since before made n → HasHappened (when_resumed plays m) m n happened
player_resumed plays m n place happened before made first is kept stands ops gained same told =
    subst (λ (h : Happening). HasHappened h m n happened) (sym (resumes_so plays m (Some place) first is))
    (player_happened (resumed_from plays m place) m n happened before made kept stands ops gained same told)
