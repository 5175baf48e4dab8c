-- What is kept of the player behind a command or an event: its ops are never refused, change nothing but the place, and are few.
use Rattle.std.proofs.Common.{◌≡◌, ℕ, suc, ◌+◌, ◌≤◌, Bool, true, false, not, ◌==◌, cond, List, [], ◌∷◌, ◌++◌, length}
use Rattle.std.proofs.Common.{Option, Some, None, Ok, refl, sym, ap, subst, ◌∙◌, eq-eqb, arith}
use Rattle.std.specs.Prelude.{nat_eq}
use Rattle.std.specs.List.{list_any}
use Rattle.std.specs.Option.{ok_or, option_eq}
use Rattle.std.specs.Result.{result_ok}
use Rattle.std.proofs.lemmas.Bool.{and_from}
use Rattle.std.proofs.lemmas.List.{length-append}
use Rattle.player_core.specs.Commands.{last_or}
use Rattle.player_core.specs.Place.{PlaceState}
use Rattle.player_core.specs.Player.{PlayerState}
use Rattle.player_core.specs.declared.playing.PlayState.{PlayState}
use Rattle.player_core.specs.declared.playing.PlayState.TheVariants.{Stop, Play, Pause}
use Rattle.profile.specs.declared.profile.Profile.{Profile}
use Rattle.profile.specs.declared.profile.Profile.TheVariants.{Named, Wide}
use Rattle.state_codec.specs.Applied.{after, after_all, all_applied, applied_from, changes_nothing, unless_refused}
use Rattle.state_codec.specs.OpsPlace.{place_refusal, stands_in}
use Rattle.state_codec.specs.OpsSettings.{same_flag}
use Rattle.state_codec.specs.SavedState.{SavedState}
use Rattle.state_codec.specs.Spelling.{ops_bytes}
use Rattle.state_codec.specs.SpellingOps.{op_bytes}
use Rattle.state_codec.specs.Steps.{◌>>=◌}
use Rattle.state_codec.specs.declared.op.Op.{Op}
use Rattle.state_codec.specs.declared.op.Op.TheVariants.{Place}
use Rattle.state_codec.specs.declared.op.place_op.PlaceOp.{PlaceOp}
use Rattle.state_codec.specs.declared.op.place_op.PlaceOp.TheVariants.{Put, Played, Begins, Leaves}
use Rattle.machine_core.specs.Before.{is_of_lists, is_of_stickers}
use Rattle.machine_core.specs.Changed.{same_playing, same_state}
use Rattle.machine_core.specs.Happening.{nothing_happens}
use Rattle.machine_core.specs.Keeping.{begin_ops, goes_on, if_kept, keep_ops, keeps_place, kept_event, leave_ops, place_ops, put_op}
use Rattle.machine_core.specs.Keeping.{round_ops, telling_ops, with_ops}
use Rattle.machine_core.specs.Size.{longest_keep, longest_place, room_by, time_room}
use Rattle.machine_core.specs.Sound.{IsSound, IsSoundMachine, IsSoundPlayer}
use Rattle.machine_core.specs.State.{keeping, lacks_room, MachineState}

-- ---- where nothing has changed nothing is kept

flag_itself : (b : Bool) → same_flag b b ≡ true
flag_itself true = refl
flag_itself false = refl

number_itself : (n : Option ℕ) → option_eq nat_eq n n ≡ true
number_itself None = refl
number_itself (Some n) = eq-eqb n n refl

state_itself : (s : PlayState) → same_state s s ≡ true
state_itself Stop = refl
state_itself Play = refl
state_itself Pause = refl

playing_itself : (p : PlayerState) → same_playing p p ≡ true
playing_itself p = and_from _ _ (state_itself p.state) (and_from _ _ (number_itself p.current) (eq-eqb p.ticket p.ticket refl))

pub going_itself : (m : MachineState) → goes_on m m ≡ true
going_itself m = and_from _ _ (playing_itself m.player) (flag_itself m.saved.options.random)

none_kept : (profile : Profile) → if_kept profile [] ≡ []
none_kept Named = refl
none_kept Wide = refl

-- a profile that keeps is the machine's, and one that keeps nothing is so in both ways
pub kept_wide : (m : MachineState) → keeping m ≡ Wide → m.saved.profile ≡ Wide
kept_wide m = of (lacks_room m)
  where
    of : (b : Bool) → cond b Named m.saved.profile ≡ Wide → m.saved.profile ≡ Wide
    of true is = absurd (cc)
    of false is = is

pub keeping_named : (m : MachineState) → m.saved.profile ≡ Named → keeping m ≡ Named
keeping_named m named = of (lacks_room m)
  where
    of : (b : Bool) → cond b Named m.saved.profile ≡ Named
    of true = refl
    of false = named

pub keeping_room : (m : MachineState) → lacks_room m ≡ false → keeping m ≡ m.saved.profile
keeping_room m room = ap (λ (b : Bool). cond b Named m.saved.profile) room

pub wide_room : (m : MachineState) → keeping m ≡ Wide → lacks_room m ≡ false
wide_room m = of (lacks_room m)
  where
    of : (b : Bool) → cond b Named m.saved.profile ≡ Wide → b ≡ false
    of true is = absurd (cc)
    of false is = refl

pub keep_itself : (m : MachineState) → keep_ops m m ≡ []
keep_itself m =
    ap (λ b. if_kept (keeping m) (cond b [] (place_ops m.player.current m.player m.saved m.saved.place))) (going_itself m)
    ∙ none_kept (keeping m)

pub kept_nothing : (m : MachineState) → kept_event m (nothing_happens m) ≡ nothing_happens m
kept_nothing m = ap (λ ops. record (nothing_happens m) { ops = ops; after = with_ops ops m }) (keep_itself m)

-- ---- what holds of no op, and of what tells something of the place, holds of what is kept

abbrev pub told_ops : MachineState → MachineState → PlaceState → List Op
told_ops m n place = telling_ops (round_ops m.player.current place.played n.player.played ++ put_op n.player ∷ []) n.saved

pub keep_when : (R : List Op → Type 0) (m n : MachineState) → R []
    → ((place : PlaceState) → n.saved.place ≡ Some place → R (told_ops m n place)) → R (keep_ops m n)
keep_when R m n none some = by_profile (keeping m)
  where
    from : (place : Option PlaceState) → n.saved.place ≡ place → R (place_ops m.player.current n.player n.saved place)
    from None is = none
    from (Some place) is = some place is

    by_going : (b : Bool) → R (cond b [] (place_ops m.player.current n.player n.saved n.saved.place))
    by_going true = none
    by_going false = from n.saved.place refl

    by_profile : (p : Profile)
        → R (if_kept p (cond (goes_on m n) [] (place_ops m.player.current n.player n.saved n.saved.place)))
    by_profile Named = none
    by_profile Wide = by_going (goes_on m n)

pub keep_is : (R : List Op → Type 0) (m n : MachineState) → R [] → ((place : PlaceState) → R (told_ops m n place)) → R (keep_ops m n)
keep_is R m n none some = keep_when R m n none (λ place is. some place)

-- ---- they are never refused

telling_applied : (i : ℕ) (ops : List PlaceOp) (s : SavedState) → s.profile ≡ Wide
    → applied_from i (telling_ops ops s) s ≡ Ok (after_all (telling_ops ops s) s)
telling_applied i [] s wide = refl
telling_applied i (op ∷ ops) s wide =
    of (changes_nothing (Place op) s) (telling_applied i ops s wide) (telling_applied (suc i) ops (after (Place op) s) wide)
  where
    of : (b : Bool) → applied_from i (telling_ops ops s) s ≡ Ok (after_all (telling_ops ops s) s)
        → (let t = after (Place op) s in applied_from (suc i) (telling_ops ops t) t ≡ Ok (after_all (telling_ops ops t) t))
        → let all = cond b (telling_ops ops s) (Place op ∷ telling_ops ops (after (Place op) s)) in
        applied_from i all s ≡ Ok (after_all all s)
    of true here rest = here
    of false here rest =
        ap (λ p. ok_or (unless_refused (place_refusal p) (after (Place op) s)) i >>= λ t.
        applied_from (suc i) (telling_ops ops (after (Place op) s)) t) wide
        ∙ rest

abbrev Applies : SavedState → List Op → Type 0
Applies s ops = all_applied ops s ≡ Some (after_all ops s)

pub keep_applied : (m n : MachineState) → n.saved.profile ≡ m.saved.profile
    → all_applied (keep_ops m n) n.saved ≡ Some (after_all (keep_ops m n) n.saved)
keep_applied m n same = by_profile (keeping m) (λ is. same ∙ kept_wide m is)
  where
    from : (place : Option PlaceState) → n.saved.profile ≡ Wide → Applies n.saved (place_ops m.player.current n.player n.saved place)
    from None wide = refl
    from (Some place) wide =
        ap result_ok (telling_applied 0 (round_ops m.player.current place.played n.player.played ++ put_op n.player ∷ []) n.saved wide)

    by_going : (b : Bool) → n.saved.profile ≡ Wide
        → Applies n.saved (cond b [] (place_ops m.player.current n.player n.saved n.saved.place))
    by_going true wide = refl
    by_going false wide = from n.saved.place wide

    by_profile : (p : Profile) → (p ≡ Wide → n.saved.profile ≡ Wide)
        → Applies n.saved (if_kept p (cond (goes_on m n) [] (place_ops m.player.current n.player n.saved n.saved.place)))
    by_profile Named wide = refl
    by_profile Wide wide = by_going (goes_on m n) (wide refl)

-- ---- they change nothing but the place

pub record IsPlaced (s t : SavedState) : Type 0 where
  pub place : Option PlaceState
  pub same : t ≡ record s { place = place }

telling_placed : (ops : List PlaceOp) (s : SavedState) → IsPlaced s (after_all (telling_ops ops s) s)
telling_placed [] s = record { place = s.place; same = refl }
telling_placed (op ∷ ops) s = of (changes_nothing (Place op) s) (telling_placed ops s) (telling_placed ops (after (Place op) s))
  where
    of : (b : Bool) → IsPlaced s (after_all (telling_ops ops s) s)
        → IsPlaced (after (Place op) s) (after_all (telling_ops ops (after (Place op) s)) (after (Place op) s))
        → IsPlaced s (after_all (cond b (telling_ops ops s) (Place op ∷ telling_ops ops (after (Place op) s))) s)
    of true here rest = here
    of false here rest = record { place = rest.place; same = rest.same }

pub keep_placed : (m n : MachineState) → IsPlaced n.saved (after_all (keep_ops m n) n.saved)
keep_placed m n =
    keep_is (λ ops. IsPlaced n.saved (after_all ops n.saved)) m n (record { place = n.saved.place; same = refl })
    (λ place. telling_placed (round_ops m.player.current place.played n.player.played ++ put_op n.player ∷ []) n.saved)

pub kept_sound : (m n : MachineState) → IsSound n → IsSound (with_ops (keep_ops m n) n)
kept_sound m n sound =
    let placed = keep_placed m n in
    subst (λ (t : SavedState). IsSoundPlayer t.queue.entries t.options.random n.player) (sym placed.same) sound

pub kept_holds : (m n : MachineState) → IsSoundMachine n → IsSoundMachine (with_ops (keep_ops m n) n)
kept_holds m n holds =
    let placed = keep_placed m n in
    subst (λ (t : SavedState). IsSoundMachine (record n { saved = t })) (sym placed.same)
    (record { queue = holds.queue; sound = holds.sound; frame = holds.frame })

-- ---- they tell nothing of playlists and stickers

tells_nothing : (test : Op → Bool) (ops : List PlaceOp) (s : SavedState) → ((op : PlaceOp) → test (Place op) ≡ false)
    → list_any test (telling_ops ops s) ≡ false
tells_nothing test [] s none = refl
tells_nothing test (op ∷ ops) s none =
    of (changes_nothing (Place op) s) (tells_nothing test ops s none) (tells_nothing test ops (after (Place op) s) none)
  where
    of : (b : Bool) → list_any test (telling_ops ops s) ≡ false → list_any test (telling_ops ops (after (Place op) s)) ≡ false
        → list_any test (cond b (telling_ops ops s) (Place op ∷ telling_ops ops (after (Place op) s))) ≡ false
    of true here rest = here
    of false here rest = rw (none op) rest

pub keep_no_lists : (m n : MachineState) → list_any is_of_lists (keep_ops m n) ≡ false
keep_no_lists m n =
    keep_is (λ ops. list_any is_of_lists ops ≡ false) m n refl
    (λ place. tells_nothing is_of_lists (round_ops m.player.current place.played n.player.played ++ put_op n.player ∷ []) n.saved
    (λ op. refl))

pub keep_no_stickers : (m n : MachineState) → list_any is_of_stickers (keep_ops m n) ≡ false
keep_no_stickers m n =
    keep_is (λ ops. list_any is_of_stickers ops ≡ false) m n refl
    (λ place. tells_nothing is_of_stickers (round_ops m.player.current place.played n.player.played ++ put_op n.player ∷ []) n.saved
    (λ op. refl))

-- ---- how long they are: each op of the round takes at most five bytes, where the player is fourteen

abbrev pub room_of : PlaceOp → ℕ
room_of (Put state song frame) = 14
room_of (Played id) = 5
room_of Begins = 1
room_of (Leaves id) = 5

abbrev room_for : List PlaceOp → ℕ
room_for [] = 0
room_for (op ∷ ops) = room_of op + room_for ops

pub op_room : (profile : Profile) (op : PlaceOp) → length (op_bytes profile (Place op)) ≤ room_of op
op_room profile (Put Stop song frame) = omega arith
op_room profile (Put Play song frame) = omega arith
op_room profile (Put Pause song frame) = omega arith
op_room profile (Played id) = omega arith
op_room profile Begins = omega arith
op_room profile (Leaves id) = omega arith

pub one_room : (profile : Profile) (op : PlaceOp) (ops : List Op)
    → length (ops_bytes profile (Place op ∷ ops)) ≤ room_of op + length (ops_bytes profile ops)
one_room profile op ops =
    omega (arith, op_room profile op, length-append (op_bytes profile (Place op)) (ops_bytes profile ops))

telling_room : (profile : Profile) (ops : List PlaceOp) (s : SavedState) → length (ops_bytes profile (telling_ops ops s)) ≤ room_for ops
telling_room profile [] s = omega arith
telling_room profile (op ∷ ops) s =
    of (changes_nothing (Place op) s) (telling_room profile ops s) (telling_room profile ops (after (Place op) s))
  where
    of : (b : Bool) → length (ops_bytes profile (telling_ops ops s)) ≤ room_for ops
        → length (ops_bytes profile (telling_ops ops (after (Place op) s))) ≤ room_for ops
        → length (ops_bytes profile (cond b (telling_ops ops s) (Place op ∷ telling_ops ops (after (Place op) s))))
        ≤ room_of op + room_for ops
    of true here rest = omega (arith, here)
    of false here rest = omega (arith, one_room profile op (telling_ops ops (after (Place op) s)), rest)

leave_room : (before : Option ℕ) (played : List ℕ) (rest : List PlaceOp) → room_for (leave_ops before played ++ rest) ≤ 5 + room_for rest
leave_room None played rest = omega arith
leave_room (Some id) played rest = of (stands_in id played)
  where
    of : (b : Bool) → room_for (cond b [] (Leaves id ∷ []) ++ rest) ≤ 5 + room_for rest
    of true = omega arith
    of false = omega arith

begin_room : (id : ℕ) (kept : List ℕ) (rest : List PlaceOp) → room_for (begin_ops id kept ++ rest) ≤ 1 + room_for rest
begin_room id kept rest = of (list_any (λ other. not (id == other)) kept)
  where
    of : (b : Bool) → room_for (cond b (Begins ∷ []) [] ++ rest) ≤ 1 + room_for rest
    of true = omega arith
    of false = omega arith

joined : (a b c : List PlaceOp) → (a ++ b) ++ c ≡ a ++ (b ++ c)
joined [] b c = refl
joined (x ∷ a) b c = ap (λ l. x ∷ l) (joined a b c)

round_room : (before : Option ℕ) (kept played : List ℕ) (player : PlayerState)
    → room_for (round_ops before kept played ++ put_op player ∷ []) ≤ longest_place
round_room before kept [] player = omega arith
round_room before kept (id ∷ []) player =
    rw (joined (begin_ops id kept) (Played id ∷ []) (put_op player ∷ []))
    (omega (arith, begin_room id kept (Played id ∷ put_op player ∷ [])))
round_room before kept (id ∷ next ∷ ids) player =
    rw (joined (leave_ops before (id ∷ next ∷ ids)) (Played (last_or next ids) ∷ []) (put_op player ∷ []))
    (omega (arith, leave_room before (id ∷ next ∷ ids) (Played (last_or next ids) ∷ put_op player ∷ [])))

pub place_short : (profile : Profile) (before : Option ℕ) (player : PlayerState) (s : SavedState) (place : Option PlaceState)
    → length (ops_bytes profile (place_ops before player s place)) ≤ longest_place
place_short profile before player s None = omega arith
place_short profile before player s (Some place) =
    omega (
      arith,
      telling_room profile (round_ops before place.played player.played ++ put_op player ∷ []) s,
      round_room before place.played player.played player,
    )

pub keep_few : (profile : Profile) (m n : MachineState) → length (ops_bytes profile (keep_ops m n)) ≤ longest_place
keep_few profile m n =
    keep_is (λ ops. length (ops_bytes profile ops) ≤ longest_place) m n (omega arith)
    (λ place. omega (
      arith,
      telling_room profile (round_ops m.player.current place.played n.player.played ++ put_op n.player ∷ []) n.saved,
      round_room m.player.current place.played n.player.played n.player,
    ))

pub keep_short : (profile : Profile) (m n : MachineState) → length (ops_bytes profile (keep_ops m n)) ≤ longest_keep
keep_short profile m n = omega (arith, keep_few profile m n)

pub keep_none : (m n : MachineState) → m.saved.profile ≡ Named → length (ops_bytes m.saved.profile (keep_ops m n)) ≡ 0
keep_none m n named =
    let none : keep_ops m n ≡ [] =
    ap (λ p. if_kept p (cond (goes_on m n) [] (place_ops m.player.current n.player n.saved n.saved.place))) (keeping_named m named) in
    ap (λ ops. length (ops_bytes m.saved.profile ops)) none

-- so they leave room for a time of the room that is kept free
pub keep_room : (m n : MachineState)
    → length (ops_bytes m.saved.profile (keep_ops m n)) + time_room m.saved.profile ≤ room_by m.saved.profile
keep_room m n = of m.saved.profile refl
  where
    of : (p : Profile) → m.saved.profile ≡ p → length (ops_bytes m.saved.profile (keep_ops m n)) + time_room p ≤ room_by p
    of Named named = omega (arith, keep_none m n named)
    of Wide wide = omega (arith, keep_few m.saved.profile m n)

-- ---- where the player is now is kept

place_placed : (before : Option ℕ) (player : PlayerState) (s : SavedState) (place : Option PlaceState)
    → IsPlaced s (after_all (place_ops before player s place) s)
place_placed before player s None = record { place = s.place; same = refl }
place_placed before player s (Some place) = telling_placed (round_ops before place.played player.played ++ put_op player ∷ []) s

pub at_placed : (m : MachineState) → let h = keeps_place m in IsPlaced m.saved h.after.saved
at_placed m = by_profile (keeping m)
  where
    by_profile : (p : Profile)
        → IsPlaced m.saved (after_all (if_kept p (place_ops m.player.current m.player m.saved m.saved.place)) m.saved)
    by_profile Named = record { place = m.saved.place; same = refl }
    by_profile Wide = place_placed m.player.current m.player m.saved m.saved.place

pub at_sound : (m : MachineState) → IsSound m → let h = keeps_place m in IsSound h.after
at_sound m sound =
    let placed = at_placed m in
    subst (λ (t : SavedState). IsSoundPlayer t.queue.entries t.options.random m.player) (sym placed.same) sound

pub at_holds : (m : MachineState) → IsSoundMachine m → let h = keeps_place m in IsSoundMachine h.after
at_holds m holds =
    let placed = at_placed m in
    subst (λ (t : SavedState). IsSoundMachine (record m { saved = t })) (sym placed.same)
    (record { queue = holds.queue; sound = holds.sound; frame = holds.frame })

pub at_applied : (m : MachineState) → let h = keeps_place m in all_applied h.ops m.saved ≡ Some h.after.saved
at_applied m = by_profile (keeping m) (λ is. kept_wide m is)
  where
    from : (place : Option PlaceState) → m.saved.profile ≡ Wide
        → Applies m.saved (place_ops m.player.current m.player m.saved place)
    from None wide = refl
    from (Some place) wide =
        ap result_ok (telling_applied 0 (round_ops m.player.current place.played m.player.played ++ put_op m.player ∷ []) m.saved wide)

    by_profile : (p : Profile) → (p ≡ Wide → m.saved.profile ≡ Wide)
        → Applies m.saved (if_kept p (place_ops m.player.current m.player m.saved m.saved.place))
    by_profile Named wide = refl
    by_profile Wide wide = from m.saved.place (wide refl)

pub at_short : (profile : Profile) (m : MachineState) → let h = keeps_place m in length (ops_bytes profile h.ops) ≤ longest_keep
at_short profile m = by_profile (keeping m)
  where
    by_profile : (p : Profile)
        → length (ops_bytes profile (if_kept p (place_ops m.player.current m.player m.saved m.saved.place))) ≤ longest_keep
    by_profile Named = omega arith
    by_profile Wide = omega (arith, place_short profile m.player.current m.player m.saved m.saved.place)
