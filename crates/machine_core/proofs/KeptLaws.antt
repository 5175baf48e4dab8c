-- Laws of what is kept of the player behind a command: its ops rebuild the saved half, and where that stays none is made.
use Rattle.std.proofs.Common.{◌≡◌, ℕ, Bool, true, false, cond, not, ◌==◌, ◌||◌, List, [], ◌∷◌, ◌++◌, map, filter, nat_lt, length}
use Rattle.std.proofs.Common.{Option, Some, None, Ok, Err, refl, sym, ap, subst, ◌∙◌, eq-eqb}
use Rattle.std.specs.List.{list_any}
use Rattle.std.specs.Option.{option_and_then}
use Rattle.std.proofs.lemmas.Bool.{false≢true}
use Rattle.std.proofs.lemmas.List.Folds.{list_any-append}
use Rattle.command_text.specs.declared.command.Command.{Command}
use Rattle.command_text.specs.declared.tag_mask.TagMask.{TagMask}
use Rattle.player_core.specs.Commands.{last_or}
use Rattle.player_core.specs.Place.{PlaceState, longest_round, with_id, without_id}
use Rattle.player_core.specs.Player.{PlayerState}
use Rattle.player_core.specs.Reports.{counts}
use Rattle.profile.specs.declared.profile.Profile.{Profile}
use Rattle.profile.specs.declared.profile.Profile.TheVariants.{Named, Wide}
use Rattle.state_codec.specs.Applied.{after, after_all, all_applied}
use Rattle.state_codec.specs.Laws.{but_kept}
use Rattle.state_codec.specs.OpsPlace.{place_after, stands_in, stays_by}
use Rattle.state_codec.specs.SavedState.{SavedState, IsSavedState}
use Rattle.state_codec.specs.declared.op.Op.{Op}
use Rattle.state_codec.specs.declared.op.Op.TheVariants.{Place}
use Rattle.state_codec.specs.declared.op.place_op.PlaceOp.{PlaceOp}
use Rattle.state_codec.specs.declared.op.place_op.PlaceOp.TheVariants.{Played, Begins, Leaves}
use Rattle.state_codec.proofs.AppliedLaws.{all_applied-append}
use Rattle.state_codec.proofs.PlaceLaws.{op_only, without_none}
use Rattle.machine_core.specs.Command.{meaning}
use Rattle.machine_core.specs.Happening.{nothing_happens}
use Rattle.machine_core.specs.Keeping.{if_kept, keep_ops, keeps, keeps_place, kept, place_ops, put_op, round_ops, telling_ops, times}
use Rattle.machine_core.specs.Keeping.{when_kept}
use Rattle.machine_core.specs.Meaning.{Meaning, Meant}
use Rattle.machine_core.specs.State.{keeping, MachineState}
use Rattle.machine_core.proofs.CommandLaws.{command_lawful}
use Rattle.machine_core.proofs.FormLaws.{IsLawful, Lawful}
use Rattle.machine_core.proofs.KeepingLaws.{keep_applied, keep_placed, keep_when}
use Rattle.machine_core.proofs.KeptTimes.{none_behind, times_keep, times_of_none, times_rebuilt}
use Rattle.machine_core.proofs.Sizes.{profile_stays}
use Rattle.stored_lists.specs.Times.{Times}

-- ---- what is made, and what is kept behind it, rebuild the saved half

pub joined_rebuilt : (m n : MachineState) (ops : List Op) → all_applied ops m.saved ≡ Some n.saved
    → all_applied (ops ++ keep_ops m n) m.saved ≡ Some (after_all (keep_ops m n) n.saved)
joined_rebuilt m n ops is =
    all_applied-append ops (keep_ops m n) m.saved ∙ ap (option_and_then (all_applied (keep_ops m n))) is
    ∙ keep_applied m n (profile_stays ops m.saved n.saved is)

-- ---- ops of the place that tell something, on the place alone

abbrev pub run : List PlaceOp → PlaceState → PlaceState
run [] place = place
run (op ∷ ops) place = run ops (place_after op place)

abbrev pub telling : List PlaceOp → PlaceState → List PlaceOp
telling [] place = []
telling (op ∷ ops) place = cond (stays_by op place) (telling ops place) (op ∷ telling ops (place_after op place))

abbrev pub placed : PlaceState → SavedState → SavedState
placed place s = record s { place = Some place }

pub told_so : (ops : List PlaceOp) (place : PlaceState) (s : SavedState) → telling_ops ops (placed place s) ≡ map Place (telling ops place)
told_so [] place s = refl
told_so (op ∷ ops) place s = of (stays_by op place) (told_so ops place s) (told_so ops (place_after op place) s)
  where
    of : (b : Bool) → telling_ops ops (placed place s) ≡ map Place (telling ops place)
        → telling_ops ops (placed (place_after op place) s) ≡ map Place (telling ops (place_after op place))
        → cond b (telling_ops ops (placed place s)) (Place op ∷ telling_ops ops (after (Place op) (placed place s)))
        ≡ map Place (cond b (telling ops place) (op ∷ telling ops (place_after op place)))
    of true here rest = here
    of false here rest = ap (λ (l : List Op). Place op ∷ l) rest

pub ran_so : (ops : List PlaceOp) (place : PlaceState) (s : SavedState) → after_all (map Place ops) (placed place s) ≡ placed (run ops place) s
ran_so [] place s = refl
ran_so (op ∷ ops) place s = ran_so ops (place_after op place) s

-- ---- none of them undoes another

or_false : (a b : Bool) → (a || b) ≡ false → (a ≡ false) × (b ≡ false)
or_false true b none = absurd (cc)
or_false false b none = (refl, none)

-- where the player is told last, the round is that from before
round_stays : (player : PlayerState) (place : PlaceState)
    → (run (telling (put_op player ∷ []) place) place).played ≡ place.played
round_stays player place = of (stays_by (put_op player) place)
  where
    of : (b : Bool) → (run (cond b [] (put_op player ∷ [])) place).played ≡ place.played
    of true = refl
    of false = refl

put_none : (player : PlayerState) (place : PlaceState) → run (telling (put_op player ∷ []) place) place ≡ place
    → telling (put_op player ∷ []) place ≡ []
put_none player place = of (stays_by (put_op player) place) refl
  where
    of : (b : Bool) → stays_by (put_op player) place ≡ b → run (cond b [] (put_op player ∷ [])) place ≡ place
        → cond b [] (put_op player ∷ []) ≡ []
    of true is same = refl
    of false is same = absurd (false≢true (sym is ∙ op_only (put_op player) place same))

-- an op that changes the round alone
abbrev OfRound : PlaceOp → Type 0
OfRound op = (place : PlaceState) → place_after op place ≡ record place { played = (place_after op place).played }

one_none : (op : PlaceOp) (player : PlayerState) (place : PlaceState) → OfRound op
    → run (telling (op ∷ put_op player ∷ []) place) place ≡ place → telling (op ∷ put_op player ∷ []) place ≡ []
one_none op player place alone = of (stays_by op place) refl
  where
    of : (b : Bool) → stays_by op place ≡ b
        → run (cond b (telling (put_op player ∷ []) place) (op ∷ telling (put_op player ∷ []) (place_after op place))) place ≡ place
        → cond b (telling (put_op player ∷ []) place) (op ∷ telling (put_op player ∷ []) (place_after op place)) ≡ []
    of true is same = put_none player place same
    of false is same =
        let played : (place_after op place).played ≡ place.played =
        sym (round_stays player (place_after op place)) ∙ ap (λ (p : PlaceState). p.played) same in
        let stays : place_after op place ≡ place = alone place ∙ ap (λ (ids : List ℕ). record place { played = ids }) played in
        absurd (false≢true (sym is ∙ op_only op place stays))

-- a round of one id that begins is another one
begun_none : (id : ℕ) (player : PlayerState) (place : PlaceState) → list_any (λ other. not (id == other)) place.played ≡ true
    → run (telling (Begins ∷ Played id ∷ put_op player ∷ []) place) place ≡ place
    → telling (Begins ∷ Played id ∷ put_op player ∷ []) place ≡ []
begun_none id player place another same = of place.played refl another
  where
    of : (ids : List ℕ) → place.played ≡ ids → list_any (λ other. not (id == other)) ids ≡ true
        → telling (Begins ∷ Played id ∷ put_op player ∷ []) place ≡ []
    of [] is another = absurd (false≢true another)
    of (first ∷ ids) is another =
        let told : telling (Begins ∷ Played id ∷ put_op player ∷ []) place ≡ Begins ∷ Played id ∷ telling (put_op player ∷ [])
        (record place { played = id ∷ [] }) = rw is refl in
        let last : run (telling (put_op player ∷ []) (record place { played = id ∷ [] })) (record place { played = id ∷ [] }) ≡ place =
        sym (ap (λ (ops : List PlaceOp). run ops place) told) ∙ same in
        let played : id ∷ [] ≡ first ∷ ids =
        sym (round_stays player (record place { played = id ∷ [] })) ∙ ap (λ (p : PlaceState). p.played) last ∙ is in
        let one : list_any (λ other. not (id == other)) (id ∷ []) ≡ true =
        subst (λ (l : List ℕ). list_any (λ other. not (id == other)) l ≡ true) (sym played) another in
        let itself : (id == id) ≡ true = eq-eqb id id refl in
        absurd (false≢true (sym (ap (λ (b : Bool). not b || false) itself) ∙ one))

-- an id that isn't there is in no part of a list, and in none with another one behind it
absent_kept : (id : ℕ) (test : ℕ → Bool) (ids : List ℕ) → stands_in id ids ≡ false → stands_in id (filter test ids) ≡ false
absent_kept id test [] none = refl
absent_kept id test (other ∷ ids) none =
    of (test other) (absent_kept id test ids (or_false (id == other) (stands_in id ids) none).1)
  where
    of : (b : Bool) → stands_in id (filter test ids) ≡ false → stands_in id (cond b (other ∷ filter test ids) (filter test ids)) ≡ false
    of true rest =
        ap (λ (b : Bool). b || stands_in id (filter test ids)) (or_false (id == other) (stands_in id ids) none).0 ∙ rest
    of false rest = rest

absent_noted : (id other : ℕ) (ids : List ℕ) → (id == other) ≡ false → stands_in id ids ≡ false → stands_in id (with_id other ids) ≡ false
absent_noted id other ids apart none = of (nat_lt (length (without_id other ids)) longest_round)
  where
    left : stands_in id (without_id other ids) ≡ false
    left = absent_kept id (λ one. not (other == one)) ids none

    of : (b : Bool) → stands_in id (cond b (without_id other ids ++ other ∷ []) (without_id other ids)) ≡ false
    of true =
        list_any-append (λ one. id == one) (without_id other ids) (other ∷ [])
        ∙ ap (λ (b : Bool). b || (id == other || false)) left ∙ ap (λ (b : Bool). b || false) apart
    of false = left

absent_last : (id next : ℕ) (ids : List ℕ) → stands_in id (next ∷ ids) ≡ false → (id == last_or next ids) ≡ false
absent_last id next [] none = (or_false (id == next) false none).0
absent_last id next (other ∷ ids) none = absent_last id other ids (or_false (id == next) (stands_in id (other ∷ ids)) none).1

-- an id that leaves doesn't come back by another one that is noted
left_none : (id last : ℕ) (player : PlayerState) (place : PlaceState) → (id == last) ≡ false
    → run (telling (Leaves id ∷ Played last ∷ put_op player ∷ []) place) place ≡ place
    → telling (Leaves id ∷ Played last ∷ put_op player ∷ []) place ≡ []
left_none id last player place apart = of (stays_by (Leaves id) place) refl
  where
    -- behind both the id is gone
    gone_last : (b : Bool)
        → stands_in id (run (cond b (telling (put_op player ∷ []) (place_after (Leaves id) place))
        (Played last ∷ telling (put_op player ∷ []) (place_after (Played last) (place_after (Leaves id) place))))
        (place_after (Leaves id) place)).played ≡ false
    gone_last true = ap (stands_in id) (round_stays player (place_after (Leaves id) place)) ∙ without_none id place.played
    gone_last false =
        ap (stands_in id) (round_stays player (place_after (Played last) (place_after (Leaves id) place)))
        ∙ absent_noted id last (without_id id place.played) apart (without_none id place.played)

    stood : (b : Bool) → not b ≡ false → b ≡ true
    stood true is = refl
    stood false is = absurd (false≢true (sym is))

    of : (b : Bool) → stays_by (Leaves id) place ≡ b
        → run (cond b (telling (Played last ∷ put_op player ∷ []) place)
        (Leaves id ∷ telling (Played last ∷ put_op player ∷ []) (place_after (Leaves id) place))) place ≡ place
        → cond b (telling (Played last ∷ put_op player ∷ []) place)
        (Leaves id ∷ telling (Played last ∷ put_op player ∷ []) (place_after (Leaves id) place)) ≡ []
    of true is same = one_none (Played last) player place (λ p. refl) same
    of false is same =
        let there : stands_in id place.played ≡ true = stood (stands_in id place.played) is in
        let away : stands_in id place.played ≡ false =
        sym (ap (λ (p : PlaceState). stands_in id p.played) same)
        ∙ gone_last (stays_by (Played last) (place_after (Leaves id) place)) in
        absurd (false≢true (sym away ∙ there))

abbrev told_by : Option ℕ → PlayerState → PlaceState → List PlaceOp
told_by before player place = telling (round_ops before place.played player.played ++ put_op player ∷ []) place

-- so where the place is that from before, nothing was told
none_told : (before : Option ℕ) (player : PlayerState) (place : PlaceState) → run (told_by before player place) place ≡ place
    → told_by before player place ≡ []
none_told before player place = by_round player.played before
  where
    begins_by : (id : ℕ) (b : Bool) → list_any (λ other. not (id == other)) place.played ≡ b
        → run (telling ((cond b (Begins ∷ []) [] ++ Played id ∷ []) ++ put_op player ∷ []) place) place ≡ place
        → telling ((cond b (Begins ∷ []) [] ++ Played id ∷ []) ++ put_op player ∷ []) place ≡ []
    begins_by id true another same = begun_none id player place another same
    begins_by id false alone same = one_none (Played id) player place (λ p. refl) same

    leaves_by : (id next : ℕ) (ids : List ℕ) (left : ℕ) (b : Bool) → stands_in left (id ∷ next ∷ ids) ≡ b
        → run (telling ((cond b [] (Leaves left ∷ []) ++ Played (last_or next ids) ∷ []) ++ put_op player ∷ []) place) place ≡ place
        → telling ((cond b [] (Leaves left ∷ []) ++ Played (last_or next ids) ∷ []) ++ put_op player ∷ []) place ≡ []
    leaves_by id next ids left true there same = one_none (Played (last_or next ids)) player place (λ p. refl) same
    leaves_by id next ids left false away same =
        left_none left (last_or next ids) player place
        (absent_last left next ids (or_false (left == id) (stands_in left (next ∷ ids)) away).1) same

    by_round : (played : List ℕ) (before : Option ℕ)
        → run (telling (round_ops before place.played played ++ put_op player ∷ []) place) place ≡ place
        → telling (round_ops before place.played played ++ put_op player ∷ []) place ≡ []
    by_round [] before same = one_none Begins player place (λ p. refl) same
    by_round (id ∷ []) before same = begins_by id (list_any (λ other. not (id == other)) place.played) refl same
    by_round (id ∷ next ∷ ids) None same = one_none (Played (last_or next ids)) player place (λ p. refl) same
    by_round (id ∷ next ∷ ids) (Some left) same = leaves_by id next ids left (stands_in left (id ∷ next ∷ ids)) refl same

abbrev the_place : PlaceState → Option PlaceState
the_place place = Some place

some_is : (a b : PlaceState) → the_place a ≡ the_place b → a ≡ b
some_is a b same = cc

told_none : (before : Option ℕ) (player : PlayerState) (s : SavedState) (place : PlaceState) → s.place ≡ Some place
    → let ops = telling_ops (round_ops before place.played player.played ++ put_op player ∷ []) s in after_all ops s ≡ s → ops ≡ []
told_none before player s place is same =
    let steps = round_ops before place.played player.played ++ put_op player ∷ [] in
    let stands : s ≡ placed place s = ap (λ (p : Option PlaceState). record s { place = p }) is in
    let told : telling_ops steps s ≡ map Place (telling steps place) = ap (telling_ops steps) stands ∙ told_so steps place s in
    let ran : after_all (telling_ops steps s) s ≡ placed (run (telling steps place) place) s =
    (λ i. after_all (told i) (stands i)) ∙ ran_so (telling steps place) place s in
    let back : the_place (run (telling steps place) place) ≡ the_place place =
    ap (λ (t : SavedState). t.place) (sym ran ∙ same) ∙ is in
    told ∙ ap (map Place) (none_told before player place (some_is (run (telling steps place) place) place back))

pub kept_none : (m n : MachineState) → after_all (keep_ops m n) n.saved ≡ n.saved → keep_ops m n ≡ []
kept_none m n = keep_when (λ ops. after_all ops n.saved ≡ n.saved → ops ≡ []) m n (λ same. refl)
    (λ place is same. told_none m.player.current n.player n.saved place is same)

-- ---- where the player is now is kept

pub at_none : (m : MachineState) → let h = keeps_place m in h.after.saved ≡ m.saved → h.ops ≡ []
at_none m = by_profile (keeping m)
  where
    from : (place : Option PlaceState) → m.saved.place ≡ place
        → let ops = place_ops m.player.current m.player m.saved place in after_all ops m.saved ≡ m.saved → ops ≡ []
    from None is same = refl
    from (Some place) is same = told_none m.player.current m.player m.saved place is same

    by_profile : (p : Profile)
        → let ops = if_kept p (place_ops m.player.current m.player m.saved m.saved.place) in after_all ops m.saved ≡ m.saved → ops ≡ []
    by_profile Named same = refl
    by_profile Wide same = from m.saved.place refl same

pub when_kept_none : (ticket : ℕ) (m : MachineState) → let h = when_kept ticket m in h.after.saved ≡ m.saved → h.ops ≡ []
when_kept_none ticket m = of (counts m.player.state m.player.ticket ticket)
  where
    of : (b : Bool) → let h = cond b (keeps_place m) (nothing_happens m) in h.after.saved ≡ m.saved → h.ops ≡ []
    of true same = at_none m same
    of false same = refl

pub when_kept_same : (ticket : ℕ) (m : MachineState) → let h = when_kept ticket m in h.ops ≡ [] → h.after.saved ≡ m.saved
when_kept_same ticket m = of (counts m.player.state m.player.ticket ticket)
  where
    of : (b : Bool) → let h = cond b (keeps_place m) (nothing_happens m) in h.ops ≡ [] → h.after.saved ≡ m.saved
    of true empty = ap (λ (ops : List Op). after_all ops m.saved) empty
    of false empty = refl

-- ---- commands

abbrev the_meaning : Meaning → Meant
the_meaning x = Ok x

ok_is : (x y : Meaning) → the_meaning x ≡ the_meaning y → x ≡ y
ok_is x y same = cc

-- what is kept behind a command is that of what it means
pub kept_is : (m : MachineState) (meant : Meant) (x : Meaning) → kept m meant ≡ Ok x
    → (y : Meaning) × (meant ≡ Ok y) × (times m (keeps m y) ≡ x)
kept_is m (Ok y) x is = (y, refl, ok_is (times m (keeps m y)) x is)
kept_is m (Err refusal) x is = absurd (cc)

pub command_rebuilt : (mask : TagMask) (command : Command) (m : MachineState) (x : Meaning) → kept m (meaning mask command m) ≡ Ok x
    → all_applied x.ops m.saved ≡ Some x.after.saved
command_rebuilt mask command m x is =
    let y = kept_is m (meaning mask command m) x is in
    let lawful : IsLawful m y.0 = subst (Lawful m) y.1 (command_lawful mask command m) in
    let placed = joined_rebuilt m y.0.after y.0.ops lawful.rebuilt in
    subst (λ (z : Meaning). all_applied z.ops m.saved ≡ Some z.after.saved) y.2
    (times_rebuilt m (keeps m y.0) (profile_stays (keeps m y.0).ops m.saved (keeps m y.0).after.saved placed) placed)

-- Where the saved half stays, nothing is made: what a command itself makes changes more than the place.
pub keeps_none : (m : MachineState) (x : Meaning) → IsLawful m x → IsSavedState m.saved → (keeps m x).after.saved ≡ m.saved
    → (keeps m x).ops ≡ []
keeps_none m x lawful saved same =
    let placed = keep_placed m x.after in
    let apart : x.after.saved ≡ but_kept x.after.saved m.saved =
    ap (but_kept x.after.saved) (sym placed.same ∙ same) in
    let empty : x.ops ≡ [] = (lawful.tells saved).none x.after.saved apart in
    let rebuilt : Some m.saved ≡ Some x.after.saved = sym (ap (λ (ops : List Op). all_applied ops m.saved) empty) ∙ lawful.rebuilt in
    let stays : m.saved ≡ x.after.saved = cc in
    let none : keep_ops m x.after ≡ [] = kept_none m x.after (same ∙ stays) in
    ap (λ (ops : List Op). ops ++ keep_ops m x.after) empty ∙ none

-- and where nothing is made, it stays
pub nothing_kept : (m n : MachineState) (ops : List Op) → all_applied ops m.saved ≡ Some n.saved → ops ++ keep_ops m n ≡ []
    → after_all (keep_ops m n) n.saved ≡ m.saved
nothing_kept m n ops is empty =
    let rebuilt : Some m.saved ≡ Some (after_all (keep_ops m n) n.saved) =
    sym (ap (λ (l : List Op). all_applied l m.saved) empty) ∙ joined_rebuilt m n ops is in
    cc

-- a state that is as before where the times are told is as before in all but them
but_times : (m : MachineState) (z : Meaning) → (times m z).after.saved ≡ m.saved
    → z.after.saved ≡ record m.saved { changed = z.after.saved.changed }
but_times m z same =
    times_keep (λ x. x.after.saved ≡ m.saved → z.after.saved ≡ record m.saved { changed = z.after.saved.changed }) m z
    (λ same. ap (λ (s : SavedState). record s { changed = z.after.saved.changed }) same)
    (λ wide lists changes same. ap (λ (s : SavedState). record s { changed = z.after.saved.changed }) same) same

-- and then nothing is made either: what a command itself makes changes more than place and times
keeps_so : (m : MachineState) (x : Meaning) → IsLawful m x → IsSavedState m.saved
    → (keeps m x).after.saved ≡ record m.saved { changed = (keeps m x).after.saved.changed } → (keeps m x).ops ≡ []
keeps_so m x lawful saved same =
    let placed = keep_placed m x.after in
    let apart : x.after.saved ≡ but_kept x.after.saved m.saved =
    ap (but_kept x.after.saved) (sym placed.same ∙ same) in
    let empty : x.ops ≡ [] = (lawful.tells saved).none x.after.saved apart in
    let rebuilt : Some m.saved ≡ Some x.after.saved = sym (ap (λ (ops : List Op). all_applied ops m.saved) empty) ∙ lawful.rebuilt in
    let stays : m.saved ≡ x.after.saved = cc in
    let times : (keeps m x).after.saved.changed ≡ m.saved.changed =
    ap (λ (s : SavedState). s.changed) placed.same ∙ ap (λ (s : SavedState). s.changed) (sym stays) in
    keeps_none m x lawful saved (same ∙ ap (λ (times : Option Times). record m.saved { changed = times }) times)

pub command_none : (mask : TagMask) (command : Command) (m : MachineState) (x : Meaning) → IsSavedState m.saved
    → kept m (meaning mask command m) ≡ Ok x → x.after.saved ≡ m.saved → x.ops ≡ []
command_none mask command m x saved is same =
    let y = kept_is m (meaning mask command m) x is in
    let lawful : IsLawful m y.0 = subst (Lawful m) y.1 (command_lawful mask command m) in
    let none : (keeps m y.0).ops ≡ [] =
    keeps_so m y.0 lawful saved (but_times m (keeps m y.0) (ap (λ (z : Meaning). z.after.saved) y.2 ∙ same)) in
    sym (ap (λ (z : Meaning). z.ops) y.2) ∙ ap (λ (z : Meaning). z.ops) (times_of_none m (keeps m y.0) none) ∙ none

pub command_same : (mask : TagMask) (command : Command) (m : MachineState) (x : Meaning) → kept m (meaning mask command m) ≡ Ok x
    → x.ops ≡ [] → x.after.saved ≡ m.saved
command_same mask command m x is empty =
    let y = kept_is m (meaning mask command m) x is in
    let lawful : IsLawful m y.0 = subst (Lawful m) y.1 (command_lawful mask command m) in
    let before : (keeps m y.0).ops ≡ [] = none_behind m (keeps m y.0) (ap (λ (z : Meaning). z.ops) y.2 ∙ empty) in
    sym (ap (λ (z : Meaning). z.after.saved) y.2)
    ∙ ap (λ (z : Meaning). z.after.saved) (times_of_none m (keeps m y.0) before)
    ∙ nothing_kept m y.0.after y.0.ops lawful.rebuilt before
