-- From `play` on, in random mode, the entries play in random order.
use Rattle.std.proofs.Common.{◌≡◌, ℕ, Bool, true, false, cond, ◌||◌, eqb, option_map, inl, arith, List, [], ◌∷◌, ◌++◌, map, filter}
use Rattle.std.proofs.Common.{Option, Some, None, refl, sym, ap, subst, ◌∙◌}
use Rattle.std.specs.Prelude.{nat_eq, ◌==◌}
use Rattle.std.specs.List.{list_any, position_or_len, IsDistinct}
use Rattle.std.proofs.lemmas.Bool.{eq-eqb}
use Rattle.std.proofs.lemmas.Bool.Decides.{Decides-eqb}
use Rattle.std.proofs.lemmas.List.{append_assoc}
use Rattle.std.proofs.lemmas.Map.Made.{IsDistinct-from_AllPairs}
use Rattle.play_queue.specs.declared.entry.Entry.{Entry}
use Rattle.play_queue.specs.Queue.{HaveOwnIds, ids_of}
use Rattle.player_core.specs.declared.block.Block.{Block}
use Rattle.player_core.specs.declared.choice.Choice.{Choice}
use Rattle.player_core.specs.declared.failure.PlayFailure.{PlayFailure}
use Rattle.player_core.specs.declared.manners.Manners.{Manners}
use Rattle.player_core.specs.declared.options.Options.{Options}
use Rattle.player_core.specs.declared.options.Single.TheVariants.{Off}
use Rattle.player_core.specs.declared.playing.PlayState.{PlayState}
use Rattle.player_core.specs.declared.playing.PlayState.TheVariants.{Stop, Play}
use Rattle.player_core.specs.declared.settings.PlaySettings.{PlaySettings}
use Rattle.player_core.specs.Words.{next_order}
use Rattle.player_core.specs.RandomOrder.{Drawn, in_order, first_of}
use Rattle.player_core.specs.Staying.{staying}
use Rattle.player_core.specs.Choice.{drawn_by, is_left, chosen, or_else, nothing, new_round, placed}
use Rattle.player_core.specs.Player.{PlayerState, Step, unchanged, next_ticket, without, left_by, gone_on}
use Rattle.player_core.specs.Ending.{over, over_at}
use Rattle.player_core.specs.Commands.{stepped_if_any}
use Rattle.player_core.specs.Round.{Playback, after, after_play, after_end, PlaysOut, random_alone, round_of, ARoundIsTheRandomOrder}
use Rattle.player_core.proofs.DrawnOrder.{in_order-filter}
use Rattle.player_core.proofs.DrawnIds.{in_order-any, in_order-distinct}
use Rattle.player_core.proofs.Leaving.{staying-all}
use Rattle.player_core.proofs.LeftBlock.{left_by-back}
use Rattle.player_core.proofs.RoundIds.{position-is, is_left_id, apart, left-is, without-none, any-last, any-front, any-turned}

abbrev no_block : Block
no_block = record { start = 0; end = 0 }

-- no entry leaves
none_leave : (entries : List Entry) (played : List ℕ) → left_by no_block [] 0 entries played ≡ played
none_leave entries played = left_by-back no_block 0 entries played (inl (omega arith))

module _ (key : List ℕ) (order : ℕ) where
  abbrev drawn : List Entry → List Drawn
  drawn entries = map (drawn_by key order) entries

  ids-drawn : (entries : List Entry) → map (λ (one : Drawn). one.0) (drawn entries) ≡ ids_of entries
  ids-drawn [] = refl
  ids-drawn (entry ∷ entries) = ap (λ l. entry.id ∷ l) (ids-drawn entries)

  drawn-filter : (test : ℕ → Bool) (entries : List Entry)
      → drawn (filter (λ entry. test entry.id) entries) ≡ filter (λ (one : Drawn). test one.0) (drawn entries)
  drawn-filter test [] = refl
  drawn-filter test (entry ∷ entries) = of (test entry.id) (drawn-filter test entries)
    where
      of : (b : Bool) → drawn (filter (λ entry. test entry.id) entries) ≡ filter (λ (one : Drawn). test one.0) (drawn entries)
          → drawn (cond b (entry ∷ filter (λ entry. test entry.id) entries) (filter (λ entry. test entry.id) entries))
          ≡ cond b (drawn_by key order entry ∷ filter (λ (one : Drawn). test one.0) (drawn entries))
          (filter (λ (one : Drawn). test one.0) (drawn entries))
      of true rest = ap (λ l. drawn_by key order entry ∷ l) rest
      of false rest = rest

  ids-filter : (test : ℕ → Bool) (all : List Drawn) → map (λ (one : Drawn). one.0) (filter (λ (one : Drawn). test one.0) all)
      ≡ filter test (map (λ (one : Drawn). one.0) all)
  ids-filter test [] = refl
  ids-filter test (one ∷ others) = of (test one.0) (ids-filter test others)
    where
      of : (b : Bool) → map (λ (one : Drawn). one.0) (filter (λ (one : Drawn). test one.0) others)
          ≡ filter test (map (λ (one : Drawn). one.0) others)
          → map (λ (one : Drawn). one.0) (cond b (one ∷ filter (λ (one : Drawn). test one.0) others)
          (filter (λ (one : Drawn). test one.0) others))
          ≡ cond b (one.0 ∷ filter test (map (λ (one : Drawn). one.0) others)) (filter test (map (λ (one : Drawn). one.0) others))
      of true rest = ap (λ l. one.0 ∷ l) rest
      of false rest = rest

  -- the random order of some of the entries
  round-filter : (test : ℕ → Bool) (entries : List Entry)
      → round_of key order (filter (λ entry. test entry.id) entries) ≡ filter test (round_of key order entries)
  round-filter test entries =
      ap (λ l. map (λ (one : Drawn). one.0) (in_order l)) (drawn-filter test entries)
      ∙ ap (λ l. map (λ (one : Drawn). one.0) l) (in_order-filter (λ (one : Drawn). test one.0) (drawn entries))
      ∙ ids-filter test (in_order (drawn entries))

  round-distinct : (entries : List Entry) → HaveOwnIds entries → IsDistinct nat_eq (round_of key order entries)
  round-distinct entries own = in_order-distinct (drawn entries)
      (subst (λ l. IsDistinct nat_eq l) (sym (ids-drawn entries)) (IsDistinct-from_AllPairs Decides-eqb (ids_of entries) own))

  entries-any : (test : ℕ → Bool) (entries : List Entry) → list_any test (ids_of entries) ≡ list_any (λ entry. test entry.id) entries
  entries-any test [] = refl
  entries-any test (entry ∷ entries) = ap (λ b. test entry.id || b) (entries-any test entries)

  -- an entry of the round has a place in the queue
  round-any : (entries : List Entry) (id : ℕ) → list_any (eqb id) (round_of key order entries) ≡ true
      → list_any (λ entry. entry.id == id) entries ≡ true
  round-any entries id is = sym (entries-any (λ other. eqb other id) entries) ∙ any-turned id (ids_of entries)
      ∙ ap (λ l. list_any (eqb id) l) (sym (ids-drawn entries)) ∙ sym (in_order-any (eqb id) (drawn entries)) ∙ is

  -- a song plays, and these were played
  abbrev in_play : Manners → List Entry → List ℕ → ℕ → ℕ → ℕ → Option PlayFailure → Playback
  in_play manners entries played id ticket frame error = record {
    entries = entries;
    settings = record { options = random_alone; manners = manners; key = key; order = order };
    player = record { state = Play; current = Some id; ticket = ticket; frame = frame; played = played; error = error; failures = 0 };
  }

  abbrev step_to : PlayerState → Choice → Step
  step_to player choice = record {
    player = gone_on true player choice;
    changes = record { order = choice.order; removed = None; single_off = false; consume_off = false };
  }

  -- the end of a song starts the first one that is left
  module _ (manners : Manners) (entries : List Entry) (played rest : List ℕ) (id ticket frame : ℕ) (error : Option PlayFailure)
      (own : IsDistinct nat_eq (round_of key order entries)) (is : round_of key order entries ≡ played ++ rest)
      (here : list_any (eqb id) played ≡ true) where
    abbrev now : Playback
    now = in_play manners entries played id ticket frame error

    abbrev at : ℕ
    at = position_or_len (λ entry. entry.id == id) entries

    found : placed entries (Some id) ≡ Some (at, id)
    found = ap (λ place. option_map (λ n. (n, id)) place) (position-is (λ entry. entry.id == id) entries (round-any entries id
        (ap (λ l. list_any (eqb id) l) is ∙ any-front (eqb id) played rest here)))

    left : round_of key order (filter (is_left id played) (staying no_block [] 0 entries)) ≡ rest
    left = ap (λ l. round_of key order (filter (is_left id played) l)) (staying-all 0 entries)
        ∙ round-filter (is_left_id id played) entries ∙ ap (filter (is_left_id id played)) is
        ∙ left-is id played rest (subst (λ l. IsDistinct nat_eq l) is own) here

    next : chosen now.settings entries no_block [] played at id ≡ or_else (first_of rest) nothing
    next = ap (λ l. or_else (first_of l) nothing) left

    goes_on : after_end now ≡ after now (step_to now.player (or_else (first_of rest) nothing))
    goes_on = ap (λ b. after now (cond b (over entries now.settings Off now.player) (unchanged now.player))) (eq-eqb ticket ticket refl)
        ∙ ap (λ place. after now (over_at entries now.settings Off now.player place)) found
        ∙ ap (λ l. after now (step_to (record now.player { played = l }) (chosen now.settings entries no_block [] played at id)))
        (none_leave entries played)
        ∙ ap (λ choice. after now (step_to now.player choice)) next

  -- so what is left plays
  plays_rest : (manners : Manners) (entries : List Entry) (played rest : List ℕ) (id ticket frame : ℕ) (error : Option PlayFailure)
      → IsDistinct nat_eq (round_of key order entries) → round_of key order entries ≡ played ++ rest
      → list_any (eqb id) played ≡ true → PlaysOut entries rest (after_end (in_play manners entries played id ticket frame error))
  plays_rest manners entries played [] id ticket frame error own is here =
      subst (PlaysOut entries []) (sym (goes_on manners entries played [] id ticket frame error own is here)) (refl, (refl, refl))
  plays_rest manners entries played (next ∷ rest) id ticket frame error own is here =
      subst (PlaysOut entries (next ∷ rest)) (sym (goes_on manners entries played (next ∷ rest) id ticket frame error own is here)) (
        refl,
        (refl, refl),
        plays_rest manners entries (without next played ++ next ∷ []) rest next (next_ticket ticket) 0 None own
            (is ∙ sym (append_assoc played (next ∷ []) rest) ∙ ap (λ l. (l ++ next ∷ []) ++ rest) (sym kept))
            (any-last next (without next played)),
      )
    where
      kept : without next played ≡ played
      kept = without-none next played (apart played (next ∷ rest) (subst (λ l. IsDistinct nat_eq l) is own)).0

abbrev stopped_now : List Entry → PlaySettings → PlayerState → Playback
stopped_now entries settings player = record { entries = entries; settings = settings; player = player }

abbrev settings_of : Options → Manners → List ℕ → ℕ → PlaySettings
settings_of options manners key order = record { options = options; manners = manners; key = key; order = order }

abbrev player_in : PlayState → Option ℕ → PlayerState → PlayerState
player_in state current player = record player { state = state; current = current }

begins : (manners : Manners) (entries : List Entry) (key : List ℕ) (order : ℕ) (player : PlayerState) → HaveOwnIds entries
    → PlaysOut entries (round_of key (next_order order) entries)
    (after_play (stopped_now entries (settings_of random_alone manners key order) (player_in Stop None player)))
begins manners entries key order player own = of (round_of key (next_order order) entries) refl
  where
    now : Playback
    now = stopped_now entries (settings_of random_alone manners key order) (player_in Stop None player)

    started_by : Option ℕ → Playback
    started_by id = after now (stepped_if_any true now.player (new_round (next_order order) id) (new_round (next_order order) id).id)

    of : (ids : List ℕ) → round_of key (next_order order) entries ≡ ids → PlaysOut entries ids (started_by (first_of
        (round_of key (next_order order) entries)))
    of [] is = subst (λ l. PlaysOut entries [] (started_by (first_of l))) (sym is) (refl, (refl, refl))
    of (id ∷ ids) is = subst (λ l. PlaysOut entries (id ∷ ids) (started_by (first_of l))) (sym is) (
      refl,
      (refl, refl),
      plays_rest key (next_order order) manners entries (id ∷ []) ids id (next_ticket player.ticket) 0 None
          (round-distinct key (next_order order) entries own) is (any-last id []),
    )

pub plays_in_random_order : ARoundIsTheRandomOrder
plays_in_random_order now own alone stopped =
    subst (λ options. out options now.player.state now.player.current) (sym alone)
    (subst (λ state. out random_alone state now.player.current) (sym stopped.0)
    (subst (λ current. out random_alone Stop current) (sym stopped.1)
    (begins now.settings.manners now.entries now.settings.key now.settings.order now.player own)))
  where
    out : Options → PlayState → Option ℕ → Type 0
    out options state current = PlaysOut now.entries (round_of now.settings.key (next_order now.settings.order) now.entries)
        (after_play (stopped_now now.entries (settings_of options now.settings.manners now.settings.key now.settings.order)
        (player_in state current now.player)))
