-- Songs in a row that can't be read bring the player to rest.
use Rattle.std.proofs.Common.{◌≡◌, ℕ, zero, suc, ◌+◌, ◌-◌, ◌<◌, ◌≤◌, inl, inr, Bool, true, false, cond, not, ◌&&◌, ◌||◌}
use Rattle.std.proofs.Common.{List, [], ◌∷◌, ◌++◌, length, take, drop, option_map, add-one, arith}
use Rattle.std.proofs.Common.{Option, Some, None, refl, sym, ap, subst, ◌∙◌}
use Rattle.std.specs.Prelude.{◌==◌, nat_le}
use Rattle.std.specs.List.{find, position_or_len}
use Rattle.std.proofs.lemmas.Bool.{eq-eqb, leb-false, lt-ltb}
use Rattle.play_queue.specs.declared.entry.Entry.{Entry}
use Rattle.play_queue.specs.Entries.{deleted}
use Rattle.player_core.specs.declared.failure.BrokenCause.TheVariants.{Source}
use Rattle.player_core.specs.declared.failure.PlayFailure.TheVariants.{CannotPlay}
use Rattle.player_core.specs.declared.manners.Manners.{Manners}
use Rattle.player_core.specs.declared.manners.Manners.TheVariants.{Named, Mpd}
use Rattle.player_core.specs.declared.options.Single.TheVariants.{Off}
use Rattle.player_core.specs.declared.playing.PlayState.{PlayState}
use Rattle.player_core.specs.declared.playing.PlayState.TheVariants.{Stop, Play, Pause}
use Rattle.player_core.specs.declared.settings.PlaySettings.{PlaySettings}
use Rattle.player_core.specs.Choice.{at_random, chosen, in_row, nothing, or_else, placed, this_round}
use Rattle.player_core.specs.Ending.{consumed, is_on, over_at, repeats_one}
use Rattle.player_core.specs.Order.{current_entry}
use Rattle.player_core.specs.Player.{PlayerState, Step, unchanged}
use Rattle.player_core.specs.Reports.{broken, counts, failed_of, failure, failures_in, is_through, passed, passes, passes_by}
use Rattle.player_core.specs.Round.{Playback, after, left_after}
use Rattle.player_core.specs.Staying.{all_staying, first_id, staying_behind}
use Rattle.player_core.specs.BadSongs.{BadSongsEnd, IsAtRest, after_failure, after_failures}

-- ---- at rest nothing changes

none_passes : (by : Manners) (state : PlayState) (others : Bool) → state ≡ Stop → (passes_by by Source state && others) ≡ false
none_passes Named state others is = refl
none_passes Mpd state others is = subst (λ (s : PlayState). (passes_by Mpd Source s && others) ≡ false) (sym is) refl

none_counts : (state : PlayState) (ticket : ℕ) → state ≡ Stop → counts state ticket ticket ≡ false
none_counts state ticket is = subst (λ (s : PlayState). counts s ticket ticket ≡ false) (sym is) refl

stopped_stays : (entries : List Entry) (settings : PlaySettings) (player : PlayerState) (entry : Option Entry) → player.state ≡ Stop
    → failed_of entries settings player player.ticket Source entry ≡ unchanged player
stopped_stays entries settings player None is = refl
stopped_stays entries settings player (Some entry) is =
    ap (λ b. cond b (passed entries settings player entry.uri) (unchanged (broken player player.ticket Source entry.uri)))
    (none_passes settings.manners player.state (player.ticket == player.ticket && not (is_through entries settings player.failures)) is)
    ∙ ap (λ b. unchanged (cond b (record player { state = Stop; error = Some (failure Source entry.uri) }) player))
    (none_counts player.state player.ticket is)

rest_stays : (now : Playback) → IsAtRest now → IsAtRest (after_failure now)
rest_stays now (inl is) =
    subst (λ (step : Step). IsAtRest (after now step))
    (sym (stopped_stays now.entries now.settings now.player (current_entry now.entries now.player.current) is)) (inl is)
rest_stays now (inr none) =
    subst (λ (entry : Option Entry). IsAtRest (after now (failed_of now.entries now.settings now.player now.player.ticket Source entry)))
    (sym none) (inr none)

all_rest : (count : ℕ) (now : Playback) → IsAtRest now → IsAtRest (after_failures count now)
all_rest zero now rest = rest
all_rest (suc count) now rest = all_rest count (after_failure now) (rest_stays now rest)

-- ---- a song that isn't passed by

broken_rests : (player : PlayerState) (uri : List ℕ) → (broken player player.ticket Source uri).state ≡ Stop
broken_rests player uri = of player.state refl
  where
    with_error : PlayerState
    with_error = record player { state = Stop; error = Some (failure Source uri) }

    of : (state : PlayState) → player.state ≡ state → (cond (counts state player.ticket player.ticket) with_error player).state ≡ Stop
    of Stop is = is
    of Play is = ap (λ b. (cond b with_error player).state) (eq-eqb player.ticket player.ticket refl)
    of Pause is = ap (λ b. (cond b with_error player).state) (eq-eqb player.ticket player.ticket refl)

-- ---- a song that is passed by

row_order : (repeat : Bool) (behind all : List Entry) → (in_row repeat behind all).order ≡ None
row_order repeat behind all = of (first_id behind) repeat
  where
    of : (found : Option ℕ) (b : Bool) → (or_else found (cond b (this_round (first_id all)) nothing)).order ≡ None
    of None true = refl
    of None false = refl
    of (Some id) b = refl

no_round : (now : Playback) (place : ℕ × ℕ) → now.settings.options.random ≡ false
    → let options = now.settings.options in
    (chosen now.settings now.entries (consumed (is_on options.consume) place.0) [] now.player.played place.0 place.1).order ≡ None
no_round now place off =
    let block = consumed (is_on now.settings.options.consume) place.0 in
    ap (λ b. (cond b (at_random now.settings place.1 now.player.played (all_staying block [] now.entries))
    (in_row now.settings.options.repeat (staying_behind block [] place.0 now.entries) (all_staying block [] now.entries))).order) off
    ∙ row_order now.settings.options.repeat (staying_behind block [] place.0 now.entries) (all_staying block [] now.entries)

shorter_by : (entries : List Entry) (at : ℕ) → at < length entries
    → suc (length (take at entries ++ drop (suc at) entries)) ≡ length entries
shorter_by [] at within = absurd (omega (arith, within))
shorter_by (entry ∷ entries) zero within = refl
shorter_by (entry ∷ entries) (suc at) within = ap suc (shorter_by entries at (omega (arith, within)))

shorter : (entries : List Entry) (at : ℕ) → at < length entries → suc (length (deleted entries at (at + 1))) ≡ length entries
shorter entries at within =
    ap (λ n. suc (length (take at entries ++ drop n entries))) (add-one at) ∙ shorter_by entries at within

fewer : (consume : Bool) (order : Option ℕ) (entries : List Entry) (at failures count : ℕ) → order ≡ None → at < length entries
    → length entries ≤ suc count + failures
    → length (left_after (cond consume (Some at) None) entries) ≤ count + failures_in consume order failures
fewer consume (Some order) entries at failures count none within few = absurd (cc)
fewer true None entries at failures count none within few = omega (arith, few, shorter entries at within)
fewer false None entries at failures count none within few = omega (arith, few)

-- the position and the id of the current entry are these
abbrev passed_at : Playback → List ℕ → Option (ℕ × ℕ) → Step
passed_at now uri place =
    let step = over_at now.entries now.settings Off now.player place in
    record step {
      player = record step.player {
        error = Some (CannotPlay uri);
        failures = failures_in (is_on now.settings.options.consume) step.changes.order now.player.failures;
      };
    }

abbrev IsNearer : ℕ → Playback → Step → Type 0
IsNearer count now step = length (after now step).entries ≤ count + (after now step).player.failures

nearer : (now : Playback) (uri : List ℕ) (place : Option (ℕ × ℕ)) (at : ℕ × ℕ) (count : ℕ) → place ≡ Some at
    → at.0 < length now.entries → now.settings.options.random ≡ false → length now.entries ≤ suc count + now.player.failures
    → IsNearer count now (passed_at now uri place)
nearer now uri place at count is within off few =
    subst (λ (p : Option (ℕ × ℕ)). IsNearer count now (passed_at now uri p)) (sym is)
    (fewer (is_on now.settings.options.consume) _ now.entries at.0 now.player.failures count (no_round now at off) within few)

-- ---- the current entry stands somewhere

found_within : (test : Entry → Bool) (entries : List Entry) (entry : Entry) → find test entries ≡ Some entry
    → position_or_len test entries < length entries
found_within test [] entry is = absurd (cc)
found_within test (first ∷ entries) entry is = of (test first) (found_within test entries entry) is
  where
    of : (b : Bool) → (find test entries ≡ Some entry → position_or_len test entries < length entries)
        → cond b (Some first) (find test entries) ≡ Some entry
        → cond (not b) (1 + position_or_len test entries) 0 < suc (length entries)
    of true within found = omega arith
    of false within found = omega (arith, within found)

record IsPlaced (entries : List Entry) (current : Option ℕ) : Type 0 where
  at : ℕ × ℕ
  is : placed entries current ≡ Some at
  within : at.0 < length entries

entry_placed : (entries : List Entry) (current : Option ℕ) (entry : Entry) → current_entry entries current ≡ Some entry
    → IsPlaced entries current
entry_placed entries None entry is = absurd (cc)
entry_placed entries (Some id) entry is =
    let test = λ (one : Entry). one.id == id in
    let within = found_within test entries entry is in
    record {
      at = (position_or_len test entries, id);
      is = ap (λ b. option_map (λ (at : ℕ). (at, id)) (cond b (Some (position_or_len test entries)) None))
          (lt-ltb (position_or_len test entries) (length entries) within);
      within = within;
    }

-- ---- each report brings the end nearer

and_right : (a b : Bool) → (a && b) ≡ true → b ≡ true
and_right true b is = is
and_right false b is = absurd (cc)

not_true : (b : Bool) → not b ≡ true → b ≡ false
not_true true is = absurd (cc)
not_true false is = refl

or_right : (a b : Bool) → (a || b) ≡ false → b ≡ false
or_right true b is = absurd (cc)
or_right false b is = is

-- where a song is passed by, one that could not be read and a good one at least are left to try
left_to_try : (now : Playback) → passes now.entries now.settings now.player now.player.ticket Source ≡ true
    → now.player.failures < length now.entries - 1
left_to_try now is =
    let tests = and_right (passes_by now.settings.manners Source now.player.state) _ is in
    let through = not_true (is_through now.entries now.settings now.player.failures)
    (and_right (now.player.ticket == now.player.ticket) _ tests) in
    leb-false (length now.entries - 1) now.player.failures
    (or_right (repeats_one now.settings.manners now.settings.options) (nat_le (length now.entries - 1) now.player.failures) through)

step_rests : (count : ℕ) (now : Playback)
    → ((uri : List ℕ) → passes now.entries now.settings now.player now.player.ticket Source ≡ true
    → IsPlaced now.entries now.player.current
    → IsAtRest (after_failures count (after now (passed now.entries now.settings now.player uri))))
    → IsAtRest (after_failures (suc count) now)
step_rests count now goes_on = of_entry (current_entry now.entries now.player.current) refl
  where
    of_pass : (b : Bool) (entry : Entry) → current_entry now.entries now.player.current ≡ Some entry
        → passes now.entries now.settings now.player now.player.ticket Source ≡ b
        → IsAtRest (after_failures count (after now (cond b (passed now.entries now.settings now.player entry.uri)
        (unchanged (broken now.player now.player.ticket Source entry.uri)))))
    of_pass true entry here is = goes_on entry.uri is (entry_placed now.entries now.player.current entry here)
    of_pass false entry here is = all_rest count _ (inl (broken_rests now.player entry.uri))

    of_entry : (entry : Option Entry) → current_entry now.entries now.player.current ≡ entry
        → IsAtRest (after_failures count (after now (failed_of now.entries now.settings now.player now.player.ticket Source entry)))
    of_entry None none = all_rest count _ (inr none)
    of_entry (Some entry) here = of_pass (passes now.entries now.settings now.player now.player.ticket Source) entry here refl

comes_to_rest : (count : ℕ) (now : Playback) → now.settings.options.random ≡ false
    → length now.entries ≤ suc count + now.player.failures → IsAtRest (after_failures (suc count) now)
comes_to_rest zero now off few =
    step_rests zero now (λ uri passes place. absurd (omega (arith, few, left_to_try now passes)))
comes_to_rest (suc count) now off few =
    step_rests (suc count) now (λ uri passes place.
    comes_to_rest count (after now (passed now.entries now.settings now.player uri)) off
    (nearer now uri (placed now.entries now.player.current) place.at (suc count) place.is place.within off few))

pub bad_songs_end : BadSongsEnd
bad_songs_end now off = of (length now.entries) refl
  where
    none_is : (entries : List Entry) (current : Option ℕ) → length entries ≡ 0 → current_entry entries current ≡ None
    none_is [] None is = refl
    none_is [] (Some id) is = refl
    none_is (entry ∷ entries) current is = absurd (omega (arith, is))

    of : (count : ℕ) → length now.entries ≡ count → IsAtRest (after_failures count now)
    of zero is = inr (none_is now.entries now.player.current is)
    of (suc count) is = comes_to_rest count now off (omega (arith, is))
