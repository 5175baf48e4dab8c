-- The player stays sound through each of its steps: the ids that it has stand in the queue that the step leaves.
use Rattle.std.proofs.Common.{◌≡◌, ℕ, zero, suc, ◌+◌, ◌<◌, Bool, true, false, cond, ◌==◌, ◌||◌, ◌&&◌, List, [], ◌∷◌, length}
use Rattle.std.proofs.Common.{get_or, slice_get, Option, Some, None, refl, sym, ap, ◌∙◌, subst, arith}
use Rattle.std.proofs.lemmas.Bool.{eq-eqb, eqb-true}
use Rattle.std.proofs.lemmas.Bool.Decides.{nat_tests}
use Rattle.std.proofs.lemmas.List.Folds.{list_any_at}
use Rattle.std.proofs.lemmas.List.Quantifiers.{position-Some}
use Rattle.std.proofs.lemmas.Option.{slice_get-get_or}
use Rattle.std.proofs.lemmas.Slice.Eq.{bytes_eq-Decides}
use Rattle.std.specs.List.{AllByRecursion, list_any, position_or_len}
use Rattle.std.specs.Option.{option_map, option_map_or}
use Rattle.std.specs.Prelude.{IfSome, position, is_some, nat_lt}
use Rattle.std.specs.Str.{bytes_eq}
use Rattle.play_queue.specs.declared.entry.Entry.{Entry}
use Rattle.play_queue.specs.Entries.{Uris}
use Rattle.player_core.specs.Choice.{chosen, placed}
use Rattle.player_core.specs.Player.{PlayerState, Step, unchanged, started, stopped, stopped_without_song, without, gone_to, gone_on}
use Rattle.player_core.specs.Player.{in_round, left_by, left_out}
use Rattle.player_core.specs.Reports.{followed, followed_at, gone, gone_in_pause, gone_on_without, takes_at}
use Rattle.player_core.specs.Commands.{stepped}
use Rattle.player_core.specs.Ending.{repeats_one}
use Rattle.player_core.specs.declared.manners.Manners.{Manners}
use Rattle.player_core.specs.declared.manners.Manners.TheVariants.{Named, Mpd}
use Rattle.player_core.specs.Staying.{takes, staying, all_staying}
use Rattle.player_core.specs.declared.block.Block.{Block}
use Rattle.player_core.specs.declared.choice.Choice.{Choice}
use Rattle.player_core.specs.declared.playing.PlayState.{PlayState}
use Rattle.player_core.specs.declared.playing.PlayState.TheVariants.{Stop, Play, Pause}
use Rattle.player_core.specs.declared.settings.PlaySettings.{PlaySettings}
use Rattle.player_core.proofs.LeftBlock.{left_by-empty}
use Rattle.machine_core.specs.Sound.{is_in_queue, IsIn, AreOwn, IsSoundPlayer}
use Rattle.machine_core.proofs.Sound.Choices.{chosen_in, some_weaker}
use Rattle.machine_core.proofs.Sound.Ids.{all_weaker, all_both, all_behind, all_without, own_without, apart_without, own_behind}
use Rattle.machine_core.proofs.Sound.Ids.{has_here, has_later}

-- the ids of one list of entries are in another
abbrev pub Within : List Entry → List Entry → Type 0
Within entries after = (id : ℕ) → IsIn entries id → IsIn after id

-- the played list of a sound player
pub record ArePlayed (entries : List Entry) (random : Bool) (played : List ℕ) : Type 0 where
  pub all : AllByRecursion (IsIn entries) played
  pub once : AreOwn played
  pub ordered : random ≡ false → played ≡ []

pub played_of : (entries : List Entry) (random : Bool) (player : PlayerState) → IsSoundPlayer entries random player
    → ArePlayed entries random player.played
played_of entries random player sound = record { all = sound.played; once = sound.once; ordered = sound.ordered }

pub sound_from : (entries : List Entry) (random : Bool) (player : PlayerState) → IfSome player.current (IsIn entries)
    → ArePlayed entries random player.played → IsSoundPlayer entries random player
sound_from entries random player here played = record { current = here; played = played.all; once = played.once; ordered = played.ordered }

pub sound_within : (entries after : List Entry) (random : Bool) (player : PlayerState) → Within entries after
    → IsSoundPlayer entries random player → IsSoundPlayer after random player
sound_within entries after random player within sound = record {
  current = some_weaker (IsIn entries) (IsIn after) within player.current sound.current;
  played = all_weaker (IsIn entries) (IsIn after) within player.played sound.played;
  once = sound.once;
  ordered = sound.ordered;
}

-- ---- a song starts

started_sound : (entries : List Entry) (random : Bool) (player : PlayerState) (id : ℕ) → IsIn entries id
    → ArePlayed entries random player.played → IsSoundPlayer entries random (started random player id)
started_sound entries true player id here played = record {
  current = here;
  played = all_behind (IsIn entries) (without id player.played) id (all_without (IsIn entries) id player.played played.all) here;
  once = own_behind (without id player.played) id (own_without id player.played played.once) (apart_without id player.played played.once);
  ordered = λ off. absurd (cc);
}
started_sound entries false player id here played =
    record { current = here; played = played.all; once = played.once; ordered = played.ordered }

gone_to_sound : (entries : List Entry) (random : Bool) (player : PlayerState) (id : Option ℕ) → IfSome id (IsIn entries)
    → ArePlayed entries random player.played → IsSoundPlayer entries random (gone_to random player id)
gone_to_sound entries random player None here played =
    record { current = tt; played = played.all; once = played.once; ordered = played.ordered }
gone_to_sound entries random player (Some id) here played = started_sound entries random player id here played

pub gone_on_sound : (entries : List Entry) (random : Bool) (player : PlayerState) (choice : Choice) → IfSome choice.id (IsIn entries)
    → ArePlayed entries random player.played → IsSoundPlayer entries random (gone_on random player choice)
gone_on_sound entries random player choice here played = of choice.order
  where
    of : (order : Option ℕ) → IsSoundPlayer entries random (gone_to random (in_round order player) choice.id)
    of None = gone_to_sound entries random player choice.id here played
    of (Some order) =
        gone_to_sound entries random (record player { played = [] }) choice.id here
        (record { all = tt; once = tt; ordered = λ off. refl })

-- ---- entries leave

grouped : (a b c : Bool) → (a || (b || c)) ≡ true → ((a || b) || c) ≡ true
grouped true b c h = refl
grouped false b c h = h

apart_group : (a b c : Bool) → ((a || b) || c) ≡ true → (a || (b || c)) ≡ true
apart_group true b c h = refl
apart_group false b c h = h

not_this : (a same c : Bool) → same ≡ false → (a || (same || c)) ≡ true → (a || c) ≡ true
not_this a true c apart h = absurd (cc)
not_this a false c apart h = h

left_all : (block : Block) (dropped : Uris) (also : ℕ → Bool) (at : ℕ) (entries : List Entry) (played : List ℕ) → AreOwn played
    → AllByRecursion (λ id. (also id || is_in_queue entries id) ≡ true) played
    → AllByRecursion (λ id. (also id || is_in_queue (staying block dropped at entries) id) ≡ true) (left_by block dropped at entries played)
left_all block dropped also at [] played own all = all
left_all block dropped also at (entry ∷ entries) played own all =
    of (takes block dropped at entry) (left_all block dropped also (at + 1) entries (without entry.id played)
    (own_without entry.id played own)
    (all_both (λ id. (also id || (entry.id == id || is_in_queue entries id)) ≡ true) (λ id. (entry.id == id) ≡ false)
    (λ id. (also id || is_in_queue entries id) ≡ true) (λ id h apart. not_this (also id) (entry.id == id) (is_in_queue entries id) apart h)
    (without entry.id played)
    (all_without (λ id. (also id || (entry.id == id || is_in_queue entries id)) ≡ true) entry.id played all)
    (apart_without entry.id played own)))
    (left_all block dropped (λ id. also id || entry.id == id) (at + 1) entries played own
    (all_weaker (λ id. (also id || (entry.id == id || is_in_queue entries id)) ≡ true)
    (λ id. ((also id || entry.id == id) || is_in_queue entries id) ≡ true)
    (λ id h. grouped (also id) (entry.id == id) (is_in_queue entries id) h) played all))
  where
    stays : List Entry
    stays = staying block dropped (at + 1) entries

    of : (b : Bool)
        → AllByRecursion (λ id. (also id || is_in_queue stays id) ≡ true) (left_by block dropped (at + 1) entries (without entry.id played))
        → AllByRecursion (λ id. ((also id || entry.id == id) || is_in_queue stays id) ≡ true)
        (left_by block dropped (at + 1) entries played)
        → AllByRecursion (λ id. (also id || list_any (λ (e : Entry). e.id == id) (cond b stays (entry ∷ stays))) ≡ true)
        (left_by block dropped (at + 1) entries (cond b (without entry.id played) played))
    of true leaves keeps = leaves
    of false leaves keeps =
        all_weaker (λ id. ((also id || entry.id == id) || is_in_queue stays id) ≡ true)
        (λ id. (also id || (entry.id == id || is_in_queue stays id)) ≡ true)
        (λ id h. apart_group (also id) (entry.id == id) (is_in_queue stays id) h) (left_by block dropped (at + 1) entries played) keeps

left_own : (block : Block) (dropped : Uris) (at : ℕ) (entries : List Entry) (played : List ℕ) → AreOwn played
    → AreOwn (left_by block dropped at entries played)
left_own block dropped at [] played own = own
left_own block dropped at (entry ∷ entries) played own =
    of (takes block dropped at entry) (left_own block dropped (at + 1) entries (without entry.id played) (own_without entry.id played own))
    (left_own block dropped (at + 1) entries played own)
  where
    of : (b : Bool) → AreOwn (left_by block dropped (at + 1) entries (without entry.id played))
        → AreOwn (left_by block dropped (at + 1) entries played)
        → AreOwn (left_by block dropped (at + 1) entries (cond b (without entry.id played) played))
    of true leaves keeps = leaves
    of false leaves keeps = keeps

pub left_played : (block : Block) (dropped : Uris) (entries after : List Entry) (random : Bool) (played : List ℕ)
    → Within (all_staying block dropped entries) after → ArePlayed entries random played
    → ArePlayed after random (left_by block dropped 0 entries played)
left_played block dropped entries after random played within are = record {
  all = all_weaker (IsIn (all_staying block dropped entries)) (IsIn after) within (left_by block dropped 0 entries played)
      (left_all block dropped (λ id. false) 0 entries played are.once are.all);
  once = left_own block dropped 0 entries played are.once;
  ordered = λ off. ap (left_by block dropped 0 entries) (are.ordered off) ∙ left_by-empty block dropped 0 entries;
}

-- ---- where the current entry stands

pub no_entry : Entry
no_entry = record { id = 0; uri = []; priority = 0; stamp = 0 }

pub record IsAt (entries : List Entry) (current : Option ℕ) (place : ℕ × ℕ) : Type 0 where
  pub this : current ≡ Some place.1
  pub within : place.0 < length entries
  pub stands : slice_get entries place.0 ≡ Some (get_or entries place.0 no_entry)
  pub id : (get_or entries place.0 no_entry).id ≡ place.1
  pub is_in : IsIn entries place.1

pub placed_at : (entries : List Entry) (current : Option ℕ) (place : ℕ × ℕ) → placed entries current ≡ Some place
    → IsAt entries current place
placed_at entries None place is = absurd (cc)
placed_at entries (Some id) place is = of (position (λ entry. entry.id == id) entries) refl is
  where
    of : (o : Option ℕ) → position (λ entry. entry.id == id) entries ≡ o → option_map (λ at. (at, id)) o ≡ Some place
        → IsAt entries (Some id) place
    of None at is = absurd (cc)
    of (Some n) at is =
        let found = position-Some (λ entry. entry.id == id) entries n no_entry at in
        subst (λ (p : ℕ × ℕ). IsAt entries (Some id) p) (let e : (n, id) ≡ place = cc in e) (record {
          this = refl;
          within = found.0;
          stands = slice_get-get_or entries n no_entry found.0;
          id = eqb-true (get_or entries n no_entry).id id found.1;
          is_in = list_any_at (λ entry. entry.id == id) entries n no_entry found.0 found.1;
        })

-- what stands in the queue has a place there
before_end : (entries : List Entry) (id : ℕ) → IsIn entries id → position_or_len (λ entry. entry.id == id) entries < length entries
before_end [] id here = absurd (cc)
before_end (entry ∷ entries) id here = of (entry.id == id) refl here (before_end entries id)
  where
    of : (b : Bool) → (entry.id == id) ≡ b → (b || is_in_queue entries id) ≡ true
        → (IsIn entries id → position_or_len (λ entry. entry.id == id) entries < length entries)
        → position_or_len (λ entry. entry.id == id) (entry ∷ entries) < suc (length entries)
    of true is here rest = rw is (omega arith)
    of false is here rest = let less = rest here in rw is (omega arith)

positioned : (entries : List Entry) (id : ℕ) → IsIn entries id → is_some (placed entries (Some id)) ≡ true
positioned entries id here =
    let within : nat_lt (position_or_len (λ entry. entry.id == id) entries) (length entries) ≡ true =
    grind (arith, nat_tests, before_end entries id here) in
    rw within refl

pub placed_where : (entries : List Entry) (id : ℕ) → IsIn entries id → (place : ℕ × ℕ) × (placed entries (Some id) ≡ Some place)
placed_where entries id here = of (placed entries (Some id)) refl (positioned entries id here)
  where
    of : (o : Option (ℕ × ℕ)) → placed entries (Some id) ≡ o → is_some o ≡ true → (place : ℕ × ℕ) × (placed entries (Some id) ≡ Some place)
    of None is there = absurd (cc)
    of (Some place) is there = (place, is)

-- no current song that stands in the queue is missed
pub none_placed : (entries : List Entry) (current : Option ℕ) → placed entries current ≡ None → IfSome current (IsIn entries)
    → current ≡ None
none_placed entries None is here = refl
none_placed entries (Some id) is here = absurd (cc (positioned entries id here, is))

-- an entry that stays, of its id and its song
stays_has : (test : Entry → Bool) (block : Block) (dropped : Uris) (at n k : ℕ) (entries : List Entry) (entry : Entry) → at + n ≡ k
    → slice_get entries n ≡ Some entry → takes block dropped k entry ≡ false → test entry ≡ true
    → list_any test (staying block dropped at entries) ≡ true
stays_has test block dropped at n k [] entry is stands stays passes = absurd (cc)
stays_has test block dropped at zero k (first ∷ entries) entry is stands stays passes =
    let same : first ≡ entry = cc in
    let here : at ≡ k = omega (arith, is) in
    let not_taken : takes block dropped at first ≡ false = ap (λ (m : ℕ). takes block dropped m first) here
    ∙ ap (takes block dropped k) same ∙ stays in
    rw not_taken (has_here test first (staying block dropped (at + 1) entries) (ap test same ∙ passes))
stays_has test block dropped at (suc n) k (first ∷ entries) entry is stands stays passes =
    of (takes block dropped at first) (stays_has test block dropped (at + 1) n k entries entry (omega (arith, is)) stands stays passes)
  where
    of : (b : Bool) → list_any test (staying block dropped (at + 1) entries) ≡ true
        → list_any test (cond b (staying block dropped (at + 1) entries) (first ∷ staying block dropped (at + 1) entries)) ≡ true
    of true h = h
    of false h = has_later test first (staying block dropped (at + 1) entries) h

-- the current entry doesn't leave, or leaves
stays_test : (test : Entry → Bool) (block : Block) (dropped : Uris) (entries : List Entry) (current : Option ℕ) (place : ℕ × ℕ)
    → IsAt entries current place → takes_at block dropped entries place.0 ≡ false → test (get_or entries place.0 no_entry) ≡ true
    → list_any test (all_staying block dropped entries) ≡ true
stays_test test block dropped entries current place at stays passes =
    let entry = get_or entries place.0 no_entry in
    let not_taken : takes block dropped place.0 entry ≡ false =
    sym (ap (λ found. option_map_or (takes block dropped place.0) found false) at.stands) ∙ stays in
    stays_has test block dropped 0 place.0 place.0 entries entry (omega arith) at.stands not_taken passes

pub stays_current : (block : Block) (dropped : Uris) (entries : List Entry) (current : Option ℕ) (place : ℕ × ℕ) → IsAt entries current place
    → takes_at block dropped entries place.0 ≡ false → IsIn (all_staying block dropped entries) place.1
stays_current block dropped entries current place at stays =
    stays_test (λ entry. entry.id == place.1) block dropped entries current place at stays
    (eq-eqb (get_or entries place.0 no_entry).id place.1 at.id)

-- the entry at a place is one of its id and its song
pub at_song : (entries : List Entry) (current : Option ℕ) (place : ℕ × ℕ) → IsAt entries current place
    → ((get_or entries place.0 no_entry).id == place.1
    && bytes_eq (get_or entries place.0 no_entry).uri (get_or entries place.0 no_entry).uri) ≡ true
at_song entries current place at =
    λ i. eq-eqb (get_or entries place.0 no_entry).id place.1 at.id i
    && (bytes_eq-Decides (get_or entries place.0 no_entry).uri (get_or entries place.0 no_entry).uri).1 refl i

pub stays_song : (block : Block) (dropped : Uris) (entries : List Entry) (current : Option ℕ) (place : ℕ × ℕ) → IsAt entries current place
    → takes_at block dropped entries place.0 ≡ false
    → list_any (λ entry. entry.id == place.1 && bytes_eq entry.uri (get_or entries place.0 no_entry).uri)
    (all_staying block dropped entries) ≡ true
stays_song block dropped entries current place at stays =
    stays_test (λ entry. entry.id == place.1 && bytes_eq entry.uri (get_or entries place.0 no_entry).uri) block dropped entries current
    place at stays (at_song entries current place at)

without_sound : (entries after : List Entry) (settings : PlaySettings) (block : Block) (dropped : Uris) (player : PlayerState)
    (place : ℕ × ℕ) → Within (all_staying block dropped entries) after → ArePlayed entries settings.options.random player.played
    → let step = gone_on_without entries settings block dropped player place in IsSoundPlayer after settings.options.random step.player
without_sound entries after settings block dropped player place within played = of (repeats_one settings.manners settings.options)
  where
    choice : Choice
    choice = chosen settings entries block dropped player.played place.0 place.1

    of : (b : Bool) → let step : Step = cond b (unchanged (stopped_without_song (left_out block dropped entries player)))
        (stepped settings.options.random (left_out block dropped entries player) choice) in
        IsSoundPlayer after settings.options.random step.player
    of true =
        sound_from after settings.options.random (stopped_without_song (left_out block dropped entries player)) tt
        (left_played block dropped entries after settings.options.random player.played within played)
    of false =
        gone_on_sound after settings.options.random (left_out block dropped entries player) choice
        (some_weaker (IsIn (all_staying block dropped entries)) (IsIn after) within choice.id
        (chosen_in settings entries block dropped player.played place.0 place.1))
        (left_played block dropped entries after settings.options.random player.played within played)

pause_sound : (by : Manners) (entries after : List Entry) (settings : PlaySettings) (block : Block) (dropped : Uris) (player : PlayerState)
    (place : ℕ × ℕ) → Within (all_staying block dropped entries) after → ArePlayed entries settings.options.random player.played
    → let step = gone_in_pause by entries settings block dropped player place in IsSoundPlayer after settings.options.random step.player
pause_sound Named entries after settings block dropped player place within played =
    sound_from after settings.options.random (stopped_without_song (left_out block dropped entries player)) tt
    (left_played block dropped entries after settings.options.random player.played within played)
pause_sound Mpd entries after settings block dropped player place within played =
    let step = gone_on_without entries settings block dropped player place in
    let sound = without_sound entries after settings block dropped player place within played in
    sound_from after settings.options.random (stopped step.player) sound.current (played_of after settings.options.random step.player sound)

gone_sound : (state : PlayState) (entries after : List Entry) (settings : PlaySettings) (block : Block) (dropped : Uris)
    (player : PlayerState) (place : ℕ × ℕ) → Within (all_staying block dropped entries) after
    → ArePlayed entries settings.options.random player.played
    → let step = gone state entries settings block dropped player place in IsSoundPlayer after settings.options.random step.player
gone_sound Play entries after settings block dropped player place within played =
    without_sound entries after settings block dropped player place within played
gone_sound Pause entries after settings block dropped player place within played =
    pause_sound settings.manners entries after settings block dropped player place within played
gone_sound Stop entries after settings block dropped player place within played =
    sound_from after settings.options.random (stopped_without_song (left_out block dropped entries player)) tt
    (left_played block dropped entries after settings.options.random player.played within played)

followed_at_sound : (entries after : List Entry) (settings : PlaySettings) (block : Block) (dropped : Uris) (player : PlayerState)
    (place : Option (ℕ × ℕ)) → placed entries player.current ≡ place → Within (all_staying block dropped entries) after
    → IsSoundPlayer entries settings.options.random player
    → let step = followed_at entries settings block dropped player place in IsSoundPlayer after settings.options.random step.player
followed_at_sound entries after settings block dropped player None is within sound =
    let nothing : player.current ≡ None = none_placed entries player.current is sound.current in
    sound_from after settings.options.random (left_out block dropped entries player)
    (subst (λ (o : Option ℕ). IfSome o (IsIn after)) (sym nothing) tt)
    (left_played block dropped entries after settings.options.random player.played within
    (played_of entries settings.options.random player sound))
followed_at_sound entries after settings block dropped player (Some place) is within sound =
    of (takes_at block dropped entries place.0) refl
  where
    at : IsAt entries player.current place
    at = placed_at entries player.current place is

    of : (b : Bool) → takes_at block dropped entries place.0 ≡ b
        → let step : Step = cond b (gone player.state entries settings block dropped player place)
        (unchanged (left_out block dropped entries player)) in IsSoundPlayer after settings.options.random step.player
    of true leaves =
        gone_sound player.state entries after settings block dropped player place within
        (played_of entries settings.options.random player sound)
    of false stays =
        sound_from after settings.options.random (left_out block dropped entries player)
        (subst (λ (o : Option ℕ). IfSome o (IsIn after)) (sym at.this)
        (within place.1 (stays_current block dropped entries player.current place at stays)))
        (left_played block dropped entries after settings.options.random player.played within
        (played_of entries settings.options.random player sound))

-- the player as entries leave the queue
pub followed_sound : (entries after : List Entry) (settings : PlaySettings) (block : Block) (dropped : Uris) (player : PlayerState)
    → Within (all_staying block dropped entries) after → IsSoundPlayer entries settings.options.random player
    → let step = followed entries settings block dropped player in IsSoundPlayer after settings.options.random step.player
followed_sound entries after settings block dropped player within sound =
    followed_at_sound entries after settings block dropped player (placed entries player.current) refl within sound
