-- The song that is heard stays with the player, whatever a batch drops.
use Rattle.std.proofs.Common.{◌≡◌, ℕ, Bool, true, false, not, cond, ◌&&◌, ◌||◌, ◌==◌, List, [], ◌∷◌, get_or, Option, Some, None}
use Rattle.std.proofs.Common.{nat_le, refl, sym, ap, ◌∙◌, subst, arith, filter}
use Rattle.std.proofs.lemmas.Bool.{false_from_ne_true, le-ltb, or_from, or_parts}
use Rattle.std.proofs.lemmas.Slice.Eq.{bytes_eq-Decides}
use Rattle.std.specs.Option.{option_map, option_map_or}
use Rattle.std.specs.Prelude.{position}
use Rattle.std.specs.Str.{bytes_eq}
use Rattle.play_queue.specs.declared.entry.Entry.{Entry}
use Rattle.play_queue.specs.Entries.{Uris, is_among}
use Rattle.play_queue.proofs.Found.{find-position}
use Rattle.player_core.specs.Choice.{placed}
use Rattle.player_core.specs.Order.{current_entry}
use Rattle.player_core.specs.Player.{PlayerState, Step, left_out, unchanged}
use Rattle.player_core.specs.Reports.{followed as when_entries_leave, followed_at, gone, takes_at}
use Rattle.player_core.specs.Staying.{takes}
use Rattle.player_core.specs.declared.settings.PlaySettings.{PlaySettings}
use Rattle.song_db.specs.Change.{after_change}
use Rattle.song_db.specs.Effect.{changes_a_row, effect_of}
use Rattle.song_db.specs.Row.{Row}
use Rattle.song_db.specs.Scan.{drops_of}
use Rattle.song_db.specs.declared.change.RowChange.{RowChange}
use Rattle.song_db.specs.declared.change.RowChange.TheVariants.{Put, Drop}
use Rattle.state_codec.specs.Applied.{after}
use Rattle.state_codec.specs.Changes.{is_kept_change}
use Rattle.state_codec.specs.declared.op.Op.TheVariants.{Batch}
use Rattle.machine_core.specs.Followed.{current_row, cut_to, followed, no_block, step_as_they_leave}
use Rattle.machine_core.specs.Happening.{if_room, nothing_happens}
use Rattle.machine_core.specs.Scanning.{finds, hears, hears_in, is_entry_of, is_running, kept_changes, spared, telling, when_found}
use Rattle.machine_core.specs.State.{MachineState, lacks_room, settings_of}
use Rattle.machine_core.proofs.Sound.Steps.{no_entry, placed_at}

-- ---- what the changes that are left of a batch don't drop

abbrev drops : List ℕ → List RowChange → Bool
drops uri changes = is_among (drops_of changes) uri

behind_first : (uri : List ℕ) (change : RowChange) (changes : List RowChange) → drops uri (change ∷ changes) ≡ false
    → drops uri changes ≡ false
behind_first uri (Put row) changes none = none
behind_first uri (Drop other) changes none = let parts = or_parts (bytes_eq other uri) (drops uri changes) none in parts.1

in_front : (uri : List ℕ) (change : RowChange) (changes rest : List RowChange) → drops uri (change ∷ changes) ≡ false
    → drops uri rest ≡ false → drops uri (change ∷ rest) ≡ false
in_front uri (Put row) changes rest none left = left
in_front uri (Drop other) changes rest none left =
    let parts = or_parts (bytes_eq other uri) (drops uri changes) none in or_from (bytes_eq other uri) (drops uri rest) parts.0 left

none_kept : (uri : List ℕ) (test : RowChange → Bool) (changes : List RowChange) → drops uri changes ≡ false
    → drops uri (filter test changes) ≡ false
none_kept uri test [] none = refl
none_kept uri test (change ∷ changes) none = of (test change) (none_kept uri test changes (behind_first uri change changes none))
  where
    rest : List RowChange
    rest = filter test changes

    of : (b : Bool) → drops uri rest ≡ false → drops uri (cond b (change ∷ rest) rest) ≡ false
    of true left = in_front uri change changes rest none left
    of false left = left

none_told : (uri : List ℕ) (rows : List Row) (changes : List RowChange) → drops uri changes ≡ false
    → drops uri (telling rows changes) ≡ false
none_told uri rows [] none = refl
none_told uri rows (change ∷ changes) none =
    of (changes_a_row (effect_of rows change)) (none_told uri (after_change rows change) changes (behind_first uri change changes none))
  where
    rest : List RowChange
    rest = telling (after_change rows change) changes

    of : (b : Bool) → drops uri rest ≡ false → drops uri (cond b (change ∷ rest) rest) ≡ false
    of true left = in_front uri change changes rest none left
    of false left = left

other_text : (a b : List ℕ) → bytes_eq a b ≡ false → bytes_eq b a ≡ false
other_text a b other = false_from_ne_true (bytes_eq b a) (λ same.
    let turned : bytes_eq a b ≡ true = (bytes_eq-Decides a b).1 (sym ((bytes_eq-Decides b a).0 same)) in absurd (cc (turned, other)))

none_spared : (m : MachineState) (entry : Entry) (changes : List RowChange) → hears_in m.saved.profile m.player.state ≡ true
    → current_entry m.saved.queue.entries m.player.current ≡ Some entry → drops entry.uri (spared m changes) ≡ false
none_spared m entry [] heard is = refl
none_spared m entry (Put row ∷ changes) heard is = none_spared m entry changes heard is
none_spared m entry (Drop uri ∷ changes) heard is =
    ap (λ (b : Bool). drops entry.uri (cond (not b) (Drop uri ∷ rest) rest)) own
    ∙ of (bytes_eq entry.uri uri) refl (none_spared m entry changes heard is)
  where
    rest : List RowChange
    rest = spared m changes

    own : hears uri m ≡ bytes_eq entry.uri uri
    own = λ i. heard i && is_entry_of uri (is i)

    of : (b : Bool) → bytes_eq entry.uri uri ≡ b → drops entry.uri rest ≡ false
        → drops entry.uri (cond (not b) (Drop uri ∷ rest) rest) ≡ false
    of true same left = left
    of false other left = or_from (bytes_eq uri entry.uri) (drops entry.uri rest) (other_text entry.uri uri other) left

-- ---- the player

-- it still has its song
pub record IsStill (before after : PlayerState) : Type 0 where
  pub current : after.current ≡ before.current
  pub state : after.state ≡ before.state
  pub ticket : after.ticket ≡ before.ticket

taken_by_none : (dropped : Uris) (at : ℕ) (entry : Entry) → is_among dropped entry.uri ≡ false → takes no_block dropped at entry ≡ false
taken_by_none dropped at entry none =
    let clear : takes no_block dropped at entry ≡ ((nat_le 0 at && false) || false) =
    λ i. (nat_le 0 at && le-ltb at 0 (omega arith) i) || none i in
    clear ∙ of (nat_le 0 at)
  where
    of : (b : Bool) → ((b && false) || false) ≡ false
    of true = refl
    of false = refl

current_at : (entries : List Entry) (current : Option ℕ) (place : ℕ × ℕ) → placed entries current ≡ Some place
    → current_entry entries current ≡ Some (get_or entries place.0 no_entry)
current_at entries None place is = absurd (cc)
current_at entries (Some id) place is = of (position (λ entry. entry.id == id) entries) refl is
  where
    of : (o : Option ℕ) → position (λ entry. entry.id == id) entries ≡ o → option_map (λ at. (at, id)) o ≡ Some place
        → current_entry entries (Some id) ≡ Some (get_or entries place.0 no_entry)
    of None at is = absurd (cc)
    of (Some n) at is =
        let e : (n, id) ≡ place = cc in
        find-position (λ entry. entry.id == id) entries n no_entry at ∙ ap (λ (p : ℕ × ℕ). Some (get_or entries p.0 no_entry)) e

stays_with : (entries : List Entry) (settings : PlaySettings) (dropped : Uris) (player : PlayerState)
    → ((entry : Entry) → current_entry entries player.current ≡ Some entry → is_among dropped entry.uri ≡ false)
    → when_entries_leave entries settings no_block dropped player ≡ unchanged (left_out no_block dropped entries player)
stays_with entries settings dropped player spares = of (placed entries player.current) refl
  where
    of : (o : Option (ℕ × ℕ)) → placed entries player.current ≡ o
        → followed_at entries settings no_block dropped player o ≡ unchanged (left_out no_block dropped entries player)
    of None is = refl
    of (Some place) is =
        let at = placed_at entries player.current place is in
        let entry = get_or entries place.0 no_entry in
        let stays : takes_at no_block dropped entries place.0 ≡ false =
        ap (λ found. option_map_or (takes no_block dropped place.0) found false) at.stands
        ∙ taken_by_none dropped place.0 entry (spares entry (current_at entries player.current place is)) in
        ap (λ (b : Bool). cond b (gone player.state entries settings no_block dropped player place)
        (unchanged (left_out no_block dropped entries player))) stays

still_cut : (row : Option Row) (before player : PlayerState) → IsStill before player → IsStill before (cut_to row player)
still_cut None before player still = still
still_cut (Some row) before player still = record { current = still.current; state = still.state; ticket = still.ticket }

batch_still : (changes : List RowChange) (m : MachineState)
    → ((entry : Entry) → current_entry m.saved.queue.entries m.player.current ≡ Some entry → drops entry.uri changes ≡ false)
    → let next = followed (Batch changes) m in IsStill m.player next.player
batch_still changes m spares =
    let step = step_as_they_leave no_block (drops_of changes) m in
    still_cut (current_row (after (Batch changes) m.saved) step.player) m.player step.player
    (subst (λ (s : Step). IsStill m.player s.player)
    (sym (stays_with m.saved.queue.entries (settings_of m.saved) (drops_of changes) m.player spares))
    (record { current = refl; state = refl; ticket = refl }))

-- a batch is found while a song is heard
pub heard_still : (job : ℕ) (changes : List RowChange) (m : MachineState) → hears_in m.saved.profile m.player.state ≡ true
    → let h = when_found job changes m in IsStill m.player h.after.player
heard_still job changes m heard = of (is_running job m)
  where
    told : List RowChange
    told = telling m.saved.songs (kept_changes m.saved.profile (spared m changes))

    spares : (entry : Entry) → current_entry m.saved.queue.entries m.player.current ≡ Some entry → drops entry.uri told ≡ false
    spares entry is =
        none_told entry.uri m.saved.songs (kept_changes m.saved.profile (spared m changes))
        (none_kept entry.uri (is_kept_change m.saved.profile) (spared m changes) (none_spared m entry changes heard is))

    same : IsStill m.player m.player
    same = record { current = refl; state = refl; ticket = refl }

    rows : (all : List RowChange)
        → ((entry : Entry) → current_entry m.saved.queue.entries m.player.current ≡ Some entry → drops entry.uri all ≡ false)
        → let h = finds all m in IsStill m.player h.after.player
    rows [] none = same
    rows (change ∷ all) none = batch_still (change ∷ all) m none

    in_room : (b : Bool) → let h = cond b (nothing_happens m) (finds told m) in IsStill m.player h.after.player
    in_room true = same
    in_room false = rows told spares

    of : (b : Bool) → let h = cond b (if_room m (finds told m)) (nothing_happens m) in IsStill m.player h.after.player
    of true = in_room (lacks_room m)
    of false = same

-- where none is heard, nothing is spared
pub all_spared : (changes : List RowChange) (m : MachineState) → hears_in m.saved.profile m.player.state ≡ false
    → spared m changes ≡ changes
all_spared [] m none = refl
all_spared (Put row ∷ changes) m none = ap (λ l. Put row ∷ l) (all_spared changes m none)
all_spared (Drop uri ∷ changes) m none =
    (λ i. cond (not (none i && is_entry_of uri (current_entry m.saved.queue.entries m.player.current)))
    (Drop uri ∷ all_spared changes m none i) (all_spared changes m none i))
