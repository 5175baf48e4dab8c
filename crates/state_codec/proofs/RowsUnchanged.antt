-- Which batches leave a state as it is.
use Rattle.std.proofs.Common.{◌≡◌, ℕ, ◌↔◌, Bool, true, false, cond, not, ◌==◌, ◌&&◌, List, [], ◌∷◌}
use Rattle.std.proofs.Common.{Option, Some, None, is_some, refl, sym, ap, ◌∙◌}
use Rattle.std.specs.List.{All, AllByRecursion, list_any}
use Rattle.std.specs.Str.{bytes_eq}
use Rattle.std.proofs.lemmas.Slice.Eq.{bytes_eq-Decides}
use Rattle.std.proofs.lemmas.List.Elements.{All-head, All-tail, All-weaker}
use Rattle.player_core.specs.Place.{PlaceState, place_left}
use Rattle.play_queue.specs.declared.entry.Entry.{Entry}
use Rattle.play_queue.specs.Entries.{Uris, is_among, kept}
use Rattle.play_queue.specs.Queue.{QueueState, is_same, is_unchanged, ruled}
use Rattle.play_queue.proofs.Ruling.{is_same-itself}
use Rattle.song_db.specs.Change.{IsDatabase, has_uri, after_change, after_batch, uri_of}
use Rattle.song_db.specs.Effect.{effect_of, effects_of, drop_effect, changes_a_row, is_left_out}
use Rattle.song_db.specs.Row.{Row, row_at}
use Rattle.song_db.specs.Same.{same_row}
use Rattle.song_db.specs.Scan.{drops_of}
use Rattle.song_db.specs.declared.change.RowChange.{RowChange}
use Rattle.song_db.specs.declared.change.RowChange.TheVariants.{Put, Drop}
use Rattle.song_db.proofs.SameRows.{same_exactly}
use Rattle.song_db.proofs.Turns.{database_after}
use Rattle.std.specs.Option.{option_map}
use Rattle.song_db.specs.Refusal.{refusal_of as batch_refusal}
use Rattle.state_codec.specs.declared.refusal.OpRefusal.TheVariants.{Songs}
use Rattle.state_codec.specs.Laws.{LeaveRows}
use Rattle.state_codec.specs.RowSteps.{row_left}
use Rattle.state_codec.specs.Changes.{are_kept}
use Rattle.state_codec.proofs.PlaceLaws.{left_stays_place, none_dropped}
use Rattle.state_codec.specs.OpsRows.{no_range, rows_refusal, changed_uris, without_songs, with_batch, after_rows, leaves_rows}
use Rattle.state_codec.specs.SavedState.{SavedState, IsSavedState, IsSavedEntry, IsSavedSticker}
use Rattle.state_codec.proofs.BatchFollowed.{changed_among}
use Rattle.state_codec.proofs.BatchRows.{AllFit, row_after}
use Rattle.state_codec.proofs.KeptOps.{map_none, cond_none, kept_none, or_false}
use Rattle.state_codec.proofs.QueueUnchanged.{ruled_unchanged, version_tells}
use Rattle.state_codec.proofs.Unchanged.{none_changed}
use Rattle.stickers.specs.Sticker.{Sticker}

-- no change changes a row at its turn
abbrev ChangeNone : List Row → List RowChange → Type 0
ChangeNone rows changes = list_any changes_a_row (effects_of rows changes) ≡ false

not_true : (b : Bool) → not b ≡ true → b ≡ false
not_true true same = absurd (cc)
not_true false same = refl

-- then the first doesn't, and the others don't either
first_none : (rows : List Row) (change : RowChange) (changes : List RowChange) → IsDatabase rows → ChangeNone rows (change ∷ changes)
    → (changes_a_row (effect_of rows change) ≡ false) × ((after_change rows change ≡ rows) × ChangeNone rows changes)
first_none rows change changes database none =
    let parts = or_false (changes_a_row (effect_of rows change)) _ none in
    let same : after_change rows change ≡ rows = none_changed rows change database parts.0 in
    (parts.0, (same, ap (λ rs. list_any changes_a_row (effects_of rs changes)) (sym same) ∙ parts.1))

rows_stay : (rows : List Row) (changes : List RowChange) → IsDatabase rows → ChangeNone rows changes → after_batch rows changes ≡ rows
rows_stay rows [] database none = refl
rows_stay rows (change ∷ changes) database none =
    let first = first_none rows change changes database none in
    ap (λ rs. after_batch rs changes) first.1.0 ∙ rows_stay rows changes database first.1.1

leaves_from : (rows : List Row) (changes : List RowChange) → IsDatabase rows → ChangeNone rows changes → LeaveRows rows changes
leaves_from rows [] database none = tt
leaves_from rows (change ∷ changes) database none =
    let parts = or_false (changes_a_row (effect_of rows change)) _ none in
    let next : IsDatabase (after_change rows change) = database_after rows change database in
    (none_changed rows change database parts.0, leaves_from (after_change rows change) changes next parts.1)

-- a change that leaves the rows changes none
not_changed : (rows : List Row) (change : RowChange) → IsDatabase rows → is_left_out (effect_of rows change) ≡ false
    → after_change rows change ≡ rows → changes_a_row (effect_of rows change) ≡ false
not_changed rows change database fit same = of change left
  where
    own : bytes_eq (uri_of change) (uri_of change) ≡ true
    own = (bytes_eq-Decides (uri_of change) (uri_of change)).1 refl

    left : row_at rows (uri_of change) ≡ row_left change
    left =
        ap (λ rs. row_at rs (uri_of change)) (sym same)
        ∙ row_after rows change (uri_of change) database fit
        ∙ ap (λ (b : Bool). cond b (row_left change) (row_at rows (uri_of change))) own

    of : (c : RowChange) → row_at rows (uri_of c) ≡ row_left c → changes_a_row (effect_of rows c) ≡ false
    of (Put row) there =
        let itself : same_row row row ≡ true = (same_exactly row row (same_row row row) refl).1 refl in
        rw (there, itself) refl
    of (Drop uri) absent = rw absent refl

leaves_to : (rows : List Row) (changes : List RowChange) → IsDatabase rows → AllFit rows changes → LeaveRows rows changes
    → ChangeNone rows changes
leaves_to rows [] database fit leave = refl
leaves_to rows (change ∷ changes) database fit leave =
    let parts = or_false (is_left_out (effect_of rows change)) _ fit in
    let first : changes_a_row (effect_of rows change) ≡ false = not_changed rows change database parts.0 leave.0 in
    rw first (leaves_to (after_change rows change) changes (database_after rows change database) parts.1 leave.1)

-- what such a batch drops has no row
gone_absent : (rows : List Row) (uri key : List ℕ) → has_uri rows uri ≡ true → changes_a_row (drop_effect (row_at rows key)) ≡ false
    → bytes_eq key uri ≡ false
gone_absent rows uri key there none = of (bytes_eq key uri) refl
  where
    by_row : (o : Option Row) → row_at rows key ≡ o → changes_a_row (drop_effect o) ≡ false → is_some o ≡ true → ⊥
    by_row None is none there = cc
    by_row (Some old) is none there = cc

    of : (b : Bool) → bytes_eq key uri ≡ b → bytes_eq key uri ≡ false
    of false other = other
    of true same =
        let key_is : key ≡ uri = (bytes_eq-Decides key uri).0 same in
        absurd (by_row (row_at rows key) refl none (ap (λ u. has_uri rows u) key_is ∙ there))

drops_absent : (rows : List Row) (changes : List RowChange) (uri : List ℕ) → IsDatabase rows → ChangeNone rows changes
    → has_uri rows uri ≡ true → is_among (drops_of changes) uri ≡ false
drops_absent rows [] uri database none there = refl
drops_absent rows (Put row ∷ changes) uri database none there =
    drops_absent rows changes uri database (first_none rows (Put row) changes database none).1.1 there
drops_absent rows (Drop key ∷ changes) uri database none there =
    let first = first_none rows (Drop key) changes database none in
    rw (gone_absent rows uri key there first.0) (drops_absent rows changes uri database first.1.1 there)

-- entries and stickers of songs that have a row, none of which is dropped
kept_all : (rows : List Row) (dropped : Uris) (entries : List Entry)
    → ((uri : List ℕ) → has_uri rows uri ≡ true → is_among dropped uri ≡ false)
    → All (IsSavedEntry rows) entries → kept entries dropped ≡ entries
kept_all rows dropped [] apart all = refl
kept_all rows dropped (entry ∷ entries) apart all =
    rw (apart entry.uri (All-head (IsSavedEntry rows) entry entries all).has_row)
    (ap (λ rest. entry ∷ rest) (kept_all rows dropped entries apart (All-tail (IsSavedEntry rows) entry entries all)))

stickers_all : (rows : List Row) (dropped : Uris) (all : List Sticker)
    → ((uri : List ℕ) → has_uri rows uri ≡ true → is_among dropped uri ≡ false)
    → AllByRecursion (IsSavedSticker rows) all → without_songs all dropped ≡ all
stickers_all rows dropped [] apart saved = refl
stickers_all rows dropped (sticker ∷ stickers) apart saved =
    rw (apart sticker.uri saved.0.has_row) (ap (λ rest. sticker ∷ rest) (stickers_all rows dropped stickers apart saved.1))

-- entries whose rows are as they were
unchanged_all : (rows : List Row) (changed : Uris) (entries : List Entry)
    → ((uri : List ℕ) → has_uri rows uri ≡ true → is_among changed uri ≡ false) → All (IsSavedEntry rows) entries
    → is_unchanged changed entries entries ≡ true
unchanged_all rows changed [] apart all = refl
unchanged_all rows changed (entry ∷ entries) apart all =
    let none : is_among changed entry.uri ≡ false = apart entry.uri (All-head (IsSavedEntry rows) entry entries all).has_row in
    let here : is_same changed entry entry ≡ true =
    ap (λ (b : Bool). entry.id == entry.id && (entry.priority == entry.priority && (bytes_eq entry.uri entry.uri && not b))) none
    ∙ is_same-itself entry in
    rw here (unchanged_all rows changed entries apart (All-tail (IsSavedEntry rows) entry entries all))

-- the place after a batch
abbrev place_behind : List RowChange → SavedState → Option PlaceState
place_behind changes s = option_map (place_left no_range (drops_of changes) s.queue.entries) s.place

pub batch_stays : (changes : List RowChange) (s : SavedState) → IsSavedState s → leaves_rows changes s ≡ true → after_rows changes s ≡ s
batch_stays changes s saved same =
    ap (λ rs. record s {
      songs = rs;
      queue = with_batch s.queue (drops_of changes) (changed_uris s.songs rs);
      stickers = without_songs s.stickers (drops_of changes);
      place = place_behind changes s;
    }) songs
    ∙ ap (λ (q : QueueState). record s {
      queue = q;
      stickers = without_songs s.stickers (drops_of changes);
      place = place_behind changes s;
    }) queue
    ∙ ap (λ (l : List Sticker). record s { stickers = l; place = place_behind changes s })
    (stickers_all s.songs (drops_of changes) s.stickers apart saved.stickers.each)
    ∙ ap (λ (p : Option PlaceState). record s { place = p }) place
  where
    none : ChangeNone s.songs changes
    none = not_true _ same

    songs : after_batch s.songs changes ≡ s.songs
    songs = rows_stay s.songs changes saved.songs.database none

    apart : (uri : List ℕ) → has_uri s.songs uri ≡ true → is_among (drops_of changes) uri ≡ false
    apart uri there = drops_absent s.songs changes uri saved.songs.database none there

    place : place_behind changes s ≡ s.place
    place =
        left_stays_place no_range (drops_of changes) s.queue.entries s.place
        (none_dropped (drops_of changes) s.queue.entries
        (All-weaker (IsSavedEntry s.songs) (λ (entry : Entry). is_among (drops_of changes) entry.uri ≡ false)
        (λ entry is. apart entry.uri is.has_row) s.queue.entries saved.queue.entries))

    same_rows : (uri : List ℕ) → has_uri s.songs uri ≡ true → is_among (changed_uris s.songs s.songs) uri ≡ false
    same_rows uri there = sym (changed_among s.songs [] uri saved.songs.database there refl)

    queue : with_batch s.queue (drops_of changes) (changed_uris s.songs s.songs) ≡ s.queue
    queue =
        ap (λ es. ruled s.queue es (changed_uris s.songs s.songs))
        (kept_all s.songs (drops_of changes) s.queue.entries apart saved.queue.entries)
        ∙ ruled_unchanged s.queue s.queue.entries (changed_uris s.songs s.songs)
        (unchanged_all s.songs (changed_uris s.songs s.songs) s.queue.entries same_rows saved.queue.entries)

pub batch_exactly : (changes : List RowChange) (s : SavedState) → IsSavedState s → rows_refusal changes s ≡ None
    → (leaves_rows changes s ≡ true) ↔ LeaveRows s.songs changes
batch_exactly changes s saved none = (
  λ same. leaves_from s.songs changes saved.songs.database (not_true _ same),
  λ leave. ap not (leaves_to s.songs changes saved.songs.database fit leave),
)
  where
    fit : AllFit s.songs changes
    fit =
        let whole : option_map Songs (batch_refusal (effects_of s.songs changes)) ≡ None = (kept_none (are_kept s.profile changes) _ none).1 in
        (cond_none _ _ _ (map_none _ _ whole)).0

pub batch_version : (changes : List RowChange) (s : SavedState)
    → ((after_rows changes s).queue.version ≡ s.queue.version) ↔ ((after_rows changes s).queue ≡ s.queue)
batch_version changes s = (
  λ same. ruled_unchanged s.queue _ _ (version_tells s.queue _ _ same),
  λ same. ap (λ (q : QueueState). q.version) same,
)
