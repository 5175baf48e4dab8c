-- The songs of a saved state stay so through a batch, and so do the queue and the stickers beside them.
use Rattle.std.proofs.Common.{◌≡◌, ℕ, ◌+◌, ◌==◌, ◌&&◌, map, Bool, true, false, cond, not, ◌||◌, List, [], ◌∷◌, ◌++◌, filter, Some, None}
use Rattle.std.proofs.Common.{is_some, IsTrue, refl, arith}
use Rattle.std.specs.declared.cmp.Ordering.{Ordering}
use Rattle.std.specs.declared.cmp.Ordering.TheVariants.{Less, Equal, Greater}
use Rattle.std.specs.Ordering.{match_ordering}
use Rattle.std.specs.List.{All, AllByRecursion}
use Rattle.std.specs.Str.{bytes_eq}
use Rattle.std.proofs.lemmas.Slice.Eq.{bytes_eq-Decides}
use Rattle.std.proofs.lemmas.List.Elements.{All-cons, All-head, All-tail, All-append, All-map, All-weaker}
use Rattle.play_queue.specs.declared.entry.Entry.{Entry}
use Rattle.play_queue.specs.Entries.{Uris, is_among, kept}
use Rattle.play_queue.specs.Limits.{MAX_VERSION}
use Rattle.play_queue.specs.Queue.{QueueState, is_same, is_unchanged, with_stamp, stamped, ruled}
use Rattle.play_queue.proofs.Kept.{sound-ruled, fit-kept}
use Rattle.std.proofs.lemmas.Bool.{eqb-true}
use Rattle.state_codec.proofs.KeptQueue.{entry_stamped}
use Rattle.profile.specs.declared.profile.Profile.{Profile}
use Rattle.song_db.specs.Change.{IsDatabase, changed, has_uri, fits, after_change, after_batch, uri_of, rows_of}
use Rattle.song_db.specs.Row.{Row, row_at, is_kept_by}
use Rattle.song_db.specs.Scan.{drops_of}
use Rattle.song_db.specs.declared.change.RowChange.{RowChange}
use Rattle.song_db.specs.declared.change.RowChange.TheVariants.{Put, Drop}
use Rattle.song_db.proofs.Rising.{texts}
use Rattle.song_db.proofs.Turns.{database_after}
use Rattle.state_codec.specs.Changes.{IsSavedRow, IsChange, is_kept_change, are_kept}
use Rattle.state_codec.specs.SavedState.{AreSavedSongs, AreKeptSongs, IsSavedEntry, IsSavedSticker, IsSavedQueue}
use Rattle.state_codec.proofs.FieldLaws.{both_true}
use Rattle.state_codec.proofs.ListLaws.{all_by}
use Rattle.state_codec.proofs.BatchRows.{replaced_row, same_or_not, database_batch}
use Rattle.state_codec.specs.RowSteps.{row_left}
use Rattle.stickers.specs.Sticker.{Sticker}

-- so it is of the row that a change puts, if it does
abbrev OfPut : (Row → Type 0) → RowChange → Type 0
OfPut P (Put row) = P row
OfPut P (Drop uri) = Unit {0}

rows_changed : (P : Row → Type 0) (change : RowChange) (rows : List Row) → OfPut P change → All P rows → All P (changed change rows)
rows_changed P change [] good all = first change good
  where
    first : (c : RowChange) → OfPut P c → All P (rows_of c)
    first (Put row) good = All-cons P row [] good (λ k d within. absurd (omega arith))
    first (Drop uri) good = λ k d within. absurd (omega arith)
rows_changed P change (x ∷ xs) good all = by_order (texts (uri_of change) x.uri) (rows_changed P change xs good (All-tail P x xs all))
  where
    first : (c : RowChange) → OfPut P c → All P (rows_of c)
    first (Put row) good = All-cons P row [] good (λ k d within. absurd (omega arith))
    first (Drop uri) good = λ k d within. absurd (omega arith)

    by_order : (o : Ordering) → All P (changed change xs)
        → All P (match_ordering o (rows_of change ++ x ∷ xs) (rows_of change ++ xs) (x ∷ changed change xs))
    by_order Less rest = All-append P (rows_of change) (x ∷ xs) (first change good) all
    by_order Equal rest = All-append P (rows_of change) xs (first change good) (All-tail P x xs all)
    by_order Greater rest = All-cons P x (changed change xs) (All-head P x xs all) rest

rows_after : (P : Row → Type 0) (rows : List Row) (change : RowChange) → OfPut P change → All P rows → All P (after_change rows change)
rows_after P rows change good all = of (fits rows change)
  where
    of : (b : Bool) → All P (cond b (changed change rows) rows)
    of true = rows_changed P change rows good all
    of false = all

rows_batch : (P : Row → Type 0) (rows : List Row) (changes : List RowChange) → AllByRecursion (OfPut P) changes → All P rows
    → All P (after_batch rows changes)
rows_batch P rows [] good all = all
rows_batch P rows (change ∷ changes) good all =
    rows_batch P (after_change rows change) changes good.1 (rows_after P rows change good.0 all)

sound_put : (c : RowChange) → IsChange c → OfPut IsSavedRow c
sound_put (Put row) good = good
sound_put (Drop uri) good = tt

kept_put : (profile : Profile) (c : RowChange) → is_kept_change profile c ≡ true → OfPut (λ row. IsTrue (is_kept_by profile row)) c
kept_put profile (Put row) kept = kept
kept_put profile (Drop uri) kept = tt

all_sound : (changes : List RowChange) → AllByRecursion IsChange changes → AllByRecursion (OfPut IsSavedRow) changes
all_sound [] good = tt
all_sound (change ∷ changes) good = (sound_put change good.0, all_sound changes good.1)

all_kept : (profile : Profile) (changes : List RowChange) → are_kept profile changes ≡ true
    → AllByRecursion (OfPut (λ row. IsTrue (is_kept_by profile row))) changes
all_kept profile [] kept = tt
all_kept profile (change ∷ changes) kept =
    let b = both_true (is_kept_change profile change) (are_kept profile changes) kept in
    (kept_put profile change b.0, all_kept profile changes b.1)

pub kept_songs : (rows : List Row) (changes : List RowChange) → All IsChange changes → AreSavedSongs rows
    → AreSavedSongs (after_batch rows changes)
kept_songs rows changes good saved = record {
  database = database_batch rows changes saved.database;
  rows = rows_batch IsSavedRow rows changes (all_sound changes (all_by IsChange changes good)) saved.rows;
}

-- and the profile keeps each of their rows
pub kept_by_profile : (profile : Profile) (rows : List Row) (changes : List RowChange) → are_kept profile changes ≡ true
    → AreKeptSongs profile rows → AreKeptSongs profile (after_batch rows changes)
kept_by_profile profile rows changes kept all =
    rows_batch (λ row. IsTrue (is_kept_by profile row)) rows changes (all_kept profile changes kept) all

-- a song that no change drops keeps a row
stays : (rows : List Row) (change : RowChange) (uri : List ℕ) → IsDatabase rows → is_among (drops_of (change ∷ [])) uri ≡ false
    → has_uri rows uri ≡ true → has_uri (after_change rows change) uri ≡ true
stays rows change uri database apart there = by_fit (fits rows change)
  where
    left : (c : RowChange) → is_among (drops_of (c ∷ [])) uri ≡ false
        → is_some (cond (bytes_eq uri (uri_of c)) (row_left c) (row_at rows uri)) ≡ true
    left (Put row) apart = of (bytes_eq uri row.uri)
      where
        of : (b : Bool) → is_some (cond b (Some row) (row_at rows uri)) ≡ true
        of true = refl
        of false = there
    left (Drop key) apart = of (bytes_eq key uri) refl apart
      where
        of : (b : Bool) → bytes_eq key uri ≡ b → (b || false) ≡ false → is_some (cond (bytes_eq uri key) None (row_at rows uri)) ≡ true
        of true same apart = absurd (cc)
        of false other apart = rw (same_or_not key uri false other) there

    by_fit : (b : Bool) → has_uri (cond b (changed change rows) rows) uri ≡ true
    by_fit true = rw (replaced_row change rows uri database.rising) (left change apart)
    by_fit false = there

or_false : (a b : Bool) → (a || b) ≡ false → (a ≡ false) × (b ≡ false)
or_false true b none = absurd (cc)
or_false false b none = (refl, none)

drops_first : (change : RowChange) (changes : List RowChange) (uri : List ℕ) → is_among (drops_of (change ∷ changes)) uri ≡ false
    → (is_among (drops_of (change ∷ [])) uri ≡ false) × (is_among (drops_of changes) uri ≡ false)
drops_first (Put row) changes uri apart = (refl, apart)
drops_first (Drop key) changes uri apart =
    let parts = or_false (bytes_eq key uri) (is_among (drops_of changes) uri) apart in (rw (parts.0) refl, parts.1)

pub stays_in : (rows : List Row) (changes : List RowChange) (uri : List ℕ) → IsDatabase rows → is_among (drops_of changes) uri ≡ false
    → has_uri rows uri ≡ true → has_uri (after_batch rows changes) uri ≡ true
stays_in rows [] uri database apart there = there
stays_in rows (change ∷ changes) uri database apart there =
    let parts = drops_first change changes uri apart in
    stays_in (after_change rows change) changes uri (database_after rows change database) parts.1
    (stays rows change uri database parts.0 there)

-- the entries that a batch leaves
entries_left : (rows : List Row) (changes : List RowChange) (entries : List Entry) → IsDatabase rows → All (IsSavedEntry rows) entries
    → All (IsSavedEntry (after_batch rows changes)) (kept entries (drops_of changes))
entries_left rows changes [] database all = λ k d within. absurd (omega arith)
entries_left rows changes (entry ∷ entries) database all =
    of (is_among (drops_of changes) entry.uri) refl
    (entries_left rows changes entries database (All-tail (IsSavedEntry rows) entry entries all))
  where
    first : IsSavedEntry rows entry
    first = All-head (IsSavedEntry rows) entry entries all

    of : (b : Bool) → is_among (drops_of changes) entry.uri ≡ b
        → All (IsSavedEntry (after_batch rows changes)) (kept entries (drops_of changes))
        → All (IsSavedEntry (after_batch rows changes))
        (cond (not b) (entry ∷ kept entries (drops_of changes)) (kept entries (drops_of changes)))
    of true gone rest = rest
    of false apart rest = All-cons (IsSavedEntry (after_batch rows changes)) entry _
        (record { has_row = stays_in rows changes entry.uri database apart first.has_row; priority = first.priority }) rest

-- the stickers that a batch leaves
pub stickers_left : (rows : List Row) (changes : List RowChange) (all : List Sticker) → IsDatabase rows
    → AllByRecursion (IsSavedSticker rows) all
    → AllByRecursion (IsSavedSticker (after_batch rows changes)) (filter (λ sticker. not (is_among (drops_of changes) sticker.uri)) all)
stickers_left rows changes [] database saved = tt
stickers_left rows changes (sticker ∷ stickers) database saved =
    of (is_among (drops_of changes) sticker.uri) refl (stickers_left rows changes stickers database saved.1)
  where
    of : (b : Bool) → is_among (drops_of changes) sticker.uri ≡ b
        → AllByRecursion (IsSavedSticker (after_batch rows changes)) (filter (λ s. not (is_among (drops_of changes) s.uri)) stickers)
        → AllByRecursion (IsSavedSticker (after_batch rows changes))
        (cond (not b) (sticker ∷ filter (λ s. not (is_among (drops_of changes) s.uri)) stickers)
        (filter (λ s. not (is_among (drops_of changes) s.uri)) stickers))
    of true gone rest = rest
    of false apart rest = (
      record { has_row = stays_in rows changes sticker.uri database apart saved.0.has_row; name = saved.0.name; value = saved.0.value },
      rest,
    )

-- an entry that isn't stamped is of the same song
same_saved : (songs : List Row) (changed : Uris) (before after : Entry) → is_same changed before after ≡ true → IsSavedEntry songs after
    → IsSavedEntry songs before
same_saved songs changed before after same saved =
    let rest = and_true (before.id == after.id) _ same in
    let priority = and_true (before.priority == after.priority) _ rest.1 in
    let uri = and_true (bytes_eq before.uri after.uri) _ priority.1 in
    let is_uri : before.uri ≡ after.uri = (bytes_eq-Decides before.uri after.uri).0 uri.0 in
    let is_priority : before.priority ≡ after.priority = eqb-true before.priority after.priority priority.0 in
    record { has_row = rw is_uri saved.has_row; priority = omega (arith, saved.priority) }
  where
    and_true : (a b : Bool) → (a && b) ≡ true → (a ≡ true) × (b ≡ true)
    and_true true b both = (refl, both)
    and_true false b both = absurd (cc)

all_same : (songs : List Row) (changed : Uris) (befores afters : List Entry) → is_unchanged changed befores afters ≡ true
    → All (IsSavedEntry songs) afters → All (IsSavedEntry songs) befores
all_same songs changed [] afters same all = λ k d within. absurd (omega arith)
all_same songs changed (before ∷ befores) [] same all = absurd (cc)
all_same songs changed (before ∷ befores) (after ∷ afters) same all =
    of (λ rest. all_same songs changed befores afters rest (All-tail (IsSavedEntry songs) after afters all)) (is_same changed before after)
    refl same
  where
    of : (is_unchanged changed befores afters ≡ true → All (IsSavedEntry songs) befores) → (b : Bool) → is_same changed before after ≡ b
        → (b && is_unchanged changed befores afters) ≡ true → All (IsSavedEntry songs) (before ∷ befores)
    of more true here rest = All-cons (IsSavedEntry songs) before befores
        (same_saved songs changed before after here (All-head (IsSavedEntry songs) after afters all)) (more rest)
    of more false here rest = absurd (cc)

all_stamped_new : (songs : List Row) (changed : Uris) (stamp : ℕ) (befores afters : List Entry) → All (IsSavedEntry songs) afters
    → All (IsSavedEntry songs) (stamped changed stamp befores afters)
all_stamped_new songs changed stamp befores [] all = λ k d within. absurd (omega arith)
all_stamped_new songs changed stamp [] (after ∷ afters) all =
    All-cons (IsSavedEntry songs) _ _ (entry_stamped songs stamp after (All-head (IsSavedEntry songs) after afters all))
    (all_stamped_new songs changed stamp [] afters (All-tail (IsSavedEntry songs) after afters all))
all_stamped_new songs changed stamp (before ∷ befores) (after ∷ afters) all =
    All-cons (IsSavedEntry songs) _ _ (of (is_same changed before after) refl)
    (all_stamped_new songs changed stamp befores afters (All-tail (IsSavedEntry songs) after afters all))
  where
    first : IsSavedEntry songs after
    first = All-head (IsSavedEntry songs) after afters all

    of : (b : Bool) → is_same changed before after ≡ b → IsSavedEntry songs (cond b before (with_stamp stamp after))
    of true same = same_saved songs changed before after same first
    of false other = entry_stamped songs stamp after first

all_ruled_new : (songs : List Row) (q : QueueState) (afters : List Entry) (changed : Uris) → All (IsSavedEntry songs) afters
    → All (IsSavedEntry songs) (ruled q afters changed).entries
all_ruled_new songs q afters changed all = of (is_unchanged changed q.entries afters) refl (q.version == MAX_VERSION)
  where
    of : (same : Bool) → is_unchanged changed q.entries afters ≡ same → (last : Bool)
        → All (IsSavedEntry songs)
        (cond same q (cond last (record q { entries = map (with_stamp 1) afters; version = 1 })
        (record q { entries = stamped changed (q.version + 1) q.entries afters; version = q.version + 1 }))).entries
    of true same last = all_same songs changed q.entries afters same all
    of false other true = All-map (IsSavedEntry songs) (with_stamp 1) afters
        (All-weaker (IsSavedEntry songs) (λ entry. IsSavedEntry songs (with_stamp 1 entry)) (entry_stamped songs 1) afters all)
    of false other false = all_stamped_new songs changed (q.version + 1) q.entries afters all

-- the queue after a batch, beside the songs after it
pub kept_batch : (rows : List Row) (changes : List RowChange) (q : QueueState) (changed : Uris) → IsDatabase rows → IsSavedQueue rows q
    → IsSavedQueue (after_batch rows changes) (ruled q (kept q.entries (drops_of changes)) changed)
kept_batch rows changes q changed database saved = record {
  queue = sound-ruled q (kept q.entries (drops_of changes)) changed saved.queue (fit-kept q (drops_of changes) saved.queue);
  entries = all_ruled_new (after_batch rows changes) q (kept q.entries (drops_of changes)) changed
      (entries_left rows changes q.entries database saved.entries);
}
