-- What one step does to a batch that is read from an honest folder.
use Rattle.std.proofs.Common.{◌≡◌, ℕ, ◌≤◌, Bool, true, false, not, ◌&&◌, ◌||◌, List, [], ◌∷◌, ◌++◌, Option, cond, refl, sym, ap}
use Rattle.std.proofs.Common.{◌∙◌, arith, append-nil}
use Rattle.std.specs.Str.{bytes_eq}
use Rattle.std.proofs.lemmas.List.Elements.{All-push, All-same}
use Rattle.song_db.specs.declared.change.RowChange.{RowChange}
use Rattle.song_db.specs.declared.change.RowChange.TheVariants.{Put}
use Rattle.song_db.specs.declared.scan.found.Found.{Found}
use Rattle.song_db.specs.declared.scan.found.Found.TheVariants.{Song, Kept, NoSong}
use Rattle.song_db.specs.declared.scan.visit.Visit.{Visit}
use Rattle.song_db.specs.Batch.{IsHonestBatch, IsWholeBatch}
use Rattle.song_db.specs.Found.{IsFoundAt, IsOf, IsSureAt, IsTaken, changes_of, still_droppable, visited, without}
use Rattle.song_db.specs.Music.{Music, is_unchanged, song_at}
use Rattle.song_db.specs.Pending.{Pending, file_at, times_pending}
use Rattle.song_db.specs.Row.{Row}
use Rattle.song_db.specs.Scan.{is_sought, puts_of, is_among, has_row, is_put, is_there}
use Rattle.song_db.specs.Uri.{is_uri}
use Rattle.song_db.proofs.BatchSteps.{puts-append}
use Rattle.song_db.proofs.Counts.{put_parts, there_parts, times-cons, times-append, put-one, same_bytes, bytes-comm, both, among_filter}

pub honest_step : (music : Music) (place : Option (List ℕ)) (start : List Pending) (known : List (List ℕ)) (before after : List Pending)
    (d e : List (List ℕ)) (changes : List RowChange)
    → ((uri : List ℕ) → times_pending after uri ≤ times_pending before uri)
    → ((uri : List ℕ) → is_there music place uri ≡ true → is_among e uri ≡ true
    → (is_among d uri ≡ true) × (times_pending before uri ≤ times_pending after uri))
    → IsHonestBatch music place start known before d changes → IsHonestBatch music place start known after e changes
honest_step music place start known before after d e changes less stays batch =
    record {
      read = λ uri. omega (arith, batch.read uri, less uri);
      puts = batch.puts;
      careful = λ first uri song among. let s = stays uri song among in omega (arith, batch.careful first uri song s.0, s.1);
    }

pub whole_step : (music : Music) (place : Option (List ℕ)) (start : List Pending) (known : List (List ℕ)) (before after : List Pending)
    (d e : List (List ℕ)) (changes : List RowChange)
    → ((uri : List ℕ) → is_put music place uri ≡ true → times_pending before uri ≤ times_pending after uri)
    → ((uri : List ℕ) → is_there music place uri ≡ false → is_among d uri ≡ true → is_among e uri ≡ true)
    → IsWholeBatch music place start known before d changes → IsWholeBatch music place start known after e changes
whole_step music place start known before after d e changes more stays batch =
    record {
      read = λ uri song. omega (arith, batch.read uri song, more uri song);
      gone = λ uri none among. stays uri none (batch.gone uri none among);
    }

-- the next visit is taken from what is still to be read
pub honest_taken : (music : Music) (place : Option (List ℕ)) (start : List Pending) (known : List (List ℕ))
    (before after : List Pending) (visit : Visit) (d : List (List ℕ)) (changes : List RowChange)
    → IsTaken music.rules before visit after → IsHonestBatch music place start known before d changes
    → IsHonestBatch music place start known (visited visit ++ after) d changes
honest_taken music place start known before after visit d changes taken =
    honest_step music place start known before (visited visit ++ after) d d changes
    (λ uri. omega (arith, taken.only uri, times-append (visited visit) after uri))
    (λ uri song among. let parts = there_parts music place uri song in (
      among,
      omega (arith, taken.whole uri parts.form parts.name, times-append (visited visit) after uri),
    ))

pub whole_taken : (music : Music) (place : Option (List ℕ)) (start : List Pending) (known : List (List ℕ)) (before after : List Pending)
    (visit : Visit) (d : List (List ℕ)) (changes : List RowChange)
    → IsTaken music.rules before visit after → IsWholeBatch music place start known before d changes
    → IsWholeBatch music place start known (visited visit ++ after) d changes
whole_taken music place start known before after visit d changes taken =
    whole_step music place start known before (visited visit ++ after) d d changes
    (λ uri song. let parts = put_parts music place uri song in omega (
      arith,
      taken.whole uri parts.form parts.name,
      times-append (visited visit) after uri,
    ))
    (λ uri none among. among)

-- what isn't the file at a path is still to be read as before
others : (path uri : List ℕ) (pending : List Pending) → bytes_eq path uri ≡ false
    → times_pending (file_at path ∷ pending) uri ≡ times_pending pending uri
others path uri pending other =
    let none : ◌≡◌ {A = ℕ} (cond (bytes_eq uri path) 1 0) 0 = rw (bytes-comm uri path, other) refl in
    omega (arith, times-cons (file_at path) pending uri, none)

fewer : (path uri : List ℕ) (pending : List Pending) → times_pending pending uri ≤ times_pending (file_at path ∷ pending) uri
fewer path uri pending = omega (arith, times-cons (file_at path) pending uri)

not_true : (b : Bool) → not b ≡ true → b ≡ false
not_true true h = absurd (cc)
not_true false h = refl

left : (path uri : List ℕ) (d : List (List ℕ)) → is_among (without path d) uri ≡ true
    → (is_among d uri ≡ true) × (bytes_eq path uri ≡ false)
left path uri d among =
    let parts = both (is_among d uri) (not (bytes_eq path uri)) (sym (among_filter (λ known. not (bytes_eq path known)) uri d) ∙ among) in
    (parts.0, not_true (bytes_eq path uri) parts.1)

-- two paths of which a test says different things
apart : (test : List ℕ → Bool) (path uri : List ℕ) (b : Bool) → test path ≡ b → test uri ≡ not b → bytes_eq path uri ≡ false
apart test path uri b own other = by_cases (bytes_eq path uri) refl
  where
    differ : (c : Bool) → c ≡ not c → ⊥
    differ true h = absurd (cc)
    differ false h = absurd (cc)

    by_cases : (a : Bool) → bytes_eq path uri ≡ a → a ≡ false
    by_cases true same = absurd (differ b (sym own ∙ ap test (same_bytes path uri same) ∙ other))
    by_cases false h = refl

-- what is put is there, and what isn't there isn't put
pub put_there : (music : Music) (place : Option (List ℕ)) (uri : List ℕ) → is_put music place uri ≡ true → is_there music place uri ≡ true
put_there music place uri put = by_cases (is_uri uri) (is_sought music.rules place uri) (has_row (song_at music uri))
    (is_unchanged music uri) put
  where
    by_cases : (a b c d : Bool) → (a && (b && (c && not d))) ≡ true → (a && (b && (c || d))) ≡ true
    by_cases false b c d put = absurd (cc)
    by_cases true false c d put = absurd (cc)
    by_cases true true false d put = absurd (cc)
    by_cases true true true d put = refl

not_there_not_put : (music : Music) (place : Option (List ℕ)) (uri : List ℕ) → is_there music place uri ≡ false
    → is_put music place uri ≡ false
not_there_not_put music place uri none = by_cases (is_put music place uri) refl
  where
    by_cases : (b : Bool) → is_put music place uri ≡ b → b ≡ false
    by_cases true put = let k : is_there music place uri ≡ true = put_there music place uri put in absurd (cc)
    by_cases false h = refl

-- what was found under a name
abbrev pub IsTold : Music → Option (List ℕ) → List ℕ → Found → Type 0
IsTold music place uri (Song row) = (row.uri ≡ uri) × (is_put music place row.uri ≡ true)
IsTold music place uri (Kept kept) = kept ≡ uri
IsTold music place uri NoSong = is_there music place uri ≡ false

-- and where nothing fails, what is kept is there, and not to be put
abbrev pub IsSure : Music → Option (List ℕ) → List ℕ → Found → Type 0
IsSure music place uri (Song row) = Unit {0}
IsSure music place uri (Kept kept) = (is_put music place uri ≡ false) × (is_there music place uri ≡ true)
IsSure music place uri NoSong = Unit {0}

honest_put : (music : Music) (place : Option (List ℕ)) (start : List Pending) (known : List (List ℕ)) (pending : List Pending)
    (d : List (List ℕ)) (changes : List RowChange) (row : Row)
    → is_put music place row.uri ≡ true → IsHonestBatch music place start known (file_at row.uri ∷ pending) d changes
    → IsHonestBatch music place start known pending (without row.uri d) (changes ++ Put row ∷ [])
honest_put music place start known pending d changes row song batch =
    record {
      read = λ uri. omega (arith, batch.read uri, put-one changes row uri, times-cons (file_at row.uri) pending uri);
      puts = All-same (λ (r : Row). is_put music place r.uri ≡ true) _ _ (puts-append changes (Put row ∷ []))
          (All-push (λ (r : Row). is_put music place r.uri ≡ true) (puts_of changes) row batch.puts song);
      careful = λ first uri told among.
          let l = left row.uri uri d among in
          omega (arith, batch.careful first uri told l.0, others row.uri uri pending l.1);
    }

whole_put : (music : Music) (place : Option (List ℕ)) (start : List Pending) (known : List (List ℕ)) (pending : List Pending)
    (d : List (List ℕ)) (changes : List RowChange) (row : Row)
    → is_put music place row.uri ≡ true → IsWholeBatch music place start known (file_at row.uri ∷ pending) d changes
    → IsWholeBatch music place start known pending (without row.uri d) (changes ++ Put row ∷ [])
whole_put music place start known pending d changes row song batch =
    record {
      read = λ uri told. omega (arith, batch.read uri told, put-one changes row uri, times-cons (file_at row.uri) pending uri);
      gone = λ uri none among.
          among_filter (λ known. not (bytes_eq row.uri known)) uri d
          ∙ rw (batch.gone uri none among, apart (is_there music place) row.uri uri true (put_there music place row.uri song) none) refl;
    }

pub honest_told : (music : Music) (place : Option (List ℕ)) (start : List Pending) (known : List (List ℕ)) (pending : List Pending)
    (d : List (List ℕ)) (changes : List RowChange) (uri : List ℕ) (found : Found)
    → IsTold music place uri found → IsHonestBatch music place start known (file_at uri ∷ pending) d changes
    → IsHonestBatch music place start known pending (still_droppable found d) (changes ++ changes_of found)
honest_told music place start known pending d changes uri (Song row) told batch =
    honest_put music place start known pending d changes row told.1 (rw told.0 batch)
honest_told music place start known pending d changes uri (Kept kept) told batch =
    rw (append-nil changes, told) (honest_step music place start known (file_at uri ∷ pending) pending d (without uri d) changes
    (λ other. fewer uri other pending)
    (λ other song among. let l = left uri other d among in (l.0, omega (arith, others uri other pending l.1))) batch)
honest_told music place start known pending d changes uri NoSong told batch =
    rw (append-nil changes) (honest_step music place start known (file_at uri ∷ pending) pending d d changes
    (λ other. fewer uri other pending)
    (λ other song among. (among, omega (arith, others uri other pending (apart (is_there music place) uri other false told song)))) batch)

pub whole_told : (music : Music) (place : Option (List ℕ)) (start : List Pending) (known : List (List ℕ)) (pending : List Pending)
    (d : List (List ℕ)) (changes : List RowChange) (uri : List ℕ) (found : Found)
    → IsTold music place uri found → IsSure music place uri found → IsWholeBatch music place start known (file_at uri ∷ pending) d changes
    → IsWholeBatch music place start known pending (still_droppable found d) (changes ++ changes_of found)
whole_told music place start known pending d changes uri (Song row) told sure batch =
    whole_put music place start known pending d changes row told.1 (rw told.0 batch)
whole_told music place start known pending d changes uri (Kept kept) told sure batch =
    rw (append-nil changes, told) (whole_step music place start known (file_at uri ∷ pending) pending d (without uri d) changes
    (λ other song. omega (arith, others uri other pending (apart (is_put music place) uri other false sure.0 song)))
    (λ other none among. among_filter (λ known. not (bytes_eq uri known)) other d
    ∙ rw (among, apart (is_there music place) uri other true sure.1 none) refl) batch)
whole_told music place start known pending d changes uri NoSong told sure batch =
    rw (append-nil changes) (whole_step music place start known (file_at uri ∷ pending) pending d d changes
    (λ other song. omega (arith, others uri other pending (apart (is_put music place) uri other false (not_there_not_put music place uri told) song))) (λ other none among. among) batch)

-- what is found at a path tells it
put_of : (music : Music) (place : Option (List ℕ)) (uri : List ℕ) → is_sought music.rules place uri ≡ true → is_uri uri ≡ true
    → has_row (song_at music uri) ≡ true → is_unchanged music uri ≡ false → is_put music place uri ≡ true
put_of music place uri sought form row changed = rw (form, sought, row, changed) refl

absent_of : (music : Music) (place : Option (List ℕ)) (uri : List ℕ) → is_sought music.rules place uri ≡ true → is_uri uri ≡ true
    → has_row (song_at music uri) ≡ false → is_unchanged music uri ≡ false → is_there music place uri ≡ false
absent_of music place uri sought form row changed = rw (form, sought, row, changed) refl

pub found_tells : (music : Music) (place : Option (List ℕ)) (uri : List ℕ) (found : Found) → is_sought music.rules place uri ≡ true
    → is_uri uri ≡ true → IsOf uri found → IsFoundAt music uri found → IsTold music place uri found
found_tells music place uri (Song row) sought form of told =
    let row_there : has_row (song_at music uri) ≡ true = ap has_row told.0.0 ∙ told.0.1 in
    (of, ap (is_put music place) of ∙ put_of music place uri sought form row_there told.1)
found_tells music place uri (Kept kept) sought form of told = of
found_tells music place uri NoSong sought form of told = absent_of music place uri sought form told.0 told.1

-- where nothing fails, what is kept hasn't changed
pub found_sure : (music : Music) (place : Option (List ℕ)) (uri : List ℕ) (found : Found) → is_sought music.rules place uri ≡ true
    → is_uri uri ≡ true → IsSureAt music uri found → IsSure music place uri found
found_sure music place uri (Song row) sought form sure = tt
found_sure music place uri (Kept kept) sought form sure = (
  not_put (is_uri uri) (is_sought music.rules place uri) (has_row (song_at music uri)) (is_unchanged music uri) sure,
  rw (form, sought) (or_true (has_row (song_at music uri)) (is_unchanged music uri) sure),
)
  where
    or_true : (c d : Bool) → d ≡ true → (c || d) ≡ true
    or_true true d is = refl
    or_true false d is = is

    not_put : (a b c d : Bool) → d ≡ true → (a && (b && (c && not d))) ≡ false
    not_put false b c d is = refl
    not_put true false c d is = refl
    not_put true true false d is = refl
    not_put true true true true is = refl
    not_put true true true false is = absurd (cc)
found_sure music place uri NoSong sought form sure = tt
