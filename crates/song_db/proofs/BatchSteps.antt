-- What one step does to a batch of a scan.
use Rattle.std.proofs.Common.{◌≡◌, ℕ, Bool, true, false, not, ◌&&◌, ◌||◌, List, [], ◌∷◌, ◌++◌, Option, Some, Ok}
use Rattle.std.proofs.Common.{Err, filter, cond, refl, sym, ap, ◌∙◌, append-nil}
use Rattle.std.specs.Prelude.{Result}
use Rattle.std.specs.List.{list_any}
use Rattle.std.specs.Str.{bytes_eq}
use Rattle.std.proofs.lemmas.List.Elements.{All-push, All-weaker, All-same, All-nil}
use Rattle.song_files.specs.declared.folder.FolderFault.{FolderFault}
use Rattle.song_db.specs.declared.rules.LibraryRules.{LibraryRules}
use Rattle.song_db.specs.declared.change.RowChange.{RowChange}
use Rattle.song_db.specs.declared.change.RowChange.TheVariants.{Put, Drop}
use Rattle.song_db.specs.declared.scan.found.Found.{Found}
use Rattle.song_db.specs.declared.scan.found.Found.TheVariants.{Song, Kept, NoSong}
use Rattle.song_db.specs.Batch.{IsBatch, IsRead, after_listing, after_own}
use Rattle.song_db.specs.Found.{IsFoundAt, IsOf, changes_of, still_droppable, without}
use Rattle.song_db.specs.Music.{Music, song_at}
use Rattle.song_db.specs.Place.{is_below}
use Rattle.song_db.specs.Row.{Row}
use Rattle.song_db.proofs.Folders.{filter_all}
use Rattle.song_db.specs.Scan.{is_sought, puts_of, drops_of, is_among, ArePartOf, AreSongs}

pub puts-append : (xs ys : List RowChange) → puts_of (xs ++ ys) ≡ puts_of xs ++ puts_of ys
puts-append [] ys = refl
puts-append (Put row ∷ xs) ys = ap (λ l. row ∷ l) (puts-append xs ys)
puts-append (Drop uri ∷ xs) ys = puts-append xs ys

pub drops-append : (xs ys : List RowChange) → drops_of (xs ++ ys) ≡ drops_of xs ++ drops_of ys
drops-append [] ys = refl
drops-append (Put row ∷ xs) ys = drops-append xs ys
drops-append (Drop uri ∷ xs) ys = ap (λ l. uri ∷ l) (drops-append xs ys)

filter_twice : (p q : List ℕ → Bool) (uris : List (List ℕ)) → filter p (filter q uris) ≡ filter (λ uri. q uri && p uri) uris
filter_twice p q [] = refl
filter_twice p q (uri ∷ uris) = by_cases (q uri) (p uri) refl (filter_twice p q uris)
  where
    by_cases : (a b : Bool) → p uri ≡ b → filter p (filter q uris) ≡ filter (λ u. q u && p u) uris
        → filter p (cond a (uri ∷ filter q uris) (filter q uris)) ≡ cond (a && p uri) (uri ∷ filter (λ u. q u && p u) uris) (filter
        (λ u. q u && p u) uris)
    by_cases true true told rest = rw told (ap (λ l. uri ∷ l) rest)
    by_cases true false told rest = rw told rest
    by_cases false b told rest = rest

pub part_of_part : (test : List ℕ → Bool) (part uris : List (List ℕ)) → ArePartOf part uris → ArePartOf (filter test part) uris
part_of_part test part uris left = (λ uri. left.0 uri && test uri, ap (filter test) left.1 ∙ filter_twice test left.0 uris)

-- what isn't among some isn't among a part of them
not_among_part : (test : List ℕ → Bool) (uri : List ℕ) (uris : List (List ℕ)) → is_among uris uri ≡ false
    → is_among (filter test uris) uri ≡ false
not_among_part test uri [] none = refl
not_among_part test uri (u ∷ uris) none = by_cases (bytes_eq uri u) refl (test u) none (not_among_part test uri uris)
  where
    by_cases : (a : Bool) → bytes_eq uri u ≡ a → (b : Bool) → (a || is_among uris uri) ≡ false → (is_among uris uri ≡ false
        → is_among (filter test uris) uri ≡ false) → list_any (bytes_eq uri) (cond b (u ∷ filter test uris) (filter test uris)) ≡ false
    by_cases true told b rest after = absurd (cc)
    by_cases false told true rest after = rw told (after rest)
    by_cases false told false rest after = after rest

not_among_others : (uri : List ℕ) (uris : List (List ℕ)) → is_among (without uri uris) uri ≡ false
not_among_others uri [] = refl
not_among_others uri (u ∷ uris) = by_cases (bytes_eq uri u) refl (not_among_others uri uris)
  where
    by_cases : (a : Bool) → bytes_eq uri u ≡ a → is_among (without uri uris) uri ≡ false
        → list_any (bytes_eq uri) (cond (not a) (u ∷ without uri uris) (without uri uris)) ≡ false
    by_cases true told after = after
    by_cases false told after = rw told after

-- some more are kept
pub batch_kept : (test : List ℕ → Bool) (rules : LibraryRules) (place : Option (List ℕ)) (start droppable : List (List ℕ)) (changes : List RowChange)
    → IsBatch rules place start droppable changes → IsBatch rules place start (filter test droppable) changes
batch_kept test rules place start droppable changes batch =
    record {
      no_drop = batch.no_drop;
      sought = batch.sought;
      left = part_of_part test droppable start batch.left;
      read_stay = All-weaker (λ (row : Row). is_among droppable row.uri ≡ false) (λ (row : Row). is_among (filter test droppable)
          row.uri ≡ false) (λ row. not_among_part test row.uri droppable) (puts_of changes) batch.read_stay;
    }

batch_put : (rules : LibraryRules) (place : Option (List ℕ)) (start droppable : List (List ℕ)) (changes : List RowChange) (row : Row)
    → IsBatch rules place start droppable changes → is_sought rules place row.uri ≡ true → is_among droppable row.uri ≡ false
    → IsBatch rules place start droppable (changes ++ Put row ∷ [])
batch_put rules place start droppable changes row batch within stays =
    record {
      no_drop = drops-append changes (Put row ∷ []) ∙ append-nil (drops_of changes) ∙ batch.no_drop;
      sought = All-same (λ (r : Row). is_sought rules place r.uri ≡ true) _ _ (puts-append changes (Put row ∷ [])) (All-push (λ (r :
          Row). is_sought rules place r.uri ≡ true) (puts_of changes) row batch.sought within);
      left = batch.left;
      read_stay = All-same (λ (r : Row). is_among droppable r.uri ≡ false) _ _ (puts-append changes (Put row ∷ [])) (All-push (λ (r
          : Row). is_among droppable r.uri ≡ false) (puts_of changes) row batch.read_stay stays);
    }

pub batch_settled : (rules : LibraryRules) (place : Option (List ℕ)) (start droppable : List (List ℕ)) (changes : List RowChange) (uri : List ℕ) (found :
    Found) → IsBatch rules place start droppable changes → is_sought rules place uri ≡ true → IsOf uri found
    → IsBatch rules place start (still_droppable found droppable) (changes ++ changes_of found)
batch_settled rules place start droppable changes uri (Song row) batch within of =
    batch_put rules place start (without row.uri droppable) changes row (batch_kept (λ known. not (bytes_eq row.uri known)) rules place start
    droppable changes batch) (ap (is_sought rules place) of ∙ within) (not_among_others row.uri droppable)
batch_settled rules place start droppable changes uri (Kept kept) batch within of =
    rw (append-nil changes) (batch_kept (λ known. not (bytes_eq kept known)) rules place start droppable changes batch)
batch_settled rules place start droppable changes uri NoSong batch within of = rw (append-nil changes) batch

pub songs_settled : (music : Music) (uri : List ℕ) (changes : List RowChange) (found : Found) → IsOf uri found
    → IsFoundAt music uri found → AreSongs music changes → AreSongs music (changes ++ changes_of found)
songs_settled music uri changes NoSong of told before = rw (append-nil changes) before
songs_settled music uri changes (Kept kept) of told before = rw (append-nil changes) before
songs_settled music uri changes (Song row) of told before =
    All-same (λ (r : Row). song_at music r.uri ≡ Some r) _ _ (puts-append changes (Put row ∷ [])) (All-push (λ (r : Row). song_at
    music r.uri ≡ Some r) (puts_of changes) row before (ap (song_at music) of ∙ told.0.0))

pub batch_listed : {A : Type 0} (rules : LibraryRules) (place : Option (List ℕ)) (start droppable : List (List ℕ)) (changes : List RowChange) (folder :
    List ℕ) (listing : Result A FolderFault) → IsBatch rules place start droppable changes
    → IsBatch rules place start (after_listing folder listing droppable) changes
batch_listed rules place start droppable changes folder (Ok entries) batch = batch
batch_listed rules place start droppable changes folder (Err fault) batch = batch_kept (λ known. not (is_below folder known)) rules place
    start droppable changes batch

filter_none : (uris : List (List ℕ)) → filter (λ _. false) uris ≡ []
filter_none [] = refl
filter_none (uri ∷ uris) = filter_none uris

pub batch_all_kept : (rules : LibraryRules) (place : Option (List ℕ)) (start droppable : List (List ℕ)) (changes : List RowChange)
    → IsBatch rules place start droppable changes → IsBatch rules place start [] changes
batch_all_kept rules place start droppable changes batch = rw (filter_none droppable) at (batch_kept (λ _. false) rules place start droppable
    changes batch)

pub batch_own : {A : Type 0} (rules : LibraryRules) (place : Option (List ℕ)) (start droppable : List (List ℕ)) (changes : List RowChange) (listing :
    Result A FolderFault) → IsBatch rules place start droppable changes → IsBatch rules place start (after_own listing droppable) changes
batch_own rules place start droppable changes (Ok entries) batch = batch
batch_own rules place start droppable changes (Err fault) batch = batch_all_kept rules place start droppable changes batch

-- a batch before its first step
pub batch_none : (rules : LibraryRules) (place : Option (List ℕ)) (start : List (List ℕ)) (changes : List RowChange) → changes ≡ []
    → IsBatch rules place start start changes
batch_none rules place start changes none =
    rw none
    (record {
      no_drop = refl;
      sought = All-nil (λ (row : Row). is_sought rules place row.uri ≡ true);
      left = (λ _. true, sym (filter_all start));
      read_stay = All-nil (λ (row : Row). is_among start row.uri ≡ false);
    })

-- a batch that was filled up with drops
pub batch_read : (rules : LibraryRules) (place : Option (List ℕ)) (start droppable after : List (List ℕ)) (changes whole : List RowChange)
    → IsBatch rules place start droppable changes → drops_of whole ++ after ≡ drops_of changes ++ droppable
    → puts_of whole ≡ puts_of changes → IsRead rules place start after whole
batch_read rules place start droppable after changes whole batch drops puts =
    let rest : drops_of whole ++ after ≡ droppable = drops ∙ ap (λ l. l ++ droppable) batch.no_drop in
    record {
      sought = All-same (λ (row : Row). is_sought rules place row.uri ≡ true) _ _ puts batch.sought;
      drops = (batch.left.0, rest ∙ batch.left.1);
      read_stay = rw rest (All-same (λ (row : Row). is_among droppable row.uri ≡ false) _ _ puts batch.read_stay);
    }
