-- A whole batch that was read from an honest folder.
use Rattle.std.proofs.Common.{◌≡◌, ℕ, ◌<◌, Bool, true, false, ◌||◌, List, [], ◌∷◌, ◌++◌, Option, Some, refl, sym, ap, ◌∙◌, arith}
use Rattle.std.specs.List.{All}
use Rattle.std.specs.Str.{bytes_eq}
use Rattle.std.proofs.lemmas.List.Elements.{All-cons, All-nil, All-same}
use Rattle.std.proofs.lemmas.List.Folds.{list_any-append}
use Rattle.song_db.specs.declared.change.RowChange.{RowChange}
use Rattle.song_db.specs.Batch.{IsHonestBatch, IsWholeBatch}
use Rattle.song_db.specs.Music.{Music, song_at}
use Rattle.song_db.specs.Pending.{Pending, times_pending}
use Rattle.song_db.specs.Row.{Row}
use Rattle.song_db.specs.Scan.{puts_of, drops_of, is_among, is_put, is_there, AreSongs, IsHonestRead, IsWholeRead}
use Rattle.song_db.proofs.Counts.{bytes_self}

pub honest_none : (music : Music) (place : Option (List ℕ)) (start : List Pending) (known : List (List ℕ)) (changes : List RowChange)
    → changes ≡ []
    → IsHonestBatch music place start known start known changes
honest_none music place start known changes none =
    rw none (record {
      read = λ uri. omega arith;
      puts = All-nil (λ (row : Row). is_put music place row.uri ≡ true);
      careful =
          λ careful. careful;
    })

pub whole_none : (music : Music) (place : Option (List ℕ)) (start : List Pending) (known : List (List ℕ)) (changes : List RowChange)
    → changes ≡ []
    → IsWholeBatch music place start known start known changes
whole_none music place start known changes none =
    rw none (record { read = λ uri song. omega arith; gone = λ uri none among. among })

pub no_songs : (music : Music) (changes : List RowChange) → changes ≡ [] → AreSongs music changes
no_songs music changes none = rw none (All-nil (λ (row : Row). song_at music row.uri ≡ Some row))

or_left : (a b : Bool) → a ≡ true → (a || b) ≡ true
or_left true b h = refl
or_left false b h = absurd (cc)

or_right : (a b : Bool) → b ≡ true → (a || b) ≡ true
or_right true b h = refl
or_right false b h = h

among_left : (xs ys : List (List ℕ)) (uri : List ℕ) → is_among xs uri ≡ true → is_among (xs ++ ys) uri ≡ true
among_left xs ys uri h = list_any-append (bytes_eq uri) xs ys ∙ or_left (is_among xs uri) (is_among ys uri) h

among_right : (xs ys : List (List ℕ)) (uri : List ℕ) → is_among ys uri ≡ true → is_among (xs ++ ys) uri ≡ true
among_right xs ys uri h = list_any-append (bytes_eq uri) xs ys ∙ or_right (is_among xs uri) (is_among ys uri) h

all_of : (test : List ℕ → Bool) (xs : List (List ℕ)) → ((uri : List ℕ) → is_among xs uri ≡ true → test uri ≡ false)
    → All (λ uri. test uri ≡ false) xs
all_of test [] told = All-nil (λ uri. test uri ≡ false)
all_of test (x ∷ xs) told =
    All-cons (λ uri. test uri ≡ false) x xs (told x (or_left (bytes_eq x x) (is_among xs x) (bytes_self x)))
    (all_of test xs (λ uri among. told uri (or_right (bytes_eq uri x) (is_among xs uri) among)))

-- what was to be dropped is dropped now or later
parted : (changes whole : List RowChange) (droppable left : List (List ℕ)) → drops_of changes ≡ []
    → drops_of whole ++ left ≡ drops_of changes ++ droppable
    → drops_of whole ++ left ≡ droppable
parted changes whole droppable left none drops = drops ∙ ap (λ l. l ++ droppable) none

pub honest_end : (music : Music) (place : Option (List ℕ)) (start pending : List Pending) (known droppable left : List (List ℕ))
    (changes whole : List RowChange)
    → IsHonestBatch music place start known pending droppable changes → drops_of changes ≡ []
    → drops_of whole ++ left ≡ drops_of changes ++ droppable
    → puts_of whole ≡ puts_of changes → AreSongs music changes → pending ≡ [] → IsHonestRead music place start pending known left whole
honest_end music place start pending known droppable left changes whole batch none drops puts songs end =
    let parts : drops_of whole ++ left ≡ droppable = parted changes whole droppable left none drops in
    record {
      read = λ uri. rw puts (batch.read uri);
      puts = All-same (λ (row : Row). is_put music place row.uri ≡ true) _ _ puts batch.puts;
      songs = All-same (λ (row : Row). song_at music row.uri ≡ Some row) _ _ puts songs;
      drops = λ careful. all_of (is_there music place) (drops_of whole) (λ uri among. no_song uri (is_there music place uri) refl
          (λ song. batch.careful careful uri song (ap (λ l. is_among l uri) (sym parts) ∙ among_left (drops_of whole) left uri among)));
      careful = λ careful uri song among. batch.careful careful uri song (ap (λ l. is_among l uri) (sym parts)
          ∙ among_right (drops_of whole) left uri among);
    }
  where
    no_song : (uri : List ℕ) (b : Bool) → is_there music place uri ≡ b → (is_there music place uri ≡ true → 0 < times_pending pending uri)
        → b ≡ false
    no_song uri true song some = absurd (let n = ap (λ ps. times_pending ps uri) end in omega (arith, some song, n))
    no_song uri false song some = refl

pub honest_full : (music : Music) (place : Option (List ℕ)) (start pending : List Pending) (known droppable : List (List ℕ))
    (changes : List RowChange)
    → IsHonestBatch music place start known pending droppable changes → drops_of changes ≡ [] → AreSongs music changes
    → IsHonestRead music place start pending known droppable changes
honest_full music place start pending known droppable changes batch none songs =
    record {
      read = batch.read;
      puts = batch.puts;
      songs = songs;
      drops = λ careful. All-same (λ uri. is_there music place uri ≡ false) _ _ none
          (All-nil (λ uri. is_there music place uri ≡ false));
      careful = batch.careful;
    }

pub whole_end : (music : Music) (place : Option (List ℕ)) (start pending : List Pending) (known droppable left : List (List ℕ))
    (changes whole : List RowChange)
    → IsWholeBatch music place start known pending droppable changes → drops_of changes ≡ []
    → drops_of whole ++ left ≡ drops_of changes ++ droppable
    → puts_of whole ≡ puts_of changes → IsWholeRead music place start pending known left whole
whole_end music place start pending known droppable left changes whole batch none drops puts =
    record {
      read = λ uri song. rw puts (batch.read uri song);
      gone = λ uri absent among. ap (λ l. is_among l uri) (parted changes whole droppable left none drops) ∙ batch.gone uri absent among;
    }
