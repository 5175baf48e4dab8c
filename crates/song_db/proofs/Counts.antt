-- How often a path is still to be read, and how often it is put.
use Rattle.std.proofs.Common.{◌≡◌, ℕ, ◌+◌, Bool, true, false, not, ◌&&◌, ◌||◌, List, [], ◌∷◌, ◌++◌, filter, cond, refl, sym, ap, ◌∙◌, arith}
use Rattle.std.proofs.Common.{Option, Some, None}
use Rattle.std.specs.Prelude.{is_some, option_map}
use Rattle.std.specs.Prelude.{count_by}
use Rattle.std.specs.List.{find, list_any}
use Rattle.std.specs.Str.{bytes_eq}
use Rattle.std.proofs.lemmas.List.Sums.{sum_by-cons, sum_by-append}
use Rattle.std.proofs.lemmas.Slice.Eq.{bytes_eq-Decides}
use Rattle.song_files.specs.Folder.{File, bytes_at, stamp_at}
use Rattle.song_files.specs.declared.folder.FileStamp.{FileStamp}
use Rattle.song_db.specs.declared.rules.LibraryRules.{LibraryRules}
use Rattle.song_db.specs.declared.change.RowChange.{RowChange}
use Rattle.song_db.specs.declared.change.RowChange.TheVariants.{Put}
use Rattle.song_db.specs.Music.{Music, is_stamp, is_unchanged, known_stamp, song_at}
use Rattle.song_db.specs.Name.{is_song}
use Rattle.song_db.specs.Pending.{Pending, covers, times_pending}
use Rattle.song_db.specs.Row.{Row}
use Rattle.song_db.specs.Scan.{is_in, is_sought, is_among, puts_of, times_put, has_row, is_put, is_there}
use Rattle.song_db.specs.Uri.{is_uri}
use Rattle.song_db.proofs.BatchSteps.{puts-append}

pub count-cons : {X : Type 0} (p : X → Bool) (x : X) (xs : List X) → count_by p (x ∷ xs) ≡ cond (p x) 1 0 + count_by p xs
count-cons p x xs = sum_by-cons (λ y. cond (p y) 1 0) x xs

pub count-append : {X : Type 0} (p : X → Bool) (xs ys : List X) → count_by p (xs ++ ys) ≡ count_by p xs + count_by p ys
count-append p xs ys = sum_by-append (λ y. cond (p y) 1 0) xs ys

pub times-cons : (p : Pending) (ps : List Pending) (uri : List ℕ)
    → times_pending (p ∷ ps) uri ≡ cond (covers uri p) 1 0 + times_pending ps uri
times-cons p ps uri = count-cons (covers uri) p ps

pub times-append : (ps qs : List Pending) (uri : List ℕ) → times_pending (ps ++ qs) uri ≡ times_pending ps uri + times_pending qs uri
times-append ps qs uri = count-append (covers uri) ps qs

pub put-one : (changes : List RowChange) (row : Row) (uri : List ℕ)
    → times_put (changes ++ Put row ∷ []) uri ≡ times_put changes uri + cond (bytes_eq uri row.uri) 1 0
put-one changes row uri =
    ap (count_by (λ (r : Row). bytes_eq uri r.uri)) (puts-append changes (Put row ∷ []))
    ∙ count-append (λ (r : Row). bytes_eq uri r.uri) (puts_of changes) (row ∷ [])
    ∙ ap (λ n. times_put changes uri + n) (count-cons (λ (r : Row). bytes_eq uri r.uri) row []
    ∙ plus_none (cond (bytes_eq uri row.uri) 1 0))
  where
    plus_none : (n : ℕ) → n + count_by (λ (r : Row). bytes_eq uri r.uri) [] ≡ n
    plus_none n = omega arith

pub same_bytes : (xs ys : List ℕ) → bytes_eq xs ys ≡ true → xs ≡ ys
same_bytes xs ys h = (bytes_eq-Decides xs ys).0 h

pub bytes_self : (xs : List ℕ) → bytes_eq xs xs ≡ true
bytes_self xs = (bytes_eq-Decides xs xs).1 refl

pub bytes-comm : (xs ys : List ℕ) → bytes_eq xs ys ≡ bytes_eq ys xs
bytes-comm xs ys = by_cases (bytes_eq xs ys) refl (bytes_eq ys xs) refl
  where
    by_cases : (a : Bool) → bytes_eq xs ys ≡ a → (b : Bool) → bytes_eq ys xs ≡ b → a ≡ b
    by_cases true h true k = refl
    by_cases true h false k = rw (same_bytes xs ys h, bytes_self ys) at k
    by_cases false h true k = sym (rw (same_bytes ys xs k, bytes_self xs) at h)
    by_cases false h false k = refl

pub both : (a b : Bool) → (a && b) ≡ true → (a ≡ true) × (b ≡ true)
both true b h = (refl, h)
both false b h = absurd (cc)

and_false : (b : Bool) → (b && false) ≡ false
and_false true = refl
and_false false = refl

-- what is among some that pass a test
pub among_filter : (test : List ℕ → Bool) (uri : List ℕ) (uris : List (List ℕ))
    → is_among (filter test uris) uri ≡ (is_among uris uri && test uri)
among_filter test uri [] = refl
among_filter test uri (x ∷ xs) = by_cases (bytes_eq uri x) refl (test x) refl (among_filter test uri xs)
  where
    same : bytes_eq uri x ≡ true → test uri ≡ test x
    same h = ap test (same_bytes uri x h)

    by_cases : (a : Bool) → bytes_eq uri x ≡ a → (b : Bool) → test x ≡ b → is_among (filter test xs) uri ≡ (is_among xs uri && test uri)
        → list_any (bytes_eq uri) (cond b (x ∷ filter test xs) (filter test xs)) ≡ ((a || is_among xs uri) && test uri)
    by_cases true told true passes rest = rw told (sym (same told ∙ passes))
    by_cases true told false fails rest =
        let not_it : test uri ≡ false = same told ∙ fails in
        rest ∙ ap (λ b. is_among xs uri && b) not_it ∙ and_false (is_among xs uri) ∙ sym not_it
    by_cases false told true passes rest = rw told rest
    by_cases false told false fails rest = rest

-- what it is to stand at a path that a job seeks
pub record AreParts (rules : LibraryRules) (place : Option (List ℕ)) (uri : List ℕ) (fact : Bool) : Type 0 where
  pub form : is_uri uri ≡ true
  pub sought : is_sought rules place uri ≡ true
  pub within : is_in place uri ≡ true
  pub name : is_song rules uri ≡ true
  pub told : fact ≡ true

at_parts : (rules : LibraryRules) (place : Option (List ℕ)) (uri : List ℕ) (told : Bool)
    → (is_uri uri && (is_sought rules place uri && told)) ≡ true → AreParts rules place uri told
at_parts rules place uri told song =
    let first = both (is_uri uri) (is_sought rules place uri && told) song in
    let next = both (is_sought rules place uri) told first.1 in
    let sought = both (is_in place uri) (is_song rules uri) next.0 in
    record { form = first.0; sought = next.0; within = sought.0; name = sought.1; told = next.1 }

pub put_parts : (music : Music) (place : Option (List ℕ)) (uri : List ℕ) → is_put music place uri ≡ true
    → AreParts music.rules place uri (has_row (song_at music uri) && not (is_unchanged music uri))
put_parts music place uri song = at_parts music.rules place uri (has_row (song_at music uri) && not (is_unchanged music uri)) song

pub there_parts : (music : Music) (place : Option (List ℕ)) (uri : List ℕ) → is_there music place uri ≡ true
    → AreParts music.rules place uri (has_row (song_at music uri) || is_unchanged music uri)
there_parts music place uri there = at_parts music.rules place uri (has_row (song_at music uri) || is_unchanged music uri) there

-- a file that has a song's name
pub record IsSongFile (rules : LibraryRules) (files : List File) (uri : List ℕ) : Type 0 where
  pub form : is_uri uri ≡ true
  pub name : is_song rules uri ≡ true
  pub there : is_some (bytes_at files uri) ≡ true

row_there : (music : Music) (uri : List ℕ) → has_row (song_at music uri) ≡ true → is_some (bytes_at music.files uri) ≡ true
row_there music uri row = by_cases (bytes_at music.files uri) refl row
  where
    by_cases : (found : Option (List ℕ)) → bytes_at music.files uri ≡ found → has_row (song_at music uri) ≡ true → is_some found ≡ true
    by_cases None none row = absurd (let k : has_row (song_at music uri) ≡ false = rw none refl in let l : true ≡ false = sym row ∙ k in cc)
    by_cases (Some bytes) is row = refl

stamp_there : (files : List File) (uri : List ℕ) (known : Option FileStamp) → is_stamp known (stamp_at files uri) ≡ true
    → is_some (bytes_at files uri) ≡ true
stamp_there files uri known is = by_cases (find (λ (file : File). bytes_eq file.path uri) files) known is
  where
    by_cases : (found : Option File) (known : Option FileStamp)
        → is_stamp known (option_map (λ (file : File). file.stamp) found) ≡ true → is_some (option_map (λ (file : File). file.bytes) found) ≡ true
    by_cases None None is = absurd (cc)
    by_cases None (Some stamp) is = absurd (cc)
    by_cases (Some file) known is = refl

unchanged_there : (music : Music) (uri : List ℕ) → is_unchanged music uri ≡ true → is_some (bytes_at music.files uri) ≡ true
unchanged_there music uri is = stamp_there music.files uri (known_stamp music.known uri)
    (both music.rules.keeps_stamps (is_stamp (known_stamp music.known uri) (stamp_at music.files uri)) is).1

pub put_file : (music : Music) (place : Option (List ℕ)) (uri : List ℕ) → is_put music place uri ≡ true
    → IsSongFile music.rules music.files uri
put_file music place uri put =
    let parts = put_parts music place uri put in
    record {
      form = parts.form;
      name = parts.name;
      there = row_there music uri (both (has_row (song_at music uri)) (not (is_unchanged music uri)) parts.told).0;
    }

pub there_file : (music : Music) (place : Option (List ℕ)) (uri : List ℕ) → is_there music place uri ≡ true
    → IsSongFile music.rules music.files uri
there_file music place uri there =
    let parts = there_parts music place uri there in
    record {
      form = parts.form;
      name = parts.name;
      there = by_cases (has_row (song_at music uri)) refl parts.told;
    }
  where
    by_cases : (b : Bool) → has_row (song_at music uri) ≡ b → (b || is_unchanged music uri) ≡ true
        → is_some (bytes_at music.files uri) ≡ true
    by_cases true row told = row_there music uri row
    by_cases false none told = unchanged_there music uri told
