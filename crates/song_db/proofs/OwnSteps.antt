-- What the listing of the job's own folder does to a batch.
use Rattle.std.proofs.Common.{◌≡◌, ℕ, ◌+◌, ◌≤◌, Bool, true, false, List, [], ◌∷◌, ◌++◌, Option, Some, None, Ok, Err, cond, refl, sym, ap}
use Rattle.std.proofs.Common.{◌∙◌, arith}
use Rattle.std.specs.Prelude.{is_some, Result, IfOk, IfErr, IfSome, unwrap_or, if◌then◌else◌}
use Rattle.std.specs.Str.{bytes_eq}
use Rattle.std.specs.declared.vec.Vec.{Vec}
use Rattle.song_files.specs.Folder.{File, bytes_at}
use Rattle.song_files.specs.Listing.{IsListing, IsNoFile, entries_of}
use Rattle.song_files.specs.declared.folder.FolderEntry.{FolderEntry}
use Rattle.song_files.specs.declared.folder.FolderFault.{FolderFault}
use Rattle.song_db.specs.declared.rules.LibraryRules.{LibraryRules}
use Rattle.song_db.specs.declared.change.RowChange.{RowChange}
use Rattle.song_db.specs.declared.scan.visit.Visit.TheVariants.{File as FileVisit, Nothing}
use Rattle.song_db.specs.Batch.{IsHonestBatch, IsWholeBatch, after_own, visit_after}
use Rattle.song_db.specs.Found.{visited, visit_of}
use Rattle.song_db.specs.Music.{Music}
use Rattle.song_db.specs.Name.{is_song}
use Rattle.song_db.specs.Pending.{Pending, file_at, below, everything, times_pending, listed_pending, own_pending, own_prefix}
use Rattle.song_db.specs.Place.{is_below}
use Rattle.song_db.specs.Uri.{is_uri}
use Rattle.song_db.proofs.Counts.{IsSongFile, put_file, there_file, times-cons, times-append, same_bytes}
use Rattle.song_db.proofs.HonestSteps.{honest_step, whole_step}
use Rattle.song_db.proofs.ListedSteps.{at_most, at_least, root_most, root_least, not_empty}

-- the job's own URI, and what is below it
pub own_times : (uri path : List ℕ)
    → times_pending (own_pending (Some uri)) path ≡ cond (bytes_eq path uri) 1 0 + cond (is_below uri path) 1 0
own_times uri path = omega (arith, times-cons (file_at uri) (below uri ∷ []) path, times-cons (below uri) [] path)

pub root_times : (path : List ℕ) → times_pending (own_pending None) path ≡ 1
root_times path = omega (arith, times-cons everything [] path)

song_less : (rules : LibraryRules) (uri path : List ℕ) → times_pending (visited (visit_of rules uri false)) path ≤ cond (bytes_eq path uri) 1 0
song_less rules uri path = by_name (is_song rules uri)
  where
    by_name : (b : Bool) → times_pending (visited (if b then FileVisit uri else Nothing)) path ≤ cond (bytes_eq path uri) 1 0
    by_name true = omega (arith, times-cons (file_at uri) [] path)
    by_name false = omega arith

song_more : (rules : LibraryRules) (uri path : List ℕ) → is_song rules path ≡ true → cond (bytes_eq path uri) 1 0 ≤ times_pending (visited (visit_of rules uri false)) path
song_more rules uri path song = by_name (is_song rules uri) refl
  where
    none : (c : Bool) → (c ≡ true → ⊥) → cond c 1 0 ≤ 0
    none true h = absurd (h refl)
    none false h = omega arith

    other : (b : Bool) → b ≡ false → b ≡ true → ⊥
    other true h k = absurd (cc)
    other false h k = absurd (cc)

    by_name : (b : Bool) → is_song rules uri ≡ b
        → cond (bytes_eq path uri) 1 0 ≤ times_pending (visited (if b then FileVisit uri else Nothing)) path
    by_name true h = omega (arith, times-cons (file_at uri) [] path)
    by_name false h = none (bytes_eq path uri) (λ same. other (is_song rules uri) h (ap (is_song rules) (sym (same_bytes path uri same)) ∙ song))

-- a folder is no song
no_song : (rules : LibraryRules) (files : List File) (uri path : List ℕ) → bytes_at files uri ≡ None → IsSongFile rules files path
    → cond (bytes_eq path uri) 1 0 ≤ 0
no_song rules files uri path none song = by_cases (bytes_eq path uri) refl
  where
    by_cases : (b : Bool) → bytes_eq path uri ≡ b → cond b 1 0 ≤ 0
    by_cases true same =
        let absent : is_some (bytes_at files path) ≡ false = ap (λ p. is_some (bytes_at files p)) (same_bytes path uri same)
        ∙ ap (λ (o : Option (List ℕ)). is_some o) none in
        absurd (let there : is_some (bytes_at files path) ≡ true = song.there in cc)
    by_cases false h = omega arith

abbrev pub HasForm : Option (List ℕ) → Type 0
HasForm place = IfSome place (λ uri. is_uri uri ≡ true)

-- how often a path is to be read before, and after
own_less : {A : Type 0} (rules : LibraryRules) (files : List File) (place : Option (List ℕ)) (old after : List Pending)
    (listing : Result (Option (Vec FolderEntry A)) FolderFault) → HasForm place
    → IfOk listing (λ entries. IsListing files (unwrap_or place []) (entries_of entries)) → old ≡ []
    → ((uri : List ℕ) → times_pending after uri ≡ times_pending (listed_pending (own_prefix place) listing) uri + times_pending old uri)
    → (uri : List ℕ) → times_pending (visited (visit_after rules place listing) ++ after) uri ≤ times_pending (own_pending place) uri
own_less rules files None old after (Ok None) form listed none told uri =
    let n = ap (λ ps. times_pending ps uri) none in omega (arith, told uri, n)
own_less rules files None old after (Ok (Some entries)) form listed none told uri =
    let n = ap (λ ps. times_pending ps uri) none in omega (arith, told uri, n, root_times uri, root_most files uri entries.items listed)
own_less rules files None old after (Err fault) form listed none told uri =
    let n = ap (λ ps. times_pending ps uri) none in omega (arith, told uri, n)
own_less rules files (Some own) old after (Ok None) form listed none told uri =
    let n = ap (λ ps. times_pending ps uri) none in
    omega (arith, told uri, n, own_times own uri, times-append (visited (visit_of rules own false)) after uri, song_less rules own uri)
own_less rules files (Some own) old after (Ok (Some entries)) form listed none told uri =
    let n = ap (λ ps. times_pending ps uri) none in omega (
      arith,
      told uri,
      n,
      own_times own uri,
      at_most files own uri entries.items listed,
    )
own_less rules files (Some own) old after (Err fault) form listed none told uri =
    let n = ap (λ ps. times_pending ps uri) none in omega (arith, told uri, n)

own_more : {A : Type 0} (rules : LibraryRules) (files : List File) (place : Option (List ℕ)) (old after : List Pending)
    (listing : Result (Option (Vec FolderEntry A)) FolderFault) → HasForm place
    → IfOk listing (λ entries. IsListing files (unwrap_or place []) (entries_of entries))
    → IfOk listing (IsNoFile files (unwrap_or place []))
    → IfErr listing (λ fault. ⊥) → old ≡ []
    → ((uri : List ℕ) → times_pending after uri ≡ times_pending (listed_pending (own_prefix place) listing) uri + times_pending old uri)
    → (uri : List ℕ) → IsSongFile rules files uri
    → times_pending (own_pending place) uri ≤ times_pending (visited (visit_after rules place listing) ++ after) uri
own_more rules files None old after (Ok None) form listed no_file sure none told uri song =
    omega (arith, root_times uri, root_least rules files uri [] listed song)
own_more rules files None old after (Ok (Some entries)) form listed no_file sure none told uri song =
    omega (arith, told uri, root_times uri, root_least rules files uri entries.items listed song)
own_more rules files (Some own) old after (Ok None) form listed no_file sure none told uri song =
    omega (
      arith,
      told uri,
      own_times own uri,
      times-append (visited (visit_of rules own false)) after uri,
      song_more rules own uri song.name,
      at_least rules files own uri [] listed (not_empty own form) song,
    )
own_more rules files (Some own) old after (Ok (Some entries)) form listed no_file sure none told uri song =
    omega (
      arith,
      told uri,
      own_times own uri,
      no_song rules files own uri (no_file (not_empty own form)) song,
      at_least rules files own uri entries.items listed (not_empty own form) song,
    )
own_more rules files place old after (Err fault) form listed no_file sure none told uri song = absurd sure

no : {P : Type 0} → false ≡ true → P
no h = absurd (cc)

pub honest_own : {A : Type 0} (music : Music) (place : Option (List ℕ)) (start : List Pending) (known : List (List ℕ))
    (old after : List Pending) (d : List (List ℕ)) (changes : List RowChange) (listing : Result (Option (Vec FolderEntry A)) FolderFault)
    → HasForm place → IfOk listing (λ entries. IsListing music.files (unwrap_or place []) (entries_of entries))
    → IfOk listing (IsNoFile music.files (unwrap_or place [])) → old ≡ []
    → ((uri : List ℕ) → times_pending after uri ≡ times_pending (listed_pending (own_prefix place) listing) uri + times_pending old uri)
    → IsHonestBatch music place start known (own_pending place) d changes
    → IsHonestBatch music place start known (visited (visit_after music.rules place listing) ++ after) (after_own listing d) changes
honest_own music place start known old after d changes (Ok entries) form listed no_file none told =
    honest_step music place start known (own_pending place) (visited (visit_after music.rules place (Ok entries)) ++ after) d d changes
    (own_less music.rules music.files place old after (Ok entries) form listed none told)
    (λ uri song among. (
      among,
      own_more music.rules music.files place old after (Ok entries) form listed no_file tt none told uri
          (there_file music place uri song),
    ))
honest_own {A} music place start known old after d changes (Err fault) form listed no_file none told =
    honest_step music place start known (own_pending place) (visited (visit_after {A = A} music.rules place (Err fault)) ++ after) d [] changes
    (own_less {A = A} music.rules music.files place old after (Err fault) form listed none told)
    (λ uri song among. no among)

pub whole_own : {A : Type 0} (music : Music) (place : Option (List ℕ)) (start : List Pending) (known : List (List ℕ))
    (old after : List Pending) (d : List (List ℕ)) (changes : List RowChange) (listing : Result (Option (Vec FolderEntry A)) FolderFault)
    → HasForm place → IfOk listing (λ entries. IsListing music.files (unwrap_or place []) (entries_of entries))
    → IfOk listing (IsNoFile music.files (unwrap_or place [])) → IfErr listing (λ fault. ⊥) → old ≡ []
    → ((uri : List ℕ) → times_pending after uri ≡ times_pending (listed_pending (own_prefix place) listing) uri + times_pending old uri)
    → IsWholeBatch music place start known (own_pending place) d changes
    → IsWholeBatch music place start known (visited (visit_after music.rules place listing) ++ after) (after_own listing d) changes
whole_own music place start known old after d changes (Ok entries) form listed no_file sure none told =
    whole_step music place start known (own_pending place) (visited (visit_after music.rules place (Ok entries)) ++ after) d d changes
    (λ uri song. own_more music.rules music.files place old after (Ok entries) form listed no_file tt none told uri
    (put_file music place uri song))
    (λ uri none among. among)
whole_own music place start known old after d changes (Err fault) form listed no_file sure none told = absurd sure

-- a steady folder's listing that wasn't refused is one
pub not_failed : {T A R : Type 0} (r : Result T R) (listing : Result A FolderFault) (x : T) (e : FolderFault) (refused : R) → r ≡ Ok x
    → IfErr listing (λ fault. fault ≡ e) → (listing ≡ Err e → r ≡ Err refused) → IfErr listing (λ fault. ⊥)
not_failed r (Ok l) x e refused is unless memory = tt
not_failed {T} {A} {R} r (Err fault) x e refused is unless memory =
    absurd (let m : ◌≡◌ {A = Result T R} (Ok x) (Err refused) = sym is ∙ memory (ap Err unless) in cc)
