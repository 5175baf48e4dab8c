-- A batch of a scan while it is read.
use Rattle.std.specs.Prelude.{◌≡◌, ℕ, ◌+◌, ◌≤◌, true, false, List, [], ◌++◌, Option, Some, None, Result, Ok, Err}
use Rattle.std.specs.List.{All}
use Rattle.song_files.specs.declared.folder.FolderFault.{FolderFault}
use Rattle.song_db.specs.declared.rules.LibraryRules.{LibraryRules}
use Rattle.song_db.specs.declared.change.RowChange.{RowChange}
use Rattle.song_db.specs.declared.scan.visit.Visit.{Visit}
use Rattle.song_db.specs.declared.scan.visit.Visit.TheVariants.{Nothing}
use Rattle.song_db.specs.Found.{visit_of, without_below}
use Rattle.song_db.specs.Music.{Music}
use Rattle.song_db.specs.Pending.{Pending, times_pending}
use Rattle.song_db.specs.Scan.{is_put, is_there, times_put, IsCareful, is_sought, puts_of, drops_of, is_among, ArePartOf}

-- the changes so far, and what may still be dropped of what might be at the start
pub record IsBatch (rules : LibraryRules) (place : Option (List ℕ)) (start droppable : List (List ℕ)) (changes : List RowChange) : Type 0 where
  pub no_drop : drops_of changes ≡ []
  pub sought : All (λ row. is_sought rules place row.uri ≡ true) (puts_of changes)
  pub left : ArePartOf droppable start
  pub read_stay : All (λ row. is_among droppable row.uri ≡ false) (puts_of changes)

-- what a whole batch does
pub record IsRead (rules : LibraryRules) (place : Option (List ℕ)) (before after : List (List ℕ)) (changes : List RowChange) : Type 0 where
  pub sought : All (λ row. is_sought rules place row.uri ≡ true) (puts_of changes)
  pub drops : ArePartOf (drops_of changes ++ after) before
  pub read_stay : All (λ row. is_among (drops_of changes ++ after) row.uri ≡ false) (puts_of changes)

-- the changes so far over an honest folder, before any drop
pub record IsHonestBatch (music : Music) (place : Option (List ℕ)) (start : List Pending) (known : List (List ℕ))
    (pending : List Pending) (droppable : List (List ℕ)) (changes : List RowChange) : Type 0 where
  pub read : (uri : List ℕ) → times_put changes uri + times_pending pending uri ≤ times_pending start uri
  pub puts : All (λ row. is_put music place row.uri ≡ true) (puts_of changes)
  pub careful : IsCareful music place start known → IsCareful music place pending droppable

-- and over one that never fails
pub record IsWholeBatch (music : Music) (place : Option (List ℕ)) (start : List Pending) (known : List (List ℕ))
    (pending : List Pending) (droppable : List (List ℕ)) (changes : List RowChange) : Type 0 where
  pub read : (uri : List ℕ) → is_put music place uri ≡ true
      → times_pending start uri ≤ times_put changes uri + times_pending pending uri
  pub gone : (uri : List ℕ) → is_there music place uri ≡ false → is_among known uri ≡ true → is_among droppable uri ≡ true

-- a folder that couldn't be listed keeps what is below it
abbrev pub after_listing : {A : Type 0} → List ℕ → Result A FolderFault → List (List ℕ) → List (List ℕ)
after_listing folder (Ok entries) uris = uris
after_listing folder (Err fault) uris = without_below folder uris

-- where it is the job's own, all are kept
abbrev pub after_own : {A : Type 0} → Result A FolderFault → List (List ℕ) → List (List ℕ)
after_own (Ok entries) uris = uris
after_own (Err fault) uris = []

-- where there is no such folder, the job's own URI is a file's
abbrev pub own_visit : LibraryRules → Option (List ℕ) → Visit
own_visit rules None = Nothing
own_visit rules (Some uri) = visit_of rules uri false

-- what is done after the listing of the job's own folder
abbrev pub visit_after : {A : Type 0} → LibraryRules → Option (List ℕ) → Result (Option A) FolderFault → Visit
visit_after rules place (Ok None) = own_visit rules place
visit_after rules place (Ok (Some entries)) = Nothing
visit_after rules place (Err fault) = Nothing
