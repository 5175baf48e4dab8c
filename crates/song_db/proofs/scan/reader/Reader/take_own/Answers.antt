use Rattle.std.proofs.Common.{◌≡◌, ℕ, ◌+◌, List, Option, Some, Ok, true, refl, sym, ap, ◌∙◌, rules}
use Rattle.std.specs.Prelude.{Result, IfOk}
use Rattle.std.specs.String.{string_bytes}
use Rattle.std.specs.declared.vec.Vec.{Vec}
use Rattle.song_files.specs.Folder.{File}
use Rattle.song_files.specs.Listing.{entries_of}
use Rattle.song_files.specs.declared.folder.FolderEntry.{FolderEntry}
use Rattle.song_db.specs.Pending.{AreEntriesTold, Pending, times_pending, entries_pending, listed_pending, own_prefix}
use Rattle.song_db.specs.Scan.{is_in}
use Rattle.song_db.specs.Uri.{is_uri}
use Rattle.song_db.proofs.Prefixes.{prefix_in, own_in}
use Rattle.song_db.proofs.Taken.{own_visit_in}
use Rattle.song_db.proofs.scan.reader.Reader.take_own.Goals as goal
use Rattle.song_db.proofs.scan.reader.Reader.take_own.Goals.{in-None, in-Some+in_ok-prefix-in-Some}

pub enter-requires : goal.enter-requires
enter-requires c = elim c.match-place.branch [
  | in-None w ↦ λ name. rw (w.self-is, ← c.place.ensures, w.in-None.is) refl
  | in-Some+in_ok-prefix-in-Some w ↦ rw (w.self-is, w.prefix-is) (prefix_in c.args.self.now.walk.place w.in-Some.uri.now _ (own_in
      c.args.self.now.walk.place w.in-Some.uri.now (rw w.in-Some.is at c.place.ensures)) w.in_ok-prefix-in-Some.ensures)
]

own_listed : {A E : Type 0} (place : Option (List ℕ)) (prefix : List ℕ) (entries : Vec FolderEntry A)
    (listing : Result (Option (Vec FolderEntry A)) E) (new old : List Pending) (path : List ℕ)
    → listing ≡ Ok (Some entries) → prefix ≡ own_prefix place
    → times_pending new path ≡ times_pending (entries_pending prefix entries.items) path + times_pending old path
    → times_pending new path ≡ times_pending (listed_pending (own_prefix place) listing) path + times_pending old path
own_listed place prefix entries listing new old path is own told = rw (is, ← own) told

pub returns-in_ok-enter-in-Ok-Some-clause-pending : goal.returns-in_ok-enter-in-Ok-Some-clause-pending
returns-in_ok-enter-in-Ok-Some-clause-pending c = λ path. elim c.match-place.branch [
  | in-None w ↦ own_listed c.args.self.now.walk.place _ c.in-Ok-Some.entries c.args.listing c.enter.new.self.pending
      c.args.self.now.walk.pending path (c.in-Ok-Some.is ∙ ap Ok c.in-Ok-Some.field-0-is)
      (ap string_bytes w.prefix-is ∙ w.new-prefix.ensures.bytes ∙ ap own_prefix (sym (rw w.in-None.is at (sym c.place.ensures))))
      (rw w.self-is at (c.in_ok-enter-in-Ok-Some.ensures.pending path))
  | in-Some+in_ok-prefix-in-Some w ↦ own_listed c.args.self.now.walk.place _ c.in-Ok-Some.entries c.args.listing c.enter.new.self.pending
      c.args.self.now.walk.pending path (c.in-Ok-Some.is ∙ ap Ok c.in-Ok-Some.field-0-is)
      (ap string_bytes w.prefix-is ∙ w.in_ok-prefix-in-Some.ensures ∙ ap own_prefix (sym (rw w.in-Some.is at (sym c.place.ensures))))
      (rw w.self-is at (c.in_ok-enter-in-Ok-Some.ensures.pending path))
]

pub returns-in_ok-try_clone-in-Some-place-clause-visit : goal.returns-in_ok-try_clone-in-Some-place-clause-visit
returns-in_ok-try_clone-in-Some-place-clause-visit c =
    let form : is_uri c.in_ok-try_clone-in-Some-place.field-0 ≡ true = search rules in
    let within : is_in c.args.self.now.walk.place c.in_ok-try_clone-in-Some-place.field-0 ≡ true
    = rw c.in_ok-try_clone-in-Some-place.ensures (own_in c.args.self.now.walk.place c.in-Some-place.uri.now
    (rw c.in-Some-place.is at c.place-in-Ok-None.ensures)) in
    rw (c.visit_of.ensures, c.rules.ensures) (own_visit_in c.args.self.now.walk.rules c.args.self.now.walk.place
    c.in_ok-try_clone-in-Some-place.field-0 within form)

own_entries : {A E : Type 0} (place : Option (List ℕ)) (prefix : List ℕ) (entries : Vec FolderEntry A)
    (listing : Result (Option (Vec FolderEntry A)) E) (files : List File) → listing ≡ Ok (Some entries) → prefix ≡ own_prefix place
    → IfOk listing (λ found. AreEntriesTold files (own_prefix place) (entries_of found)) → AreEntriesTold files prefix entries.items
own_entries place prefix entries listing files is own told = rw own (rw is at told)

pub returns-in_ok-enter-in-Ok-Some-clause-listed : goal.returns-in_ok-enter-in-Ok-Some-clause-listed
returns-in_ok-enter-in-Ok-Some-clause-listed c = λ files told all. elim c.match-place.branch [
  | in-None w ↦ c.in_ok-enter-in-Ok-Some.ensures.listed files
      (own_entries c.args.self.now.walk.place _ c.in-Ok-Some.entries c.args.listing files (c.in-Ok-Some.is ∙ ap Ok c.in-Ok-Some.field-0-is)
      (ap string_bytes w.prefix-is ∙ w.new-prefix.ensures.bytes ∙ ap own_prefix (sym (rw w.in-None.is at (sym c.place.ensures)))) told)
      (rw w.self-is all)
  | in-Some+in_ok-prefix-in-Some w ↦ c.in_ok-enter-in-Ok-Some.ensures.listed files
      (own_entries c.args.self.now.walk.place _ c.in-Ok-Some.entries c.args.listing files (c.in-Ok-Some.is ∙ ap Ok c.in-Ok-Some.field-0-is)
      (ap string_bytes w.prefix-is ∙ w.in_ok-prefix-in-Some.ensures ∙ ap own_prefix (sym (rw w.in-Some.is at (sym c.place.ensures)))) told)
      (rw w.self-is all)
]
