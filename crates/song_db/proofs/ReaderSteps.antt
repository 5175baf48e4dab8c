-- Steps of the reading of a scan, one by one and one after the other.
use Rattle.std.proofs.Common.{◌≡◌, ℕ, ◌+◌, true, List, [], ◌∷◌, ◌++◌, Option, Ok, Err, ◌∙◌}
use Rattle.std.specs.Prelude.{Result, IfOk, IfErr, OnOk, unwrap_or}
use Rattle.std.specs.declared.vec.Vec.{Vec}
use Rattle.song_files.specs.Folder.{File}
use Rattle.song_files.specs.Listing.{IsListing, IsNoFile, entries_of}
use Rattle.song_files.specs.declared.folder.FolderEntry.{FolderEntry}
use Rattle.song_files.specs.declared.folder.FolderFault.{FolderFault}
use Rattle.song_db.specs.declared.change.RowChange.{RowChange}
use Rattle.song_db.specs.declared.scan.found.Found.{Found}
use Rattle.song_db.specs.declared.scan.reader.Reader.{Reader}
use Rattle.song_db.specs.declared.scan.visit.Visit.{Visit}
use Rattle.song_db.specs.Batch.{after_listing, after_own, visit_after}
use Rattle.song_db.specs.Found.{IsTaken, changes_of, still_droppable, visited}
use Rattle.song_db.specs.Pending.{Pending, file_at, below, times_pending, listed_pending, own_pending, own_prefix}
use Rattle.song_db.specs.Music.{Music}
use Rattle.song_db.specs.Reader.{IsReadOn, IsSameScan}
use Rattle.song_db.specs.SameFolder.{IsSameFolder}
use Rattle.song_db.specs.Scan.{AreSongs}
use Rattle.song_db.specs.Uri.{is_uri}
use Rattle.song_db.proofs.HonestSteps.{IsSure, IsTold, honest_taken, whole_taken, honest_told, whole_told}
use Rattle.song_db.proofs.ListedSteps.{honest_listed, whole_listed}
use Rattle.song_db.proofs.OwnSteps.{HasForm, honest_own, whole_own}

-- where an answer is Ok, what holds then gives what holds then
pub then_ok : {T E : Type 0} {P Q : Type 0} (r : Result T E) → OnOk r P → (P → Q) → OnOk r Q
then_ok (Ok x) p f = f p
then_ok (Err e) p f = tt

pub scan_then : (a b c : Reader) → IsSameScan a b → IsSameScan b c → IsSameScan a c
scan_then a b c first next = record {
  place = next.place ∙ first.place;
  rules = next.rules ∙ first.rules;
  known = next.known ∙ first.known;
  begun = next.begun ∙ first.begun;
}

pub folder_then : {F : Type 0} (honest steady : F → Type 0) (files : F → List File) (a b c : F)
    → IsSameFolder honest steady files a b → IsSameFolder honest steady files b c → IsSameFolder honest steady files a c
folder_then honest steady files a b c first next =
    record {
      honesty = λ is. next.honesty (first.honesty is);
      same_files = λ is. next.same_files (first.honesty is) ∙ first.same_files is;
      steadiness = λ is. next.steadiness (first.steadiness is);
    }

pub read_then : (music : Music) (steady calm : Type 0) (place : Option (List ℕ)) (p q r : List Pending) (d e f : List (List ℕ))
    (c b a : List RowChange)
    → (steady → calm) → IsReadOn music steady place p d c q e b → IsReadOn music calm place q e b r f a
    → IsReadOn music steady place p d c r f a
read_then music steady calm place p q r d e f c b a stays first next =
    record {
      songs = λ songs. next.songs (first.songs songs);
      honest = λ start known batch. next.honest start known (first.honest start known batch);
      whole = λ start known is batch. next.whole start known (stays is) (first.whole start known is batch);
    }

pub read_none : (music : Music) (steady : Type 0) (place : Option (List ℕ)) (pending : List Pending) (d : List (List ℕ))
    (changes : List RowChange) → IsReadOn music steady place pending d changes pending d changes
read_none music steady place pending d changes =
    record { songs = λ songs. songs; honest = λ start known batch. batch; whole = λ start known is batch. batch }

-- the next visit is taken from what is still to be read
pub read_taken : (music : Music) (steady : Type 0) (place : Option (List ℕ)) (before after : List Pending) (visit : Visit)
    (d : List (List ℕ)) (changes : List RowChange)
    → IsTaken music.rules before visit after → IsReadOn music steady place before d changes (visited visit ++ after) d changes
read_taken music steady place before after visit d changes taken =
    record {
      songs = λ songs. songs;
      honest = λ start known batch. honest_taken music place start known before after visit d changes taken batch;
      whole = λ start known is batch. whole_taken music place start known before after visit d changes taken batch;
    }

-- a name is looked at
pub read_told : (music : Music) (steady : Type 0) (place : Option (List ℕ)) (pending : List Pending) (d : List (List ℕ))
    (changes : List RowChange) (uri : List ℕ) (found : Found)
    → (AreSongs music changes → AreSongs music (changes ++ changes_of found)) → IsTold music place uri found → (steady → IsSure music place uri found)
    → IsReadOn music steady place (file_at uri ∷ pending) d changes pending (still_droppable found d) (changes ++ changes_of found)
read_told music steady place pending d changes uri found songs told known =
    record {
      songs = songs;
      honest = λ start first batch. honest_told music place start first pending d changes uri found told batch;
      whole = λ start first is batch. whole_told music place start first pending d changes uri found told (known is) batch;
    }

-- a folder is listed
pub read_listed : {A : Type 0} (music : Music) (steady : Type 0) (place : Option (List ℕ)) (pending after : List Pending)
    (d : List (List ℕ)) (changes : List RowChange) (folder : List ℕ) (listing : Result (Option (Vec FolderEntry A)) FolderFault)
    → is_uri folder ≡ true → IfOk listing (λ entries. IsListing music.files folder (entries_of entries)) → (steady → IfErr listing (λ fault. ⊥))
    → ((uri : List ℕ) → times_pending after uri ≡ times_pending (listed_pending (folder ++ 47 ∷ []) listing) uri
    + times_pending pending uri)
    → IsReadOn music steady place (below folder ∷ pending) d changes after (after_listing folder listing d) changes
read_listed music steady place pending after d changes folder listing form listed sure told =
    record {
      songs = λ songs. songs;
      honest = λ start known batch. honest_listed music place start known pending after d changes folder listing form listed told batch;
      whole = λ start known is batch.
          whole_listed music place start known pending after d changes folder listing form (sure is) listed told batch;
    }

-- the job's own folder is listed
pub read_own : {A : Type 0} (music : Music) (steady : Type 0) (place : Option (List ℕ)) (old after : List Pending)
    (d : List (List ℕ)) (changes : List RowChange) (listing : Result (Option (Vec FolderEntry A)) FolderFault)
    → HasForm place → IfOk listing (λ entries. IsListing music.files (unwrap_or place []) (entries_of entries))
    → IfOk listing (IsNoFile music.files (unwrap_or place [])) → (steady → IfErr listing (λ fault. ⊥)) → old ≡ []
    → ((uri : List ℕ) → times_pending after uri ≡ times_pending (listed_pending (own_prefix place) listing) uri + times_pending old uri)
    → IsReadOn music steady place (own_pending place) d changes (visited (visit_after music.rules place listing) ++ after) (after_own listing d) changes
read_own music steady place old after d changes listing form listed no_file sure none told =
    record {
      songs = λ songs. songs;
      honest = λ start known batch. honest_own music place start known old after d changes listing form listed no_file none told batch;
      whole = λ start known is batch.
          whole_own music place start known old after d changes listing form listed no_file (sure is) none told batch;
    }
