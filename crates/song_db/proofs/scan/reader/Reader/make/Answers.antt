use Rattle.std.proofs.Common.{◌≡◌, Ok, Err, ap}
use Rattle.std.specs.Prelude.{Result, OnOk, IfErr, IsOkUnless}
use Rattle.song_files.specs.declared.folder.FolderFault.{FolderFault}
use Rattle.song_files.specs.declared.folder.FolderFault.TheVariants.{NoMemory}
use Rattle.song_db.specs.Music.{music_of}
use Rattle.song_db.specs.declared.refusal.SongDbError.{SongDbError}
use Rattle.song_db.specs.declared.refusal.SongDbError.TheVariants.{NoMemory as MemoryRefused}
use Rattle.song_db.proofs.BatchSteps.{batch_settled, songs_settled, batch_listed}
use Rattle.song_db.proofs.HonestSteps.{found_sure, found_tells}
use Rattle.song_db.proofs.ListedTold.{listing_told}
use Rattle.song_db.proofs.ReaderSteps.{read_listed, read_none, read_told, then_ok}
use Rattle.song_db.proofs.scan.reader.Reader.make.Goals as goal

-- a steady folder's listing fails only for want of memory, which is refused
sure : {T A : Type 0} (r : Result T SongDbError) (listing : Result A FolderFault) → IsOkUnless listing NoMemory
    → (listing ≡ Err NoMemory → r ≡ Err MemoryRefused)
    → OnOk r (IfErr listing (λ fault. ⊥))
sure (Ok x) (Ok l) unless memory = tt
sure (Ok x) (Err fault) unless memory =
    absurd (let m : ◌≡◌ {A = Result _ SongDbError} (Ok x) (Err MemoryRefused) = memory (ap Err unless) in cc)
sure (Err e) listing unless memory = tt

-- what is so where something else is, of a result that may have failed
under : {T E : Type 0} (P Q : Type 0) (r : Result T E) → (P → OnOk r Q) → OnOk r (P → Q)
under P Q (Ok x) h = h
under P Q (Err e) h = tt

both_ok : {T E : Type 0} (P Q : Type 0) (r : Result T E) → OnOk r P → OnOk r Q → OnOk r (P × Q)
both_ok P Q (Ok x) p q = (p, q)
both_ok P Q (Err e) p q = tt

pub returns-in_ok-found-in-File-clause-batch : goal.returns-in_ok-found-in-File-clause-batch
returns-in_ok-found-in-File-clause-batch g c = λ start batch.
    rw (c.settle.ensures.changes, c.settle.ensures.left)
    (batch_settled c.args.self.now.walk.rules c.args.self.now.walk.place start c.args.self.now.droppable.left c.args.changes.now.items c.in-File.uri
    c.in_ok-found-in-File.found batch (rw c.in-File.is at c.requires.visit).0 c.in_ok-found-in-File.ensures.of)

pub returns-in_ok-found-in-File-clause-read : goal.returns-in_ok-found-in-File-clause-read
returns-in_ok-found-in-File-clause-read g c = λ honest listed.
    let files = music_of c.args.self.now.walk.rules c.args.self.now.droppable.known (g.F.Folder.files c.args.folder.now) in
    let visit = rw c.in-File.is at c.requires.visit in
    let stamp = rw c.in-File.is at listed in
    let told = rw c.rules.ensures at (c.in_ok-found-in-File.ensures.found honest stamp) in
    rw (c.in-File.is, c.settle.ensures.changes, c.settle.ensures.left)
    (read_told files (g.F.Folder.steady c.args.folder.now) c.args.self.now.walk.place c.args.self.now.walk.pending
    c.args.self.now.droppable.left c.args.changes.now.items c.in-File.uri c.in_ok-found-in-File.found
    (songs_settled files c.in-File.uri c.args.changes.now.items c.in_ok-found-in-File.found c.in_ok-found-in-File.ensures.of told)
    (found_tells files c.args.self.now.walk.place c.in-File.uri c.in_ok-found-in-File.found visit.0 visit.1
    c.in_ok-found-in-File.ensures.of told)
    (λ steady. found_sure files c.args.self.now.walk.place c.in-File.uri c.in_ok-found-in-File.found visit.0 visit.1
    (rw c.rules.ensures at (c.in_ok-found-in-File.ensures.sure honest steady stamp))))

pub returns-in-Folder-clause-batch : goal.returns-in-Folder-clause-batch
returns-in-Folder-clause-batch g c = λ start batch.
    then_ok c.take_listing.result c.take_listing.ensures.droppable (λ is. rw is
    (batch_listed c.args.self.now.walk.rules c.args.self.now.walk.place start c.args.self.now.droppable.left c.args.changes.now.items c.in-Folder.uri
    c.list-listing.result batch))

pub returns-in-Folder-clause-read : goal.returns-in-Folder-clause-read
returns-in-Folder-clause-read g c = λ honest listed.
    then_ok c.take_listing.result (both_ok _ _ c.take_listing.result c.take_listing.ensures.droppable (both_ok _ _ c.take_listing.result
    c.take_listing.ensures.pending (under _ _ c.take_listing.result (λ steady. sure c.take_listing.result c.list-listing.result
    (c.list-listing.ensures.steady steady).0 c.take_listing.ensures.memory))))
    (λ told. rw (c.in-Folder.is, told.0)
    (read_listed (music_of c.args.self.now.walk.rules c.args.self.now.droppable.known (g.F.Folder.files c.args.folder.now)) (g.F.Folder.steady c.args.folder.now) c.args.self.now.walk.place
    c.args.self.now.walk.pending c.take_listing.new.self.walk.pending c.args.self.now.droppable.left c.args.changes.now.items
    c.in-Folder.uri c.list-listing.result c.as_str.ensures.form
    (rw c.as_str.ensures.text at (c.list-listing.ensures.listed honest)) told.1.1 told.1.0))

pub returns-in-Nothing-clause-read : goal.returns-in-Nothing-clause-read
returns-in-Nothing-clause-read g c = λ honest listed.
    rw c.in-Nothing.is (read_none (music_of c.args.self.now.walk.rules c.args.self.now.droppable.known (g.F.Folder.files c.args.folder.now)) (g.F.Folder.steady c.args.folder.now) c.args.self.now.walk.place
    c.args.self.now.walk.pending c.args.self.now.droppable.left c.args.changes.now.items)

pub returns-in-Folder-clause-listed : goal.returns-in-Folder-clause-listed
returns-in-Folder-clause-listed g c = λ honest all.
    then_ok c.take_listing.result c.take_listing.ensures.listed (λ told. told (g.F.Folder.files c.args.folder.now)
    (listing_told c.list-listing.result (g.F.Folder.files c.args.folder.now) c.in-Folder.uri c.as_str.ensures.form
    (rw c.as_str.ensures.text at (c.list-listing.ensures.stamps honest))) all)
