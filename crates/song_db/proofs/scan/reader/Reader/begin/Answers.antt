use Rattle.std.proofs.Common.{Ok, refl}
use Rattle.song_files.specs.declared.folder.FolderFault.TheVariants.{NoMemory}
use Rattle.song_db.specs.Music.{music_of}
use Rattle.song_db.specs.declared.refusal.SongDbError.TheVariants.{NoMemory as MemoryRefused}
use Rattle.song_db.proofs.BatchSteps.{batch_own}
use Rattle.song_db.proofs.ListedTold.{none_told, own_told}
use Rattle.song_db.proofs.OwnSteps.{not_failed}
use Rattle.song_db.proofs.ReaderSteps.{read_own, read_then, then_ok}
use Rattle.song_db.proofs.scan.reader.Reader.begin.Goals as goal

pub returns-clause-batch : goal.returns-clause-batch
returns-clause-batch g c = λ start batch.
    rw (c.in_ok-visit.ensures.scan.place, c.in_ok-visit.ensures.scan.rules) at (c.make.ensures.batch start (rw (
      c.in_ok-visit.ensures.scan.place,
      c.in_ok-visit.ensures.scan.rules,
      c.in_ok-visit.ensures.droppable,
    )
    (batch_own c.args.self.now.walk.rules c.args.self.now.walk.place start c.args.self.now.droppable.left c.args.changes.now.items c.list-listing.result batch)))

pub returns-clause-read : goal.returns-clause-read
returns-clause-read g c = λ honest.
    let files = music_of c.args.self.now.walk.rules c.args.self.now.droppable.known (g.F.Folder.files c.args.folder.now) in
    let steady = g.F.Folder.steady c.args.folder.now in
    let place = c.args.self.now.walk.place in
    let made = rw (
      c.in_ok-visit.ensures.scan.place,
      c.in_ok-visit.ensures.scan.rules,
      c.in_ok-visit.ensures.scan.known,
      c.in_ok-visit.ensures.droppable,
      c.in_ok-visit.ensures.next,
      c.list-listing.ensures.files honest,
    ) at (c.make.ensures.read (c.list-listing.ensures.honest honest) (none_told _ c.in_ok-visit.visit)) in
    then_ok c.make.result made (read_then files steady _ place _ _ _ _ _ _ _ _ _
    (λ calm. (c.list-listing.ensures.steady calm).1)
    (read_own files steady place c.args.self.now.walk.pending c.take_own.new.self.walk.pending
    c.args.self.now.droppable.left c.args.changes.now.items c.list-listing.result c.path.ensures.form
    (rw c.path.ensures.text at (c.list-listing.ensures.listed honest)) (rw c.path.ensures.text at (c.list-listing.ensures.no_file honest))
    (λ calm. not_failed (Ok c.in_ok-visit.visit) c.list-listing.result c.in_ok-visit.visit NoMemory MemoryRefused refl
    (c.list-listing.ensures.steady calm).0 c.in_ok-visit.ensures.memory)
    c.requires.pending c.in_ok-visit.ensures.pending))

pub returns-clause-listed : goal.returns-clause-listed
returns-clause-listed g c = λ honest all.
    let files = g.F.Folder.files c.args.folder.now in
    let own = c.in_ok-visit.ensures.listed files (own_told c.list-listing.result files c.args.self.now.walk.place c.path.ensures.form
    (rw c.path.ensures.text at (c.list-listing.ensures.stamps honest))) all in
    rw (c.list-listing.ensures.files honest) at (c.make.ensures.listed (c.list-listing.ensures.honest honest)
    (rw (c.list-listing.ensures.files honest) own))
