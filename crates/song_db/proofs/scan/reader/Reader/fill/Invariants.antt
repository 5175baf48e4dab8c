use Rattle.std.proofs.Common.{◌≡◌, ℕ, ◌≤◌, List, vec_len, vec_capacity}
use Rattle.song_db.specs.Music.{music_of}
use Rattle.song_db.specs.Limits.{MAX_CHANGES}
use Rattle.song_db.specs.Batch.{IsBatch}
use Rattle.song_db.specs.Pending.{AreTold}
use Rattle.song_db.specs.Reader.{IsReadOn, IsSameScan}
use Rattle.song_db.specs.SameFolder.{IsSameFolder}
use Rattle.song_db.proofs.scan.reader.Reader.fill.Given as goal

abbrev pub invariant-loop : goal.invariant-loop
invariant-loop g l = record {
  scan : IsSameScan l.initial.self l.self;
  capacity : vec_capacity l.changes ≡ vec_capacity l.initial.changes;
  few : vec_len l.changes ≤ MAX_CHANGES;
  batch : (start : List (List ℕ)) → IsBatch l.initial.self.walk.rules l.initial.self.walk.place start l.initial.self.droppable.left l.initial.changes.items
      → IsBatch l.initial.self.walk.rules l.initial.self.walk.place start l.self.droppable.left l.changes.items;
  listed : g.F.Folder.honest l.initial.folder → AreTold (g.F.Folder.files l.initial.folder) l.initial.self.walk.listed
      → AreTold (g.F.Folder.files l.initial.folder) l.self.walk.listed;
  read : g.F.Folder.honest l.initial.folder → AreTold (g.F.Folder.files l.initial.folder) l.initial.self.walk.listed → IsReadOn (music_of l.initial.self.walk.rules l.initial.self.droppable.known (g.F.Folder.files l.initial.folder)) (g.F.Folder.steady l.initial.folder)
      l.initial.self.walk.place l.initial.self.walk.pending l.initial.self.droppable.left l.initial.changes.items
      l.self.walk.pending l.self.droppable.left l.changes.items;
  folder : IsSameFolder g.F.Folder.honest g.F.Folder.steady g.F.Folder.files l.initial.folder l.folder;
}
