use Rattle.std.proofs.Common.{◌≡◌, refl}
use Rattle.song_db.specs.Music.{music_of}
use Rattle.song_db.specs.Batch.{IsBatch, IsHonestBatch, IsWholeBatch}
use Rattle.song_db.specs.Pending.{AreTold, still_pending}
use Rattle.song_db.specs.Reader.{IsReadOn}
use Rattle.song_db.specs.SameFolder.{IsSameFolder}
use Rattle.song_db.specs.Scan.{AreSongs}
use Rattle.song_db.proofs.BatchSteps.{batch_none, batch_read}
use Rattle.song_db.proofs.ReaderSteps.{read_none, read_then}
use Rattle.song_db.proofs.ReadSteps.{honest_none, whole_none, no_songs, honest_end, honest_full, whole_end}
use Rattle.song_db.proofs.scan.reader.Reader.batch.Given.{Over}
use Rattle.song_db.proofs.scan.reader.Reader.batch.Goals as goal
use Rattle.song_db.proofs.scan.reader.Reader.batch.Goals.{then-not-self+in_ok-begin, else-not-self}
use Rattle.song_db.proofs.scan.reader.Reader.batch.Goals.{then-not-is_full+in_ok-drop_rest, else-not-is_full}

place_kept : (g : Over) (c : goal.Joined-not-is_full g) → c.if-not-self.self.walk.place ≡ c.args.self.now.walk.place
place_kept g c = elim c.if-not-self.branch [
  | then-not-self+in_ok-begin w ↦ rw w.self-is w.begin.ensures.scan.place
  | else-not-self w ↦ rw w.self-is refl
]

rules_kept : (g : Over) (c : goal.Joined-not-is_full g) → c.if-not-self.self.walk.rules ≡ c.args.self.now.walk.rules
rules_kept g c = elim c.if-not-self.branch [
  | then-not-self+in_ok-begin w ↦ rw w.self-is w.begin.ensures.scan.rules
  | else-not-self w ↦ rw w.self-is refl
]

known_kept : (g : Over) (c : goal.Joined-not-is_full g) → c.if-not-self.self.droppable.known ≡ c.args.self.now.droppable.known
known_kept g c = elim c.if-not-self.branch [
  | then-not-self+in_ok-begin w ↦ rw w.self-is w.begin.ensures.scan.known
  | else-not-self w ↦ rw w.self-is refl
]

filled : (g : Over) (c : goal.Joined-not-is_full g)
    → IsBatch c.args.self.now.walk.rules c.args.self.now.walk.place c.args.self.now.droppable.left c.fill.new.self.droppable.left c.fill.new.changes.items
filled g c =
    let place = c.args.self.now.walk.place in
    let known = c.args.self.now.droppable.left in
    let none = batch_none c.args.self.now.walk.rules place known c.in_ok-changes.changes.items c.in_ok-changes.ensures.items in
    let walk : c.if-not-self.self.walk.place ≡ place = place_kept g c in
    let begun : IsBatch c.args.self.now.walk.rules place known c.if-not-self.self.droppable.left c.if-not-self.changes.items = elim c.if-not-self.branch [
      | then-not-self+in_ok-begin w ↦ rw (w.self-is, w.changes-is) (w.in_ok-begin.ensures.batch known none)
      | else-not-self w ↦ rw (w.self-is, w.changes-is) none
    ] in
    rw (walk, rules_kept g c) at (c.in_ok-is_full.ensures.batch known (rw (walk, rules_kept g c) begun))

pub returns-clause-read : goal.returns-clause-read
returns-clause-read g c =
    let place = c.args.self.now.walk.place in
    let known = c.args.self.now.droppable.left in
    elim c.if-not-is_full.branch [
      | then-not-is_full+in_ok-drop_rest w ↦ rw (w.self-is, w.changes-is) (batch_read c.args.self.now.walk.rules place known _ _ _ _ (filled g c)
          w.in_ok-drop_rest.ensures.drops w.in_ok-drop_rest.ensures.puts)
      | else-not-is_full w ↦ rw (w.self-is, w.changes-is) (batch_read c.args.self.now.walk.rules place known _ _ _ _ (filled g c) refl refl)
    ]

folder_kept : (g : Over) (c : goal.Joined-not-is_full g)
    → IsSameFolder g.F.Folder.honest g.F.Folder.steady g.F.Folder.files c.args.folder.now c.if-not-self.folder
folder_kept g c = elim c.if-not-self.branch [
  | then-not-self+in_ok-begin w ↦ rw w.folder-is w.begin.ensures.folder
  | else-not-self w ↦ rw w.folder-is (record { honesty = λ is. is; same_files = λ is. refl; steadiness = λ is. is })
]

told_begun : (g : Over) (c : goal.Joined-not-is_full g) → g.F.Folder.honest c.args.folder.now → AreTold (g.F.Folder.files c.args.folder.now) c.args.self.now.walk.listed
    → AreTold (g.F.Folder.files c.args.folder.now) c.if-not-self.self.walk.listed
told_begun g c honest all = elim c.if-not-self.branch [
  | then-not-self+in_ok-begin w ↦ rw w.self-is (w.in_ok-begin.ensures.listed honest all)
  | else-not-self w ↦ rw w.self-is all
]

told_filled : (g : Over) (c : goal.Joined-not-is_full g) → g.F.Folder.honest c.args.folder.now → AreTold (g.F.Folder.files c.args.folder.now) c.args.self.now.walk.listed
    → AreTold (g.F.Folder.files c.args.folder.now) c.fill.new.self.walk.listed
told_filled g c honest all =
    let same = (folder_kept g c).same_files honest in
    rw same at (c.in_ok-is_full.ensures.listed ((folder_kept g c).honesty honest) (rw same (told_begun g c honest all)))

pub returns-clause-listed : goal.returns-clause-listed
returns-clause-listed g c = λ honest all. elim c.if-not-is_full.branch [
  | then-not-is_full+in_ok-drop_rest w ↦ rw w.self-is (told_filled g c honest all)
  | else-not-is_full w ↦ rw w.self-is (told_filled g c honest all)
]

read_filled : (g : Over) (c : goal.Joined-not-is_full g) → g.F.Folder.honest c.args.folder.now → AreTold (g.F.Folder.files c.args.folder.now) c.args.self.now.walk.listed
    → IsReadOn (music_of c.args.self.now.walk.rules c.args.self.now.droppable.known (g.F.Folder.files c.args.folder.now)) (g.F.Folder.steady c.args.folder.now) c.args.self.now.walk.place
    (still_pending c.args.self.now.is_begun c.args.self.now.walk) c.args.self.now.droppable.left c.in_ok-changes.changes.items
    c.fill.new.self.walk.pending c.fill.new.self.droppable.left c.fill.new.changes.items
read_filled g c honest all =
    let files = music_of c.args.self.now.walk.rules c.args.self.now.droppable.known (g.F.Folder.files c.args.folder.now) in
    let steady = g.F.Folder.steady c.args.folder.now in
    let place = c.args.self.now.walk.place in
    let known = c.args.self.now.droppable.left in
    let start = still_pending c.args.self.now.is_begun c.args.self.now.walk in
    let walk : c.if-not-self.self.walk.place ≡ place = place_kept g c in
    let same = (folder_kept g c).same_files honest in
    let begun : IsReadOn files steady place start known c.in_ok-changes.changes.items c.if-not-self.self.walk.pending
    c.if-not-self.self.droppable.left c.if-not-self.changes.items = elim c.if-not-self.branch [
      | then-not-self+in_ok-begin w ↦ rw (w.self-is, w.changes-is, w.if-not-self.true) (w.in_ok-begin.ensures.read honest)
      | else-not-self w ↦ rw (w.self-is, w.changes-is, w.if-not-self.false)
          (read_none files steady place c.args.self.now.walk.pending known c.in_ok-changes.changes.items)
    ] in
    read_then files steady _ place _ _ _ _ _ _ _ _ _ (folder_kept g c).steadiness begun
    (rw (walk, rules_kept g c, known_kept g c, same) at (c.in_ok-is_full.ensures.read ((folder_kept g c).honesty honest) (rw same (told_begun g c honest all))))

honest_filled : (g : Over) (c : goal.Joined-not-is_full g) → g.F.Folder.honest c.args.folder.now → AreTold (g.F.Folder.files c.args.folder.now) c.args.self.now.walk.listed
    → IsHonestBatch (music_of c.args.self.now.walk.rules c.args.self.now.droppable.known (g.F.Folder.files c.args.folder.now)) c.args.self.now.walk.place
    (still_pending c.args.self.now.is_begun c.args.self.now.walk)
    c.args.self.now.droppable.left c.fill.new.self.walk.pending c.fill.new.self.droppable.left c.fill.new.changes.items
honest_filled g c honest all = (read_filled g c honest all).honest _ _ (honest_none (music_of c.args.self.now.walk.rules c.args.self.now.droppable.known (g.F.Folder.files c.args.folder.now))
    c.args.self.now.walk.place _ _ c.in_ok-changes.changes.items c.in_ok-changes.ensures.items)

songs_filled : (g : Over) (c : goal.Joined-not-is_full g) → g.F.Folder.honest c.args.folder.now → AreTold (g.F.Folder.files c.args.folder.now) c.args.self.now.walk.listed
    → AreSongs (music_of c.args.self.now.walk.rules c.args.self.now.droppable.known (g.F.Folder.files c.args.folder.now)) c.fill.new.changes.items
songs_filled g c honest all = (read_filled g c honest all).songs
    (no_songs (music_of c.args.self.now.walk.rules c.args.self.now.droppable.known (g.F.Folder.files c.args.folder.now)) c.in_ok-changes.changes.items c.in_ok-changes.ensures.items)

pub returns-clause-honest_read : goal.returns-clause-honest_read
returns-clause-honest_read g c = λ honest all. elim c.if-not-is_full.branch [
  | then-not-is_full+in_ok-drop_rest w ↦
      rw (w.self-is, w.changes-is) (honest_end (music_of c.args.self.now.walk.rules c.args.self.now.droppable.known (g.F.Folder.files c.args.folder.now)) c.args.self.now.walk.place _
      c.fill.new.self.walk.pending c.args.self.now.droppable.left
      c.fill.new.self.droppable.left _ c.fill.new.changes.items _ (honest_filled g c honest all) (filled g c).no_drop w.in_ok-drop_rest.ensures.drops
      w.in_ok-drop_rest.ensures.puts (songs_filled g c honest all) (rw w.if-not-is_full.true at c.in_ok-is_full.ensures.filled))
  | else-not-is_full w ↦
      rw (w.self-is, w.changes-is) (honest_full (music_of c.args.self.now.walk.rules c.args.self.now.droppable.known (g.F.Folder.files c.args.folder.now)) c.args.self.now.walk.place _
      c.fill.new.self.walk.pending c.args.self.now.droppable.left
      c.fill.new.self.droppable.left c.fill.new.changes.items (honest_filled g c honest all) (filled g c).no_drop (songs_filled g c honest all))
]

whole_filled : (g : Over) (c : goal.Joined-not-is_full g) → g.F.Folder.honest c.args.folder.now → g.F.Folder.steady c.args.folder.now → AreTold (g.F.Folder.files c.args.folder.now) c.args.self.now.walk.listed
    → IsWholeBatch (music_of c.args.self.now.walk.rules c.args.self.now.droppable.known (g.F.Folder.files c.args.folder.now)) c.args.self.now.walk.place
    (still_pending c.args.self.now.is_begun c.args.self.now.walk)
    c.args.self.now.droppable.left c.fill.new.self.walk.pending c.fill.new.self.droppable.left c.fill.new.changes.items
whole_filled g c honest steady all = (read_filled g c honest all).whole _ _ steady (whole_none (music_of c.args.self.now.walk.rules c.args.self.now.droppable.known (g.F.Folder.files c.args.folder.now))
    c.args.self.now.walk.place _ _ c.in_ok-changes.changes.items c.in_ok-changes.ensures.items)

pub returns-clause-whole_read : goal.returns-clause-whole_read
returns-clause-whole_read g c = λ honest steady all. elim c.if-not-is_full.branch [
  | then-not-is_full+in_ok-drop_rest w ↦
      rw (w.self-is, w.changes-is) (whole_end (music_of c.args.self.now.walk.rules c.args.self.now.droppable.known (g.F.Folder.files c.args.folder.now)) c.args.self.now.walk.place _ c.fill.new.self.walk.pending
      c.args.self.now.droppable.left
      c.fill.new.self.droppable.left _ c.fill.new.changes.items _ (whole_filled g c honest steady all) (filled g c).no_drop
      w.in_ok-drop_rest.ensures.drops w.in_ok-drop_rest.ensures.puts)
  | else-not-is_full w ↦
      rw (w.self-is, w.changes-is) (whole_end (music_of c.args.self.now.walk.rules c.args.self.now.droppable.known (g.F.Folder.files c.args.folder.now)) c.args.self.now.walk.place _ c.fill.new.self.walk.pending
      c.args.self.now.droppable.left
      c.fill.new.self.droppable.left c.fill.new.self.droppable.left c.fill.new.changes.items c.fill.new.changes.items (whole_filled g c honest steady all)
      (filled g c).no_drop refl refl)
]
