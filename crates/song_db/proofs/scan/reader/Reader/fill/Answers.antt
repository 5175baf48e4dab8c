use Rattle.std.proofs.Common.{◌≡◌, ◌∙◌, arith}
use Rattle.song_db.specs.Music.{music_of}
use Rattle.song_db.proofs.ReaderSteps.{folder_then, read_taken, read_then}
use Rattle.song_db.proofs.scan.reader.Reader.fill.Goals as goal

pub loop-preserved : goal.loop-preserved
loop-preserved g c =
    let first = c.args.self.now.walk.place in
    let place : c.next.new.self.place ≡ first = c.next.ensures.place ∙ c.loop.invariant.scan.place in
    let rules : c.next.new.self.rules ≡ c.args.self.now.walk.rules = c.next.ensures.rules ∙ c.loop.invariant.scan.rules in
    record {
      scan = record { place = c.make.ensures.scan.place ∙ place; rules = c.make.ensures.scan.rules ∙ rules; known = c.make.ensures.scan.known ∙ c.loop.invariant.scan.known; begun = c.make.ensures.scan.begun ∙ c.loop.invariant.scan.begun };
      capacity = c.make.ensures.capacity ∙ c.loop.invariant.capacity;
      few = omega arith;
      batch = λ start batch. rw (place, rules) at (c.in_ok-make.ensures.batch start (rw (place, rules) (c.loop.invariant.batch start batch)));
      listed = λ honest all.
          let same = c.loop.invariant.folder.same_files honest in
          let now = c.in_ok-next.ensures.listed (g.F.Folder.files c.args.folder.now) (c.loop.invariant.listed honest all) in
          rw same at (c.in_ok-make.ensures.listed (c.loop.invariant.folder.honesty honest) (rw same now.0));
      read = λ honest all.
          let files = music_of c.args.self.now.walk.rules c.args.self.now.droppable.known (g.F.Folder.files c.args.folder.now) in
          let steady = g.F.Folder.steady c.args.folder.now in
          let same = c.loop.invariant.folder.same_files honest in
          let now = c.in_ok-next.ensures.listed (g.F.Folder.files c.args.folder.now) (c.loop.invariant.listed honest all) in
          let made = rw (place, rules, c.loop.invariant.scan.known, same)
          at (c.in_ok-make.ensures.read (c.loop.invariant.folder.honesty honest) (rw same now.1)) in
          read_then files steady _ first _ _ _ _ _ _ _ _ _ c.loop.invariant.folder.steadiness
          (read_then files steady steady first _ _ _ _ _ _ _ _ _ (λ is. is) (c.loop.invariant.read honest all)
          (read_taken files steady first c.loop.self.walk.pending c.next.new.self.pending c.in_ok-next.next.0 c.loop.self.droppable.left
          c.loop.changes.items (rw c.loop.invariant.scan.rules at c.in_ok-next.ensures.taken)))
          made;
      folder = folder_then g.F.Folder.honest g.F.Folder.steady g.F.Folder.files _ _ _ c.loop.invariant.folder c.make.ensures.folder;
    }
