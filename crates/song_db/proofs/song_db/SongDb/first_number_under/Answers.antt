use Rattle.std.proofs.Common.{◌-◌, take, drop, refl, rules}
use Rattle.song_db.proofs.Folders.{no_folder, some_folder}
use Rattle.song_db.proofs.RowPlaces.{root_run, root_within, run_none, run_some}
use Rattle.song_db.proofs.song_db.SongDb.first_number_under.Goals as goal

pub returns-in-Root-clause-run : goal.returns-in-Root-clause-run
returns-in-Root-clause-run c = rw c.in-Root.is (root_run c.args.self.now)

pub returns-in-Root-clause-within : goal.returns-in-Root-clause-within
returns-in-Root-clause-within c = rw c.in-Root.is (root_within c.args.self.now)

pub returns-then-start-end-clause-answer : goal.returns-then-start-end-clause-answer
returns-then-start-end-clause-answer c =
    let found = rw (c.deref.ensures.value, c.self.view_is) at c.run_below-start.ensures.run in
    let s = c.run_below-start.result.0 in
    let e = c.run_below-start.result.1 in
    rw (
      c.in-At.is,
      no_folder c.args.self.now (take (e - s) (drop s c.args.self.now)) c.in-At.folder.now found (run_none
          c.args.self.now s e c.if-start-end.true),
    ) refl

pub returns-else-start-end-clause-answer : goal.returns-else-start-end-clause-answer
returns-else-start-end-clause-answer c =
    let found = rw (c.deref.ensures.value, c.self.view_is) at c.run_below-start.ensures.run in
    let within = rw (c.deref.ensures.value, c.self.view_is) at c.run_below-start.ensures.within in
    let s = c.run_below-start.result.0 in
    let e = c.run_below-start.result.1 in
    rw (
      c.in-At.is,
      some_folder c.args.self.now (take (e - s) (drop s c.args.self.now)) c.in-At.folder.now found (run_some
          c.args.self.now s e c.run_below-start.ensures.rise within c.if-start-end.false),
    ) (search rules)
