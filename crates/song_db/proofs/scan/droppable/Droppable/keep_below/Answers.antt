use Rattle.std.proofs.Common.{drop, ap, ◌∙◌, arith}
use Rattle.song_db.specs.Place.{is_below}
use Rattle.std.proofs.lemmas.List.{with_items_is}
use Rattle.song_db.specs.Droppable.{picked}
use Rattle.song_db.specs.Music.{uris_of}
use Rattle.song_db.proofs.KnownSongs.{uris_len, with_left}
use Rattle.song_db.proofs.Picked.{folder_rise, folder_run, run_unmarked}
use Rattle.song_db.proofs.scan.droppable.Droppable.keep_below.Goals as goal

pub unmark-requires-clause-rise : goal.unmark-requires-clause-rise
unmark-requires-clause-rise c = folder_rise _ c.args.folder.now _ _ (omega (arith, uris_len c.deref.result.now, c.folder_point-start.ensures.bound))
    c.folder_point-start.ensures.split (rw (c.deref-2.ensures.value, ← c.deref.ensures.value) at c.folder_point-end.ensures.split)

pub returns : goal.returns
returns c =
    let start = c.folder_point-start.result in
    let end = c.folder_point-end.result in
    let run = folder_run (uris_of c.self.inside.known.items) c.args.folder.now start end (omega (arith, uris_len c.self.inside.known.items, rw c.deref.ensures.value at c.folder_point-start.ensures.bound))
    (rw c.deref.ensures.value at c.folder_point-start.ensures.split) (rw
    c.deref-2.ensures.value at c.folder_point-end.ensures.split) in
    let marks = with_items_is c.self.inside.marks c.unmark.new.marks (omega arith) in
    rw (← c.self.view_is) (ap (with_left c.self.inside.known.items)
    (ap (λ l. picked (drop c.self.inside.at (uris_of c.self.inside.known.items)) (drop c.self.inside.at l)) marks
    ∙ run_unmarked (is_below c.args.folder.now) (uris_of c.self.inside.known.items) c.self.inside.marks.items c.unmark.new.marks
    c.self.inside.at start end c.self.invariant.each (c.unmark.ensures.len
    ∙ (rw c.deref_mut.ensures.value c.self.invariant.each)) run (record {
      before = rw c.deref_mut.ensures.value at c.unmark.ensures.before;
      run = c.unmark.ensures.run;
      behind = rw c.deref_mut.ensures.value at c.unmark.ensures.behind;
    })))
