use Rattle.std.proofs.Common.{◌+◌, drop, ap, ◌∙◌, arith}
use Rattle.std.specs.Str.{bytes_eq}
use Rattle.std.proofs.lemmas.List.{with_items_is}
use Rattle.song_db.specs.Droppable.{picked}
use Rattle.song_db.specs.Music.{uris_of}
use Rattle.song_db.proofs.KnownSongs.{uri_at, uris_len, with_left}
use Rattle.song_db.proofs.Picked.{uri_run, no_run_end, no_run_other, none_unmarked, run_unmarked}
use Rattle.song_db.proofs.scan.droppable.Droppable.keep.Goals as goal
use Rattle.song_db.proofs.scan.droppable.Droppable.keep.Goals.{else-at-len-via-then-at-len+else-eq, else-at-len-via-else-at-len}

pub returns-then-eq : goal.returns-then-eq
returns-then-eq c =
    let at = c.uri_point-at.result in
    let run = uri_run (uris_of c.self.inside.known.items) c.args.uri.now c.index.result.now.uri at c.self.invariant.rising (rw
    c.deref.ensures.value at c.uri_point-at.ensures.split) (omega (arith, uris_len c.self.inside.known.items)) (uri_at c.self.inside.known.items at c.index.result.now c.index.ensures) (rw c.as_str.ensures.text at
    c.if-eq.ensures) in
    let marks = with_items_is c.self.inside.marks c.unmark.new.marks (omega arith) in
    rw (← c.self.view_is) (ap (with_left c.self.inside.known.items)
    (ap (λ l. picked (drop c.self.inside.at (uris_of c.self.inside.known.items)) (drop c.self.inside.at l)) marks
    ∙ run_unmarked (bytes_eq c.args.uri.now) (uris_of c.self.inside.known.items) c.self.inside.marks.items c.unmark.new.marks
    c.self.inside.at at (at + 1) c.self.invariant.each (c.unmark.ensures.len
    ∙ (rw c.deref_mut.ensures.value c.self.invariant.each)) run (record {
      before = rw c.deref_mut.ensures.value at c.unmark.ensures.before;
      run = c.unmark.ensures.run;
      behind = rw c.deref_mut.ensures.value at c.unmark.ensures.behind;
    })))

pub returns-else-at-len : goal.returns-else-at-len
returns-else-at-len c = elim c.else-at-len.branch [
  | else-at-len-via-then-at-len+else-eq w ↦ rw (← c.self.view_is) (ap (with_left c.self.inside.known.items) (run_unmarked (bytes_eq c.args.uri.now) (uris_of c.self.inside.known.items)
      c.self.inside.marks.items c.self.inside.marks.items c.self.inside.at c.uri_point-at.result c.uri_point-at.result
      c.self.invariant.each c.self.invariant.each (no_run_other (uris_of c.self.inside.known.items) c.args.uri.now w.index.result.now.uri
      c.uri_point-at.result c.self.invariant.rising (rw c.deref.ensures.value at c.uri_point-at.ensures.split) (omega (arith, uris_len c.self.inside.known.items))
      (uri_at c.self.inside.known.items c.uri_point-at.result w.index.result.now w.index.ensures) (rw w.as_str.ensures.text at w.if-eq.ensures)) (none_unmarked c.self.inside.marks.items c.uri_point-at.result)))
  | else-at-len-via-else-at-len w ↦ rw (← c.self.view_is) (ap (with_left c.self.inside.known.items) (run_unmarked (bytes_eq c.args.uri.now) (uris_of c.self.inside.known.items)
      c.self.inside.marks.items c.self.inside.marks.items c.self.inside.at c.uri_point-at.result c.uri_point-at.result
      c.self.invariant.each c.self.invariant.each (no_run_end (uris_of c.self.inside.known.items) c.args.uri.now c.uri_point-at.result (rw
      c.deref.ensures.value at c.uri_point-at.ensures.split) (omega (arith, uris_len c.self.inside.known.items))) (none_unmarked c.self.inside.marks.items c.uri_point-at.result)))
]
