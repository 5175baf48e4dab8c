use Rattle.std.proofs.Common.{sym, ap, ◌∙◌, arith}
use Rattle.std.specs.Str.{bytes_eq}
use Rattle.song_db.specs.Droppable.{Marked}
use Rattle.song_db.specs.Music.{known_stamp, uris_of}
use Rattle.song_db.proofs.KnownSongs.{stamp_found, stamp_missing, uri_at, uris_len}
use Rattle.song_db.proofs.Picked.{IsRun, uri_run, no_run_end, no_run_other}
use Rattle.song_db.proofs.scan.droppable.Droppable.stamp.Goals as goal
use Rattle.song_db.proofs.scan.droppable.Droppable.stamp.Goals.{else-at-len-via-then-at-len+else-eq, else-at-len-via-else-at-len}

pub returns-then-eq : goal.returns-then-eq
returns-then-eq c =
    let known = c.self.inside.known.items in
    let at = c.uri_point-at.result in
    let run = uri_run (uris_of known) c.args.uri.now c.index.result.now.uri at c.self.invariant.rising
    (rw c.deref.ensures.value at c.uri_point-at.ensures.split) (omega (arith, uris_len known))
    (uri_at known at c.index.result.now c.index.ensures) (rw c.as_str.ensures.text at c.if-eq.ensures) in
    sym (ap (λ (m : Marked). known_stamp m.known c.args.uri.now) (sym c.self.view_is)
    ∙ stamp_found c.args.uri.now known at c.index-then-eq.result.now run (omega arith) c.index-then-eq.ensures)

pub returns : goal.returns
returns c =
    let known = c.self.inside.known.items in
    let at = c.uri_point-at.result in
    let split = rw c.deref.ensures.value at c.uri_point-at.ensures.split in
    let run : IsRun (bytes_eq c.args.uri.now) (uris_of known) at at = elim c.else-at-len.branch [
      | else-at-len-via-then-at-len+else-eq w ↦ no_run_other (uris_of known) c.args.uri.now w.index.result.now.uri at
          c.self.invariant.rising split (omega (arith, uris_len known)) (uri_at known at w.index.result.now w.index.ensures)
          (rw w.as_str.ensures.text at w.if-eq.ensures)
      | else-at-len-via-else-at-len w ↦ no_run_end (uris_of known) c.args.uri.now at split (omega (arith, uris_len known))
    ] in
    sym (ap (λ (m : Marked). known_stamp m.known c.args.uri.now) (sym c.self.view_is) ∙ stamp_missing c.args.uri.now known at run)
