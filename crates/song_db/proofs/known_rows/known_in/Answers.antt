use Rattle.std.specs.Prelude.{option_map}
use Rattle.song_db.proofs.KnownRows.{all_known, own_known, known_rise}
use Rattle.song_db.proofs.known_rows.known_in.Goals as goal
use Rattle.song_db.proofs.known_rows.known_in.Goals.{in-None+in_ok-push_songs-in-None}
use Rattle.song_db.proofs.known_rows.known_in.Goals.{in-Some+in_ok-push_songs-in-Some+in_ok-push_songs-in-Some-2}

pub returns-clause-songs : goal.returns-clause-songs
returns-clause-songs c = elim c.match-place.branch [
  | in-None+in_ok-push_songs-in-None w ↦ rw (w.known-is, w.in-None.is) (all_known c.args.rules c.args.rows.now c.new-known.result.items
      w.push_songs.new.known.items c.new-known.ensures.items w.in_ok-push_songs-in-None.ensures)
  | in-Some+in_ok-push_songs-in-Some+in_ok-push_songs-in-Some-2 w ↦
      let own = rw (w.own_row.ensures, w.as_str.ensures.text) at w.in_ok-push_songs-in-Some.ensures in
      let below = rw (w.rows_below.ensures, w.as_str-in-Some.ensures.text) at w.in_ok-push_songs-in-Some-2.ensures in
      rw (w.known-is, w.in-Some.is) (own_known c.args.rules c.args.rows.now w.in-Some.uri.now c.new-known.result.items
      w.push_songs-in-Some.new.known.items w.push_songs-in-Some-2.new.known.items c.requires c.new-known.ensures.items own below)
]

pub returns-clause-rising : goal.returns-clause-rising
returns-clause-rising c = rw (returns-clause-songs c) (known_rise c.args.rules c.args.rows.now (option_map (λ uri. uri.now) c.args.place) c.requires)
