use Rattle.std.proofs.Common.{◌≡◌, ◌≤◌, drop}
use Rattle.song_db.specs.Row.{is_plain, is_plain_from}
use Rattle.song_db.proofs.row.has_plain_tags.Given as goal

abbrev pub invariant-loop-at : goal.invariant-loop-at
invariant-loop-at l = record {
  next : l.next ≤ 6;
  rest : is_plain_from l.next (drop l.at l.tags) ≡ is_plain l.tags;
}
