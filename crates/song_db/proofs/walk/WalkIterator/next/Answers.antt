use Rattle.std.proofs.Common.{rules, ◌∷◌, arith}
use Rattle.std.proofs.lemmas.Grind.{common_steps}
use Rattle.std.proofs.lemmas.Map.Keys.{sorted_tail}
use Rattle.song_db.specs.Replaced.{IsRising, by_text}
use Rattle.song_db.specs.Row.{row_uri}
use Rattle.song_db.proofs.walk.WalkIterator.next.Goals as goal

pub invariant_of-self-2 : goal.invariant_of-self-2
invariant_of-self-2 c =
    let whole : IsRising row_uri (c.in_ok-row.row.now ∷ c.in_ok-row.rest.now) = first_of (search rules, grind (arith, common_steps)) in
    (sorted_tail (by_text row_uri) c.in_ok-row.row.now c.in_ok-row.rest.now whole, c.shared_first-self-inside.ensures)
