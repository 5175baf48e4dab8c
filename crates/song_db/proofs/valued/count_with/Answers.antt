use Rattle.std.proofs.Common.{length, ap, ◌∙◌}
use Rattle.std.proofs.lemmas.List.Sums.{length-filter}
use Rattle.song_db.specs.Valued.{has_value}
use Rattle.song_db.specs.ValueIndex.{IsIndex}
use Rattle.song_db.proofs.valued.count_with.Goals as goal

pub returns-in-Some : goal.returns-in-Some
returns-in-Some c =
    let is : IsIndex c.args.rows.now c.in-Some.index = rw c.in-Some.is at c.requires in
    ap (λ rows. length rows) (c.rows.ensures.rows ∙ is.exact c.args.tag c.args.value.now)
    ∙ length-filter (has_value c.args.tag c.args.value.now) c.args.rows.now
