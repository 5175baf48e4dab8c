use Rattle.std.proofs.Common.{ap, ◌∙◌}
use Rattle.std.specs.Ordering.{is_lt}
use Rattle.song_db.proofs.Rising.{texts}
use Rattle.song_db.proofs.RowPlaces.{last_decides}
use Rattle.song_db.proofs.rows.ends_before.Goals as goal

pub returns-in-Some : goal.returns-in-Some
returns-in-Some c = c.lt.ensures ∙ ap (λ text. is_lt (texts text c.args.uri.now)) c.uri.ensures.text
    ∙ last_decides c.args.rows.now c.args.uri.now c.in-Some.last.now c.in-Some.ensures.value
