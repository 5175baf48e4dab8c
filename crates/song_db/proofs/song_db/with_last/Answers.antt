use Rattle.song_db.specs.ValueIndex.{IsIndex}
use Rattle.song_db.proofs.Groups.{indexed_last}
use Rattle.song_db.proofs.song_db.with_last.Goals as goal

pub returns-in-Ok : goal.returns-in-Ok
returns-in-Ok c = λ rows rising before indexed.
    let is : IsIndex rows c.in-Some.present = rw c.in-Some.is at indexed in
    indexed_last rows c.args.row.now c.in-Some.present c.put_row.new.self rising before c.in-Ok.ensures is
