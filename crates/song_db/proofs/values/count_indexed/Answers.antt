use Rattle.std.proofs.Common.{length, ap}
use Rattle.song_db.proofs.IndexedValues.{count_told, no_indexed_values}
use Rattle.song_db.proofs.values.count_indexed.Goals as goal

pub returns-in-Some : goal.returns-in-Some
returns-in-Some c = λ rows is. count_told rows c.args.index.now c.args.tag c.in-Some.values.now c.len.result is c.in-Some.ensures
    c.len.ensures.groups c.len.ensures.count

pub returns-in-None : goal.returns-in-None
returns-in-None c = λ rows is. ap (λ l. length l) (no_indexed_values rows c.args.index.now c.args.tag is c.in-None.ensures)
