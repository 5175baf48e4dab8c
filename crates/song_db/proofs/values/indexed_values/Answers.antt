use Rattle.std.proofs.Common.{◌∙◌}
use Rattle.song_db.proofs.IndexedValues.{no_indexed_values, values_told}
use Rattle.song_db.proofs.values.indexed_values.Goals as goal

pub returns-in-Some : goal.returns-in-Some
returns-in-Some c = λ rows is. rw (values_told rows c.args.index.now c.args.tag c.in-Some.values.now is c.in-Some.ensures
    c.texts.ensures.groups) at c.texts.ensures.texts

pub returns-in-None : goal.returns-in-None
returns-in-None c = λ rows is. c.new.ensures ∙ no_indexed_values rows c.args.index.now c.args.tag is c.in-None.ensures
