use Rattle.std.proofs.Common.{◌∙◌, ap, sym}
use Rattle.song_db.specs.ValueIndex.{values_at, values_under}
use Rattle.song_db.proofs.Indexed.{first_of, no_values, values_here}
use Rattle.song_db.proofs.value_index.ValueIndex.values.Goals as goal

pub returns-in-Some : goal.returns-in-Some
returns-in-Some c = values_here c.args.tag c.self.inside.tags.items c.in-Some.at c.index.result.now
    (first_of c.args.tag c.self.inside.tags.items c.in-Some.at (rw c.deref.ensures.value at c.in-Some.ensures)) c.index.ensures
    ∙ ap (λ index. values_under index c.args.tag) c.self.view_is

pub returns-in-None : goal.returns-in-None
returns-in-None c = ap (λ index. values_under index c.args.tag) (sym c.self.view_is)
    ∙ ap values_at (no_values c.args.tag c.self.inside.tags.items (rw c.deref.ensures.value at c.in-None.ensures))
