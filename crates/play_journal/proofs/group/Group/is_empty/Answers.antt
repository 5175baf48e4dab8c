use Rattle.std.proofs.Common.{◌∙◌, length, arith, ap}
use Rattle.std.proofs.lemmas.Bool.{eqb-true, eq-eqb}
use Rattle.std.proofs.lemmas.List.{nil_from_length}
use Rattle.play_journal.proofs.GroupLaws.{counted_by}
use Rattle.play_journal.proofs.group.Group.is_empty.Goals as goal

pub returns : goal.returns
returns c = rw (← c.self.view_is) (
  λ zero. nil_from_length _ (counted_by c.self.inside.bytes.items c.self.inside.count c.self.invariant.0
      ∙ eqb-true c.self.inside.count 0 zero),
  λ none. eq-eqb c.self.inside.count 0
      (omega (arith, ap length none, counted_by c.self.inside.bytes.items c.self.inside.count c.self.invariant.0)),
)
