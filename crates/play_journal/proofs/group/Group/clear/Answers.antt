use Rattle.std.proofs.Common.{◌∙◌, [], ◌∷◌, ◌++◌, List, ℕ, ap}
use Rattle.play_journal.proofs.GroupLaws.{empty_bodies}
use Rattle.play_journal.proofs.group.Group.clear.Goals as goal

pub returns : goal.returns
returns c = empty_bodies _ (c.push_reserved.ensures.items ∙ ap (λ (l : List ℕ). l ++ 0 ∷ []) c.clear.ensures.items)
