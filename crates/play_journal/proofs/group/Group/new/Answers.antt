use Rattle.std.proofs.Common.{◌∙◌, [], ◌∷◌, ◌++◌, List, ℕ, ap}
use Rattle.play_journal.proofs.GroupLaws.{empty_bodies}
use Rattle.play_journal.proofs.group.Group.new.Goals as goal

pub returns-clause-empty : goal.returns-clause-empty
returns-clause-empty c = empty_bodies _ (c.push_reserved.ensures.items ∙ ap (λ (l : List ℕ). l ++ 0 ∷ []) c.in_ok-bytes.ensures.items)
