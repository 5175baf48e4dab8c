use Rattle.std.proofs.Common.{◌==◌, ℕ, List, sym, ap, ◌∙◌}
use Rattle.std.specs.List.{position}
use Rattle.play_queue.specs.declared.entry.Entry.{Entry}
use Rattle.play_queue.proofs.Found.{position-ids, position-none}
use Rattle.play_queue.proofs.entries.Entries.pos_of.Goals as goal

pub returns-then-not-has_id-clause-found : goal.returns-then-not-has_id-clause-found
returns-then-not-has_id-clause-found c =
    sym (position-none (λ (entry : Entry). entry.id == c.args.id) c.args.self.now (sym c.has_id.ensures ∙ c.if-not-has_id.true))

pub returns-in-Some-clause-found : goal.returns-in-Some-clause-found
returns-in-Some-clause-found c =
    sym (position-ids c.args.self.now c.args.id
    ∙ ap (λ (l : List ℕ). position (λ (other : ℕ). other == c.args.id) l) (sym c.ids-ids.ensures.ids) ∙ c.in-Some.ensures.found)

pub returns-in-None-clause-found : goal.returns-in-None-clause-found
returns-in-None-clause-found c =
    c.find.ensures.found
    ∙ sym (position-ids c.args.self.now c.args.id
    ∙ ap (λ (l : List ℕ). position (λ (other : ℕ). other == c.args.id) l) (sym c.ids-ids.ensures.ids))
