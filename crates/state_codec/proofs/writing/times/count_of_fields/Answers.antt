use Rattle.std.proofs.Common.{◌≡◌, ◌+◌, ℕ, Bool, cond, ap, ◌∙◌}
use Rattle.stored_lists.specs.Times.{Times}
use Rattle.state_codec.specs.SpellingPlace.{field_count}
use Rattle.state_codec.specs.SpellingTimes.{has_none}
use Rattle.state_codec.proofs.writing.times.count_of_fields.Goals as goal

pub returns : goal.returns
returns c =
    let first : c.told_count-first.result ≡ cond (has_none c.args.times.now) 0 1 =
    c.told_count-first.ensures.count ∙ ap (λ (b : Bool). cond {A = ℕ} b 0 1) c.has_none.ensures
    ∙ ap (λ (times : Times). cond {A = ℕ} (has_none times) 0 1) c.as_slice.ensures.times in
    λ i. first i + c.field_count-others.ensures.count i
