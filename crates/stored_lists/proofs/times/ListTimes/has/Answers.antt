use Rattle.std.proofs.Common.{List, ℕ, ap, ◌∙◌, rules}
use Rattle.std.specs.Str.{bytes_eq}
use Rattle.std.proofs.lemmas.Iterator.{YieldsList-from_slice}
use Rattle.std.proofs.lemmas.Iterator.Search.{any_from_yields_List}
use Rattle.stored_lists.specs.Times.{Times, has_time}
use Rattle.stored_lists.specs.declared.times.ListTime.{ListTime}
use Rattle.stored_lists.proofs.times.ListTimes.has.Goals as goal

pub returns : goal.returns
returns c =
    let name : List ℕ = c.args.name.now in
    any_from_yields_List (λ (time : ListTime). bytes_eq time.name name) _ _ _ c.any.ensures.ran
    (YieldsList-from_slice c.self.inside.times.items cc) (λ x b q k. search rules)
    ∙ ap (λ (times : Times). has_time name times) c.self.view_is
