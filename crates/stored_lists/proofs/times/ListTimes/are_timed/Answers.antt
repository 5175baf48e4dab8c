use Rattle.std.proofs.Common.{◌==◌, not, ap, ◌∙◌, rules, tests}
use Rattle.std.proofs.lemmas.Iterator.{YieldsList-from_slice}
use Rattle.std.proofs.lemmas.Iterator.Search.{all_from_yields_List}
use Rattle.stored_lists.specs.Times.{Times, are_timed}
use Rattle.stored_lists.specs.declared.times.ListTime.{ListTime}
use Rattle.stored_lists.proofs.times.ListTimes.are_timed.Goals as goal

pub returns : goal.returns
returns c =
    all_from_yields_List (λ (time : ListTime). not (time.seconds == 0)) _ _ _ c.all.ensures.ran
    (YieldsList-from_slice c.self.inside.times.items cc) (λ x b q k. search (rules, tests))
    ∙ ap (λ (times : Times). are_timed times) c.self.view_is
