use Rattle.std.proofs.Common.{◌≡◌, List, ℕ, Bool, not, filter, sym, ap, subst, ◌∙◌, rules, arith}
use Rattle.std.specs.Str.{bytes_eq}
use Rattle.std.proofs.lemmas.Fn.{filter_same}
use Rattle.stored_lists.specs.Times.{AreTimes, Times, without_time}
use Rattle.stored_lists.specs.declared.times.ListTime.{ListTime}
use Rattle.stored_lists.proofs.Timed.{kept_without}
use Rattle.stored_lists.proofs.times.ListTimes.forget.Goals as goal

pub returns : goal.returns
returns c =
    let name : List ℕ = c.args.name.now in
    filter_same _ (λ (time : ListTime). not (bytes_eq time.name name)) _ (λ x b f k. search rules) _ _ c.retain.ensures.filtered
    ∙ ap (λ (times : Times). without_time name times) c.self.view_is

pub invariant_of-self : goal.invariant_of-self
invariant_of-self c =
    let name : List ℕ = c.args.name.now in
    let kept : c.retain.new.self.items ≡ without_time name c.self.inside.times.items =
    filter_same _ (λ (time : ListTime). not (bytes_eq time.name name)) _ (λ x b f k. search rules) _ _ c.retain.ensures.filtered in (
      subst AreTimes (sym kept) (kept_without name c.self.inside.times.items c.self.invariant.0),
      omega (arith, c.retain.ensures.capacity, c.self.invariant.1),
    )
