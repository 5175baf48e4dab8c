use Rattle.std.proofs.Common.{◌≡◌, ◌<◌, ◌+◌, length, sym, ap, subst, ◌∙◌, arith}
use Rattle.std.proofs.lemmas.Grind.{common_steps}
use Rattle.stored_lists.specs.Times.{AreTimes, Times, timed}
use Rattle.stored_lists.proofs.Timed.{kept_timed, told_more}
use Rattle.stored_lists.proofs.times.ListTimes.tell.Goals as goal

pub loop-at-preserved : goal.loop-at-preserved
loop-at-preserved c =
    let times = c.self.inside.times.items in
    let inside : c.loop-at.at < length times = omega (arith, c.loop-at-test.true, c.len-at-end.ensures, c.self.inside.times.ok.0) in
    record {
      told = told_more c.args.seconds times c.loop-at.self-inside.times.items c.loop-at.at c.index_mut.result.now c.tell.new.self inside
          c.loop-at.invariant.told c.index_mut.ensures.value c.tell.ensures;
      room = c.loop-at.invariant.room;
    }

pub returns : goal.returns
returns c =
    let whole : c.loop-at.self-inside.times.items ≡ timed c.args.seconds c.self.inside.times.items =
    grind (arith, common_steps, c.loop-at.invariant.told, c.loop-at-test.false, c.len-at-end.ensures, c.self.inside.times.ok.0) in
    whole ∙ ap (λ (times : Times). timed c.args.seconds times) c.self.view_is

pub invariant_of-self : goal.invariant_of-self
invariant_of-self c =
    let whole : c.loop-at.self-inside.times.items ≡ timed c.args.seconds c.self.inside.times.items =
    grind (arith, common_steps, c.loop-at.invariant.told, c.loop-at-test.false, c.len-at-end.ensures, c.self.inside.times.ok.0) in (
      subst AreTimes (sym whole) (kept_timed c.args.seconds c.self.inside.times.items (omega arith) c.self.invariant.0),
      omega (arith, c.loop-at.invariant.room, c.self.invariant.1),
    )
