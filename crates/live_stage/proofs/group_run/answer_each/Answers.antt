use Rattle.std.proofs.Common.{◌≡◌, ◌∷◌, ◌++◌, [], List, Ok, ◌∙◌, ap, sym, length, append_assoc, rules, arith}
use Rattle.std.specs.Vec.Iter.{into_iter_items}
use Rattle.live_stage.specs.Answer.{Answer}
use Rattle.live_stage.proofs.GroupLaws.{Reply}
use Rattle.live_stage.proofs.HistoryLaws.{oks, oks_end}
use Rattle.live_stage.proofs.group_run.answer_each.Goals as goal

pub loop-turn-preserved : goal.loop-turn-preserved
loop-turn-preserved g c =
    let items : List Answer = into_iter_items c.loop-turn.turn-iterator in
    let rest : List Answer = into_iter_items c.next.new.self in
    let steps : items ≡ c.in-Some.turn ∷ rest = c.in-Some.ensures.steps.0 in
    let one = ap length steps in
    record {
      items = ap (λ (l : List Reply). l ++ oks rest) c.push_reserved.ensures.items
          ∙ append_assoc c.loop-turn.answers.items (Ok c.in-Some.turn ∷ []) (oks rest)
          ∙ ap (λ (l : List Answer). c.loop-turn.answers.items ++ oks l) (sym steps) ∙ c.loop-turn.invariant.items;
      len = omega (arith, c.loop-turn.invariant.len, c.push_reserved.ensures.len, one);
      capacity = c.push_reserved.ensures.capacity ∙ c.loop-turn.invariant.capacity;
    }
