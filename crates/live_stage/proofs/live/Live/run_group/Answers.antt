use Rattle.std.proofs.Common.{◌≡◌, ℕ, ◌-◌, Bool, true, false, List, [], ◌∷◌, ◌++◌, length, length-append, append_assoc, Err, ap, subst, ◌∙◌, rules, arith}
use Rattle.live_stage.specs.declared.refusal.LiveError.TheVariants.{NoMemory}
use Rattle.live_stage.specs.Group.{EndsThere, asked_by}
use Rattle.live_stage.specs.GroupRun.{IsGroupsSoFar, refusals}
use Rattle.live_stage.proofs.GroupLaws.{Reply}
use Rattle.live_stage.proofs.GroupMadeLaws.{answered, ok_unspent, ok_usable, parted_refused, refused_group, refused_still, some_answered, some_refused}
use Rattle.live_stage.proofs.GroupRunLaws.{joins}
use Rattle.live_stage.proofs.HistoryLaws.{oks}
use Rattle.live_stage.proofs.live.Live.run_group.Goals as goal

pub returns-else-is_refused-clause-handled : goal.returns-else-is_refused-clause-handled
returns-else-is_refused-clause-handled g c =
    let e = c.in-Ok.ensures in
    let turns = c.in-Ok.group.turns.items in
    let rest = c.in-Ok.group.rest.items in
    let ends : EndsThere c.args.self.now c.args.events.items turns false rest =
    subst (λ (b : Bool). EndsThere c.args.self.now c.args.events.items turns b rest) c.if-is_refused.false e.events in
    record {
      front = asked_by turns;
      replies = oks turns;
      parted = ends.parted;
      some = some_answered c.args.self.now c.args.events.items turns rest ends c.requires.some;
      added = c.answer_each.ensures.items;
      so_far = answered g.D.Disk.honest g.D.Disk.history c.args.self.now c.turn_group.new.self turns
          (ok_usable c.args.self.now c.turn_group.new.self c.in-Ok.group e.refuses)
          (ok_unspent c.args.self.now c.turn_group.new.self c.in-Ok.group e.refuses) e.refuses.usable e.group e.file e.any_moment e.kept
          e.later.a.done e.later.b.done e.later.a.honesty e.later.b.honesty;
    }

pub returns-then-is_refused-clause-handled : goal.returns-then-is_refused-clause-handled
returns-then-is_refused-clause-handled g c =
    let e = c.in-Ok.ensures in
    let turns = c.in-Ok.group.turns.items in
    let rest = c.in-Ok.group.rest.items in
    let ends : EndsThere c.args.self.now c.args.events.items turns true rest =
    subst (λ (b : Bool). EndsThere c.args.self.now c.args.events.items turns b rest) c.if-is_refused.true e.events in
    let one = ends.parted in
    record {
      front = asked_by turns ++ one.0 ∷ [];
      replies = oks turns ++ Err NoMemory ∷ [];
      parted = parted_refused c.args.events.items (asked_by turns) rest one.0 one.1;
      some = some_refused (asked_by turns) one.0;
      added = c.push_reserved.ensures.items ∙ ap (λ (l : List Reply). l ++ Err NoMemory ∷ []) c.answer_each.ensures.items
          ∙ append_assoc c.args.answers.now.items (oks turns) (Err NoMemory ∷ []);
      so_far = joins g.D.Disk.honest g.D.Disk.history c.args.self.now c.turn_group.new.self c.turn_group.new.self (asked_by turns) (one.0 ∷ [])
          (oks turns) (Err NoMemory ∷ [])
          (answered g.D.Disk.honest g.D.Disk.history c.args.self.now c.turn_group.new.self turns
          (ok_usable c.args.self.now c.turn_group.new.self c.in-Ok.group e.refuses)
          (ok_unspent c.args.self.now c.turn_group.new.self c.in-Ok.group e.refuses) e.refuses.usable e.group e.file e.any_moment e.kept
          e.later.a.done e.later.b.done e.later.a.honesty e.later.b.honesty)
          (refused_still g.D.Disk.honest g.D.Disk.history c.turn_group.new.self one.0 NoMemory (λ is. absurd cc) (λ is. absurd cc) e.refuses.usable
          (λ ha hb is. e.kept (e.later.a.honesty.1 ha) (e.later.b.honesty.1 hb) is));
    }

pub returns-in-Err-clause-handled : goal.returns-in-Err-clause-handled
returns-in-Err-clause-handled g c =
    let e = c.in-Err.ensures in
    let f = e.events in
    let rest = c.in-Err.refused.rest.items in
    let all : c.len-count.result ≡ length c.args.events.items = search rules in
    let left : c.len.result ≡ length rest = search rules in
    let parts = ap length f.parted in
    let many : c.len-count.result - c.len.result ≡ length f.front = omega (arith, all, left, parts, length-append f.front rest) in
    record {
      front = f.front;
      replies = refusals (length f.front) c.in-Err.refused.error;
      parted = f.parted;
      some = f.some c.requires.some;
      added = c.refuse_each.ensures.items ∙ ap (λ (n : ℕ). c.args.answers.now.items ++ refusals n c.in-Err.refused.error) many;
      so_far = refused_group g.D.Disk.honest g.D.Disk.history c.args.self.now c.turn_group.new.self c.args.events.items rest c.requires.some
          c.is_broken-broken.ensures.kept e.kept e.any_moment e.later.a.done e.later.b.done e.later.a.honesty e.later.b.honesty
          c.in-Err.refused.error f e.refuses e.file;
    }
