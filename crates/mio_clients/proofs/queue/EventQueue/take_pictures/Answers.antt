use Rattle.std.proofs.Common.{◌≡◌, ◌-◌, ◌≤◌, [], ◌∷◌, inr, rules, refl, length, ap, arith}
use Rattle.mio_clients.specs.Events.{asked_in}
use Rattle.mio_clients.proofs.SeekLaws.{looked_on}
use Rattle.mio_clients.proofs.queue.EventQueue.take_pictures.Goals as goal

pub loop-left-preserved : goal.loop-left-preserved
loop-left-preserved c =
    let es = c.loop-left.self-inside.events.items in
    let rest = c.pop_front.new.self.items in
    let front : es ≡ c.in-Some.event ∷ rest = c.in-Some.ensures.items in
    let long = ap length front in
    let inv = c.loop-left.invariant in
    let within : c.loop-left.left - 1 ≤ length rest = omega (arith, inv.within, long, c.loop-left-test.true) in
    record {
      whole = λ k. looked_on k c.loop-left.left (c.loop-left.left - 1) c.in-Some.event _ es rest c.push_back_reserved.new.self.items []
          (asked_in k c.self.inside.events.items) (omega (arith, c.loop-left-test.true)) front within c.push_back_reserved.ensures.items
          (cc) (inr refl) (inv.whole k);
      within = search rules;
      same = inv.same;
      few = search rules;
      room = search rules;
    }
