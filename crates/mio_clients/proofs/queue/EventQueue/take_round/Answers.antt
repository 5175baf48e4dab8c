use Rattle.std.proofs.Common.{◌≡◌, ◌-◌, [], ◌∷◌, ◌∙◌, sym, ap, length, length-append, arith}
use Rattle.mio_clients.specs.Events.{asked_in}
use Rattle.mio_clients.proofs.RoundLaws.{one_behind, one_more}
use Rattle.mio_clients.proofs.queue.EventQueue.take_round.Goals as goal

pub loop-left-preserved-then-is_due : goal.loop-left-preserved-then-is_due
loop-left-preserved-then-is_due c =
    let es = c.loop-left.self-inside.events.items in
    let rest = c.pop_front.new.self.items in
    let front : es ≡ c.in-Some.event ∷ rest = c.in-Some.ensures.items in
    let long = ap length front in
    let inv = c.loop-left.invariant in
    record {
      taken = λ k. one_more k c.loop-left.left (c.loop-left.left - 1) (asked_in k c.self.inside.events.items) c.in-Some.event es rest
          c.loop-left.round.items (omega (arith, c.loop-left-test.true)) front c.push_back_reserved.new.self.items
          (sym c.is_due.ensures ∙ c.if-is_due.true) c.push_back_reserved.ensures.items (inv.taken k);
      within = omega (arith, inv.within, long, c.loop-left-test.true);
      same = inv.same;
      whole = omega (arith, inv.whole, c.push_back_reserved.ensures.len, c.in-Some.ensures.cases);
      capacity = c.in-Some.ensures.capacity ∙ inv.capacity;
      room = omega (arith, inv.room, c.push_back_reserved.ensures.capacity);
      places = omega (arith, inv.places, c.in-Some.ensures.cases, c.in-Some.ensures.capacity);
    }

pub loop-left-preserved : goal.loop-left-preserved
loop-left-preserved c =
    let es = c.loop-left.self-inside.events.items in
    let rest = c.pop_front.new.self.items in
    let front : es ≡ c.in-Some.event ∷ rest = c.in-Some.ensures.items in
    let long = ap length front in
    let last = ap length c.push_back_reserved-else-is_due.ensures.items in
    let more = length-append rest (c.in-Some.event ∷ []) in
    let inv = c.loop-left.invariant in
    record {
      taken = λ k. one_behind k c.loop-left.left (c.loop-left.left - 1) (asked_in k c.self.inside.events.items) c.in-Some.event es rest
          c.loop-left.round.items (omega (arith, c.loop-left-test.true)) front c.push_back_reserved-else-is_due.new.self.items
          (sym c.is_due.ensures ∙ c.if-is_due.false) (omega (arith, inv.within, long, c.loop-left-test.true))
          c.push_back_reserved-else-is_due.ensures.items (inv.taken k);
      within = omega (arith, inv.within, long, last, more, c.loop-left-test.true);
      same = inv.same;
      whole = omega (arith, inv.whole, c.push_back_reserved-else-is_due.ensures.len, c.in-Some.ensures.cases);
      capacity = c.push_back_reserved-else-is_due.ensures.capacity ∙ (c.in-Some.ensures.capacity ∙ inv.capacity);
      room = inv.room;
      places = omega (
        arith,
        inv.places,
        c.in-Some.ensures.cases,
        c.in-Some.ensures.capacity,
        c.push_back_reserved-else-is_due.ensures.len,
        c.push_back_reserved-else-is_due.ensures.capacity,
      );
    }
