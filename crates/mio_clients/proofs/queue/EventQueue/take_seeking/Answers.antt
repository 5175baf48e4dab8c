use Rattle.std.proofs.Common.{◌≡◌, ◌⊎◌, inl, ℕ, ◌+◌, ◌-◌, ◌≤◌, List, [], ◌∷◌, ◌++◌, refl, sym, subst, ◌∙◌, ap, length, length-append, arith}
use Rattle.std.specs.List.{AllByRecursion}
use Rattle.mio_clients.specs.declared.event.ClientEvent.{ClientEvent}
use Rattle.mio_clients.specs.declared.event.ClientEvent.TheVariants as events
use Rattle.mio_clients.specs.Connections.{QueueState}
use Rattle.mio_clients.specs.Events.{asked_by_event, asked_in, AsksNothing}
use Rattle.mio_clients.specs.Seeking.{is_held, IsSeeking}
use Rattle.mio_clients.proofs.SeekLaws.{all_last, held_more, led_more, looked_on, looked_out, looked_told, of_it, quiet_asks_none}
use Rattle.mio_clients.proofs.SeekLaws.{quiet_unsought, served_from, served_on, served_told, told_long}
use Rattle.mio_clients.proofs.queue.EventQueue.take_seeking.Goals as goal

pub loop-left-preserved-in-Nothing : goal.loop-left-preserved-in-Nothing
loop-left-preserved-in-Nothing c =
    let e = c.in-Some.event in
    let es = c.loop-left.self.events in
    let rest = c.pop_front.new.self.items in
    let behind = c.loop-left.behind.items in
    let inv = c.loop-left.invariant in
    let opened = c.self-in-loop-left.view_is in
    let front : es ≡ e ∷ rest = subst (λ (q : QueueState). q.events ≡ e ∷ rest) opened c.in-Some.ensures.items in
    let long = ap length front in
    let within : c.loop-left.left - 1 ≤ length rest = omega (arith, inv.within, long, c.loop-left-test.true) in
    let spare = ap (λ (q : QueueState). q.spare) opened in
    let room = ap (λ (q : QueueState). q.room) opened in
    let last = c.push_back_reserved.ensures.items in
    let more = ap length last in
    let asks : (k : ℕ) → asked_by_event k (events.Request c.in-Ok.client c.in-Ok.request) ≡ asked_by_event k e = λ k. cc (c.in-Ok.ensures.ok k) in
    let kept = c.in-Nothing.ensures.same (λ h. cc h) in
    record {
      whole = λ k. looked_on k c.loop-left.left (c.loop-left.left - 1) e _ es rest c.push_back_reserved.new.self.items behind
          (asked_in k c.args.self.now.events) (omega (arith, c.loop-left-test.true)) front within last (asks k)
          (of_it k c.in-Ok.client c.in-Ok.request e c.loop-left.held.items behind (asks k) kept.0 (inv.held k)) (inv.whole k);
      held = λ k. ap (λ (l : List ℕ). is_held k l) kept.1 ∙ inv.held k;
      served = served_on c.loop-left.left (c.loop-left.left - 1) e _ es rest c.push_back_reserved.new.self.items
          (omega (arith, c.loop-left-test.true)) front within last tt inv.served;
      seeking = inv.seeking;
      led = inv.led;
      within = omega (arith, within, more, length-append {A = ClientEvent});
      same = spare ∙ inv.same;
      few = omega (arith, inv.few);
      room = inv.room;
      places = omega (
        arith,
        inv.places,
        spare,
        room,
        c.self-in-loop-left.invariant,
        c.in-Some.ensures.cases,
        c.in-Some.ensures.capacity,
        c.push_back_reserved.ensures.len,
        c.push_back_reserved.ensures.capacity,
      );
    }

pub loop-left-preserved-in-Told : goal.loop-left-preserved-in-Told
loop-left-preserved-in-Told c =
    let e = c.in-Some.event in
    let es = c.loop-left.self.events in
    let rest = c.pop_front.new.self.items in
    let behind = c.loop-left.behind.items in
    let inv = c.loop-left.invariant in
    let opened = c.self-in-loop-left.view_is in
    let front : es ≡ e ∷ rest = subst (λ (q : QueueState). q.events ≡ e ∷ rest) opened c.in-Some.ensures.items in
    let long = ap length front in
    let within : c.loop-left.left - 1 ≤ length rest = omega (arith, inv.within, long, c.loop-left-test.true) in
    let spare = ap (λ (q : QueueState). q.spare) opened in
    let room = ap (λ (q : QueueState). q.room) opened in
    let told = c.self-in-Told.inside.events.items in
    let p : ClientEvent = events.Picture c.in-Ok.client c.in-Told.told in
    let says : (told ≡ rest ++ p ∷ []) ⊎ (told ≡ rest) =
    subst (λ (q : QueueState). (q.events ≡ rest ++ p ∷ []) ⊎ (q.events ≡ rest)) (sym c.self-in-Told.view_is) c.tell.ensures.events in
    let longer = told_long p rest told says in
    let spared = ap (λ (q : QueueState). q.spare) c.self-in-Told.view_is in
    let roomy = ap (λ (q : QueueState). q.room) c.self-in-Told.view_is in
    let last = c.push_back_reserved-in-Told.ensures.items in
    let more = ap length last in
    let asks : (k : ℕ) → asked_by_event k (events.Request c.in-Ok.client c.in-Ok.request) ≡ asked_by_event k e = λ k. cc (c.in-Ok.ensures.ok k) in
    let kept = c.in-Told.ensures.same (λ h. cc h) in
    let left = c.tell.ensures.room (omega (
      arith,
      inv.places,
      spare,
      room,
      c.len.ensures,
      c.self-in-loop-left.invariant,
      c.in-Some.ensures.cases,
      c.in-Some.ensures.capacity,
    )) in
    record {
      whole = λ k. looked_told k c.loop-left.left (c.loop-left.left - 1) e _ p es rest told c.push_back_reserved-in-Told.new.self.items behind
          (asked_in k c.args.self.now.events) (omega (arith, c.loop-left-test.true)) front within says last refl (asks k)
          (of_it k c.in-Ok.client c.in-Ok.request e c.loop-left.held.items behind (asks k) kept.0 (inv.held k)) (inv.whole k);
      held = λ k. ap (λ (l : List ℕ). is_held k l) kept.1 ∙ inv.held k;
      served = served_told c.loop-left.left (c.loop-left.left - 1) e _ p es rest told c.push_back_reserved-in-Told.new.self.items
          (omega (arith, c.loop-left-test.true)) front within says last tt tt inv.served;
      seeking = inv.seeking;
      led = inv.led;
      within = omega (arith, within, longer, more, length-append {A = ClientEvent});
      same = spared ∙ c.tell.ensures.spare ∙ spare ∙ inv.same;
      few = omega (arith, inv.few);
      room = inv.room;
      places = omega (
        arith,
        left,
        spared,
        roomy,
        c.len.ensures,
        c.self-in-Told.invariant,
        c.push_back_reserved-in-Told.ensures.len,
        c.push_back_reserved-in-Told.ensures.capacity,
      );
    }

pub loop-left-preserved-in-Waits : goal.loop-left-preserved-in-Waits
loop-left-preserved-in-Waits c =
    let e = c.in-Some.event in
    let es = c.loop-left.self.events in
    let rest = c.pop_front.new.self.items in
    let behind = c.loop-left.behind.items in
    let inv = c.loop-left.invariant in
    let opened = c.self-in-loop-left.view_is in
    let front : es ≡ e ∷ rest = subst (λ (q : QueueState). q.events ≡ e ∷ rest) opened c.in-Some.ensures.items in
    let long = ap length front in
    let within : c.loop-left.left - 1 ≤ length rest = omega (arith, inv.within, long, c.loop-left-test.true) in
    let spare = ap (λ (q : QueueState). q.spare) opened in
    let room = ap (λ (q : QueueState). q.room) opened in
    let put : ClientEvent = events.Seeking c.in-Ok.client c.in-Ok.request in
    let waiting = c.push_back_reserved-in-Waits.new.self.items in
    let last : waiting ≡ behind ++ put ∷ [] = c.push_back_reserved-in-Waits.ensures.items in
    let asks : (k : ℕ) → asked_by_event k (events.Request c.in-Ok.client c.in-Ok.request) ≡ asked_by_event k e = λ k. cc (c.in-Ok.ensures.ok k) in
    record {
      whole = λ k. looked_out k c.loop-left.left (c.loop-left.left - 1) e put es rest behind waiting
          (asked_in k c.args.self.now.events) (omega (arith, c.loop-left-test.true)) front last (asks k) (inv.whole k);
      held = λ k. held_more c.in-Ok.client k c.in-Ok.request c.loop-left.held.items c.sought_by.new.held.items behind waiting
          (c.in-Waits.ensures.waits refl) last inv.held;
      served = served_from c.loop-left.left (c.loop-left.left - 1) e es rest (omega (arith, c.loop-left-test.true)) front inv.served;
      seeking = subst (λ (l : List ClientEvent). AllByRecursion IsSeeking l) (sym last) (all_last IsSeeking behind put inv.seeking tt);
      led = λ k. led_more c.in-Ok.client k c.in-Ok.request c.loop-left.held.items behind waiting last inv.held inv.led
          (c.in-Waits.ensures.asks refl);
      within = within;
      same = spare ∙ inv.same;
      few = omega (arith, inv.few, c.loop-left-test.true, c.push_back_reserved-in-Waits.ensures.len);
      room = omega (arith, inv.room, c.push_back_reserved-in-Waits.ensures.capacity);
      places = omega (
        arith,
        inv.places,
        spare,
        room,
        c.self-in-loop-left.invariant,
        c.in-Some.ensures.cases,
        c.in-Some.ensures.capacity,
        c.push_back_reserved-in-Waits.ensures.len,
      );
    }

pub loop-left-preserved : goal.loop-left-preserved
loop-left-preserved c =
    let e = c.in-Some.event in
    let es = c.loop-left.self.events in
    let rest = c.pop_front.new.self.items in
    let behind = c.loop-left.behind.items in
    let inv = c.loop-left.invariant in
    let opened = c.self-in-loop-left.view_is in
    let front : es ≡ e ∷ rest = subst (λ (q : QueueState). q.events ≡ e ∷ rest) opened c.in-Some.ensures.items in
    let long = ap length front in
    let within : c.loop-left.left - 1 ≤ length rest = omega (arith, inv.within, long, c.loop-left-test.true) in
    let spare = ap (λ (q : QueueState). q.spare) opened in
    let room = ap (λ (q : QueueState). q.room) opened in
    let last = c.push_back_reserved-in-Err.ensures.items in
    let more = ap length last in
    let err = c.in-Err.ensures.err in
    let quiet : AsksNothing e = subst AsksNothing err.0 err.1 in
    record {
      whole = λ k. looked_on k c.loop-left.left (c.loop-left.left - 1) e _ es rest c.push_back_reserved-in-Err.new.self.items behind
          (asked_in k c.args.self.now.events) (omega (arith, c.loop-left-test.true)) front within last (ap (asked_by_event k) err.0)
          (inl (quiet_asks_none e k quiet)) (inv.whole k);
      held = inv.held;
      served = served_on c.loop-left.left (c.loop-left.left - 1) e _ es rest c.push_back_reserved-in-Err.new.self.items
          (omega (arith, c.loop-left-test.true)) front within last (quiet_unsought _ err.1) inv.served;
      seeking = inv.seeking;
      led = inv.led;
      within = omega (arith, within, more, length-append {A = ClientEvent});
      same = spare ∙ inv.same;
      few = omega (arith, inv.few);
      room = inv.room;
      places = omega (
        arith,
        inv.places,
        spare,
        room,
        c.self-in-loop-left.invariant,
        c.in-Some.ensures.cases,
        c.in-Some.ensures.capacity,
        c.push_back_reserved-in-Err.ensures.len,
        c.push_back_reserved-in-Err.ensures.capacity,
      );
    }
