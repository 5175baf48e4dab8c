use Rattle.std.proofs.Common.{◌≡◌, ◌∙◌, ap, length, rules, arith, vec_len}
use Rattle.slab.specs.Slab.{slab_len}
use Rattle.mio_clients.specs.Connections.{ConnectionsState}
use Rattle.mio_clients.specs.Grouping.{asked_of_all}
use Rattle.mio_clients.proofs.GroupLaws.{asked_none_more, group_few, room_more, takes_begin, takes_more_as}
use Rattle.mio_clients.proofs.clients.Clients.take_group.Goals as goal

pub loop-self-init : goal.loop-self-init
loop-self-init g c =
    let none : vec_len c.args.events.now ≡ 0 = search rules in
    let no_ids : vec_len c.args.clients.now ≡ 0 = search rules in
    let no_askers : vec_len c.args.askers.now ≡ 0 = search rules in
    record {
      takes = takes_begin c.args.self.now c.args.events.now.items c.args.clients.now.items c.requires.empty.0 c.requires.empty.1;
      few = omega (arith, none);
      same = omega (arith, none, no_ids);
      more = (let few = group_few c.requires.count.0.0 c.args.self.now.events in omega (arith, few, c.requires.count.0.1));
      known = λ n later. ap (asked_of_all n) c.requires.empty.0;
      room = λ some. absurd (omega (arith, some, none));
      places = c.requires.room;
      askers = (omega (arith, none, no_askers), c.requires.askers.1);
    }

pub loop-self-preserved : goal.loop-self-preserved
loop-self-preserved g c =
    let now : ConnectionsState g.row.S.Denot = c.loop-self.self in
    let next : ConnectionsState g.row.S.Denot = c.pop.new.self in
    let same = c.in-Some.ensures.same in
    let last = ap (λ (t : ConnectionsState g.row.S.Denot). t.last_id) same in
    let slots = ap (λ (t : ConnectionsState g.row.S.Denot). slab_len t.clients) same in
    let left = ap length c.in-Some.ensures.event in
    let long = c.push_reserved.ensures.len in
    let room = room_more (vec_len c.loop-self.events) (slab_len next.clients) now.room next.room
    (λ some. (let most = c.loop-self.invariant.room some in omega (arith, most, slots))) c.in-Some.ensures.room c.in-Some.ensures.grows in
    record {
      takes = takes_more_as c.args.self.now now next c.loop-self.events.items c.push_reserved.new.self.items c.loop-self.clients.items
          c.push_reserved-in-loop-self.new.self.items c.in-Some.event c.handed_over-client.result.1 c.handed_over-client.result.0
          c.loop-self.invariant.takes same c.in-Some.ensures.event c.handed_over-client.ensures.asked c.handed_over-client.ensures.client
          c.push_reserved.ensures.items c.push_reserved-in-loop-self.ensures.items;
      few = omega (arith, c.loop-self-test.true, c.len.ensures, long);
      same = omega (arith, c.loop-self.invariant.same, long, c.push_reserved-in-loop-self.ensures.len);
      more = omega (arith, c.loop-self.invariant.more, long, left);
      known = λ n later. asked_none_more n c.loop-self.events.items c.push_reserved.new.self.items c.handed_over-client.result.1
          c.push_reserved.ensures.items (c.loop-self.invariant.known n (omega (arith, later, last)))
          (c.handed_over-client.ensures.asked n ∙ c.in-Some.ensures.known n later);
      room = λ some. omega (arith, room, long);
      places = (
        omega (arith, c.loop-self.invariant.places.0, c.push_reserved.ensures.capacity),
        omega (arith, c.loop-self.invariant.places.1, c.push_reserved-in-loop-self.ensures.capacity),
      );
      askers = (
        omega (arith, c.loop-self.invariant.askers.0, long, c.push_reserved-in-loop-self-2.ensures.len),
        omega (arith, c.loop-self.invariant.askers.1, c.push_reserved-in-loop-self-2.ensures.capacity),
      );
    }

pub returns : goal.returns
returns g c =
    let whole : vec_len c.loop-self.events ≡ c.args.count = omega (arith, c.loop-self-test.false, c.len.ensures, c.loop-self.invariant.few) in
    let of_clients : vec_len c.loop-self.clients ≡ c.args.count = omega (arith, whole, c.loop-self.invariant.same) in
    let long : length c.loop-self.events.items ≡ c.args.count = search rules in
    let many : length c.loop-self.clients.items ≡ c.args.count = search rules in
    let room = c.loop-self.invariant.room (omega (arith, whole, c.requires.count.1)) in
    record {
      takes = c.loop-self.invariant.takes;
      count = (long, many);
      known = c.loop-self.invariant.known;
      room = omega (arith, room, whole);
    }
