use Rattle.std.proofs.Common.{◌≡◌, ℕ, ◌<◌, ◌∙◌, true, false, min, List, Bool, Option, sym, subst, ap, is_some, length, length-append, drop, rules, arith, vec_len, vec_capacity}
use Rattle.std.specs.Prelude.{IfSome}
use Rattle.live_stage.specs.Numbers.{greatest}
use Rattle.mio_clients.specs.Grouping.{TakesMany}
use Rattle.mio_clients.specs.Connections.{ConnectionsState}
use Rattle.mio_clients.specs.Parts.{looks_in, Serves}
use Rattle.mio_clients.specs.Waiting.{QuietBehind}
use Rattle.mio_clients.proofs.TurnLaws.{ends_within, looks_more, quiet_within, serves_none, serves_twice, serves_as}
use Rattle.mio_clients.proofs.clients.Clients.serve_each.Goals as goal

pub left-init : goal.left-init
left-init g c = record {
  serves = serves_none g.S.Stream.remaining g.S.Stream.contents c.args.self.now c.args.parts.now.items c.args.pass;
  quiet = subst (λ (t : Bool). QuietBehind t c.servable-left.result c.args.self.now.events) c.is_some-is_bounded.ensures c.servable-left.ensures;
  room = c.requires.room;
  looks = c.looks_in-looks.ensures ∙ ap (λ l. min (looks_in l) greatest) c.as_slice.ensures.value;
  bounded = λ h. h;
}

pub returns-in_default-clause-serves : goal.returns-in_default-clause-serves
returns-in_default-clause-serves g c =
    serves_twice g.S.Stream.remaining g.S.Stream.contents false c.args.self.now c.left.self c.serve_some-served.new.self
    c.args.parts.now.items c.left.parts.items c.serve_some-served.new.parts.items c.args.pass c.left.pass
    c.serve_some-served.result.1 c.left.invariant.serves
    (serves_as g.S.Stream.remaining g.S.Stream.contents (is_some c.serve_some-served.result.0) false c.left.self
    c.serve_some-served.new.self c.left.parts.items c.serve_some-served.new.parts.items c.left.pass
    c.serve_some-served.result.1 (ap is_some c.in_default.is) c.serve_some-served.ensures.serves)

pub returns-in_default-clause-bounded : goal.returns-in_default-clause-bounded
returns-in_default-clause-bounded g c =
    λ _.
    ends_within c.args.bound c.left.looks (looks_in c.left.parts.items) (looks_in c.serve_some-served.new.parts.items)
    (c.serves_more.ensures.0 c.left-test.true).1 c.left.invariant.looks c.serve_some-served.ensures.looks

pub returns-clause-quiet : goal.returns-clause-quiet
returns-clause-quiet g c =
    λ _ within.
    quiet_within (is_some c.args.bound) c.left.left c.left.looks (looks_in c.left.parts.items) c.args.bound c.serves_more.result c.left.self.events
    c.serves_more.ensures.1 c.left-test.false c.left.invariant.looks within c.left.invariant.quiet

pub left-preserved : goal.left-preserved
left-preserved g c =
    let takes : TakesMany c.in-Some.count c.left.self.events c.serve_some-served.new.self.events =
    subst (λ (o : Option ℕ). IfSome o (λ n. TakesMany n c.left.self.events c.serve_some-served.new.self.events)) c.in-Some.is
    c.serve_some-served.ensures.quiet in
    let room : vec_len c.serve_some-served.new.parts < vec_capacity c.serve_some-served.new.parts =
    subst (λ (o : Option ℕ). IfSome o (λ _. vec_len c.serve_some-served.new.parts < vec_capacity c.serve_some-served.new.parts)) c.in-Some.is
    c.serve_some-served.ensures.room in
    let serves = serves_as g.S.Stream.remaining g.S.Stream.contents (is_some c.serve_some-served.result.0) true c.left.self
    c.serve_some-served.new.self c.left.parts.items c.serve_some-served.new.parts.items c.left.pass
    c.serve_some-served.result.1 (ap is_some c.in-Some.is) c.serve_some-served.ensures.serves in
    let from : c.len-from.result ≡ length c.left.parts.items = search rules in
    let same : c.bound_group.new.self ≡ c.serve_some-served.new.self = c.bound_group.ensures in
    record {
      serves = subst (λ (s : ConnectionsState g.row.S.Denot). Serves g.S.Stream.remaining g.S.Stream.contents true c.args.self.now s
          c.args.parts.now.items c.serve_some-served.new.parts.items c.args.pass c.serve_some-served.result.1) (sym same)
          (serves_twice g.S.Stream.remaining g.S.Stream.contents true c.args.self.now c.left.self c.serve_some-served.new.self
          c.args.parts.now.items c.left.parts.items c.serve_some-served.new.parts.items c.args.pass c.left.pass
          c.serve_some-served.result.1 c.left.invariant.serves serves);
      quiet = subst (λ (s : ConnectionsState g.row.S.Denot). QuietBehind (is_some c.args.bound) c.still_servable-left.result s.events) (sym same)
          (subst (λ (t : Bool). QuietBehind t c.still_servable-left.result c.serve_some-served.new.self.events) c.is_some-is_bounded.ensures
          (c.still_servable-left.ensures.quiet (subst (λ (t : Bool). QuietBehind t c.saturating_sub-most.result c.serve_some-served.new.self.events)
          (sym c.is_some-is_bounded.ensures)
          (subst (λ (n : ℕ). QuietBehind (is_some c.args.bound) n c.serve_some-served.new.self.events) (sym c.saturating_sub-most.ensures)
          (takes (is_some c.args.bound) c.left.left (c.serves_more.ensures.0 c.left-test.true).0 c.left.invariant.quiet)))));
      room = room;
      looks = looks_more c.left.parts.items c.serve_some-served.new.parts.items serves.added c.split_at.result.1.now c.left.looks
          c.looks_in-looked.result c.saturating_add-looks.result c.len-from.result serves.parts from
          (c.split_at.ensures.back ∙ ap (λ l. drop c.len-from.result l) c.as_slice-in-left.ensures.value) c.left.invariant.looks
          c.looks_in-looked.ensures c.saturating_add-looks.ensures;
      bounded = λ _. ends_within c.args.bound c.left.looks (looks_in c.left.parts.items) (looks_in c.serve_some-served.new.parts.items)
          (c.serves_more.ensures.0 c.left-test.true).1 c.left.invariant.looks c.serve_some-served.ensures.looks;
    }

pub split_at-requires : goal.split_at-requires
split_at-requires g c =
    let s = c.serve_some-served.ensures.serves in
    let long = ap length s.parts in
    let more = length-append c.left.parts.items s.added in
    let from : c.len-from.result ≡ length c.left.parts.items = search rules in
    let all = ap length c.as_slice-in-left.ensures.value in
    omega (arith, long, more, from, all)
