use Rattle.std.proofs.Common.{◌≡◌, ◌-◌, ◌++◌, ℕ, [], List, length, take, drop, sym, ap, refl, ◌∙◌, append_assoc, rules, arith}
use Rattle.daemon_core.specs.declared.event.Event.{Event}
use Rattle.live_stage.specs.Group.{asked_by}
use Rattle.mio_clients.proofs.GroupLaws.{answered_group, asked_by_len, asked_none_behind, group_quiet, looks_grouped, parted_len, parted_lost, quiet_as, refused_group}
use Rattle.mio_clients.proofs.GroupLaws.{some_len, some_of}
use Rattle.mio_clients.proofs.TurnLaws.{looks_nothing, looks_refused, serves_nothing, serves_refusal}
use Rattle.mio_clients.proofs.clients.Clients.serve_group.Goals as goal

pub put_back_all-requires-clause-known : goal.put_back_all-requires-clause-known
put_back_all-requires-clause-known g c =
    let all = c.take_group.new.events.items in
    let parts = parted_lost all c.in-Ok.group.turns.items c.in-Ok.group.is_refused c.in-Ok.group.rest.items c.in-Ok.ensures.asked in
    let front : List Event = asked_by c.in-Ok.group.turns.items in
    λ n later. asked_none_behind n all (front ++ parts.0) c.in-Ok.group.rest.items
    (parts.1 ∙ sym (append_assoc front parts.0 c.in-Ok.group.rest.items)) (c.take_group.ensures.known n later)

pub put_back_all-requires-clause-room : goal.put_back_all-requires-clause-room
put_back_all-requires-clause-room g c =
    let all = c.take_group.new.events.items in
    let parts = parted_lost all c.in-Ok.group.turns.items c.in-Ok.group.is_refused c.in-Ok.group.rest.items c.in-Ok.ensures.asked in
    let long = parted_len all (asked_by c.in-Ok.group.turns.items) parts.0 c.in-Ok.group.rest.items parts.1 in
    omega (arith, c.take_group.ensures.room, c.take_group.ensures.count.0, long)

pub queue_group-requires : goal.queue_group-requires
queue_group-requires g c =
    let all = c.take_group.new.events.items in
    let parts = parted_lost all c.in-Ok.group.turns.items c.in-Ok.group.is_refused c.in-Ok.group.rest.items c.in-Ok.ensures.asked in
    let long = parted_len all (asked_by c.in-Ok.group.turns.items) parts.0 c.in-Ok.group.rest.items parts.1 in
    let asked = asked_by_len c.in-Ok.group.turns.items in
    record { room = omega (arith, c.requires.parts, c.take_group.ensures.count.0, long, asked) }

pub split_at-requires-in-Ok : goal.split_at-requires-in-Ok
split_at-requires-in-Ok g c =
    let all = c.take_group.new.events.items in
    let rest = c.in-Ok.group.rest.items in
    let turns = c.in-Ok.group.turns.items in
    let parts = parted_lost all turns c.in-Ok.group.is_refused rest c.in-Ok.ensures.asked in
    let long = parted_len all (asked_by turns) parts.0 rest parts.1 in
    let asked = asked_by_len turns in
    let first : c.len-answered.result ≡ length turns = search rules in
    let left : c.len.result ≡ length rest = search rules in
    omega (arith, long, asked, first, left, c.take_group.ensures.count.0, c.split_at.ensures.front_len)

pub returns-in-Ok-clause-serves : goal.returns-in-Ok-clause-serves
returns-in-Ok-clause-serves g c =
    let all = c.take_group.new.events.items in
    let rest = c.in-Ok.group.rest.items in
    let turns = c.in-Ok.group.turns.items in
    let parts = parted_lost all turns c.in-Ok.group.is_refused rest c.in-Ok.ensures.asked in
    let first : c.len-answered.result ≡ length turns = search rules in
    let left : c.len.result ≡ length rest = search rules in
    answered_group g.S.Stream.remaining g.S.Stream.contents c.args.self.now c.take_group.new.self c.put_back_all.new.self
    c.queue_group.new.self c.send_given.new.self c.drop_each.new.self all rest parts.0 c.take_group.new.clients.items
    c.split_at-in-Ok.result.1.now c.len-answered.result (c.args.count - c.len.result) c.in-Ok.group.before turns c.args.parts.now.items
    c.queue_group.new.parts.items c.args.pass c.in-Ok.pass c.take_group.ensures.takes c.put_back_all.ensures parts.1 first
    (omega (arith, left, c.take_group.ensures.count.0))
    (c.split_at-in-Ok.ensures.back ∙ ap (λ (l : List ℕ). drop c.len-answered.result l)
    (c.split_at.ensures.front ∙ ap (λ (l : List ℕ). take (c.args.count - c.len.result) l) c.as_slice-asked.ensures.value))
    c.drop_each.ensures.gone c.queue_group.ensures.later c.send_given.ensures.later c.drop_each.ensures.later c.queue_group.ensures.parts
    c.in-Ok.ensures.passed c.in-Ok.ensures.later

pub returns-in-Ok-clause-some : goal.returns-in-Ok-clause-some
returns-in-Ok-clause-some g c =
    let all = c.take_group.new.events.items in
    let rest = c.in-Ok.group.rest.items in
    let turns = c.in-Ok.group.turns.items in
    let parts = parted_lost all turns c.in-Ok.group.is_refused rest c.in-Ok.ensures.asked in
    let long = parted_len all (asked_by turns) parts.0 rest parts.1 in
    let asked = asked_by_len turns in
    let left : c.len.result ≡ length rest = search rules in
    let some = some_len turns (c.in-Ok.ensures.some (some_of all (omega (arith, c.take_group.ensures.count.0, c.requires.count.1)))) in
    omega (arith, some, long, asked, left, c.take_group.ensures.count.0)

pub returns-in-Ok-clause-quiet : goal.returns-in-Ok-clause-quiet
returns-in-Ok-clause-quiet g c =
    let all = c.take_group.new.events.items in
    let rest = c.in-Ok.group.rest.items in
    let parts = parted_lost all c.in-Ok.group.turns.items c.in-Ok.group.is_refused rest c.in-Ok.ensures.asked in
    let long = parted_len all (asked_by c.in-Ok.group.turns.items) parts.0 rest parts.1 in
    let left : c.len.result ≡ length rest = search rules in
    let many = c.take_group.ensures.count.0 in
    λ waits n some h.
    let k : ℕ = n - (c.args.count - c.len.result) in
    c.drop_each.ensures.quiet waits k (c.send_given.ensures.quiet waits k (c.queue_group.ensures.quiet waits k
    (quiet_as waits (n - (length all - length rest)) k c.put_back_all.new.self.events (omega (arith, many, left))
    (group_quiet c.requires.count.0.0 c.args.self.now c.take_group.new.self c.put_back_all.new.self all rest c.take_group.new.clients.items
    c.take_group.ensures.takes c.put_back_all.ensures (many ∙ c.requires.count.0.1) (omega (arith, long)) waits n h))))

pub put_back_all-requires-in-Err-clause-known : goal.put_back_all-requires-in-Err-clause-known
put_back_all-requires-in-Err-clause-known g c =
    λ n later. asked_none_behind n c.take_group.new.events.items c.in-Err.ensures.front.front c.in-Err.rest.items c.in-Err.ensures.front.parted
    (c.take_group.ensures.known n later)

pub put_back_all-requires-in-Err-clause-room : goal.put_back_all-requires-in-Err-clause-room
put_back_all-requires-in-Err-clause-room g c =
    let long = parted_len c.take_group.new.events.items [] c.in-Err.ensures.front.front c.in-Err.rest.items c.in-Err.ensures.front.parted in
    omega (arith, c.take_group.ensures.room, c.take_group.ensures.count.0, long)

pub returns-then-goes_on_behind-clause-serves : goal.returns-then-goes_on_behind-clause-serves
returns-then-goes_on_behind-clause-serves g c =
    let all = c.take_group.new.events.items in
    let rest = c.in-Err.rest.items in
    let left : c.len-in-Err.result ≡ length rest = search rules in
    serves_nothing g.S.Stream.remaining g.S.Stream.contents c.args.self.now c.drop_each-in-Err.new.self c.args.parts.now.items
    c.args.parts.now.items c.args.pass c.in-Err.pass
    (refused_group g.S.Stream.remaining g.S.Stream.contents c.args.self.now c.take_group.new.self c.put_back_all-in-Err.new.self
    c.drop_each-in-Err.new.self all rest c.in-Err.ensures.front.front c.take_group.new.clients.items c.split_at-in-Err.result.0.now
    (c.args.count - c.len-in-Err.result) c.take_group.ensures.takes c.put_back_all-in-Err.ensures c.in-Err.ensures.front.parted
    (omega (arith, left, c.take_group.ensures.count.0))
    (c.split_at-in-Err.ensures.front
    ∙ ap (λ (l : List ℕ). take (c.args.count - c.len-in-Err.result) l) c.as_slice.ensures.value)
    c.drop_each-in-Err.ensures.gone c.drop_each-in-Err.ensures.later) refl c.in-Err.ensures.refused

pub returns-then-goes_on_behind-clause-some : goal.returns-then-goes_on_behind-clause-some
returns-then-goes_on_behind-clause-some g c =
    let all = c.take_group.new.events.items in
    let rest = c.in-Err.rest.items in
    let front = c.in-Err.ensures.front.front in
    let left : c.len-in-Err.result ≡ length rest = search rules in
    let long = parted_len all [] front rest c.in-Err.ensures.front.parted in
    let some = some_len front (c.in-Err.ensures.front.some (some_of all (omega (arith, c.take_group.ensures.count.0, c.requires.count.1)))) in
    omega (arith, some, long, left, c.take_group.ensures.count.0)

pub returns-then-goes_on_behind-clause-quiet : goal.returns-then-goes_on_behind-clause-quiet
returns-then-goes_on_behind-clause-quiet g c =
    let all = c.take_group.new.events.items in
    let rest = c.in-Err.rest.items in
    let long = parted_len all [] c.in-Err.ensures.front.front rest c.in-Err.ensures.front.parted in
    let left : c.len-in-Err.result ≡ length rest = search rules in
    let many = c.take_group.ensures.count.0 in
    λ waits n some h.
    let k : ℕ = n - (c.args.count - c.len-in-Err.result) in
    c.drop_each-in-Err.ensures.quiet waits k
    (quiet_as waits (n - (length all - length rest)) k c.put_back_all-in-Err.new.self.events (omega (arith, many, left))
    (group_quiet c.requires.count.0.0 c.args.self.now c.take_group.new.self c.put_back_all-in-Err.new.self all rest c.take_group.new.clients.items
    c.take_group.ensures.takes c.put_back_all-in-Err.ensures (many ∙ c.requires.count.0.1) (omega (arith, long)) waits n h))

pub returns-clause-serves : goal.returns-clause-serves
returns-clause-serves g c =
    let all = c.take_group.new.events.items in
    let rest = c.in-Err.rest.items in
    let left : c.len-in-Err.result ≡ length rest = search rules in
    serves_refusal g.S.Stream.remaining g.S.Stream.contents c.args.self.now c.drop_each-in-Err.new.self c.in-Err.error c.args.parts.now.items
    c.push_reserved.new.self.items c.args.pass c.in-Err.pass
    (refused_group g.S.Stream.remaining g.S.Stream.contents c.args.self.now c.take_group.new.self c.put_back_all-in-Err.new.self
    c.drop_each-in-Err.new.self all rest c.in-Err.ensures.front.front c.take_group.new.clients.items c.split_at-in-Err.result.0.now
    (c.args.count - c.len-in-Err.result) c.take_group.ensures.takes c.put_back_all-in-Err.ensures c.in-Err.ensures.front.parted
    (omega (arith, left, c.take_group.ensures.count.0))
    (c.split_at-in-Err.ensures.front
    ∙ ap (λ (l : List ℕ). take (c.args.count - c.len-in-Err.result) l) c.as_slice.ensures.value)
    c.drop_each-in-Err.ensures.gone c.drop_each-in-Err.ensures.later) c.push_reserved.ensures.items c.in-Err.ensures.refused

pub returns-in-Ok-clause-looks : goal.returns-in-Ok-clause-looks
returns-in-Ok-clause-looks g c =
    looks_grouped c.args.parts.now.items c.queue_group.new.parts.items c.in-Ok.group.before c.in-Ok.group.turns.items
    c.queue_group.ensures.parts c.in-Ok.ensures.looks

pub returns-then-goes_on_behind-clause-looks : goal.returns-then-goes_on_behind-clause-looks
returns-then-goes_on_behind-clause-looks g c = looks_nothing c.args.parts.now.items c.args.parts.now.items refl

pub returns-clause-looks : goal.returns-clause-looks
returns-clause-looks g c = looks_refused c.args.parts.now.items c.push_reserved.new.self.items c.in-Err.error c.push_reserved.ensures.items
