use Rattle.std.proofs.Common.{◌≡◌, ◌∷◌, ◌++◌, [], List, ◌∙◌, ap, subst, length, rules, arith}
use Rattle.std.specs.Vec.Iter.{into_iter_items}
use Rattle.daemon_core.specs.declared.outcome.Output.{Output}
use Rattle.live_stage.specs.Answer.{Answer}
use Rattle.stage_workers.specs.declared.served.Served.{Served as ServedEvent}
use Rattle.mio_clients.specs.declared.part.Part.{Part}
use Rattle.mio_clients.specs.declared.part.Part.TheVariants.{Served}
use Rattle.mio_clients.specs.Grouping.{parts_of}
use Rattle.mio_clients.specs.Later.{no_requests}
use Rattle.mio_clients.specs.Leaving.{AllFollow}
use Rattle.mio_clients.specs.Parts.{bytes_in}
use Rattle.mio_clients.proofs.GroupLaws.{parts_first, queued_first, queued_none}
use Rattle.mio_clients.proofs.clients.Clients.queue_group.Goals as goal

pub loop-turn-preserved : goal.loop-turn-preserved
loop-turn-preserved g c =
    let rem = g.S.Stream.remaining in
    let con = g.S.Stream.contents in
    let s : ServedEvent g.row.D.Denot = record { before = c.loop-turn.before; turn = c.in-Some.turn } in
    let items : List Answer = into_iter_items c.loop-turn.turn-iterator in
    let rest : List Answer = into_iter_items c.next.new.self in
    let steps : items ≡ c.in-Some.turn ∷ rest = c.in-Some.ensures.steps.0 in
    let empty = c.empty-before.ensures in
    record {
      parts = ap (λ (ps : List (Part g.row.D.Denot)). ps ++ parts_of c.empty-before.result rest) c.push_reserved.ensures.items
          ∙ (ap (λ (b : List (List Output)). (c.loop-turn.parts.items ++ Served s ∷ []) ++ parts_of b rest) empty
          ∙ (parts_first c.loop-turn.parts.items s items rest steps ∙ c.loop-turn.invariant.parts));
      later = λ d h. c.loop-turn.invariant.later d (queued_first rem con c.loop-turn.self c.give_served.new.self d s items rest steps
          c.give_served.ensures.later
          (subst (λ (b : List (List Output)). AllFollow rem con (bytes_in (parts_of {D = g.row.D.Denot} b rest)) no_requests
          c.give_served.new.self d) empty h));
      quiet = λ waits n h. c.give_served.ensures.quiet waits n (c.loop-turn.invariant.quiet waits n h);
      room = (let one = ap length steps in omega (arith, c.loop-turn.invariant.room, c.push_reserved.ensures.len, c.push_reserved.ensures.capacity, one));
    }

pub returns-clause-later : goal.returns-clause-later
returns-clause-later g c =
    let rem = g.S.Stream.remaining in
    let con = g.S.Stream.contents in
    let none : length (into_iter_items c.loop-turn.turn-iterator) ≡ 0 = search rules in
    let gives : into_iter_items c.into_iter-turn-iterator.result ≡ c.args.turns.items = search rules in
    subst (λ (l : List Answer). AllFollow rem con (bytes_in (parts_of {D = g.row.D.Denot} c.args.before l)) no_requests c.args.self.now
    c.loop-turn.self) gives
    (c.loop-turn.invariant.later c.loop-turn.self
    (queued_none rem con g.row.D.Denot c.loop-turn.self c.loop-turn.before (into_iter_items c.loop-turn.turn-iterator) none))
