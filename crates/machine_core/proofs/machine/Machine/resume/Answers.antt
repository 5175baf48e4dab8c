use Rattle.std.proofs.Common.{ℕ, refl, sym, ap, ◌∙◌}
use Rattle.play_queue.specs.Queue.{QueueState}
use Rattle.player_core.specs.declared.options.Options.{Options}
use Rattle.player_core.specs.declared.seek.SongLength.{SongLength}
use Rattle.player_core.specs.declared.selector.Selector.TheVariants.{Id}
use Rattle.machine_core.specs.Held.{held}
use Rattle.machine_core.specs.State.{MachineState}
use Rattle.machine_core.specs.Steps.{named_length}
use Rattle.machine_core.proofs.KeptSteps.{begun_already, first_ticket, no_place_kept, player_resumed, resumed_so}
use Rattle.machine_core.proofs.machine.Machine.resume.Goals as goal

pub returns-then-ticket-ne0-clause-ok : goal.returns-then-ticket-ne0-clause-ok
returns-then-ticket-ne0-clause-ok c =
    begun_already c.args.plays c.args.self.now (held c.self.inside) c.ticket.result c.nothing.result c.self.view_is c.ticket.ensures
    c.if-ticket-ne0.true c.nothing.ensures.ops c.nothing.ensures.changed

pub returns-in_default-clause-ok : goal.returns-in_default-clause-ok
returns-in_default-clause-ok c =
    no_place_kept c.args.plays c.args.self.now (held c.self.inside) c.ticket.result c.nothing-in_default.result c.self.view_is
    c.ticket.ensures c.if-ticket-ne0.false c.in_default.ensures c.nothing-in_default.ensures.ops c.nothing-in_default.ensures.changed

pub returns-clause-ok : goal.returns-clause-ok
returns-clause-ok c =
    let m = c.args.self.now in
    let k = held c.self.inside in
    player_resumed c.args.plays m _ c.in-Some.place.now _ c.before-before.result _
    (first_ticket m k c.ticket.result c.self.view_is c.ticket.ensures c.if-ticket-ne0.false)
    (ap (λ (x : MachineState). x.saved.place) (sym c.self.view_is) ∙ sym c.in-Some.ensures) c.before-before.ensures.kept
    (resumed_so c.args.plays m k c.in-Some.place.now c.in_ok-self-inside.field-0 c.options-random.result.random c.named_length-frames.result.frames
    c.entries-entries.result.now c.self.view_is (ap (λ (o : Options). o.random) c.options-random.ensures)
    (ap (λ (l : SongLength). l.frames) (c.named_length-frames.ensures ∙ ap (λ (id : ℕ). named_length (Id id) m) c.song.ensures))
    (c.entries-entries.ensures.entries ∙ ap (λ (q : QueueState). q.entries) c.queue.ensures) c.in_ok-self-inside.ensures)
    c.new.ensures.items refl c.before-before.ensures.value c.changed_since-changed.ensures
