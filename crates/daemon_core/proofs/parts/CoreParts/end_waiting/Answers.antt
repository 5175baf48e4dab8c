use Rattle.std.proofs.Common.{◌≡◌, ℕ, Bool, true, false, List, [], ◌∷◌, None, refl, sym, ap, ◌∙◌, subst, arith}
use Rattle.std.specs.Global.{Vec}
use Rattle.idle_masks.specs.Watched.{with_waiting}
use Rattle.daemon_core.specs.Handled.{Does, IsNothingBut}
use Rattle.daemon_core.specs.Parts.{state_of}
use Rattle.daemon_core.specs.Session.{output}
use Rattle.daemon_core.specs.Step.{waits_no_more}
use Rattle.daemon_core.specs.declared.parts.CoreParts.{CoreParts}
use Rattle.daemon_core.specs.Room.{KeepsRoom}
use Rattle.daemon_core.specs.declared.room.Room.{Room}
use Rattle.daemon_core.proofs.ClientLaws.{does_but, waiting_ready, so_ok}
use Rattle.daemon_core.proofs.EndLaws.{ready_left}
use Rattle.daemon_core.proofs.RoomLaws.{some_watched}
use Rattle.daemon_core.proofs.parts.CoreParts.end_waiting.Goals as goal

pub returns-else-is_err-clause-ok : goal.returns-else-is_err-clause-ok
returns-else-is_err-clause-ok c =
    let p : CoreParts = c.args.self.now in
    let q : CoreParts = record p { watch = c.cancel.new.self } in
    let h = c.in_ok-handled.handled in
    let but = subst (λ (b : List ℕ). IsNothingBut (output c.args.client b ∷ []) [] h) c.in_ok-ok.ensures c.in_ok-handled.ensures in
    let watch : q.watch ≡ with_waiting p.watch c.args.client None =
    so_ok c.cancel.result (c.cancel.ensures.found.1 c.requires.known) c.cancel.ensures.ok in
    subst (λ (b : Bool). Does (waits_no_more b c.args.client (state_of p)) q h) (sym c.if-is_noidle.true)
    (does_but (waits_no_more true c.args.client (state_of p)) q h but (λ i. record {
      machine = p.machine;
      clients = watch i;
      views = p.views.list.items;
      messages = p.talks.messages;
      pictures = p.pictures.list.items;
    })
    refl refl refl refl refl c.requires.fresh (waiting_ready p q c.args.client None c.requires.ready watch refl))

pub returns-else-is_noidle-clause-ok : goal.returns-else-is_noidle-clause-ok
returns-else-is_noidle-clause-ok c =
    let p : CoreParts = c.args.self.now in
    let q : CoreParts = c.leave.new.self in
    let left = c.leave.ensures in
    subst (λ (b : Bool). Does (waits_no_more b c.args.client (state_of p)) q c.closing.result) (sym c.if-is_noidle.false)
    (does_but (waits_no_more false c.args.client (state_of p)) q c.closing.result c.closing.ensures
    (λ i. record {
      machine = left.machine i;
      clients = left.watch i;
      views = left.views i;
      messages = left.messages i;
      pictures = left.pictures i;
    })
    refl refl refl refl refl (ap (λ (v : Vec ℕ). v.items) left.notified ∙ c.requires.fresh) (ready_left p q c.args.client c.requires.ready left.watch
    (subst (λ (r : Room). KeepsRoom p.room r) (sym left.room) c.give_closes-closes.ensures.kept)))

pub closing-requires-clause-room : goal.closing-requires-clause-room
closing-requires-clause-room c =
    let some = some_watched c.args.self.now.watch c.args.client c.requires.known in
    omega (arith, some, c.requires.closes, c.give_closes-closes.ensures.room)
