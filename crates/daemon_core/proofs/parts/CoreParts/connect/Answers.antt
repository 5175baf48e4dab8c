use Rattle.std.proofs.Common.{◌≡◌, ℕ, ◌+◌, length, List, [], ◌∷◌, Option, None, refl, sym, ap, ◌∙◌, subst, arith}
use Rattle.std.specs.Global.{Vec}
use Rattle.idle_masks.specs.Watched.{watched, joined}
use Rattle.idle_masks.specs.declared.watch.Watched.{Watched}
use Rattle.daemon_core.specs.Handled.{Does, IsNothingBut}
use Rattle.daemon_core.specs.Parts.{state_of}
use Rattle.daemon_core.specs.Room.{IsRoomFor}
use Rattle.daemon_core.specs.Session.{output}
use Rattle.daemon_core.specs.Step.{connects_client}
use Rattle.daemon_core.specs.declared.parts.CoreParts.{CoreParts}
use Rattle.daemon_core.proofs.ClientLaws.{does_but, joined_ready, not_err, none_is}
use Rattle.daemon_core.proofs.RoomLaws.{fewer_fit}
use Rattle.daemon_core.proofs.parts.CoreParts.connect.Goals as goal

pub returns-clause-ok : goal.returns-clause-ok
returns-clause-ok c =
    let p : CoreParts = c.args.self.now in
    let q : CoreParts = record {
      machine = p.machine;
      watch = c.join.new.self;
      views = c.forget.new.self;
      talks = c.forget-2.new.self;
      pictures = c.forget-3.new.self;
      room = c.take.new.self;
    } in
    let h = c.in_ok-handled.handled in
    let but = subst (λ (b : List ℕ). IsNothingBut (output c.args.client b ∷ []) [] h) c.in_ok-greeting.ensures c.in_ok-handled.ensures in
    let absent : watched p.watch c.args.client ≡ None = sym c.get.ensures ∙ none_is c.get.result (sym c.if-is_some.ensures) in
    let taken = c.in_ok-take.ensures.ok in
    let clients = c.in-Some.ensures in
    let len = c.len.ensures in
    let fits : IsRoomFor (length p.watch + 1) c.take.new.self =
    fewer_fit _ (length p.watch + 1) c.take.new.self taken (omega (arith, clients.1, len)) in
    let watch : q.watch ≡ joined p.watch c.args.client = not_err c.join.result (sym c.if-is_err.ensures.value) c.join.ensures.ok in
    subst (λ (o : Option Watched). Does (connects_client c.args.client (state_of p) o) q h) (sym absent)
    (does_but (connects_client c.args.client (state_of p) None) q h but (λ i. record {
      machine = p.machine;
      clients = watch i;
      views = c.forget.ensures.items i;
      messages = c.forget-2.ensures.messages i;
      pictures = c.forget-3.ensures.items i;
    })
    refl refl refl refl refl (ap (λ (v : Vec ℕ). v.items) c.forget-2.ensures.notified ∙ c.requires.fresh) (joined_ready p q c.args.client c.take.new.self fits watch refl))
