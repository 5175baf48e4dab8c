use Rattle.std.proofs.Common.{ℕ, refl, ap, ◌∙◌}
use Rattle.std.specs.Global.{Vec}
use Rattle.daemon_core.specs.Parts.{state_of}
use Rattle.daemon_core.specs.Session.{nothing, without}
use Rattle.daemon_core.proofs.ClientLaws.{does_but, left_ready}
use Rattle.daemon_core.proofs.parts.CoreParts.forget.Goals as goal

pub returns : goal.returns
returns c =
    does_but (nothing (without c.args.client (state_of c.args.self.now))) c.leave.new.self c.nothing.result c.nothing.ensures
    (λ i. record {
      machine = c.leave.ensures.machine i;
      clients = c.leave.ensures.watch i;
      views = c.leave.ensures.views i;
      messages = c.leave.ensures.messages i;
      pictures = c.leave.ensures.pictures i;
    })
    refl refl refl refl refl (ap (λ (v : Vec ℕ). v.items) c.leave.ensures.notified ∙ c.requires.fresh)
    (left_ready c.args.self.now c.leave.new.self c.args.client c.requires.ready c.leave.ensures.watch c.leave.ensures.room)
