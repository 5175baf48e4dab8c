use Rattle.std.proofs.Common.{is_ok, sym, ap, ◌∙◌}
use Rattle.std.proofs.lemmas.Bool.{false≢true}
use Rattle.daemon_core.proofs.RoomLaws.{left_so}
use Rattle.daemon_core.proofs.SeenLaws.{views_left, views_stay, messages_left, messages_stay, pictures_left, pictures_stay}
use Rattle.daemon_core.proofs.parts.CoreParts.leave.Goals as goal

pub returns-in-Err-clause-watch : goal.returns-in-Err-clause-watch
returns-in-Err-clause-watch c =
    left_so c.leave.result c.args.self.now.watch c.leave.new.self c.args.client c.leave.ensures.ok c.leave.ensures.err c.leave.ensures.found

pub returns-in-Ok-clause-views : goal.returns-in-Ok-clause-views
returns-in-Ok-clause-views c =
    c.forget.ensures.items
    ∙ sym (views_left _ c.args.self.now.views.list.items c.args.client (c.leave.ensures.found.0 (ap is_ok c.in-Ok.is)))

pub returns-in-Err-clause-views : goal.returns-in-Err-clause-views
returns-in-Err-clause-views c =
    sym (views_stay _ c.args.self.now.views.list.items c.args.client
    (λ some. false≢true (sym (ap is_ok c.in-Err.is) ∙ c.leave.ensures.found.1 some)))

pub returns-in-Ok-clause-messages : goal.returns-in-Ok-clause-messages
returns-in-Ok-clause-messages c =
    c.forget-in-Ok.ensures.messages
    ∙ sym (messages_left _ c.args.self.now.talks.messages c.args.client (c.leave.ensures.found.0 (ap is_ok c.in-Ok.is)))

pub returns-in-Err-clause-messages : goal.returns-in-Err-clause-messages
returns-in-Err-clause-messages c =
    sym (messages_stay _ c.args.self.now.talks.messages c.args.client
    (λ some. false≢true (sym (ap is_ok c.in-Err.is) ∙ c.leave.ensures.found.1 some)))

pub returns-in-Ok-clause-pictures : goal.returns-in-Ok-clause-pictures
returns-in-Ok-clause-pictures c =
    c.forget-in-Ok-2.ensures.items
    ∙ sym (pictures_left _ c.args.self.now.pictures.list.items c.args.client (c.leave.ensures.found.0 (ap is_ok c.in-Ok.is)))

pub returns-in-Err-clause-pictures : goal.returns-in-Err-clause-pictures
returns-in-Err-clause-pictures c =
    sym (pictures_stay _ c.args.self.now.pictures.list.items c.args.client
    (λ some. false≢true (sym (ap is_ok c.in-Err.is) ∙ c.leave.ensures.found.1 some)))
