use Rattle.std.proofs.Common.{◌≡◌, List, sym, ap, ◌∙◌, refl}
use Rattle.std.specs.Prelude.{Option, is_none, is_some}
use Rattle.idle_masks.specs.Watched.{watched}
use Rattle.idle_masks.specs.declared.watch.Watched.{Watched}
use Rattle.daemon_core.specs.Parts.{state_of}
use Rattle.daemon_core.specs.Pictures.{pictured, pictured_where}
use Rattle.daemon_core.specs.Session.{nothing}
use Rattle.daemon_core.specs.Step.{reads_picture}
use Rattle.daemon_core.specs.declared.parts.CoreParts.{CoreParts}
use Rattle.daemon_core.specs.declared.picture.ClientPicture.{ClientPicture}
use Rattle.daemon_core.proofs.ClientLaws.{does_but, none_is}
use Rattle.daemon_core.proofs.SeenLaws.{read_known, unread_absent}
use Rattle.daemon_core.proofs.parts.CoreParts.read_picture.Goals as goal

pub returns-then-is_none-clause-ok : goal.returns-then-is_none-clause-ok
returns-then-is_none-clause-ok c =
    let p : CoreParts = c.args.self.now in
    does_but (nothing (reads_picture c.args.client c.args.told (state_of p))) p c.nothing.result c.nothing.ensures
    (λ i. record {
      machine = p.machine;
      clients = p.watch;
      views = p.views.list.items;
      messages = p.talks.messages;
      pictures = sym (unread_absent (watched p.watch c.args.client) p.pictures.list.items c.args.client c.args.told
          (ap (λ (o : Option Watched). is_none o) (sym c.get.ensures ∙ none_is c.get.result c.if-is_none.ensures))) i;
    })
    refl refl refl refl refl c.requires.fresh c.requires.ready

pub returns-clause-ok : goal.returns-clause-ok
returns-clause-ok c =
    let p : CoreParts = c.args.self.now in
    let q : CoreParts = record p { pictures = c.set.new.self } in
    let pictures : c.set.new.self.list.items ≡ pictured_where (watched p.watch c.args.client) p.pictures.list.items c.args.client
    c.args.told =
    c.set.ensures ∙ ap (λ (ps : List ClientPicture). pictured ps c.args.client c.args.told) c.make_room.ensures.same
    ∙ sym (read_known (watched p.watch c.args.client) p.pictures.list.items c.args.client c.args.told
    (ap (λ (o : Option Watched). is_some o) (sym c.get.ensures) ∙ c.if-is_none.ensures)) in
    does_but (nothing (reads_picture c.args.client c.args.told (state_of p))) q c.nothing-2.result c.nothing-2.ensures
    (λ i. record {
      machine = p.machine;
      clients = p.watch;
      views = p.views.list.items;
      messages = p.talks.messages;
      pictures = pictures i;
    })
    refl refl refl refl refl c.requires.fresh c.requires.ready
