use Rattle.std.proofs.Common.{List, ap, ◌∙◌}
use Rattle.daemon_core.specs.Pictures.{told_for}
use Rattle.daemon_core.specs.declared.picture.ClientPicture.{ClientPicture}
use Rattle.daemon_core.proofs.ToldLaws.{told_here, told_later, told_none}
use Rattle.daemon_core.proofs.pictures.Pictures.told_for.Goals as goal

pub returns-then-picture-client : goal.returns-then-picture-client
returns-then-picture-client c =
    told_here c.deref-picture-items.result.now c.loop-picture.picture-index c.picture-item.result c.args.client c.loop-picture-test.true
    c.picture-item.is c.if-picture-client.true c.loop-picture.invariant
    ∙ ap (λ (ps : List ClientPicture). told_for ps c.args.client) c.deref-picture-items.ensures.value

pub loop-picture-preserved : goal.loop-picture-preserved
loop-picture-preserved c =
    told_later c.deref-picture-items.result.now c.loop-picture.picture-index c.picture-item.result c.args.client c.loop-picture-test.true
    c.picture-item.is c.if-picture-client.false c.loop-picture.invariant

pub returns : goal.returns
returns c =
    told_none c.deref-picture-items.result.now c.loop-picture.picture-index c.args.client c.loop-picture-test.false
    c.loop-picture.invariant
    ∙ ap (λ (ps : List ClientPicture). told_for ps c.args.client) c.deref-picture-items.ensures.value
