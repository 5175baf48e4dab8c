use Rattle.std.proofs.Common.{◌==◌, not, rules, tests}
use Rattle.std.proofs.lemmas.Fn.{filter_same}
use Rattle.daemon_core.specs.declared.picture.ClientPicture.{ClientPicture}
use Rattle.daemon_core.proofs.pictures.Pictures.forget.Goals as goal

pub returns-clause-items : goal.returns-clause-items
returns-clause-items c =
    filter_same _ (λ (m : ClientPicture). not (m.client == c.args.client)) _ (λ x b f k. search (rules, tests)) _ _ c.retain.ensures.filtered
