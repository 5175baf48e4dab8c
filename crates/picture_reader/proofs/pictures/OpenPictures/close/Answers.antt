use Rattle.std.proofs.Common.{not, rules, tests, ap, ◌∙◌}
use Rattle.std.proofs.lemmas.Fn.{filter_same}
use Rattle.picture_reader.specs.Kept.{is_of, without}
use Rattle.picture_reader.proofs.pictures.OpenPictures.close.Goals as goal

pub returns : goal.returns
returns g c =
    filter_same _ (λ kept. not (is_of c.args.client kept)) _ (λ x b f k. search (rules, tests)) _ _ c.retain.ensures.filtered
    ∙ ap (without c.args.client) c.self.view_is
