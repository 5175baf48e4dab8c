use Rattle.std.proofs.Common.{rules, tests}
use Rattle.std.proofs.lemmas.Iterator.{YieldsList-from_slice}
use Rattle.std.proofs.lemmas.Iterator.Search.{position_from_yields_List}
use Rattle.picture_reader.specs.Kept.{is_of}
use Rattle.picture_reader.proofs.pictures.OpenPictures.place_of.Goals as goal

pub returns : goal.returns
returns g c =
    position_from_yields_List (is_of c.args.client) _ _ _ c.position.ensures.ran (YieldsList-from_slice c.args.self.now cc)
    (λ x b q k. search (rules, tests))
