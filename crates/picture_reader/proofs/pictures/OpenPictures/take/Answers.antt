use Rattle.std.proofs.Common.{ap, ◌∙◌, arith, length, get_or}
use Rattle.std.specs.List.{remove}
use Rattle.picture_reader.specs.Kept.{is_of}
use Rattle.picture_reader.proofs.KeptLists.{taken_is, left_is, within_is, none_is, all_left}
use Rattle.picture_reader.proofs.pictures.OpenPictures.take.Goals as goal

pub remove-requires : goal.remove-requires
remove-requires g c =
    let within = within_is (is_of c.args.client) c.args.self.now c.in-Some.at c.in-Some.ensures in
    omega (arith, within, ap length c.self.view_is, c.self.inside.list.ok.0)

pub returns-in-Some-clause-taken : goal.returns-in-Some-clause-taken
returns-in-Some-clause-taken g c =
    taken_is (is_of c.args.client) c.args.self.now c.in-Some.at c.remove.result c.in-Some.ensures
    (c.remove.ensures.value ∙ ap (λ kept. get_or kept c.in-Some.at c.remove.result) c.self.view_is)

pub returns-in-Some-clause-rest : goal.returns-in-Some-clause-rest
returns-in-Some-clause-rest g c =
    left_is (is_of c.args.client) c.args.self.now _ c.in-Some.at c.in-Some.ensures
    (c.remove.ensures.items ∙ ap (λ kept. remove kept c.in-Some.at) c.self.view_is)

pub returns-in-None-clause-taken : goal.returns-in-None-clause-taken
returns-in-None-clause-taken g c = none_is (is_of c.args.client) c.args.self.now c.in-None.ensures

pub returns-in-None-clause-rest : goal.returns-in-None-clause-rest
returns-in-None-clause-rest g c = all_left (is_of c.args.client) c.args.self.now c.in-None.ensures
