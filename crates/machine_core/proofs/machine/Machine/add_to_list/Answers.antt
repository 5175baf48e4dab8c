use Rattle.std.proofs.Common.{◌∙◌}
use Rattle.state_codec.specs.Steps.{◌>>=◌}
use Rattle.machine_core.specs.ListMoves.{adds_songs}
use Rattle.machine_core.specs.Lists.{list_name, lists_meaning}
use Rattle.machine_core.specs.Named.{numbers_named}
use Rattle.machine_core.proofs.Answering.{also}
use Rattle.machine_core.proofs.LookUps.{found, not_found}
use Rattle.machine_core.proofs.machine.Machine.add_to_list.Goals as goal

pub returns-in_err-name : goal.returns-in_err-name
unfolding lists_meaning
returns-in_err-name c =
    let m = c.args.self.now in
    not_found (list_name c.args.name.now)
    (λ good. numbers_named m.saved.profile m.saved.songs c.args.path.now >>= λ rows. adds_songs good rows c.args.to m) m c.args.work.now
    c.in_err-name.field-0.0 c.from_residual.result c.in_err-name.ensures c.from_residual.ensures.1

pub returns-in_err-rows : goal.returns-in_err-rows
unfolding lists_meaning
returns-in_err-rows c =
    let m = c.args.self.now in
    let name = c.in_ok-name.name in
    also _ _ _ _ _ _ _
    (found (list_name c.args.name.now)
    (λ good. numbers_named m.saved.profile m.saved.songs c.args.path.now >>= λ rows. adds_songs good rows c.args.to m) name
    c.in_ok-name.ensures)
    (not_found (numbers_named m.saved.profile m.saved.songs c.args.path.now) (λ rows. adds_songs name rows c.args.to m) m
    c.args.work.now c.in_err-rows.field-0.0 c.from_residual-in_err-rows.result c.in_err-rows.ensures c.from_residual-in_err-rows.ensures.1)

pub returns : goal.returns
unfolding lists_meaning
returns c =
    let m = c.args.self.now in
    let name = c.in_ok-name.name in
    also _ _ _ _ _ _ _
    (found (list_name c.args.name.now)
    (λ good. numbers_named m.saved.profile m.saved.songs c.args.path.now >>= λ rows. adds_songs good rows c.args.to m) name
    c.in_ok-name.ensures
    ∙ found (numbers_named m.saved.profile m.saved.songs c.args.path.now) (λ rows. adds_songs name rows c.args.to m) c.in_ok-rows.rows
    c.in_ok-rows.ensures)
    c.add_songs.ensures
