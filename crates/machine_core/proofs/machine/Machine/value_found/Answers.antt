use Rattle.std.proofs.Common.{◌≡◌, None, ap, sym, ◌∙◌}
use Rattle.stickers.specs.Find.{passing}
use Rattle.stickers.specs.Sticker.{value_at}
use Rattle.machine_core.specs.State.{MachineState}
use Rattle.machine_core.proofs.BadNames.{name_is_bad, value_of_bad}
use Rattle.machine_core.proofs.machine.Machine.value_found.Goals as goal

pub returns-in-Ok : goal.returns-in-Ok
returns-in-Ok c =
    let all = c.stickers-stickers.ensures ∙ ap (λ (n : MachineState). n.saved.stickers) c.self.view_is in
    c.in-Ok.ensures.found ∙ ap (λ s. passing c.args.test.now (value_at s c.args.uri.now c.args.name.now)) all

pub returns-in-Err : goal.returns-in-Err
returns-in-Err c =
    let uri = c.args.uri.now in
    let name = c.args.name.now in
    let all = c.stickers-stickers.ensures ∙ ap (λ (n : MachineState). n.saved.stickers) c.self.view_is in
    let none : value_at c.stickers-stickers.result.now uri name ≡ None =
    value_of_bad _ uri name c.len-limits.ensures.within.good (name_is_bad _ name _ c.in-Err.ensures.answer) in
    ap (passing c.args.test.now) (sym none) ∙ ap (λ s. passing c.args.test.now (value_at s uri name)) all
