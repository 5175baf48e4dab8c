use Rattle.std.proofs.Common.{◌≤◌, length, map, ap, ◌∙◌, arith}
use Rattle.std.proofs.lemmas.Result.{IfOk-weaker}
use Rattle.machine_core.specs.Finding.{in_window, numbers_in}
use Rattle.machine_core.proofs.Finding.Meanings.{matching_found}
use Rattle.machine_core.proofs.commands.finding.gathering.numbers_selected.Goals as goal

pub returns : goal.returns
returns c =
    let search = c.args.search.now in
    let songs = c.args.songs.now in
    let is = c.windowed.ensures.rows
    ∙ ap (λ items. in_window search.window (map (λ row. row.now) items)) c.deref.ensures.value
    ∙ ap (in_window search.window) c.in_ok-found.ensures.found ∙ matching_found search songs c.requires in
    record {
      numbers = IfOk-weaker c.numbers_of.result _ _ (λ numbers h. h ∙ ap (numbers_in songs) is) c.numbers_of.ensures.numbers;
      few = IfOk-weaker c.numbers_of.result _ _ (λ numbers h. omega (
        arith,
        h,
        c.windowed.ensures.few,
        ap length c.deref.ensures.value,
        c.in_ok-found.ensures.few,
        c.len-limit.ensures.within.few,
      )) c.numbers_of.ensures.few;
    }
