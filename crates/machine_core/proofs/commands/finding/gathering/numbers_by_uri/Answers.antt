use Rattle.std.proofs.Common.{Option, ap, sym, ◌∙◌}
use Rattle.std.proofs.lemmas.Result.{IfOk-weaker}
use Rattle.command_text.specs.declared.range.Window.{Window}
use Rattle.machine_core.specs.Finding.{in_window, matching, numbers_in}
use Rattle.machine_core.proofs.Finding.Meanings.{matching_found}
use Rattle.machine_core.proofs.commands.finding.gathering.numbers_by_uri.Goals as goal

pub returns-in-None : goal.returns-in-None
returns-in-None c =
    let search = c.args.search.now in
    let songs = c.args.songs.now in
    let is = ap (λ (window : Option Window). in_window window (matching search.case search.filter songs)) (sym c.in-None.is)
    ∙ matching_found search songs c.requires in
    record {
      numbers = IfOk-weaker c.all_numbers.result _ _ (λ numbers h. h ∙ ap (numbers_in songs) is) c.all_numbers.ensures.numbers;
      few = c.all_numbers.ensures.few;
    }
