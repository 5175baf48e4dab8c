use Rattle.std.proofs.Common.{◌≤◌, length, ap, ◌∙◌, arith}
use Rattle.std.proofs.lemmas.Result.{IfOk-weaker}
use Rattle.filter_expr.specs.Meaning.{is_match}
use Rattle.song_db.specs.Limits.{MAX_ROWS}
use Rattle.song_db.specs.Valued.{numbers_of}
use Rattle.machine_core.proofs.Finding.Selected.{few_selected, numbers_selected}
use Rattle.machine_core.proofs.commands.finding.gathering.all_numbers.Goals as goal

pub returns : goal.returns
returns c =
    let passes = is_match c.args.case c.args.filter.now in
    let songs = c.args.songs.now in
    let few : length (numbers_of passes songs) ≤ MAX_ROWS = omega (arith, few_selected passes songs, c.len-limit.ensures.within.few) in
    record {
      numbers = IfOk-weaker c.select.result _ _ (λ numbers h. h ∙ numbers_selected passes songs c.len-limit.ensures.within.rising)
          c.select.ensures.numbers;
      few = IfOk-weaker c.select.result _ _ (λ numbers h. omega (arith, ap length h, few)) c.select.ensures.numbers;
    }
