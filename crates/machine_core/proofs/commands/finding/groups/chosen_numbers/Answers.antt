use Rattle.std.proofs.Common.{◌≡◌, ◌≤◌, length, ap, ◌∙◌, rules, sym, subst, arith}
use Rattle.std.proofs.lemmas.Result.{IfOk-weaker}
use Rattle.std.proofs.lemmas.List.FromFn.{length-range_with_len}
use Rattle.filter_expr.specs.Meaning.{is_match}
use Rattle.filter_expr.specs.declared.case.Case.TheVariants.{Exact}
use Rattle.std.specs.Option.{option_copied}
use Rattle.song_db.specs.Limits.{MAX_ROWS}
use Rattle.song_db.specs.Valued.{numbers_of}
use Rattle.machine_core.specs.Finding.{chosen}
use Rattle.machine_core.specs.Grouped.{AreRising, rows_at}
use Rattle.machine_core.proofs.Finding.Groups.{all_rows, found_rise, range_rises}
use Rattle.machine_core.proofs.Finding.Selected.{few_selected, rows_selected}
use Rattle.machine_core.proofs.commands.finding.groups.chosen_numbers.Goals as goal

pub returns-in-Some : goal.returns-in-Some
returns-in-Some c =
    let passes = is_match Exact c.in-Some.filter.now in
    let songs = c.args.songs.now in
    let few : length (numbers_of passes songs) ≤ MAX_ROWS = omega (arith, few_selected passes songs, c.len-limit.ensures.within.few) in
    record {
      rows = IfOk-weaker c.select.result _ _ (λ numbers h. ap (rows_at songs) h ∙ rows_selected passes songs
          ∙ ap (λ filter. chosen (option_copied filter) songs) (sym c.in-Some.is)) c.select.ensures.numbers;
      rising = IfOk-weaker c.select.result _ _ (λ numbers h. subst AreRising (sym h) (found_rise passes 0 songs)) c.select.ensures.numbers;
      few = IfOk-weaker c.select.result _ _ (λ numbers h. omega (arith, ap length h, few)) c.select.ensures.numbers;
    }

pub returns-in-None : goal.returns-in-None
returns-in-None c =
    let songs = c.args.songs.now in
    let count : c.len-limit.result ≡ length songs = c.len-limit.ensures.count in
    record {
      rows = IfOk-weaker c.numbers_to.result _ _ (λ numbers h. ap (rows_at songs) (h ∙ search rules) ∙ all_rows songs
          ∙ ap (λ filter. chosen (option_copied filter) songs) (sym c.in-None.is)) c.numbers_to.ensures;
      rising = IfOk-weaker c.numbers_to.result _ _ (λ numbers h. subst AreRising (sym h) (range_rises 0 _)) c.numbers_to.ensures;
      few = IfOk-weaker c.numbers_to.result _ _ (λ numbers h. omega (
        arith,
        ap length h,
        length-range_with_len 0 c.len.result,
        c.len-limit.ensures.within.few,
      )) c.numbers_to.ensures;
    }
