use Rattle.std.proofs.Common.{◌≡◌, true, Ok, length, map, ap, sym, ◌∙◌, arith}
use Rattle.std.proofs.lemmas.List.FromFn.{length-range_with_len}
use Rattle.std.specs.List.{range_with_len}
use Rattle.song_db.specs.Query.{is_folder, rows_under}
use Rattle.song_db.specs.Row.{row_uri}
use Rattle.machine_core.specs.Named.{numbers_of}
use Rattle.machine_core.proofs.Lists.Rows.{is_there, run_numbers}
use Rattle.machine_core.proofs.named.numbers_by_uri.Goals as goal

pub row_numbers-requires : goal.row_numbers-requires
row_numbers-requires c =
    let rows = c.in-Ok-rows_under.rows.now in
    omega (
      arith,
      ap length c.in_ok-numbers_from.ensures,
      length-range_with_len c.in-Ok.first (length rows),
      ap length c.in-Ok-rows_under.ensures.rows,
      c.in-Ok.ensures.within,
      c.len-limit.ensures.within.few,
    )

pub returns : goal.returns
returns c =
    let songs = c.args.songs.now in
    let place = c.args.place in
    let rows = c.in-Ok-rows_under.rows.now in
    let first = c.in-Ok.first in
    let there : is_folder songs place ≡ true = is_there _ (is_folder songs place) _ c.in-Ok.ensures.answer in
    let run = run_numbers songs first (length (rows_under songs place)) c.len-limit.ensures.within.rising c.in-Ok.ensures.within in
    rw there (ap Ok
    (ap (λ found. numbers_of songs (map row_uri found)) (sym c.in-Ok.ensures.run) ∙ run
    ∙ ap (λ found. range_with_len first (length found)) (sym c.in-Ok-rows_under.ensures.rows)
    ∙ sym c.in_ok-numbers_from.ensures ∙ sym c.row_numbers.ensures))
