use Rattle.std.proofs.Common.{◌≡◌, true, Ok, ◌++◌, length, map, take, ap, sym, ◌∙◌, arith}
use Rattle.std.proofs.lemmas.List.{length-map, length-take, take_all}
use Rattle.std.specs.Option.{option_to_list}
use Rattle.song_db.specs.Query.{is_folder, number_at}
use Rattle.song_db.specs.Row.{row_uri}
use Rattle.machine_core.specs.Named.{numbers_of}
use Rattle.machine_core.proofs.Finding.Told.{under_few}
use Rattle.machine_core.proofs.Lists.Rows.{fewer, is_there, one_row_more}
use Rattle.machine_core.proofs.named.numbers_told.Goals as goal

pub row_numbers-requires : goal.row_numbers-requires
row_numbers-requires c =
    let songs = c.args.songs.now in
    let rows = c.in-Ok.rows.now in
    let at = c.loop-row in
    omega (
      arith,
      ap length at.invariant,
      fewer (number_at songs) (map row_uri (take at.row-index rows)),
      length-map (take at.row-index rows) row_uri,
      length-take at.row-index rows,
      ap length c.in-Ok.ensures.rows,
      under_few songs c.args.place,
      c.len-limit.ensures.within.few,
    )

pub loop-row-preserved : goal.loop-row-preserved
loop-row-preserved c =
    let songs = c.args.songs.now in
    let rows = c.in-Ok.rows.now in
    let at = c.loop-row in
    c.in_ok-push_number.ensures
    ∙ ap (λ uri. at.numbers.items ++ option_to_list (number_at songs uri)) c.uri.ensures.text
    ∙ ap (λ front. front ++ option_to_list (number_at songs c.row-item.result.uri)) at.invariant
    ∙ sym (one_row_more songs rows at.row-index c.row-item.result (omega arith) c.row-item.is)

pub returns : goal.returns
returns c =
    let songs = c.args.songs.now in
    let rows = c.in-Ok.rows.now in
    let there : is_folder songs c.args.place ≡ true = is_there _ (is_folder songs c.args.place) _ c.in-Ok.ensures.answer in
    rw there (ap Ok
    (ap (λ some. numbers_of songs (map row_uri some)) (sym c.in-Ok.ensures.rows ∙ sym (take_all c.loop-row.row-index rows (omega arith)))
    ∙ sym c.loop-row.invariant ∙ sym c.row_numbers.ensures))
