use Rattle.std.proofs.Common.{◌≡◌, ◌≤◌, length, arith, ◌∙◌, sym, subst}
use Rattle.std.specs.Option.{option_copied}
use Rattle.song_db.specs.Change.{after_batch, uri_of}
use Rattle.song_db.specs.Limits.{MAX_ROWS}
use Rattle.song_db.specs.Row.{row_at}
use Rattle.state_codec.proofs.BatchRows.{database_batch}
use Rattle.machine_core.specs.ScanningRows.{AreTold}
use Rattle.machine_core.proofs.Scans.Rows.{kept_one}
use Rattle.machine_core.proofs.scanning.rows.keep_telling.Goals as goal

pub count_told-requires : goal.count_told-requires
count_told-requires c =
    let few : length (after_batch c.args.songs.now c.args.told.now.items) ≤ MAX_ROWS =
    (database_batch c.args.songs.now c.args.told.now.items c.len-rows.ensures.within).few in
    omega (arith, c.requires.told.count, few)

pub returns-in-Some-clause-told : goal.returns-in-Some-clause-told
returns-in-Some-clause-told c =
    let songs = c.args.songs.now in
    let told = c.args.told.now.items in
    let row : option_copied c.row_behind-row.result ≡ row_at (after_batch songs told) (uri_of c.args.change) =
    c.row_behind-row.ensures ∙ (λ i. row_at (after_batch songs (c.deref.ensures.value i)) (c.uri.ensures i)) in
    subst (λ items. AreTold songs items c.in-Some.after) (sym c.push_reserved.ensures.items)
    (kept_one songs told c.args.change c.args.count.now c.in-Some.after (option_copied c.row_behind-row.result)
    c.len-rows.ensures.within c.requires.told row (sym c.count_told.ensures ∙ c.in-Some.is)).0
