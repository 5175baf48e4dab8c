use Rattle.std.proofs.Common.{◌≡◌, ◌≤◌, true, take, length, Option, Some, None, is_some, refl, sym, ap, ◌∙◌, arith}
use denote.Ref.{Bor}
use Rattle.std.specs.List.{list_any}
use Rattle.std.specs.Option.{option_copied}
use Rattle.song_db.specs.Change.{after_batch, has_uri, uri_of}
use Rattle.song_db.specs.Effect.{effects_of, is_left_out}
use Rattle.song_db.specs.Limits.{MAX_ROWS}
use Rattle.song_db.specs.Row.{Row, row_at}
use Rattle.state_codec.proofs.BatchRows.{database_batch}
use Rattle.state_codec.proofs.BatchSteps.{full_at, counted_on}
use Rattle.state_codec.proofs.saved.batch.check_rows.Goals as goal

some_copied : (found : Option (Bor Row)) → is_some found ≡ is_some (option_copied found)
some_copied None = refl
some_copied (Some row) = refl

pub count_after-requires : goal.count_after-requires
count_after-requires c =
    let few : length (after_batch c.args.songs.now (take c.loop-at.at c.args.changes.now)) ≤ MAX_ROWS =
    (database_batch c.args.songs.now (take c.loop-at.at c.args.changes.now) c.len-count.ensures.within).few in
    omega (arith, c.loop-at.invariant.count)

pub returns-in-None : goal.returns-in-None
returns-in-None c =
    let before = after_batch c.args.songs.now (take c.loop-at.at c.args.changes.now) in
    let there : c.is_some-there.result ≡ has_uri before (uri_of c.index-changes-at.result) =
    c.is_some-there.ensures ∙ some_copied c.row_behind-behind.result
    ∙ ap is_some (c.row_behind-behind.ensures ∙ ap (row_at before) c.uri.ensures) in
    let full : list_any is_left_out (effects_of c.args.songs.now c.args.changes.now) ≡ true =
    full_at c.args.songs.now c.args.changes.now c.loop-at.at c.index-changes-at.result c.loop-at.count c.is_some-there.result
    c.len-count.ensures.within c.loop-at-test.true c.index-changes-at.is c.loop-at.invariant.count there
    (sym c.count_after.ensures ∙ c.in-None.is) in
    rw full refl

pub loop-at-preserved : goal.loop-at-preserved
loop-at-preserved c =
    let before = after_batch c.args.songs.now (take c.loop-at.at c.args.changes.now) in
    let there : c.is_some-there.result ≡ has_uri before (uri_of c.index-changes-at.result) =
    c.is_some-there.ensures ∙ some_copied c.row_behind-behind.result
    ∙ ap is_some (c.row_behind-behind.ensures ∙ ap (row_at before) c.uri.ensures) in
    let next = counted_on c.args.songs.now c.args.changes.now c.loop-at.at c.index-changes-at.result c.loop-at.count c.in-Some.after
    c.is_some-there.result c.len-count.ensures.within c.loop-at-test.true c.index-changes-at.is c.loop-at.invariant.fit
    c.loop-at.invariant.count there (sym c.count_after.ensures ∙ c.in-Some.is) in
    record { fit = next.0; count = next.1 }
