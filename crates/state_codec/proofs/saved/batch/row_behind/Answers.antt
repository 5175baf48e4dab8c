use Rattle.std.proofs.Common.{◌≡◌, true, false, sym, ◌∙◌, ap}
use Rattle.std.specs.Option.{option_copied}
use Rattle.std.specs.Str.{bytes_eq}
use Rattle.song_db.specs.Change.{uri_of}
use Rattle.state_codec.proofs.BatchSteps.{row_step}
use Rattle.state_codec.proofs.saved.batch.row_behind.Goals as goal
use Rattle.state_codec.proofs.saved.batch.row_behind.Goals.{then-eq, else-eq}

pub loop-change-preserved : goal.loop-change-preserved
loop-change-preserved c =
    let uri = c.args.uri.now in
    let key = uri_of c.change-item.result in
    let step = row_step c.args.songs.now c.args.changes.now c.loop-change.change-index c.change-item.result uri c.get.ensures.within
    c.requires c.loop-change-test.true c.change-item.is in
    let told : c.eq.result ≡ bytes_eq uri key = c.eq.ensures ∙ ap (bytes_eq uri) c.uri.ensures in
    elim c.if-eq.branch [
      | then-eq w ↦ let same : bytes_eq uri key ≡ true = sym told ∙ w.if-eq.true in
          ap option_copied w.row-is ∙ w.row_left-row.ensures ∙ sym (rw same at step)
      | else-eq w ↦ let other : bytes_eq uri key ≡ false = sym told ∙ w.if-eq.false in
          ap option_copied w.row-is ∙ c.loop-change.invariant ∙ sym (rw other at step)
    ]
