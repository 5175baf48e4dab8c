use Rattle.std.proofs.Common.{sym, ap, ◌∙◌}
use Rattle.stickers.specs.Sticker.{without_song}
use Rattle.state_codec.proofs.BatchStickers.{without_none, without_step}
use Rattle.state_codec.proofs.saved.row_edits.drop_songs.Goals as goal

pub loop-uri-init : goal.loop-uri-init
loop-uri-init c = sym (without_none c.args.stickers.now)

pub loop-uri-preserved : goal.loop-uri-preserved
loop-uri-preserved c =
    c.drop_uri.ensures
    ∙ ap (without_song c.loop-uri.stickers) c.as_str.ensures.text
    ∙ ap (λ all. without_song all c.uri-item.result) c.loop-uri.invariant
    ∙ without_step c.args.stickers.now c.args.uris.now c.loop-uri.uri-index c.uri-item.result c.loop-uri-test.true c.uri-item.is
