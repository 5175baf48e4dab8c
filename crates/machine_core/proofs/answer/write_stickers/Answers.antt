use Rattle.std.proofs.Common.{ap, sym, ◌∙◌}
use Rattle.std.proofs.lemmas.List.Folds.{flat_map-map}
use Rattle.stickers.specs.Sticker.{sticker}
use Rattle.command_text.specs.AnswerNames.{sticker_line}
use Rattle.command_text.proofs.Adding.{adds_same}
use Rattle.machine_core.specs.Stickers.{song_stickers}
use Rattle.machine_core.proofs.answer.write_stickers.Goals as goal

pub returns-in-Some : goal.returns-in-Some
returns-in-Some c =
    adds_same _ _ _ _ _ c.write_named.ensures
    (sym (flat_map-map (λ s. sticker_line s.name s.value) (sticker c.args.uri.now) c.in-Some.song.now)
    ∙ ap song_stickers (sym c.in-Some.ensures))
