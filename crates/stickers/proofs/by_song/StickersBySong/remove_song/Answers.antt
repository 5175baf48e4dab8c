use Rattle.std.proofs.Common.{◌≡◌, ◌∙◌, ap, refl, sym, Some, None}
use Rattle.std.proofs.lemmas.List.{length-map}
use Rattle.stickers.specs.ByName.{by_name}
use Rattle.stickers.specs.Named.{under}
use Rattle.stickers.specs.Sticker.{flat, sticker, without_song}
use Rattle.stickers.proofs.ByName.{lookup-by_name, remove_entry-by_name, sorted-by_name}
use Rattle.stickers.proofs.Named.{remove_entry-without}
use Rattle.stickers.proofs.Flat.{none_of_song, flat-stickers_of, flat-without_name}
use Rattle.stickers.proofs.by_song.StickersBySong.remove_song.Goals as goal
use Rattle.stickers.proofs.by_song.StickersBySong.remove_song.Goals.{in-Some, in-None}

pub invariant_of-self : goal.invariant_of-self
invariant_of-self c = sorted-by_name _ c.remove.ensures.ordered

pub returns-clause-count : goal.returns-clause-count
returns-clause-count c =
    let songs = by_name c.self.inside.songs.entries in
    elim c.match-remove.branch [
      | in-Some w ↦
          let found : under songs c.args.uri.now ≡ Some w.in-Some.song =
          sym (w.in-Some.ensures.value ∙ lookup-by_name c.args.uri.now c.self.inside.songs.entries) in
          rw (
            w.result-is,
            w.len.ensures.count,
            ← c.self.view_is,
            flat-stickers_of songs c.args.uri.now w.in-Some.song c.self.invariant found,
          )
          (sym (length-map w.in-Some.song (sticker c.args.uri.now)))
      | in-None w ↦
          let none : under songs c.args.uri.now ≡ None =
          sym (w.in-None.ensures.value ∙ lookup-by_name c.args.uri.now c.self.inside.songs.entries) in
          rw (w.result-is, ← c.self.view_is, none_of_song songs c.args.uri.now none) refl
    ]

pub returns-clause-removed : goal.returns-clause-removed
returns-clause-removed c =
    let songs = by_name c.self.inside.songs.entries in
    ap (λ es. flat (by_name es)) c.remove.ensures.entries
    ∙ ap flat (remove_entry-by_name c.args.uri.now c.self.inside.songs.entries
    ∙ remove_entry-without songs c.args.uri.now c.self.invariant)
    ∙ flat-without_name songs c.args.uri.now ∙ ap (λ all. without_song all c.args.uri.now) c.self.view_is
