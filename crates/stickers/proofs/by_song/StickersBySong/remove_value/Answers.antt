use Rattle.std.proofs.Common.{◌≡◌, ◌∙◌, ap, sym, Some, None}
use Rattle.stickers.specs.ByName.{by_name}
use Rattle.stickers.specs.Named.{under}
use Rattle.stickers.proofs.Named.{with_other}
use Rattle.stickers.specs.Sticker.{flat, without_sticker}
use Rattle.stickers.proofs.ByName.{lookup-by_name, set_value-by_name, sorted-by_name}
use Rattle.stickers.proofs.Flat.{none_without, flat-without_sticker}
use Rattle.stickers.proofs.by_song.StickersBySong.remove_value.Goals as goal
use Rattle.stickers.proofs.by_song.StickersBySong.remove_value.Goals.{in-Some, in_default}

pub invariant_of-self : goal.invariant_of-self
invariant_of-self c = elim c.match-get_mut.branch [
  | in-Some w ↦ rw w.self-inside-is (sorted-by_name _ (c.get_mut.follows.holds w.remove.new.self).4)
  | in_default w ↦ rw (w.self-inside-is, c.get_mut.follows.holds-at-none) c.self.invariant
]

-- the song is changed where it stands
pub returns : goal.returns
returns c =
    let songs = by_name c.self.inside.songs.entries in
    elim c.match-get_mut.branch [
      | in-Some w ↦
          let found : under songs c.args.uri.now ≡ Some w.in-Some.song.now =
          sym (w.in-Some.ensures.value ∙ lookup-by_name c.args.uri.now c.self.inside.songs.entries) in
          rw w.self-inside-is (ap (λ es. flat (by_name es)) (c.get_mut.follows.holds w.remove.new.self).0
          ∙ ap flat (set_value-by_name c.args.uri.now c.self.inside.songs.entries w.remove.new.self)
          ∙ ap (λ values. flat (with_other songs c.args.uri.now values)) w.remove.ensures
          ∙ flat-without_sticker songs c.args.uri.now c.args.name.now w.in-Some.song.now c.self.invariant found
          ∙ ap (λ all. without_sticker all c.args.uri.now c.args.name.now) c.self.view_is)
      | in_default w ↦
          let none : under songs c.args.uri.now ≡ None =
          sym (w.in_default.ensures.value ∙ lookup-by_name c.args.uri.now c.self.inside.songs.entries) in
          rw w.self-inside-is (ap (λ m. flat (by_name m.entries)) c.get_mut.follows.holds-at-none
          ∙ sym (none_without songs c.args.uri.now c.args.name.now none)
          ∙ ap (λ all. without_sticker all c.args.uri.now c.args.name.now) c.self.view_is)
    ]
