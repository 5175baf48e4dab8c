use Rattle.std.proofs.Common.{◌≡◌, ◌∙◌, ap, sym, Some, None}
use Rattle.std.proofs.lemmas.Map.Steps.{set_value_same}
use Rattle.stickers.specs.ByName.{by_name}
use Rattle.stickers.specs.Named.{under, with_name}
use Rattle.stickers.proofs.Named.{with_other}
use Rattle.stickers.specs.Sticker.{flat, with_sticker}
use Rattle.stickers.proofs.ByName.{lookup-by_name, set_value-by_name, sorted-by_name}
use Rattle.stickers.proofs.Flat.{none_of_song, flat-with_other, on_err}
use Rattle.stickers.proofs.by_song.StickersBySong.set.Goals as goal

pub invariant_of-self : goal.invariant_of-self
invariant_of-self c = sorted-by_name _ (c.get_mut.follows.holds c.insert.new.self).4

pub invariant_of-self-in-Some : goal.invariant_of-self-in-Some
invariant_of-self-in-Some c = sorted-by_name _ (c.get_mut.follows.holds c.insert.new.self).4

-- memory was refused: the stickers of the song are those that it had
pub returns-in_err-insert-in-Some-clause-err : goal.returns-in_err-insert-in-Some-clause-err
returns-in_err-insert-in-Some-clause-err c =
    let songs = by_name c.self.inside.songs.entries in
    let found : under songs c.args.uri.now ≡ Some c.in-Some.song.now =
    sym (c.in-Some.ensures.value ∙ lookup-by_name c.args.uri.now c.self.inside.songs.entries) in
    on_err _ (ap (λ es. flat (by_name es)) (c.get_mut.follows.holds c.insert.new.self).0
    ∙ ap flat (set_value-by_name c.args.uri.now c.self.inside.songs.entries c.insert.new.self)
    ∙ ap (λ values. flat (with_other songs c.args.uri.now values)) c.in_err-insert-in-Some.ensures.err
    ∙ ap flat (set_value_same _ songs c.in-Some.song.now found) ∙ c.self.view_is)

pub returns-in_ok-insert-in-Some-clause-ok : goal.returns-in_ok-insert-in-Some-clause-ok
returns-in_ok-insert-in-Some-clause-ok c =
    let songs = by_name c.self.inside.songs.entries in
    let found : under songs c.args.uri.now ≡ Some c.in-Some.song.now =
    sym (c.in-Some.ensures.value ∙ lookup-by_name c.args.uri.now c.self.inside.songs.entries) in
    let new : c.insert.new.self ≡ with_name c.in-Some.song.now c.args.name.now c.args.value =
    rw (← c.in_ok-name.ensures.ok) c.in_ok-insert-in-Some.ensures.ok in
    ap (λ es. flat (by_name es)) (c.get_mut.follows.holds c.insert.new.self).0
    ∙ ap flat (set_value-by_name c.args.uri.now c.self.inside.songs.entries c.insert.new.self)
    ∙ ap (λ values. flat (with_other songs c.args.uri.now values)) new
    ∙ flat-with_other songs c.args.uri.now c.args.name.now c.args.value c.in-Some.song.now c.self.invariant found
    ∙ ap (λ all. with_sticker all c.args.uri.now c.args.name.now c.args.value) c.self.view_is

-- a song that isn't there has no sticker
pub set_first-requires : goal.set_first-requires
set_first-requires c =
    let songs = by_name c.self.inside.songs.entries in
    let none : under songs c.args.uri.now ≡ None =
    sym (c.in-None.ensures.value ∙ lookup-by_name c.args.uri.now c.self.inside.songs.entries) in
    record { empty = rw c.get_mut.follows.holds-at-none (none_of_song songs c.args.uri.now none) }
