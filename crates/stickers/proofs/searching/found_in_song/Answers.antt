use Rattle.std.proofs.Common.{◌≡◌, ◌∙◌, true, false, refl, sym}
use Rattle.song_db.specs.declared.place.Place.TheVariants.{Root}
use Rattle.stickers.specs.Find.{passes}
use Rattle.stickers.proofs.FoundSongs.{not_named, named}
use Rattle.stickers.proofs.searching.found_in_song.Goals as goal

pub returns-then-passes : goal.returns-then-passes
returns-then-passes c =
    let test : passes c.args.test.now c.in-Some.value.now ≡ true = sym (rw c.as_str.ensures.text at c.if-passes.ensures) in
    sym (named c.args.uri.now c.args.song.now Root c.args.name.now c.in-Some.value.now c.args.test.now refl c.in-Some.ensures.rising
    (sym c.in-Some.ensures.value) ∙ rw test refl)

pub returns-else-passes : goal.returns-else-passes
returns-else-passes c =
    let test : passes c.args.test.now c.in-Some.value.now ≡ false = sym (rw c.as_str.ensures.text at c.if-passes.ensures) in
    sym (named c.args.uri.now c.args.song.now Root c.args.name.now c.in-Some.value.now c.args.test.now refl c.in-Some.ensures.rising
    (sym c.in-Some.ensures.value) ∙ rw test refl)

pub returns-in-None : goal.returns-in-None
returns-in-None c = sym (not_named c.args.uri.now c.args.song.now Root c.args.name.now c.args.test.now refl (sym c.in-None.ensures.value))
