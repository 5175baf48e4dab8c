use Rattle.std.proofs.Common.{◌≡◌, ◌∙◌, ◌∷◌, [], ◌++◌, true, sym}
use Rattle.stickers.specs.Part.{is_last}
use Rattle.stickers.specs.Sticker.{sticker}
use Rattle.stickers.proofs.Behind.{last_absent, last_song, last_placed, last_tells}
use Rattle.stickers.proofs.stickers.builder.StickersBuilder.push.Goals as goal
use Rattle.stickers.proofs.stickers.builder.StickersBuilder.push.Goals.{then-begins_song+in_ok-add_first, else-begins_song+in_ok-add}

-- a song that the sticker begins has none yet
pub add_first-requires-clause-empty : goal.add_first-requires-clause-empty
add_first-requires-clause-empty c =
    let first : is_last c.args.self.now c.args.uri [] ≡ true = sym c.begins_song.ensures ∙ c.if-begins_song.true in
    rw (c.as_str.ensures.text, c.self.view_is) (last_song c.args.self.now c.args.uri first)

-- and in any other it isn't there yet
pub add-requires-clause-absent : goal.add-requires-clause-absent
add-requires-clause-absent c = rw (c.as_str-else-begins_song.ensures.text, c.self.view_is)
    (last_absent c.args.self.now c.args.uri c.args.name.now c.in_ok-check.ensures.last)

-- either way it stands at the end
added : (c : goal.Joined-self)
    → c.if-begins_song.self-inside.stickers ≡ c.args.self.now ++ sticker c.args.uri (c.args.name.now, c.args.value) ∷ []
added c =
    let placed = last_placed c.args.self.now c.args.uri c.args.name.now c.args.value c.in_ok-check.ensures.last in
    elim c.if-begins_song.branch [
      | then-begins_song+in_ok-add_first w ↦
          rw w.self-inside-is (rw (w.as_str.ensures.text, c.self.view_is) at w.in_ok-add_first.ensures.ok ∙ placed)
      | else-begins_song+in_ok-add w ↦
          rw w.self-inside-is (rw (w.as_str-else-begins_song.ensures.text, c.self.view_is) at w.in_ok-add.ensures.ok ∙ placed)
    ]

pub returns-clause-ok : goal.returns-clause-ok
returns-clause-ok c = added c

-- and is the last one
pub invariant_of-self-2 : goal.invariant_of-self-2
invariant_of-self-2 c later more =
    rw (added c, c.in_ok-last.ensures.ok)
    (last_tells c.args.self.now c.args.uri c.args.name.now c.args.value later more c.in_ok-check.ensures.last)
