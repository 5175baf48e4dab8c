use Rattle.std.proofs.Common.{sym, ◌∙◌}
use Rattle.state_codec.proofs.PieceLaws.{song_begun}
use Rattle.state_codec.proofs.pieces.items.next_song.Goals as goal

pub returns-in-Some-next : goal.returns-in-Some-next
returns-in-Some-next c =
    sym c.loop-uri.invariant ∙ song_begun c.in-Some.uri.now c.loop-uri.songs c.in-Some.song.now c.next.new.self
    (c.in-Some-next.name.now, c.in-Some-next.value.now) _ c.in-Some.ensures.steps (sym c.iter-values.ensures ∙ c.in-Some-next.ensures.steps)
