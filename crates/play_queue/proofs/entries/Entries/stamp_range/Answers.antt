use Rattle.std.proofs.Common.{◌≤◌, length, map, slice_range, ap, ◌∙◌, arith}
use Rattle.std.proofs.lemmas.List.{length-map}
use Rattle.std.proofs.lemmas.List.Edits.{length-between}
use Rattle.play_queue.proofs.Stamped.{length-with_stamps, length-part, with_stamps-range}
use Rattle.play_queue.proofs.entries.Entries.stamp_range.Goals as goal

pub fill_range-requires-clause-in_range : goal.fill_range-requires-clause-in_range
fill_range-requires-clause-in_range c =
    omega (
      arith,
      rw (← c.self.view_is) at c.requires.in_range,
      length-with_stamps c.self.inside.stamps.items c.self.inside.songs,
      c.self.invariant,
    )

pub invariant_of-self : goal.invariant_of-self
invariant_of-self c =
    let stamps = c.self.inside.stamps.items in
    let songs = c.self.inside.songs in
    let within : c.args.end ≤ length stamps =
    omega (arith, rw (← c.self.view_is) at c.requires.in_range, length-with_stamps stamps songs, c.self.invariant) in
    ap length c.fill_range.ensures
    ∙ length-part stamps (map (λ _. c.args.stamp) (slice_range stamps c.args.start c.args.end)) c.args.start c.args.end
    c.requires.forward within
    (length-map (slice_range stamps c.args.start c.args.end) (λ _. c.args.stamp) ∙ length-between stamps c.args.start c.args.end within)
    ∙ c.self.invariant

pub returns : goal.returns
returns c =
    let stamps = c.self.inside.stamps.items in
    let songs = c.self.inside.songs in
    let within : c.args.end ≤ length songs = omega (arith, rw (← c.self.view_is) at c.requires.in_range, length-with_stamps stamps songs) in
    rw (← c.self.view_is, c.fill_range.ensures)
    (with_stamps-range stamps songs c.args.start c.args.end c.args.stamp c.self.invariant c.requires.forward within)
