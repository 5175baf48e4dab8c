use Rattle.std.proofs.Common.{◌≤◌, length, slice_range, sym, ap, ◌∙◌, refl, arith}
use Rattle.std.proofs.lemmas.List.{length-map}
use Rattle.std.proofs.lemmas.List.Edits.{length-between}
use Rattle.play_queue.specs.declared.entry.Entry.{Entry}
use Rattle.play_queue.specs.Queue.{ids_of}
use Rattle.play_queue.specs.Songs.{stamps_anew}
use Rattle.play_queue.proofs.Stamped.{length-with_stamps, length-part, length-anew_stamps, with_stamps-moved}
use Rattle.play_queue.proofs.entries.Entries.stamp_moved.Goals as goal

pub stamp_others_in-requires-clause-in_range : goal.stamp_others_in-requires-clause-in_range
stamp_others_in-requires-clause-in_range c =
    omega (
      arith,
      rw (← c.self.view_is) at c.requires.in_range,
      length-with_stamps c.self.inside.stamps.items c.self.inside.songs,
      c.self.invariant,
    )

pub stamp_others_in-requires-clause-ids : goal.stamp_others_in-requires-clause-ids
stamp_others_in-requires-clause-ids c =
    ap length c.ids.ensures.ids ∙ length-map c.self.inside.songs (λ (entry : Entry). entry.id) ∙ sym c.self.invariant

pub invariant_of-self : goal.invariant_of-self
invariant_of-self c =
    let stamps = c.self.inside.stamps.items in
    let songs = c.self.inside.songs in
    let within : c.args.end ≤ length stamps =
    omega (arith, rw (← c.self.view_is) at c.requires.in_range, length-with_stamps stamps songs, c.self.invariant) in
    ap length c.stamp_others_in.ensures
    ∙ length-part stamps _ c.args.start c.args.end c.requires.forward within
    (length-anew_stamps (slice_range c.ids.result.now c.args.start c.args.end) c.args.ids.now c.args.stamp
    (slice_range stamps c.args.start c.args.end) ∙ length-between stamps c.args.start c.args.end within)
    ∙ c.self.invariant

pub returns : goal.returns
returns c =
    let stamps = c.self.inside.stamps.items in
    let songs = c.self.inside.songs in
    let within : c.args.end ≤ length songs = omega (arith, rw (← c.self.view_is) at c.requires.in_range, length-with_stamps stamps songs) in
    let anew = stamps_anew (slice_range (ids_of songs) c.args.start c.args.end) c.args.ids.now c.args.stamp
    (slice_range stamps c.args.start c.args.end) in
    rw (← c.self.view_is, c.stamp_others_in.ensures, c.ids.ensures.ids)
    (with_stamps-moved stamps c.args.ids.now songs c.args.start c.args.end c.args.stamp c.self.invariant c.requires.forward within
    c.requires.ids anew refl
    (length-anew_stamps (slice_range (ids_of songs) c.args.start c.args.end) c.args.ids.now c.args.stamp
    (slice_range stamps c.args.start c.args.end) ∙ length-between stamps c.args.start c.args.end (omega (arith, c.self.invariant))))
