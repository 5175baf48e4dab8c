use Rattle.std.proofs.Common.{◌≡◌, ◌<◌, ◌==◌, true, false, [], length, get_or, sym, ap, ◌∙◌, arith}
use Rattle.std.proofs.lemmas.Bool.{eq-eqb}
use Rattle.std.proofs.lemmas.List.{length-set}
use Rattle.play_queue.specs.declared.entry.Entry.{Entry}
use Rattle.play_queue.specs.Entries.{with_priority}
use Rattle.play_queue.proofs.Stamped.{length-with_stamps, raised-with_stamps, unraised-with_stamps}
use Rattle.play_queue.proofs.Where.{not_eq}
use Rattle.play_queue.proofs.entries.Entries.raise.Goals as goal

pub song-id-requires : goal.song-id-requires
song-id-requires c =
    omega (arith, rw (← c.self.view_is) at c.requires, length-with_stamps c.self.inside.stamps.items c.self.inside.songs)

pub set_priority-requires : goal.set_priority-requires
set_priority-requires c =
    omega (arith, rw (← c.self.view_is) at c.requires, length-with_stamps c.self.inside.stamps.items c.self.inside.songs)

pub index_mut-requires : goal.index_mut-requires
index_mut-requires c =
    omega (arith, rw (← c.self.view_is) at c.requires, length-with_stamps c.self.inside.stamps.items c.self.inside.songs, c.self.invariant)

pub invariant_of-self : goal.invariant_of-self
invariant_of-self c =
    let stamps = c.self.inside.stamps.items in
    let songs = c.self.inside.songs in
    let d : Entry = record { id = 0; uri = []; priority = 0; stamp = 0 } in
    length-set stamps c.args.at c.args.stamp ∙ c.self.invariant
    ∙ sym (ap length (c.set_priority.ensures d)
    ∙ length-set songs c.args.at (with_priority c.args.priority (get_or songs c.args.at d)))

pub returns-then-song-priority : goal.returns-then-song-priority
returns-then-song-priority c d =
    let stamps = c.self.inside.stamps.items in
    let songs = c.self.inside.songs in
    let within : c.args.at < length songs = omega (arith, rw (← c.self.view_is) at c.requires, length-with_stamps stamps songs) in
    let other : ((get_or songs c.args.at d).priority == c.args.priority) ≡ false =
    ap (λ (e : Entry). e.priority == c.args.priority) (c.song-id.ensures d) ∙ not_eq _ c.args.priority c.if-song-priority.true in
    rw (← c.self.view_is, c.set_priority.ensures d)
    (raised-with_stamps stamps songs c.args.at c.args.priority c.args.stamp d within c.self.invariant other)

pub returns-else-song-priority : goal.returns-else-song-priority
returns-else-song-priority c d =
    let stamps = c.self.inside.stamps.items in
    let songs = c.self.inside.songs in
    let within : c.args.at < length songs = omega (arith, rw (← c.self.view_is) at c.requires, length-with_stamps stamps songs) in
    let same : ((get_or songs c.args.at d).priority == c.args.priority) ≡ true =
    ap (λ (e : Entry). e.priority == c.args.priority) (c.song-id.ensures d) ∙ eq-eqb _ c.args.priority c.if-song-priority.false in
    rw (← c.self.view_is) (unraised-with_stamps stamps songs c.args.at c.args.priority c.args.stamp d within c.self.invariant same)
