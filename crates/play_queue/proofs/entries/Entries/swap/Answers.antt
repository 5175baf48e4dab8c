use Rattle.std.proofs.Common.{◌<◌, length, ap, arith}
use Rattle.std.proofs.lemmas.List.{length-map}
use Rattle.std.proofs.lemmas.List.Edits.{length-swap}
use Rattle.play_queue.specs.declared.entry.Entry.{Entry}
use Rattle.play_queue.proofs.Stamped.{length-with_stamps, order-swapped}
use Rattle.play_queue.proofs.entries.Entries.swap.Goals as goal

pub swap-requires-clause-one_in_range : goal.swap-requires-clause-one_in_range
swap-requires-clause-one_in_range c =
    omega (arith, rw (← c.self.view_is) at c.requires.one_in_range, length-with_stamps c.self.inside.stamps.items c.self.inside.songs)

pub swap-requires-clause-other_in_range : goal.swap-requires-clause-other_in_range
swap-requires-clause-other_in_range c =
    omega (arith, rw (← c.self.view_is) at c.requires.other_in_range, length-with_stamps c.self.inside.stamps.items c.self.inside.songs)

pub overflow_add-one : goal.overflow_add-one
overflow_add-one c =
    let songs = c.self.inside.songs in
    let within : c.args.one < length songs =
    omega (arith, rw (← c.self.view_is) at c.requires.one_in_range, length-with_stamps c.self.inside.stamps.items songs) in
    omega (arith, ap length c.swap.ensures, length-swap songs c.args.one c.args.other, c.ids.ensures.few)

pub note-requires-clause-in_range : goal.note-requires-clause-in_range
note-requires-clause-in_range c =
    let songs = c.self.inside.songs in
    let within : c.args.one < length songs =
    omega (arith, rw (← c.self.view_is) at c.requires.one_in_range, length-with_stamps c.self.inside.stamps.items songs) in
    omega (
      arith,
      ap length c.ids.ensures.ids,
      length-map c.swap.new.self (λ (entry : Entry). entry.id),
      ap length c.swap.ensures,
      length-swap songs c.args.one c.args.other,
    )

pub overflow_add-other : goal.overflow_add-other
overflow_add-other c =
    let songs = c.self.inside.songs in
    let within : c.args.other < length songs =
    omega (arith, rw (← c.self.view_is) at c.requires.other_in_range, length-with_stamps c.self.inside.stamps.items songs) in
    omega (arith, ap length c.swap.ensures, length-swap songs c.args.one c.args.other, c.ids-2.ensures.few)

pub note-requires-2-clause-in_range : goal.note-requires-2-clause-in_range
note-requires-2-clause-in_range c =
    let songs = c.self.inside.songs in
    let within : c.args.other < length songs =
    omega (arith, rw (← c.self.view_is) at c.requires.other_in_range, length-with_stamps c.self.inside.stamps.items songs) in
    omega (
      arith,
      ap length c.ids-2.ensures.ids,
      length-map c.swap.new.self (λ (entry : Entry). entry.id),
      ap length c.swap.ensures,
      length-swap songs c.args.one c.args.other,
    )

pub returns : goal.returns
returns c =
    let stamps = c.self.inside.stamps.items in
    let songs = c.self.inside.songs in
    let in_one : c.args.one < length songs =
    omega (arith, rw (← c.self.view_is) at c.requires.one_in_range, length-with_stamps stamps songs) in
    let in_other : c.args.other < length songs =
    omega (arith, rw (← c.self.view_is) at c.requires.other_in_range, length-with_stamps stamps songs) in
    rw (← c.self.view_is, c.swap.ensures) (order-swapped stamps songs c.args.one c.args.other c.self.invariant in_one in_other)
