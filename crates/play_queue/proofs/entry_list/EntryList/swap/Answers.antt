use Rattle.std.proofs.Common.{◌<◌, length, refl, ap, arith}
use Rattle.std.specs.List.{swap}
use Rattle.std.proofs.lemmas.List.Edits.{length-swap}
use Rattle.play_queue.specs.Shuffle.{stamps_of}
use Rattle.play_queue.proofs.Bounds.{list-swapped}
use Rattle.play_queue.proofs.Stamped.{length-with_stamps, restamped-swapped}
use Rattle.play_queue.proofs.entry_list.EntryList.swap.Goals as goal

pub restamp_pair-requires-clause-one_in_range : goal.restamp_pair-requires-clause-one_in_range
restamp_pair-requires-clause-one_in_range c =
    let old = c.self.inside.entries in
    omega (
      arith,
      rw (← c.self.view_is) at c.requires.one_in_range,
      ap length c.swap.ensures,
      length-with_stamps (stamps_of old) (swap old c.args.one c.args.other),
      length-swap old c.args.one c.args.other,
    )

pub restamp_pair-requires-clause-other_in_range : goal.restamp_pair-requires-clause-other_in_range
restamp_pair-requires-clause-other_in_range c =
    let old = c.self.inside.entries in
    omega (
      arith,
      rw (← c.self.view_is) at c.requires.other_in_range,
      ap length c.swap.ensures,
      length-with_stamps (stamps_of old) (swap old c.args.one c.args.other),
      length-swap old c.args.one c.args.other,
    )

pub restamp_pair-requires-clause-few : goal.restamp_pair-requires-clause-few
restamp_pair-requires-clause-few c =
    let old = c.self.inside.entries in
    omega (
      arith,
      ap length c.swap.ensures,
      length-with_stamps (stamps_of old) (swap old c.args.one c.args.other),
      length-swap old c.args.one c.args.other,
      c.self.invariant.0,
    )

pub invariant_of-self : goal.invariant_of-self
invariant_of-self c =
    let old = c.self.inside.entries in
    let in_one : c.args.one < length old = rw (← c.self.view_is) at c.requires.one_in_range in
    let in_other : c.args.other < length old = rw (← c.self.view_is) at c.requires.other_in_range in
    rw (
      c.restamp_pair.ensures.entries,
      c.swap.ensures,
      restamped-swapped c.args.version c.args.one c.args.other old in_one in_other,
    )
    (list-swapped c.self.inside.latest c.restamp_pair.new.latest c.args.version c.args.one c.args.other old in_one in_other
    c.self.invariant c.restamp_pair.ensures.latest)

pub returns-clause-entries : goal.returns-clause-entries
returns-clause-entries c =
    let old = c.self.inside.entries in
    let in_one : c.args.one < length old = rw (← c.self.view_is) at c.requires.one_in_range in
    let in_other : c.args.other < length old = rw (← c.self.view_is) at c.requires.other_in_range in
    rw (
      ← c.self.view_is,
      c.restamp_pair.ensures.entries,
      c.swap.ensures,
      restamped-swapped c.args.version c.args.one c.args.other old in_one in_other,
    ) refl
