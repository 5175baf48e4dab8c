use Rattle.std.proofs.Common.{◌≤◌, length, refl, ap, arith}
use Rattle.play_queue.specs.Restamp.{exchanged}
use Rattle.play_queue.specs.Shuffle.{stamps_of}
use Rattle.play_queue.proofs.Bounds.{list-exchanged, length-exchanged}
use Rattle.play_queue.proofs.Stamped.{length-with_stamps, restamped-exchanged}
use Rattle.play_queue.proofs.entry_list.EntryList.exchange.Goals as goal

pub restamp-requires-clause-in_range : goal.restamp-requires-clause-in_range
restamp-requires-clause-in_range c =
    let old = c.self.inside.entries in
    let within : c.args.high ≤ length old = rw (← c.self.view_is) at c.requires.in_range in
    omega (
      arith,
      within,
      ap length c.exchange.ensures,
      length-with_stamps (stamps_of old) (exchanged old c.args.low c.args.middle c.args.high),
      length-exchanged old c.args.low c.args.middle c.args.high (omega (arith, c.requires.low_block))
          (omega (arith, c.requires.high_block)) within,
    )

pub invariant_of-self : goal.invariant_of-self
invariant_of-self c =
    let old = c.self.inside.entries in
    let within : c.args.high ≤ length old = rw (← c.self.view_is) at c.requires.in_range in
    rw (
      c.restamp.ensures.entries,
      c.exchange.ensures,
      restamped-exchanged c.args.version c.args.low c.args.middle c.args.high old (omega (arith, c.requires.low_block))
          (omega (arith, c.requires.high_block)) within,
    )
    (list-exchanged c.self.inside.latest c.restamp.new.latest c.args.version c.args.low c.args.middle c.args.high old
    (omega (arith, c.requires.low_block)) (omega (arith, c.requires.high_block)) within c.self.invariant c.restamp.ensures.latest)

pub returns-clause-entries : goal.returns-clause-entries
returns-clause-entries c =
    let old = c.self.inside.entries in
    let within : c.args.high ≤ length old = rw (← c.self.view_is) at c.requires.in_range in
    rw (
      ← c.self.view_is,
      c.restamp.ensures.entries,
      c.exchange.ensures,
      restamped-exchanged c.args.version c.args.low c.args.middle c.args.high old (omega (arith, c.requires.low_block))
          (omega (arith, c.requires.high_block)) within,
    ) refl
