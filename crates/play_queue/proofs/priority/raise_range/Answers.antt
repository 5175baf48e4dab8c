use Rattle.std.proofs.Common.{◌≡◌, [], length, sym, ap, ◌∙◌, arith}
use Rattle.play_queue.specs.declared.entry.Entry.{Entry}
use Rattle.play_queue.specs.Restamp.{raised}
use Rattle.play_queue.proofs.Stamped.{length-map_range, map_range-none, map_range-more}
use Rattle.play_queue.proofs.priority.raise_range.Goals as goal

pub loop-at-init : goal.loop-at-init
loop-at-init c = sym (map_range-none (raised c.args.priority c.args.stamp) c.args.entries.now c.args.start)

pub raise-requires : goal.raise-requires
raise-requires c =
    omega (
      arith,
      ap length c.loop-at.invariant,
      length-map_range (raised c.args.priority c.args.stamp) c.args.entries.now c.args.start c.loop-at.at c.loop-at.auto.at
          (omega (arith, c.requires.in_range)),
      c.requires.in_range,
    )

pub loop-at-preserved : goal.loop-at-preserved
loop-at-preserved c =
    let d : Entry = record { id = 0; uri = []; priority = 0; stamp = 0 } in
    c.raise.ensures d
    ∙ map_range-more (raised c.args.priority c.args.stamp) c.args.entries.now c.loop-at.entries c.args.start c.loop-at.at d
    c.loop-at.auto.at (omega (arith, c.requires.in_range)) c.loop-at.invariant

pub returns : goal.returns
returns c =
    let all : c.loop-at.at ≡ c.args.end = omega (arith, c.loop-at.auto.at-end c.requires.forward) in
    rw all at c.loop-at.invariant
