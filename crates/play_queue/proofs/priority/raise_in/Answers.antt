use Rattle.std.proofs.Common.{◌≡◌, ◌-◌, ℕ, get_or, length, take, drop, sym, ap, ◌∙◌, arith}
use Rattle.std.proofs.lemmas.List.{drop-drop}
use Rattle.play_queue.specs.Entries.{is_in_some}
use Rattle.play_queue.specs.Latest.{Between}
use Rattle.play_queue.specs.Restamp.{raised}
use Rattle.play_queue.proofs.Bounds.{latest-follow, follow-raised}
use Rattle.play_queue.proofs.Prioritized.{changed_in-none, length-changed_in, raised_in-more}
use Rattle.play_queue.proofs.priority.raise_in.Goals as goal

pub loop-range-init : goal.loop-range-init
loop-range-init c = (changed_in-none (raised c.args.priority c.args.stamp) 0 c.args.entries.now, λ before. before)

pub raise_range-requires-clause-in_range : goal.raise_range-requires-clause-in_range
raise_range-requires-clause-in_range c =
    let fits = c.requires.ranges c.loop-range.range-index (0, 0) c.loop-range-test.true in
    let long : length c.loop-range.entries ≡ length c.args.entries.now =
    ap length c.loop-range.invariant.0
    ∙ length-changed_in (is_in_some (take c.loop-range.range-index c.args.ranges.now)) (raised c.args.priority c.args.stamp) 0
    c.args.entries.now in
    omega (arith, fits.1, long)

pub loop-range-preserved : goal.loop-range-preserved
loop-range-preserved c =
    let range : ℕ × ℕ = get_or c.args.ranges.now c.loop-range.range-index (0, 0) in
    let fits = c.requires.ranges c.loop-range.range-index (0, 0) c.loop-range-test.true in
    let long : length c.loop-range.entries ≡ length c.args.entries.now =
    ap length c.loop-range.invariant.0
    ∙ length-changed_in (is_in_some (take c.loop-range.range-index c.args.ranges.now)) (raised c.args.priority c.args.stamp) 0
    c.args.entries.now in
    let cut : drop range.1 c.loop-range.entries ≡ drop (range.1 - range.0) (drop range.0 c.loop-range.entries) =
    sym (drop-drop (range.1 - range.0) range.0 c.loop-range.entries ∙ ap (λ n. drop n c.loop-range.entries) (omega (arith, fits.0))) in
    rw (c.raise_range.ensures, cut) (
      raised_in-more c.args.entries.now c.loop-range.entries c.args.ranges.now c.loop-range.range-index c.args.priority c.args.stamp
          (0, 0) c.loop-range-test.true c.requires.ranges c.loop-range.invariant.0,
      λ before. latest-follow c.loop-range.latest c.raise_latest.new.latest (Between range.0 range.1) c.args.stamp c.loop-range.entries _
          (c.loop-range.invariant.1 before) c.raise_latest.ensures
          (follow-raised c.args.priority c.args.stamp range c.loop-range.entries (omega (arith, fits.0)) (omega (arith, fits.1))),
    )
