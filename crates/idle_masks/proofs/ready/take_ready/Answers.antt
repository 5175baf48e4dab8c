use Rattle.std.proofs.Common.{◌≡◌, ◌<◌, ◌++◌, ◌≤◌, ◌+◌, length, append-nil, vec_capacity, arith}
use Rattle.std.specs.Option.{option_to_list}
use Rattle.std.proofs.lemmas.Grind.{common_steps}
use Rattle.idle_masks.specs.Watched.{newcomer, report_of, reported, reports_of, after_reports}
use Rattle.idle_masks.proofs.Rising.{rising_after_reports, reports_rising}
use Rattle.idle_masks.proofs.Steps.{get_or-map_so_far, set-map_so_far, filter_map_so_far}
use Rattle.idle_masks.proofs.ready.take_ready.Goals as goal
use Rattle.idle_masks.proofs.ready.take_ready.Goals.{in-Some, in_default}

pub loop-watched-preserved : goal.loop-watched-preserved
loop-watched-preserved c =
    let in_range : c.loop-watched.watched-index < length c.args.clients.now = omega arith in
    let pushed : c.match-take_report.reports.items ≡ c.loop-watched.reports.items ++ option_to_list c.take_report.result =
    elim c.match-take_report.branch [
      | in-Some w ↦ grind (arith, common_steps)
      | in_default w ↦ grind (arith, common_steps, append-nil)
    ] in
    let few : length c.match-take_report.reports.items ≤ c.loop-watched.watched-index + 1 = elim c.match-take_report.branch [
      | in-Some w ↦ grind (arith, common_steps)
      | in_default w ↦ grind (arith, common_steps)
    ] in
    let room : length c.args.clients.now ≤ vec_capacity c.match-take_report.reports = elim c.match-take_report.branch [
      | in-Some w ↦ grind (arith, common_steps)
      | in_default w ↦ grind (arith, common_steps)
    ] in
    record {
      told = rw (
        pushed,
        c.take_report.ensures.report,
        c.loop-watched.invariant.taken,
        get_or-map_so_far reported c.args.clients.now _ (newcomer 0) in_range,
      )
          (filter_map_so_far report_of c.args.clients.now _ (newcomer 0) _ _ in_range c.loop-watched.invariant.told);
      taken = rw (
        c.take_report.ensures.taken,
        c.loop-watched.invariant.taken,
        get_or-map_so_far reported c.args.clients.now _ (newcomer 0) in_range,
      )
          (set-map_so_far reported c.args.clients.now _ (newcomer 0) in_range);
      few = few;
      room = room;
    }

pub returns-clause-rising : goal.returns-clause-rising
returns-clause-rising c rising =
    let whole : c.loop-watched.clients ≡ after_reports c.args.clients.now = grind (arith, common_steps, c.loop-watched.invariant.taken) in
    rw whole (rising_after_reports _ rising)

pub returns-clause-in_order : goal.returns-clause-in_order
returns-clause-in_order c rising =
    let whole : c.loop-watched.reports.items ≡ reports_of c.args.clients.now =
    grind (arith, common_steps, append-nil, c.loop-watched.invariant.told) in
    rw whole (reports_rising _ rising)
