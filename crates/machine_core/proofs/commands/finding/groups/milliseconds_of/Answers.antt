use Rattle.std.proofs.Common.{◌≡◌, ◌+◌, ◌≤◌, Some, None, length, get_or, slice_get, ap, sym, ◌∙◌, arith}
use Rattle.std.proofs.lemmas.Option.{slice_get-get_or, slice_get_past}
use Rattle.song_db.specs.Duration.{milliseconds}
use Rattle.machine_core.proofs.Finding.Groups.{time_counted, time_more, time_over, time_same}
use Rattle.machine_core.proofs.commands.finding.groups.milliseconds_of.Goals as goal
use Rattle.machine_core.proofs.commands.finding.groups.milliseconds_of.Goals.{in-Some, in_default}

pub loop-number-preserved : goal.loop-number-preserved
loop-number-preserved c =
    let rows = c.args.rows.now in
    let ns = c.args.numbers.now in
    let i = c.loop-number.number-index in
    let n = get_or ns i 0 in
    elim c.match-get.branch [
      | in-Some w ↦
          let row = w.in-Some.row.now in
          let found : slice_get rows n ≡ Some row =
          slice_get-get_or rows n row w.in-Some.ensures.lookup.3.0 ∙ ap Some (sym w.in-Some.ensures.lookup.1) in
          rw w.milliseconds-is (record {
            time = time_counted _ _ (milliseconds row) _ _ _ w.milliseconds-milliseconds.ensures.value (time_more rows ns i row (omega arith) found)
                c.loop-number.invariant.time;
            short = omega (arith, c.loop-number.invariant.short, w.milliseconds-milliseconds.ensures.bound);
          })
      | in_default w ↦
          let none : slice_get rows n ≡ None = slice_get_past rows n w.in_default.ensures.lookup.3 in
          rw w.milliseconds-is (record {
            time = ap (λ left. c.loop-number.milliseconds + left) (sym (time_same rows ns i (omega arith) none)) ∙ c.loop-number.invariant.time;
            short = omega (arith, c.loop-number.invariant.short);
          })
    ]

pub returns : goal.returns
returns c =
    let past : length c.args.numbers.now ≤ c.loop-number.number-index = omega arith in
    omega (arith, c.loop-number.invariant.time, time_over c.args.rows.now c.args.numbers.now c.loop-number.number-index past)
