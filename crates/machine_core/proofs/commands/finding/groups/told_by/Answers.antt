use Rattle.std.proofs.Common.{◌≡◌, ◌≤◌, [], Some, None, length, map, get_or, slice_get, ap, sym, ◌∙◌, arith}
use Rattle.std.proofs.lemmas.Option.{slice_get-get_or, slice_get_past}
use Rattle.machine_core.specs.Grouped.{run_of, runs_told, texts_at, with_song}
use Rattle.machine_core.proofs.Finding.Groups.{runs_done, runs_more}
use Rattle.machine_core.proofs.commands.finding.groups.told_by.Goals as goal
use Rattle.machine_core.proofs.commands.finding.groups.told_by.Goals.{in-Some+in_ok-add_song, in_default}

pub loop-number-preserved : goal.loop-number-preserved
loop-number-preserved c =
    let within = c.args.within in
    let rows = within.rows.now in
    let ns = c.args.numbers.now in
    let i = c.loop-number.number-index in
    let n = get_or ns i 0 in
    let known = map run_of c.loop-number.runs.items in
    let all = runs_told within.profile c.args.tag rows [] ns in
    elim c.match-get.branch [
      | in-Some+in_ok-add_song w ↦
          let row = w.in-Some.row.now in
          let found : slice_get rows n ≡ Some row =
          slice_get-get_or rows n row w.in-Some.ensures.lookup.3.0 ∙ ap Some (sym w.in-Some.ensures.lookup.1) in
          rw w.runs-is (runs_more within.profile c.args.tag rows ns i known (map run_of w.add_song.new.runs.items) all (omega arith)
          (w.in_ok-add_song.ensures ∙ ap (λ o. with_song (texts_at within.profile c.args.tag o) n known) (sym found))
          c.loop-number.invariant)
      | in_default w ↦
          let none : slice_get rows n ≡ None = slice_get_past rows n w.in_default.ensures.lookup.3 in
          rw w.runs-is (runs_more within.profile c.args.tag rows ns i known known all (omega arith)
          (ap (λ o. with_song (texts_at within.profile c.args.tag o) n known) (sym none)) c.loop-number.invariant)
    ]

pub returns : goal.returns
returns c =
    let past : length c.args.numbers.now ≤ c.loop-number.number-index = omega arith in
    runs_done c.args.within.profile c.args.tag c.args.within.rows.now c.args.numbers.now c.loop-number.number-index
    (map run_of c.loop-number.runs.items) (runs_told c.args.within.profile c.args.tag c.args.within.rows.now [] c.args.numbers.now) past
    c.loop-number.invariant
