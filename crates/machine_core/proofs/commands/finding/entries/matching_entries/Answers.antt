use Rattle.std.proofs.Common.{◌≡◌, ◌<◌, ◌≤◌, ◌++◌, ◌+◌, length, map, drop, append_assoc, ap, sym, ◌∙◌, arith}
use Rattle.std.proofs.lemmas.List.{append-nil}
use Rattle.play_queue.specs.Shown.{shown}
use Rattle.song_db.specs.Row.{row_at}
use Rattle.machine_core.specs.EntryRows.{row_of_entry}
use Rattle.machine_core.specs.Finding.{entry_row, entry_rows}
use Rattle.machine_core.proofs.Finding.RuledOut.{passed}
use Rattle.machine_core.proofs.Finding.Steps.{next_entry, no_entries}
use Rattle.machine_core.proofs.commands.finding.entries.matching_entries.Goals as goal

pub loop-position-preserved-then-is_marked : goal.loop-position-preserved-then-is_marked
loop-position-preserved-then-is_marked c =
    let at = c.loop-position.position in
    let entries = c.args.entries.now in
    let within : at < length entries = omega (arith, c.len-position-end.ensures.len) in
    let marked = rw c.deref.ensures.value at (c.is_marked.ensures c.if-is_marked.true) in
    ap (λ l. map row_of_entry c.loop-position.found.items ++ l) (sym (passed c.args.case c.args.filter.now c.args.songs.now
    c.in_ok-marks.marks.items entries at c.in_ok-marks.ensures marked.0 marked.1 within))
    ∙ c.loop-position.invariant

pub loop-position-preserved : goal.loop-position-preserved
loop-position-preserved c =
    let at = c.loop-position.position in
    let case = c.args.case in
    let tree = c.args.filter.now in
    let entries = c.args.entries.now in
    let songs = c.args.songs.now in
    let entry = shown c.at-entry.result in
    let before = map row_of_entry c.loop-position.found.items in
    let left = entry_rows case tree songs (at + 1) (drop (at + 1) entries) in
    let within : at < length entries = omega (arith, c.len-position-end.ensures.len) in
    ap (λ l. l ++ left) c.in_ok-push_match.ensures
    ∙ append_assoc before (entry_row case tree at entry (row_at songs entry.uri)) left
    ∙ ap (λ l. before ++ l) (sym (next_entry case tree songs at entries entry within (c.at-entry.ensures entry)))
    ∙ c.loop-position.invariant

pub returns : goal.returns
returns c =
    let at = c.loop-position.position in
    let entries = c.args.entries.now in
    let before = map row_of_entry c.loop-position.found.items in
    let over : length entries ≤ at = omega (arith, c.len-position-end.ensures.len) in
    sym (append-nil before)
    ∙ ap (λ l. before ++ l) (sym (no_entries c.args.case c.args.filter.now c.args.songs.now at entries over))
    ∙ c.loop-position.invariant
