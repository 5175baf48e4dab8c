use Rattle.std.proofs.Common.{◌≡◌, ℕ, ◌+◌, true, false, List, [], ◌∷◌, drop, ap, sym, ◌∙◌, arith}
use Rattle.std.specs.List.{flat_map}
use Rattle.command_text.specs.AnswerSongs.{song_lines}
use Rattle.command_text.specs.declared.tag_mask.TagMask.{TagMask}
use Rattle.filter_expr.specs.Meaning.{is_match}
use Rattle.song_db.specs.Row.{Row}
use Rattle.machine_core.specs.Finding.{matching, part_of}
use Rattle.machine_core.specs.declared.commands.finding.part.Part.{Part}
use Rattle.machine_core.proofs.Finding.Steps.{passed_over, met, none_left, part_of_none}
use Rattle.machine_core.proofs.Finding.Writers.{of_adds, same_remains, less_remains, none_remains, stopped_writing, stopped_looking}
use Rattle.machine_core.proofs.commands.finding.writing.write_matching.Goals as goal

abbrev lines : TagMask → Part → List Row → List ℕ
lines mask part rows = flat_map (song_lines mask) (part_of part rows)

pub returns-then-is_over : goal.returns-then-is_over
returns-then-is_over c =
    let left = matching c.args.case c.args.filter.now (drop c.loop-row.row-index c.args.rows.now) in
    let none : lines c.args.mask c.loop-row.part left ≡ [] = ap (flat_map (song_lines c.args.mask)) (c.if-is_over.ensures left) in
    none_remains _ (lines c.args.mask c.loop-row.part left) _ _ _ none c.loop-row.invariant

pub returns-in_err-matches : goal.returns-in_err-matches
returns-in_err-matches c =
    stopped_looking _ (lines c.args.mask c.loop-row.part (matching c.args.case c.args.filter.now
    (drop c.loop-row.row-index c.args.rows.now))) _ _ _
    c.loop-row.invariant c.from_residual.ensures.0

pub loop-row-preserved-then-not-branch : goal.loop-row-preserved-then-not-branch
loop-row-preserved-then-not-branch c =
    let rows = c.args.rows.now in
    let tree = c.args.filter.now in
    let at = c.loop-row in
    let other : is_match c.args.case tree c.row-item.result ≡ false = sym c.in_ok-matches.ensures.member ∙ c.if-not-branch.true in
    same_remains _ (lines c.args.mask at.part (matching c.args.case tree (drop at.row-index rows))) _ _ _
    (ap (lines c.args.mask at.part) (passed_over c.args.case tree rows at.row-index c.row-item.result
    (omega arith) c.row-item.is other)) at.invariant

pub loop-row-preserved-then-not-takes : goal.loop-row-preserved-then-not-takes
loop-row-preserved-then-not-takes c =
    let rows = c.args.rows.now in
    let tree = c.args.filter.now in
    let at = c.loop-row in
    let same : is_match c.args.case tree c.row-item.result ≡ true = sym c.in_ok-matches.ensures.member ∙ c.if-not-branch.false in
    same_remains _ (lines c.args.mask at.part (matching c.args.case tree (drop at.row-index rows))) _ _ _
    (ap (lines c.args.mask at.part) (met c.args.case tree rows at.row-index c.row-item.result (omega arith) c.row-item.is same)
    ∙ ap (flat_map (song_lines c.args.mask)) (c.if-not-takes.ensures c.row-item.result _)) at.invariant

pub returns-in_err-write_song : goal.returns-in_err-write_song
returns-in_err-write_song c =
    let rows = c.args.rows.now in
    let tree = c.args.filter.now in
    let at = c.loop-row in
    let row = c.row-item.result in
    let behind = matching c.args.case tree (drop (at.row-index + 1) rows) in
    let same : is_match c.args.case tree row ≡ true = sym c.in_ok-matches.ensures.member ∙ c.if-not-branch.false in
    let more = same_remains _ (lines c.args.mask at.part (matching c.args.case tree (drop at.row-index rows))) (lines c.args.mask at.part
    (row ∷ behind)) _ _
    (ap (lines c.args.mask at.part) (met c.args.case tree rows at.row-index row (omega arith) c.row-item.is same)) at.invariant in
    let next = same_remains _ (lines c.args.mask at.part (row ∷ behind)) (flat_map (song_lines c.args.mask)
    (row ∷ part_of c.takes.new.self behind)) _ _
    (ap (flat_map (song_lines c.args.mask)) (c.if-not-takes.ensures row behind)) more in
    stopped_writing _ (song_lines c.args.mask row) (lines c.args.mask c.takes.new.self behind) _ _ _ _ _ next
    (of_adds _ _ _ _ c.in_err-write_song.ensures)
    c.from_residual-in_err-write_song.ensures.0

pub loop-row-preserved : goal.loop-row-preserved
loop-row-preserved c =
    let rows = c.args.rows.now in
    let tree = c.args.filter.now in
    let at = c.loop-row in
    let row = c.row-item.result in
    let behind = matching c.args.case tree (drop (at.row-index + 1) rows) in
    let same : is_match c.args.case tree row ≡ true = sym c.in_ok-matches.ensures.member ∙ c.if-not-branch.false in
    let more = same_remains _ (lines c.args.mask at.part (matching c.args.case tree (drop at.row-index rows))) (lines c.args.mask at.part
    (row ∷ behind)) _ _
    (ap (lines c.args.mask at.part) (met c.args.case tree rows at.row-index row (omega arith) c.row-item.is same)) at.invariant in
    let next = same_remains _ (lines c.args.mask at.part (row ∷ behind)) (flat_map (song_lines c.args.mask)
    (row ∷ part_of c.takes.new.self behind)) _ _
    (ap (flat_map (song_lines c.args.mask)) (c.if-not-takes.ensures row behind)) more in
    less_remains _ (song_lines c.args.mask row) (lines c.args.mask c.takes.new.self behind) _ _ _ _ next
    (of_adds _ _ _ _ c.in_ok-write_song.ensures)

pub returns : goal.returns
returns c =
    let at = c.loop-row in
    let left = matching c.args.case c.args.filter.now (drop at.row-index c.args.rows.now) in
    let none : lines c.args.mask at.part left ≡ [] =
    ap (lines c.args.mask at.part) (none_left c.args.case c.args.filter.now c.args.rows.now at.row-index (omega arith))
    ∙ ap (flat_map (song_lines c.args.mask)) (part_of_none at.part) in
    none_remains _ (lines c.args.mask at.part left) _ _ _ none at.invariant
