use Rattle.std.proofs.Common.{◌≡◌, ◌+◌, length, Some, ap, refl, ◌∙◌, arith}
use Rattle.std.specs.Prelude.{option_copied}
use Rattle.song_db.proofs.Opened.{opened_next, opened_end}
use Rattle.song_db.proofs.walk.next_folder.Goals as goal

pub returns-in-Some : goal.returns-in-Some
returns-in-Some c =
    let size : length c.uri-before-end.result.now ≡ length c.args.row.now.uri = ap length c.uri-before-end.ensures.text in
    c.loop-before.invariant ∙ opened_next c.args.place c.loop-before.before c.args.row.now c.args.rest.now (c.loop-before.before + 1)
    (omega arith) (Some c.in-Some.folder.now) (omega arith) c.in-Some.ensures

pub loop-before-preserved : goal.loop-before-preserved
loop-before-preserved c =
    let size : length c.uri-before-end.result.now ≡ length c.args.row.now.uri = ap length c.uri-before-end.ensures.text in
    c.loop-before.invariant ∙ opened_next c.args.place c.loop-before.before c.args.row.now c.args.rest.now (c.loop-before.before + 1)
    (omega arith) (option_copied c.folder_at.result) (omega arith) c.folder_at.ensures ∙ rw c.in_default.is refl

pub returns : goal.returns
returns c =
    let size : length c.uri-before-end.result.now ≡ length c.args.row.now.uri = ap length c.uri-before-end.ensures.text in
    c.loop-before.invariant ∙ opened_end c.args.place c.loop-before.before c.args.row.now c.args.rest.now (omega arith)
