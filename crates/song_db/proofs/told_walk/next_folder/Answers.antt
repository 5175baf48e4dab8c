use Rattle.std.proofs.Common.{◌+◌, Some, refl, ◌∙◌, arith}
use Rattle.std.specs.Prelude.{option_copied}
use Rattle.song_db.specs.ToldWalk.{is_new}
use Rattle.song_db.proofs.NewFolders.{next_passes, none_passes}
use Rattle.song_db.proofs.told_walk.next_folder.Goals as goal

pub returns-in-Some : goal.returns-in-Some
returns-in-Some c =
    c.loop-at.invariant ∙ next_passes (is_new c.args.place c.args.before.now c.args.path.now) c.args.path.now c.loop-at.at
    (c.loop-at.at + 1) (omega arith) (Some c.in-Some.folder.now) (omega arith) c.in-Some.ensures

pub loop-at-preserved : goal.loop-at-preserved
loop-at-preserved c =
    c.loop-at.invariant ∙ next_passes (is_new c.args.place c.args.before.now c.args.path.now) c.args.path.now c.loop-at.at
    (c.loop-at.at + 1) (omega arith) (option_copied c.folder_at.result) (omega arith) c.folder_at.ensures ∙ rw c.in_default.is refl

pub returns : goal.returns
returns c = c.loop-at.invariant ∙ none_passes (is_new c.args.place c.args.before.now c.args.path.now) c.args.path.now c.loop-at.at (omega arith)
