use Rattle.std.proofs.Common.{◌∙◌, ap, sym, refl, arith}
use Rattle.std.specs.Ordering.{is_le}
use Rattle.song_db.proofs.BelowOrder.{before_short, before_long}
use Rattle.song_db.proofs.folder_rows.is_before.Goals as goal

pub returns-in-Less : goal.returns-in-Less
returns-in-Less c =
    let decided = before_long c.args.path.now c.args.folder.now c.args.next (omega arith) in
    rw (decided, ← c.in-Less.ensures) refl

pub returns-in-Equal : goal.returns-in-Equal
returns-in-Equal c =
    let decided = before_long c.args.path.now c.args.folder.now c.args.next (omega arith) in
    rw (decided, ← c.in-Equal.ensures) refl

pub returns-in-Greater : goal.returns-in-Greater
returns-in-Greater c =
    let decided = before_long c.args.path.now c.args.folder.now c.args.next (omega arith) in
    rw (decided, ← c.in-Greater.ensures) refl

pub returns-then-path-folder : goal.returns-then-path-folder
returns-then-path-folder c = c.is_le.ensures ∙ ap is_le c.cmp.ensures
    ∙ sym (before_short c.args.path.now c.args.folder.now c.args.next (omega arith))
