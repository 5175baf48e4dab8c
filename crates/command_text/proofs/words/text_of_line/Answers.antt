use Rattle.std.proofs.Common.{◌≡◌, ◌-◌, length, get_or, false, ◌==◌, refl}
use Rattle.command_text.specs.Words.{without_return}
use Rattle.command_text.proofs.Lists.{hollow}
use Rattle.command_text.proofs.Spelling.{eqb_not}
use Rattle.command_text.proofs.words.text_of_line.Goals as goal
use Rattle.command_text.proofs.words.text_of_line.Goals.{else-not-is_empty-via-then-not-is_empty+else-line-eq13}
use Rattle.command_text.proofs.words.text_of_line.Goals.{else-not-is_empty-via-else-not-is_empty}

pub returns-then-line-eq13 : goal.returns-then-line-eq13
unfolding without_return
returns-then-line-eq13 c = rw c.if-line-eq13.true refl

pub returns : goal.returns
unfolding without_return
returns c =
    elim c.else-not-is_empty.branch [
      | else-not-is_empty-via-then-not-is_empty+else-line-eq13 w ↦
          let e : (get_or c.args.line.now (length c.args.line.now - 1) 0 == 13) ≡ false =
          eqb_not (get_or c.args.line.now (length c.args.line.now - 1) 0) 13 w.if-line-eq13.false in
          rw e refl
      | else-not-is_empty-via-else-not-is_empty w ↦
          rw (hollow c.args.line.now c.is_empty.result c.is_empty.ensures w.if-not-is_empty.false) refl
    ]
