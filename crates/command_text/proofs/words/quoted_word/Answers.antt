use Rattle.std.proofs.Common.{◌+◌, length, ap, sym, ◌∙◌, arith}
use Rattle.command_text.proofs.Lists.{filled, hollow}
use Rattle.command_text.proofs.Searches.{behind}
use Rattle.command_text.proofs.Following.{quoted_refused, quoted_found}
use Rattle.command_text.proofs.words.quoted_word.Goals as goal
use Rattle.command_text.proofs.words.quoted_word.Goals.{else-not-is_empty-via-then-not-is_empty+else-not-is_blank}
use Rattle.command_text.proofs.words.quoted_word.Goals.{else-not-is_empty-via-else-not-is_empty}

pub returns-then-not-is_blank : goal.returns-then-not-is_blank
returns-then-not-is_blank c =
    quoted_refused c.args.inside.now c.in-Some.end c.in-Some.ensures
    (filled (behind c.args.inside.now (c.in-Some.end + 1)) c.is_empty.result c.is_empty.ensures c.if-not-is_empty.true)
    (sym c.is_blank.ensures ∙ c.if-not-is_blank.true)

pub returns : goal.returns
returns c =
    quoted_found c.args.inside.now c.in-Some.end c.in-Some.ensures
    (λ more. elim c.else-not-is_empty.branch [
      | else-not-is_empty-via-then-not-is_empty+else-not-is_blank w ↦ sym w.is_blank.ensures ∙ w.if-not-is_blank.false
      | else-not-is_empty-via-else-not-is_empty w ↦ absurd
          (omega (
            arith,
            more,
            ap length (hollow (behind c.args.inside.now (c.in-Some.end + 1)) c.is_empty.result c.is_empty.ensures w.if-not-is_empty.false),
          ))
    ])
