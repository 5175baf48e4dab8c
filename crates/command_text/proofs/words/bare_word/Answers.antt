use Rattle.std.proofs.Common.{arith, length, ap}
use Rattle.command_text.proofs.Lists.{filled, hollow}
use Rattle.command_text.proofs.Following.{stops_at, bare_part_refused, bare_part_found}
use Rattle.command_text.proofs.words.bare_word.Goals as goal
use Rattle.command_text.proofs.words.bare_word.Goals.{else-not-is_empty-via-then-not-is_empty+else-rest-eq34}
use Rattle.command_text.proofs.words.bare_word.Goals.{else-not-is_empty-via-else-not-is_empty}

pub returns-then-rest-eq34 : goal.returns-then-rest-eq34
returns-then-rest-eq34 c =
    let stops = stops_at c.args.bytes.now c.memchr3.result c.unwrap_or-length.result c.memchr3.ensures c.unwrap_or-length.ensures in
    let more = filled c.split_at.result.1.now c.is_empty.result c.is_empty.ensures c.if-not-is_empty.true in
    bare_part_refused c.args.bytes.now c.split_at.result.1.now c.unwrap_or-length.result stops c.requires.0 c.requires.1
    c.split_at.ensures.back more c.if-rest-eq34.true

pub returns : goal.returns
returns c =
    let stops = stops_at c.args.bytes.now c.memchr3.result c.unwrap_or-length.result c.memchr3.ensures c.unwrap_or-length.ensures in
    bare_part_found c.args.bytes.now c.split_at.result.0.now c.split_at.result.1.now c.unwrap_or-length.result stops c.requires.0
    c.requires.1 c.split_at.ensures.front c.split_at.ensures.back
    (λ more e. elim c.else-not-is_empty.branch [
      | else-not-is_empty-via-then-not-is_empty+else-rest-eq34 w ↦ w.if-rest-eq34.false e
      | else-not-is_empty-via-else-not-is_empty w ↦ absurd
          (omega (arith, more, ap length (hollow c.split_at.result.1.now c.is_empty.result c.is_empty.ensures w.if-not-is_empty.false)))
    ])
