use Rattle.std.proofs.Common.{◌≡◌, ◌⊎◌, inl, inr, ◌<◌, length, get_or, true, false, sym, ◌∙◌, ap, arith}
use Rattle.command_text.specs.Words.{backslash}
use Rattle.command_text.proofs.Lists.{filled, hollow}
use Rattle.command_text.proofs.Spelling.{stands, escape_begins, word_is_over, other_byte, same_byte, inside_is_over}
use Rattle.command_text.proofs.words.stands_for.Goals as goal
use Rattle.command_text.proofs.words.stands_for.Goals.{else-not-escaped-via-then-not-escaped+else-byte-eq92}
use Rattle.command_text.proofs.words.stands_for.Goals.{else-not-escaped-via-else-not-escaped, then-is_empty-via-then-is_empty}
use Rattle.command_text.proofs.words.stands_for.Goals.{then-is_empty-via-else-is_empty+then-left-byte, then-not-escaped+then-byte-eq92}
use Rattle.command_text.proofs.words.stands_for.Goals.{else-not-escaped+else-is_empty+else-left-byte}

pub returns-then-is_empty : goal.returns-then-is_empty
returns-then-is_empty c =
    let i = c.loop-byte.byte-index in
    let lt : i < length c.args.inside.now = omega arith in
    let why : (c.loop-byte.escaped ≡ true) ⊎ (get_or c.args.inside.now i 0 ≡ backslash → ⊥) =
    elim c.else-not-escaped.branch [
      | else-not-escaped-via-then-not-escaped+else-byte-eq92 w ↦ inr w.if-byte-eq92.false
      | else-not-escaped-via-else-not-escaped w ↦ inl w.if-not-escaped.false
    ] in
    let e : stands c.loop-byte.escaped c.args.inside.now i c.loop-byte.left.now ≡ false =
    elim c.then-is_empty.branch [
      | then-is_empty-via-then-is_empty w ↦ word_is_over c.loop-byte.escaped c.args.inside.now c.loop-byte.left.now i lt why
          (hollow c.loop-byte.left.now c.is_empty.result c.is_empty.ensures w.if-is_empty.true)
      | then-is_empty-via-else-is_empty+then-left-byte w ↦ other_byte c.loop-byte.escaped c.args.inside.now c.loop-byte.left.now i lt why
          w.if-left-byte.true
    ] in
    sym (c.loop-byte.invariant ∙ e)

pub loop-byte-preserved : goal.loop-byte-preserved
loop-byte-preserved c =
    let i = c.loop-byte.byte-index in
    let lt : i < length c.args.inside.now = omega arith in
    elim c.if-not-escaped.branch [
      | then-not-escaped+then-byte-eq92 w ↦
          rw (w.escaped-is, w.left-is) (c.loop-byte.invariant
          ∙ ap (λ b. stands b c.args.inside.now i c.loop-byte.left.now) w.if-not-escaped.true
          ∙ sym (escape_begins c.args.inside.now c.loop-byte.left.now i lt w.if-byte-eq92.true))
      | else-not-escaped+else-is_empty+else-left-byte w ↦
          let why : (c.loop-byte.escaped ≡ true) ⊎ (get_or c.args.inside.now i 0 ≡ backslash → ⊥) =
          elim w.else-not-escaped.branch [
            | else-not-escaped-via-then-not-escaped+else-byte-eq92 v ↦ inr v.if-byte-eq92.false
            | else-not-escaped-via-else-not-escaped v ↦ inl v.if-not-escaped.false
          ] in
          let more = filled c.loop-byte.left.now w.is_empty.result w.is_empty.ensures w.if-is_empty.false in
          rw (w.escaped-is, w.left-is) (c.loop-byte.invariant
          ∙ sym (same_byte c.loop-byte.escaped c.args.inside.now c.loop-byte.left.now i lt why more w.if-left-byte.false))
    ]

pub returns : goal.returns
returns c =
    inside_is_over c.loop-byte.escaped c.args.inside.now c.loop-byte.left.now c.loop-byte.byte-index c.is_empty-2.result
    c.loop-byte-test.false c.is_empty-2.ensures ∙ sym c.loop-byte.invariant
