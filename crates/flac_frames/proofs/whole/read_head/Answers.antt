-- The check is over the bytes in front of what is left.
use Rattle.std.proofs.Common.{◌≡◌, ◌∙◌, ◌-◌, ◌/◌, ◌%◌, length, ap, arith}
use Rattle.std.proofs.lemmas.Bool.{eq-eqb, ne_eqb}
use Rattle.flac_frames.specs.Left.{left}
use Rattle.flac_frames.proofs.BitLists.{length-bits_of}
use Rattle.flac_frames.proofs.Consumed.{head_checked, chosen, unchosen}
use Rattle.flac_frames.proofs.whole.read_head.Goals as goal

pub returns-then-code-from-clause-reads : goal.returns-then-code-from-clause-reads
returns-then-code-from-clause-reads c =
    let whole : length (left c.read_fields.new.reader) % 8 ≡ 0 = omega (arith, c.in_ok-head.ensures.whole, ap length c.requires, length-bits_of c.args.bytes.now) in
    let len : c.saturating_sub-len.result ≡ length c.args.bytes.now - length (left c.read_fields.new.reader) / 8 = c.saturating_sub-len.ensures ∙ ap (λ k. length c.args.bytes.now - k) c.whole_bytes.ensures in
    let h = head_checked c.args.stream c.args.bytes.now (left c.args.reader.now) (left c.read_fields.new.reader) (left c.unsigned.new.self) c.in_ok-head.head c.in_ok-code.code c.check_8-check.result c.saturating_sub-len.result
    c.requires c.in_ok-head.ensures.reads whole len c.check_8-check.ensures c.in_ok-code.ensures.reads in
    h ∙ chosen _ _ _ (eq-eqb c.in_ok-code.code c.check_8-check.result (c.if-code-from.true ∙ c.from.ensures))

pub returns-else-code-from-clause-reads : goal.returns-else-code-from-clause-reads
returns-else-code-from-clause-reads c =
    let whole : length (left c.read_fields.new.reader) % 8 ≡ 0 = omega (arith, c.in_ok-head.ensures.whole, ap length c.requires, length-bits_of c.args.bytes.now) in
    let len : c.saturating_sub-len.result ≡ length c.args.bytes.now - length (left c.read_fields.new.reader) / 8 = c.saturating_sub-len.ensures ∙ ap (λ k. length c.args.bytes.now - k) c.whole_bytes.ensures in
    let h = head_checked c.args.stream c.args.bytes.now (left c.args.reader.now) (left c.read_fields.new.reader) (left c.unsigned.new.self) c.in_ok-head.head c.in_ok-code.code c.check_8-check.result c.saturating_sub-len.result
    c.requires c.in_ok-head.ensures.reads whole len c.check_8-check.ensures c.in_ok-code.ensures.reads in
    let differs : c.in_ok-code.code ≡ c.check_8-check.result → ⊥ = λ (e : c.in_ok-code.code ≡ c.check_8-check.result). absurd (omega (arith, e, c.from.ensures, c.if-code-from.false)) in
    h ∙ unchosen _ _ _ (ne_eqb c.in_ok-code.code c.check_8-check.result differs)
