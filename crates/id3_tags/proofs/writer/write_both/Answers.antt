use Rattle.std.proofs.Common.{◌≡◌, ◌+◌, ◌++◌, ◌∙◌, length, vec_len, Some, ap, arith}
use Rattle.std.specs.List.{flat_map}
use Rattle.std.proofs.lemmas.Grind.{common_steps}
use Rattle.std.proofs.lemmas.Result.{IfOk-weaker}
use Rattle.id3_tags.specs.Writing.{written, written_text, written_picture, tag_front}
use Rattle.id3_tags.proofs.Writings.{both_is}
use Rattle.id3_tags.proofs.writer.write_both.Goals as goal

pub returns-clause-bytes : goal.returns-clause-bytes
returns-clause-bytes c =
    let bytes : c.push_picture.new.bytes.items ≡ flat_map written_text c.args.frames.now ++ written_picture c.args.picture.now
    = grind (arith, common_steps) in
    let len : c.picture.inside.len ≡ c.args.picture.now.len = ap (λ p. p.len) c.picture.view_is in
    let count : vec_len c.push_picture.new.bytes ≡ length c.push_picture.new.bytes.items = omega arith in
    let size : c.len.result + c.picture.inside.len ≡ length c.deref.result.now + c.args.picture.now.len
    = omega (arith, ap length c.deref.ensures.value) in
    IfOk-weaker c.sized.result (λ b. b.items ≡ tag_front (c.len.result + c.picture.inside.len) ++ c.deref.result.now)
    (λ b. b.items ≡ written c.args.frames.now (Some c.args.picture.now))
    (λ b is. is ∙ both_is c.args.frames.now c.args.picture.now c.deref.result.now (c.len.result + c.picture.inside.len)
    (c.deref.ensures.value ∙ bytes) size) c.sized.ensures.bytes
