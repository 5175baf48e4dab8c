use Rattle.std.proofs.Common.{arith}
use Rattle.std.proofs.lemmas.Result.{err_from_is_err_and}
use Rattle.state_codec.proofs.TagLaws.{none_so_far, one_more, all_read, one_fails}
use Rattle.state_codec.proofs.fields.Reader.tags.Goals as goal

pub loop-number-init : goal.loop-number-init
loop-number-init c = rw c.new-tags.ensures (none_so_far c.args.self.now.rest.now)

pub loop-number-preserved : goal.loop-number-preserved
loop-number-preserved c =
    let g = c.in_ok-add_tag.ensures in
    one_more c.loop-number.number c.args.self.now.rest.now c.loop-number.self.rest.now c.add_tag.new.self.rest.now c.loop-number.tags
    c.add_tag.new.tags c.at.result g.0 (omega arith) c.at.ensures.tag g.1 g.2 c.loop-number.invariant

pub returns-in_err-add_tag : goal.returns-in_err-add_tag
returns-in_err-add_tag c =
    let p = err_from_is_err_and c.from_residual.result c.from_residual.ensures.1 in
    rw (p.1, p.2) (one_fails c.loop-number.number c.args.self.now.rest.now c.loop-number.self.rest.now c.loop-number.tags c.in_err-add_tag.field-0.0
    (omega arith)
    c.in_err-add_tag.ensures c.loop-number.invariant)

pub returns : goal.returns
returns c = all_read c.loop-number.number c.args.self.now.rest.now c.loop-number.self.rest.now c.loop-number.tags (omega arith)
    c.loop-number.invariant
