use Rattle.std.proofs.Common.{◌≡◌, ◌+◌, ◌-◌, ◌≤◌, ◌∙◌, slice_range, sym, ap, arith}
use Rattle.std.proofs.lemmas.Result.{IfOk-weaker}
use Rattle.id3_tags.specs.Reading.{tag_by, tag_of_whole}
use Rattle.id3_tags.proofs.Wholes.{whole_is}
use Rattle.id3_tags.proofs.reader.read_by.Goals as goal

pub returns-clause-read : goal.returns-clause-read
returns-clause-read g c = λ told within.
    let few : c.min.result ≤ 1048576 = omega arith in
    let count : c.args.first + 10 + (c.args.first + 10 + c.min.result - (c.args.first + 10)) ≡ c.args.first + 10 + c.min.result
    = omega arith in
    IfOk-weaker c.read_whole.result (λ tag. tag ≡ tag_of_whole c.args.head c.deref.result.now)
    (λ tag. tag ≡ tag_by (g.S.Source.bytes c.args.source.now) c.args.first c.args.end c.args.head)
    (λ tag is. is ∙ ap (tag_of_whole c.args.head) (c.deref.ensures.value ∙ c.in_ok-bytes.ensures.read told
    ∙ ap (slice_range (g.S.Source.bytes c.args.source.now) (c.args.first + 10)) count)
    ∙ sym (whole_is (g.S.Source.bytes c.args.source.now) c.args.first c.args.end c.min.result c.args.head c.requires.order
    (sym c.if-not-is_whole.ensures) c.min.ensures few))
    c.read_whole.ensures.read
