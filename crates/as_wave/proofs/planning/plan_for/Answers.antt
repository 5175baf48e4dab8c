use Rattle.std.proofs.Common.{◌≡◌, arith, ap, ◌∙◌}
use Rattle.as_wave.specs.ChunkHead.{total_size}
use Rattle.as_wave.proofs.PlanParts.{too_long, fits_in, count_is}
use Rattle.as_wave.proofs.planning.plan_for.Goals as goal

pub returns-then-count-clause-planned : goal.returns-then-count-clause-planned
returns-then-count-clause-planned c = λ file stands each.
    let counted = count_is c.args.sound.len c.args.format.channels c.bytes.result c.from-step.result c.from.result c.args.format.width
    c.from.ensures c.from-step.ensures c.bytes.ensures in
    too_long file c.args.format c.args.sound c.args.kept.items _ stands each counted (omega arith)

pub returns-in_default-clause-planned : goal.returns-in_default-clause-planned
returns-in_default-clause-planned c = λ file stands each.
    let counted = count_is c.args.sound.len c.args.format.channels c.bytes.result c.from-step.result c.from.result c.args.format.width
    c.from.ensures c.from-step.ensures c.bytes.ensures in
    too_long file c.args.format c.args.sound c.args.kept.items _ stands each counted (omega (arith, c.in_default.ensures.large, ap total_size c.deref.ensures.value))

pub returns-then-count-rest-ge-SIZE_END-clause-planned :
    goal.returns-then-count-rest-ge-SIZE_END-clause-planned
returns-then-count-rest-ge-SIZE_END-clause-planned c = λ file stands each.
    let counted = count_is c.args.sound.len c.args.format.channels c.bytes.result c.from-step.result c.from.result c.args.format.width
    c.from.ensures c.from-step.ensures c.bytes.ensures in
    let all : c.in-Some.rest ≡ total_size c.args.kept.items = c.in-Some.ensures.total ∙ ap total_size c.deref.ensures.value in
    too_long file c.args.format c.args.sound c.args.kept.items _ stands each counted (omega arith)

pub returns-clause-planned : goal.returns-clause-planned
returns-clause-planned c = λ file stands each.
    let counted = count_is c.args.sound.len c.args.format.channels c.bytes.result c.from-step.result c.from.result c.args.format.width
    c.from.ensures c.from-step.ensures c.bytes.ensures in
    let all : c.in-Some.rest ≡ total_size c.args.kept.items = c.in-Some.ensures.total ∙ ap total_size c.deref.ensures.value in
    fits_in file c.args.format c.args.sound c.args.kept.items _ _ stands each counted all c.if-count-rest-ge-SIZE_END.false
