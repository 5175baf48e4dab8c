use Rattle.std.proofs.Common.{◌+◌, ◌<◌, ◌≤◌, length, drop, sym, ap, ◌∙◌, arith}
use Rattle.std.proofs.lemmas.Result.{err_from_is_err_and}
use Rattle.idle_masks.specs.Subsystems.{none}
use Rattle.command_text.specs.Session.{mask_with}
use Rattle.command_text.proofs.Repeated.{mask_step, mask_stop, mask_end, refused_again}
use Rattle.command_text.proofs.command.session.mask.Goals as goal

pub loop-place-init : goal.loop-place-init
loop-place-init c = ap (λ set. mask_with set 1 c.args.words.now) c.none-set.ensures

pub returns-in_err-argument : goal.returns-in_err-argument
returns-in_err-argument c =
    let words = c.args.words.now in
    let i = c.loop-place.place in
    let lt : i < length words = omega arith in
    let stop = mask_stop words i c.index-words-place.result c.bytes.result.now c.named.result c.in_err-argument.field-0.0 c.loop-place.set
    lt c.index-words-place.is c.bytes.ensures c.named.ensures c.in_err-argument.ensures in
    refused_again c.from_residual.result (mask_with none 1 words) c.in_err-argument.field-0.0
    (err_from_is_err_and c.from_residual.result c.from_residual.ensures.1) (sym c.loop-place.invariant ∙ stop)

pub loop-place-preserved : goal.loop-place-preserved
loop-place-preserved c =
    let words = c.args.words.now in
    let i = c.loop-place.place in
    let lt : i < length words = omega arith in
    let step = mask_step words i c.index-words-place.result c.bytes.result.now c.named.result c.in_ok-argument.field-0 c.loop-place.set lt
    c.index-words-place.is c.bytes.ensures c.named.ensures c.in_ok-argument.ensures in
    ap (λ set. mask_with set (i + 1 + 1) (drop (i + 1) words)) c.union-set.ensures ∙ sym step ∙ c.loop-place.invariant

pub returns : goal.returns
returns c =
    let le : length c.args.words.now ≤ c.loop-place.place = omega arith in
    sym (sym c.loop-place.invariant ∙ mask_end c.args.words.now c.loop-place.place c.loop-place.set le)
