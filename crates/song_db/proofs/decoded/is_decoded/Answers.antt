use Rattle.std.proofs.Common.{sym, ◌∙◌}
use Rattle.song_db.proofs.DecodedEndings.{begins, found, none, passed}
use Rattle.song_db.proofs.decoded.is_decoded.Goals as goal

pub loop-ending-init : goal.loop-ending-init
loop-ending-init c = begins c.args.path.now c.decoded_endings-ending-items.result.now c.decoded_endings-ending-items.ensures

pub returns-then-ends_in : goal.returns-then-ends_in
returns-then-ends_in c =
    found c.args.path.now c.decoded_endings-ending-items.result.now c.loop-ending.ending-index _ c.as_bytes.result.now _ c.loop-ending-test.true
    c.as_bytes.ensures.value (sym c.ends_in.ensures ∙ c.if-ends_in.true) c.loop-ending.invariant

pub loop-ending-preserved : goal.loop-ending-preserved
loop-ending-preserved c =
    passed c.args.path.now c.decoded_endings-ending-items.result.now c.loop-ending.ending-index _ c.as_bytes.result.now _ c.loop-ending-test.true
    c.as_bytes.ensures.value (sym c.ends_in.ensures ∙ c.if-ends_in.false) c.loop-ending.invariant

pub returns : goal.returns
returns c = none c.args.path.now c.decoded_endings-ending-items.result.now c.loop-ending.ending-index _ c.loop-ending-test.false
    c.loop-ending.invariant
