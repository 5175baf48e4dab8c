use Rattle.std.proofs.Common.{arith}
use Rattle.flac.proofs.FieldList.{no_text_len, text_too_long, text_fits}
use Rattle.flac.proofs.fields.read_text_len.Goals as goal

pub returns-in_default-clause-len : goal.returns-in_default-clause-len
returns-in_default-clause-len g c = λ told within. no_text_len _ (rw c.in_default.is at (c.in_ok-len.ensures.count told within))

pub returns-then-len-end-clause-len : goal.returns-then-len-end-clause-len
returns-then-len-end-clause-len g c = λ told within.
    let room = rw c.in-Some.is at c.in_ok-len.ensures.within in
    text_too_long _ _ _ c.in-Some.len room within (omega (arith, room)) (rw c.in-Some.is at (c.in_ok-len.ensures.count told within))

pub returns-clause-len : goal.returns-clause-len
returns-clause-len g c = λ told within.
    let room = rw c.in-Some.is at c.in_ok-len.ensures.within in
    text_fits _ _ _ c.in-Some.len (omega (arith, room)) within (rw c.in-Some.is at (c.in_ok-len.ensures.count told within))
