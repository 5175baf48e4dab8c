use Rattle.std.proofs.Common.{◌≡◌, ◌<◌, ◌≤◌, ◌-◌, suc, length, get_or, sym, ◌∙◌, arith}
use Rattle.song_head.proofs.Ends.{end_kept, end_cut}
use Rattle.song_head.proofs.frame_values.without_end.Goals as goal

pub returns-then-byte-gt32 : goal.returns-then-byte-gt32
returns-then-byte-gt32 c =
    let text = c.loop-rest.rest.now in
    sym (end_kept text (length text - 1) 0 (omega arith) (omega arith)) ∙ c.loop-rest.invariant

pub loop-rest-preserved : goal.loop-rest-preserved
loop-rest-preserved c =
    let text = c.loop-rest.rest.now in
    end_cut text (length text - 1) 0 (omega arith) (omega arith) ∙ c.loop-rest.invariant
