use Rattle.std.proofs.Common.{◌≡◌, ◌-◌, length, drop, take, arith, length-drop}
use Rattle.std.proofs.lemmas.Grind.{common_steps}
use Rattle.std.proofs.lemmas.List.{take_all}
use Rattle.song_output.proofs.Appending.{taken_more}
use Rattle.song_output.proofs.writing.write_bytes.Goals as goal

pub loop-written-preserved : goal.loop-written-preserved
loop-written-preserved g c =
    let bytes = c.args.bytes.now in
    let written = c.loop-written.written in
    let rest = drop written bytes in
    let all : take (length bytes - written) rest ≡ rest = take_all _ rest (omega (arith, length-drop written bytes)) in
    record {
      within = grind (arith, common_steps, c.in-Ok.ensures.bound);
      sent = taken_more _ _ _ bytes written c.in-Ok.count c.loop-written.invariant.sent (rw all at c.in-Ok.ensures.bytes);
    }
