use Rattle.std.proofs.Common.{◌≡◌, vec_len}
use Rattle.daemon_core.proofs.room.take_texts.Given as goal

abbrev pub invariant-loop-index : goal.invariant-loop-index
invariant-loop-index l = vec_len l.texts ≡ l.index
