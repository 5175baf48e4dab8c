use Rattle.daemon_core.proofs.TalkLaws.{tells_none}
use Rattle.daemon_core.proofs.pictures.tell_chunk.Goals as goal

pub returns-then-is_long : goal.returns-then-is_long
returns-then-is_long c =
    tells_none _ c.args.work.now c.keep_none.new.self _ _ c.if-is_long.true c.is_long.ensures c.keep_none.ensures
