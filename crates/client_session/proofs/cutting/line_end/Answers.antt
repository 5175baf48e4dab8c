use Rattle.client_session.proofs.Newlines.{line_end_of}
use Rattle.client_session.proofs.cutting.line_end.Goals as goal

pub returns : goal.returns
returns c = line_end_of c.args.pending c.min-room.result c.args.rest.now c.memchr.result (cc) c.memchr.ensures
