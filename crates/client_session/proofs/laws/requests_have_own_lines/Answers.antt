use Rattle.client_session.proofs.ReadLines.{stream_of_lines}
use Rattle.client_session.proofs.laws.requests_have_own_lines.Goals as goal

pub returns : goal.returns
returns c = stream_of_lines
