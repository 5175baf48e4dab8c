use Rattle.client_session.proofs.ReadLines.{are_read, read_once}
use Rattle.client_session.proofs.laws.one_reading.Goals as goal

pub returns : goal.returns
returns c = record { read = are_read; once = read_once }
