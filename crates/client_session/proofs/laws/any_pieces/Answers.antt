use Rattle.client_session.proofs.StreamLaws.{in_pieces}
use Rattle.client_session.proofs.laws.any_pieces.Goals as goal

pub returns : goal.returns
returns c = in_pieces
