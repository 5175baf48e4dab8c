use Rattle.client_session.proofs.StreamLaws.{parted, parted_once}
use Rattle.client_session.proofs.laws.one_parting.Goals as goal

pub returns : goal.returns
returns c = record { parted = parted; once = parted_once }
