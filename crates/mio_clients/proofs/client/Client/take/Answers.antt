use Rattle.client_session.specs.declared.requests.Requests.{Requests}
use Rattle.mio_clients.proofs.GivenLaws.{meets_brings_none}
use Rattle.mio_clients.proofs.client.Client.take.Goals as goal

pub returns-in-Err-clause-too_long : goal.returns-in-Err-clause-too_long
returns-in-Err-clause-too_long g c = meets_brings_none Requests c.args.self.now.session.left c.args.piece.now c.in-Err.refusal
    (c.in-Err.ensures.fault c.requires.open)
