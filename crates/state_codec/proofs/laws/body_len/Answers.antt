use Rattle.state_codec.specs.Spelling.{ops_bytes}
use Rattle.state_codec.proofs.LengthLaws.{batch_len}
use Rattle.state_codec.proofs.SealedLaws.{sealed_len}
use Rattle.state_codec.proofs.laws.body_len.Goals as goal

pub returns-clause-whole : goal.returns-clause-whole
returns-clause-whole c = λ profile ops. sealed_len profile (ops_bytes profile ops)

pub returns-clause-batch : goal.returns-clause-batch
returns-clause-batch c = batch_len
