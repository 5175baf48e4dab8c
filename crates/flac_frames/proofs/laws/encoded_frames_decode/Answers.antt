use Rattle.flac_frames.proofs.WritingBytes.{encoded-decodes}
use Rattle.flac_frames.proofs.SomeChoice.{some-choice}
use Rattle.flac_frames.proofs.laws.encoded_frames_decode.Goals as goal

pub returns-clause-decoded : goal.returns-clause-decoded
returns-clause-decoded c = encoded-decodes

pub returns-clause-some_choice : goal.returns-clause-some_choice
returns-clause-some_choice c = some-choice
