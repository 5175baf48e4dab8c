use Rattle.std.proofs.Common.{arith}
use Rattle.flac.proofs.PictureParts.{long_type}
use Rattle.flac.proofs.pictures.read_media_type.Goals as goal

pub returns-then-len-clause-name : goal.returns-then-len-clause-name
returns-then-len-clause-name g c = λ told within. long_type _ _ _ within (omega arith)
