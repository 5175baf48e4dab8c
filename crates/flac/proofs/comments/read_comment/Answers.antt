use Rattle.std.proofs.Common.{arith}
use Rattle.flac.proofs.TextTests.{long_field}
use Rattle.flac.proofs.comments.read_comment.Goals as goal

pub returns-then-len-clause-comment : goal.returns-then-len-clause-comment
returns-then-len-clause-comment g c = λ told within. long_field _ _ _ within (omega arith)
