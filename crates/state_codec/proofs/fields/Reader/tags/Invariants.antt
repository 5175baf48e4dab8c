use Rattle.state_codec.proofs.TagLaws.{TagsSoFar}
use Rattle.state_codec.proofs.fields.Reader.tags.Given as goal

-- the texts of the tags below the number were read
abbrev pub invariant-loop-number : goal.invariant-loop-number
invariant-loop-number l = TagsSoFar l.number l.fn.self.rest.now l.self.rest.now l.tags
