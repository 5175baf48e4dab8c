use Rattle.song_head.proofs.Texts.{SoFar}
use Rattle.song_head.proofs.merged.all_texts.Given as goal

-- the texts of the tags so far
abbrev pub invariant-loop-number : goal.invariant-loop-number
invariant-loop-number l = SoFar l.rules l.manner l.own l.frames l.number l.tags
