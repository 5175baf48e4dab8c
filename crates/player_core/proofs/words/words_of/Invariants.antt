use Rattle.std.proofs.Common.{◌≡◌, take, map}
use Rattle.player_core.specs.Words.{word}
use Rattle.player_core.proofs.words.words_of.Given as goal

-- the words so far
abbrev pub invariant-loop-id : goal.invariant-loop-id
invariant-loop-id l = record {
  round : l.table ≡ record { key = l.fn.key; order = l.fn.order };
  words : l.words.items ≡ map (word l.fn.key l.fn.order) (take l.id-index l.part);
}
