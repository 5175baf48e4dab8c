use Rattle.std.proofs.Common.{◌≡◌, ℕ, ◌+◌, ◌<◌, length}
use Rattle.std.specs.Prelude.{slice_index}
use Rattle.rand_chacha.specs.ChaCha.{key_of}
use Rattle.player_core.specs.Words.{word}
use Rattle.player_core.proofs.round_words.words_from.Given as goal

-- the words so far, and the generator behind them
abbrev pub invariant-loop-at : goal.invariant-loop-at
invariant-loop-at l = record {
  generator : l.generator ≡ record { key = key_of l.fn.key; stream = l.fn.order; word_pos = l.fn.first + l.at };
  size : length l.words ≡ 64;
  words : (i : ℕ) → i < l.at → slice_index l.words i ≡ word l.fn.key l.fn.order (l.fn.first + i);
}
