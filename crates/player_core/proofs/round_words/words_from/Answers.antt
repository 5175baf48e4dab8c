use Rattle.std.proofs.Common.{◌≡◌, ◌+◌, ◌%◌, ◌^◌, refl, ap, ◌∙◌, arith}
use Rattle.std.proofs.lemmas.List.{length-set}
use Rattle.rand_chacha.specs.ChaCha.{ChaCha}
use Rattle.player_core.proofs.MadeWords.{at_id, word_made, next_at, words_more}
use Rattle.player_core.proofs.round_words.words_from.Goals as goal

pub loop-at-init : goal.loop-at-init
loop-at-init c =
    let place : c.from.result % 2 ^ 68 ≡ c.args.first + 0 = omega (arith, c.from.ensures, c.ranges.first) in
    record {
      generator = c.set_word_pos.ensures ∙ ap (λ (g : ChaCha). record g { word_pos = c.from.result % 2 ^ 68 }) (c.set_stream.ensures
          ∙ ap (λ (g : ChaCha). record g { stream = c.args.order }) c.from_seed-generator.ensures)
          ∙ ap (at_id c.args.key c.args.order) place;
      size = refl;
      words = λ i below. absurd (omega arith);
    }

pub loop-at-preserved : goal.loop-at-preserved
loop-at-preserved c = record {
  generator = next_at c.args.key c.args.order (c.args.first + c.loop-at.at) (c.args.first + (c.loop-at.at + 1)) c.next_word.result
      c.loop-at.generator c.next_word.new.self c.next_word.ensures c.loop-at.invariant.generator (omega arith) (omega (
        arith,
        c.ranges.first,
      ));
  size = length-set c.loop-at.words c.loop-at.at c.next_word.result ∙ c.loop-at.invariant.size;
  words = words_more c.args.key c.args.order c.args.first c.loop-at.at c.next_word.result c.loop-at.words (omega arith) (word_made
      c.args.key c.args.order (c.args.first + c.loop-at.at) c.next_word.result c.loop-at.generator c.next_word.new.self
      c.next_word.ensures c.loop-at.invariant.generator) c.loop-at.invariant.words;
}
