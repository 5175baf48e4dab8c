use Rattle.std.proofs.Common.{◌≡◌, ℕ, ◌%◌, ◌^◌, ap, ◌∙◌, arith}
use Rattle.rand_chacha.specs.ChaCha.{ChaCha, key_of, next_word}
use Rattle.player_core.specs.Words.{word}
use Rattle.player_core.proofs.words.word.Goals as goal

pub returns : goal.returns
unfolding word
returns c =
    let place : c.from.result % 2 ^ 68 ≡ c.args.id = omega (arith, c.from.ensures, c.ranges.id) in
    let start : c.set_stream.new.self ≡ record { key = key_of c.args.key; stream = c.args.order; word_pos = 0 } =
    c.set_stream.ensures ∙ ap (λ (g : ChaCha). record g { stream = c.args.order }) c.from_seed-words.ensures in
    let there : c.set_word_pos.new.self ≡ record { key = key_of c.args.key; stream = c.args.order; word_pos = c.args.id } =
    c.set_word_pos.ensures ∙ ap (λ (g : ChaCha). record g { word_pos = c.from.result % 2 ^ 68 }) start
    ∙ ap (λ n. record { key = key_of c.args.key; stream = c.args.order; word_pos = n }) place in
    ap (λ (p : ℕ × ChaCha). p.0) c.next_word.ensures ∙ ap (λ (g : ChaCha). (next_word 4 g).0) there
