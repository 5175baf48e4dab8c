use Rattle.std.proofs.Common.{rules, arith, sym, ◌<◌, ◌^◌, length, subst, ℕ}
use Rattle.decoded_files.specs.Pieces.{IsPieceAt}
use Rattle.decoded_files.proofs.piece.Piece.fetch.Goals as goal

pub returns-clause-read : goal.returns-clause-read
returns-clause-read g c = λ told path wave opened is_wave none.
    let answer = c.in_ok-send.ensures.read told path wave c.args.at c.args.count opened is_wave (search rules) none in
    let kept = c.in_ok-send.ensures.read_kept told path opened in
    let small : length answer.body < 2 ^ 32 = omega (arith, answer.answers.short) in
    record {
      none_comes = c.in_ok-take.ensures.whole kept.is_honest answer.body small answer.framed;
      is_piece =
          let ok = c.in_ok-take.ensures.ok kept.is_honest answer.body small answer.framed in
          subst (λ (at : ℕ). IsPieceAt wave at c.take.new.self.bytes) (sym c.in_ok-take.ensures.start)
          (answer.answers.told c.take.new.self.bytes ok);
    }
