use Rattle.std.proofs.Common.{arith, sym, subst, List, ℕ}
use Rattle.decoded_files.specs.Pieces.{IsPieceAt}
use Rattle.decoded_files.specs.Sources.{opened_bytes}
use Rattle.decoded_files.proofs.PieceBytes.{bytes_from_is, front_is}
use Rattle.decoded_files.proofs.source.DecodedSource.read_on.Goals as goal

pub returns-clause-read : goal.returns-clause-read
returns-clause-read g c = λ told opened step.
    let wave = opened_bytes (g.L.DecoderLink.told c.args.self.now.link) (g.L.DecoderLink.opened c.args.self.now.link) in
    let now = c.in_ok-refill.ensures.in_step told opened step in
    let from = bytes_from_is wave c.refill.new.self.piece c.args.at now.is_piece c.in_ok-refill.ensures.some in
    front_is wave c.bytes_from.result.now c.copy_front.new.buffer c.args.at c.copy_front.result (omega (arith, c.copy_front.ensures.count))
    (subst (λ (bytes : List ℕ). IsPieceAt wave c.args.at bytes) (sym c.bytes_from.ensures) from) c.copy_front.ensures.copied
