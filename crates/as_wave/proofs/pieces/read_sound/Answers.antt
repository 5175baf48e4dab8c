use Rattle.std.proofs.Common.{◌≡◌, ◌+◌, ◌*◌, ◌/◌, ◌%◌, ℕ, take, length, arith, ◌∙◌, subst, slice_range, IfOk}
use Rattle.as_wave.specs.Format.{byte_len}
use Rattle.as_wave.specs.Plan.{sound_from}
use Rattle.as_wave.proofs.PieceReads.{sound_read}
use Rattle.as_wave.proofs.pieces.read_sound.Goals as goal

pub returns-clause-read : goal.returns-clause-read
returns-clause-read g c = λ told.
    let file = g.S.Source.bytes c.args.source.now in
    let step : c.from-step.result ≡ byte_len c.args.width = c.from-step.ensures ∙ c.bytes.ensures in
    let P : ℕ → Type 0 = λ s. IfOk c.read_samples.result (λ n. take n c.read_samples.new.buffer ≡ slice_range (sound_from
    c.args.width (c.args.first + s * (c.args.at / 2)) c.min-piece.result file) (c.args.at % 2) (c.args.at % 2 + n)) in
    sound_read c.read_samples.result c.args.width c.args.first c.args.count c.args.at c.min-piece.result (length c.args.buffer.now)
    file c.read_samples.new.buffer (omega arith) c.read_samples.ensures.count (subst P step (c.read_samples.ensures.read told)) (omega arith)
