use Rattle.std.proofs.Common.{◌≡◌, ◌+◌, ◌-◌, ◌*◌, ◌<◌, length, arith, ap, ◌∙◌, sym, refl, slice_range}
use Rattle.flac.specs.Reader.{samples_for, total_of}
use Rattle.as_wave.specs.Plan.{wave_head}
use Rattle.as_wave.proofs.FlacParts.{head_read, sound_read_of, tail_read}
use Rattle.as_wave.proofs.PlanParts.{length-wave_head}
use Rattle.as_wave.proofs.flac_read.read_flac.Goals as goal

pub returns-then-at-lt-HEAD_LEN-clause-read : goal.returns-then-at-lt-HEAD_LEN-clause-read
returns-then-at-lt-HEAD_LEN-clause-read g c = λ told fits.
    let layout = c.args.layout.now in
    let same : c.wave_head-head.result ≡ wave_head c.args.layout.now.format (2 * c.args.layout.now.count) c.len.result = c.wave_head-head.ensures in
    head_read layout (samples_for c.args.reader.now (g.S.Source.bytes c.args.source.now)) (g.S.Source.bytes c.args.source.now)
    c.copy_from.new.buffer c.args.at c.copy_from.result
    (omega (arith, c.copy_from.ensures.count, ap length same, length-wave_head layout.format (2 * layout.count) c.len.result))
    (c.copy_from.ensures.copied ∙ ap (λ xs. slice_range xs c.args.at (c.args.at + c.copy_from.result)) (same
    ∙ ap (wave_head layout.format (2 * layout.count)) c.len.ensures.len))

pub returns-then-place-sound_len-clause-read : goal.returns-then-place-sound_len-clause-read
returns-then-place-sound_len-clause-read g c = λ told fits.
    let layout = c.args.layout.now in
    let total = total_of c.args.reader.now in
    let counted : c.args.layout.now.count ≡ c.args.layout.now.format.channels * total_of c.args.reader.now
    = fits.counted ∙ ap (λ k. k * total) fits.channels in
    sound_read_of c.read_sound.result layout (samples_for c.args.reader.now (g.S.Source.bytes c.args.source.now)) (g.S.Source.bytes
    c.args.source.now) c.read_sound.new.buffer c.args.at (c.args.at - 44) (layout.format.channels * total) (omega arith) counted
    (c.read_sound.ensures.read told fits.knows fits.channels fits.some (omega (arith, counted)))

pub returns-clause-read : goal.returns-clause-read
returns-clause-read g c = λ told fits.
    let layout = c.args.layout.now in
    tail_read layout (samples_for c.args.reader.now (g.S.Source.bytes c.args.source.now)) (g.S.Source.bytes c.args.source.now)
    c.read_tail.new.buffer c.args.at (c.args.at - 44 - 2 * layout.count) c.in_ok-count.count (omega arith) (c.in_ok-count.ensures.read told
    fits.picture)
