use Rattle.std.proofs.Common.{◌≡◌, ◌*◌, length, take, ap, arith, Ok}
use Rattle.std.proofs.lemmas.List.{length-take-le}
use Rattle.flac.specs.Reader.{samples_for, channels_of, total_of, all_samples}
use Rattle.as_wave.specs.FlacSamples.{from_bits}
use Rattle.as_wave.proofs.FlacSounds.{samples_read_by, some_read, few_samples, too_many, length-limited}
use Rattle.as_wave.proofs.flac_read.read_sound.Goals as goal

pub returns-clause-read : goal.returns-clause-read
returns-clause-read g c = λ told knows same some within.
    samples_read_by (from_bits c.args.bits) (samples_for c.args.reader.now (g.S.Source.bytes c.args.source.now)) c.read.new.buffer
    c.copy_samples.new.buffer c.args.channels (channels_of c.args.reader.now) c.from-step.result c.from.result (total_of c.args.reader.now)
    c.in_ok-count.count c.args.at c.copy_samples.result _ c.requires.channels.0 c.requires.channels.1 same c.from-step.ensures c.from.ensures
    within (omega (arith, c.in_ok-count.ensures.count, c.read.auto.buffer)) (c.in_ok-count.ensures.samples told knows)
    (length-limited c.args.reader.now.info (all_samples c.args.reader.now.info c.args.reader.now.start (g.S.Source.bytes
    c.args.source.now)) some)
    c.copy_samples.ensures.count c.copy_samples.ensures.copied

pub returns-then-count-gt-PIECE-clause-some : goal.returns-then-count-gt-PIECE-clause-some
returns-then-count-gt-PIECE-clause-some g c = λ told knows same within room.
    absurd (too_many c.in_ok-count.count c.args.channels (channels_of c.args.reader.now) same c.requires.channels.0 c.if-count-gt-PIECE.true
    c.in_ok-count.ensures.count)

pub overflow_mul-size : goal.overflow_mul-size
overflow_mul-size g c =
    omega (arith, few_samples c.in_ok-count.count c.args.channels c.from.result c.from.ensures c.requires.channels.1 c.if-count-gt-PIECE.false)

pub returns-clause-some : goal.returns-clause-some
returns-clause-some g c = λ told knows same within room.
    let size : length (take (c.in_ok-count.count * c.from.result) c.read.new.buffer) ≡ c.in_ok-count.count * c.from.result
    = length-take-le (c.in_ok-count.count * c.from.result) c.read.new.buffer (omega (arith, c.if-size-gt-PIECE.false, c.read.auto.buffer)) in
    some_read c.args.channels (channels_of c.args.reader.now) c.from-step.result c.from.result (total_of c.args.reader.now)
    c.in_ok-count.count c.args.at _ c.copy_samples.result (length c.args.buffer.now) c.requires.channels.0 c.requires.channels.1 same
    c.from-step.ensures c.from.ensures within
    (λ none full. (c.in_ok-count.ensures.end told knows (omega (arith, same, c.requires.channels.0)) (omega (
      arith,
      same,
      c.requires.channels.1,
    )) (ap Ok none)).1 full)
    size c.copy_samples.ensures.count room
