use Rattle.std.proofs.Common.{◌≡◌, ◌+◌, ◌-◌, ◌*◌, ◌<◌, ◌≤◌, ◌∙◌, ap, length, take, refl, arith}
use Rattle.std.proofs.lemmas.List.{take_at, length-take-le}
use Rattle.std.proofs.lemmas.Grind.{common_steps}
use Rattle.flac_frames.specs.Decoder.{samples_of}
use Rattle.flac.specs.Frames.{side_by_side}
use Rattle.flac.specs.Reader.{AreHeld, all_samples}
use Rattle.flac.proofs.Turns.{div_room, no_room, piece_of}
use Rattle.flac.proofs.reader.FlacReader.copy.Goals as goal

pub returns-then-size_of-place-clause-some : goal.returns-then-size_of-place-clause-some
returns-then-size_of-place-clause-some c = λ file known held some room either.
    let is = rw c.in-Some.is at known.held in
    let few : c.args.from - c.in-Some.held.first + c.min-count.result ≤ c.in-Some.held.count = omega (
      arith,
      c.limit-left.ensures.few,
      c.min-count.ensures,
      c.from.ensures,
    ) in
    let short = rw c.from-channels.ensures at c.if-size_of-place.true in
    absurd (no_room c.args.self.now.info.channels c.in-Some.held.count (c.args.from - c.in-Some.held.first) c.min-count.result
    c.size_of.result few (c.size_of.ensures ∙ is.size) short)

pub returns-clause-samples : goal.returns-clause-samples
returns-clause-samples c = λ file known.
    let is = rw c.in-Some.is at known.held in
    let few : c.args.from - c.in-Some.held.first + c.min-count.result ≤ c.in-Some.held.count = omega (
      arith,
      c.limit-left.ensures.few,
      c.min-count.ensures,
      c.from.ensures,
    ) in
    let some : 0 < c.from-channels.result = omega arith in
    let first = (c.has.ensures.here c.if-not-has.false).0 in
    let room : c.min-count.result * c.from-channels.result ≤ length c.args.buffer.now = div_room c.min-count.result
    c.from-channels.result (length c.args.buffer.now) c.limit-left.result some c.min-count.ensures in
    let whole : length (take (c.min-count.result * c.from-channels.result) c.args.buffer.now) ≡ c.min-count.result *
    c.from-channels.result = length-take-le (c.min-count.result * c.from-channels.result) c.args.buffer.now room in
    let size : length (take (c.min-count.result * c.from-channels.result) c.args.buffer.now) ≡ c.min-count.result *
    c.args.self.now.info.channels = whole ∙ ap (λ k. c.min-count.result * k) c.from-channels.ensures in
    let long : length c.copy_flat.new.buffer ≡ c.args.self.now.info.channels * c.min-count.result = omega (
      arith,
      c.copy_flat.auto.buffer,
      size,
    ) in
    take_at c.copy_flat.new.buffer _ (c.args.self.now.info.channels * c.min-count.result) long
    ∙ c.copy_flat.ensures
    ∙ piece_of (all_samples c.args.self.now.info c.args.self.now.start file) (side_by_side (samples_of c.args.self.now.decoder))
    c.args.self.now.info.channels c.in-Some.held.first c.in-Some.held.count (c.args.from - c.in-Some.held.first) c.min-count.result
    c.args.from ((c.args.from - c.in-Some.held.first) * c.from-channels.result) (length (take (c.min-count.result *
    c.from-channels.result) c.args.buffer.now)) is.here (omega (arith, first)) few
    (ap (λ k. (c.args.from - c.in-Some.held.first) * k) c.from-channels.ensures) size
