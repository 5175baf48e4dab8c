use Rattle.std.proofs.Common.{ℕ, ◌+◌, ◌*◌, ◌≤◌, ap, sym, ◌∙◌, arith, slice_range}
use Rattle.std.proofs.lemmas.Result.{IfOk-weaker}
use Rattle.wave_pcm.specs.Pcm.{samples_in, range_from, frame_len}
use Rattle.wave_pcm.proofs.FrameList.{frames_are, some_same}
use Rattle.wave_pcm.proofs.frames.read_frames.Goals as goal

pub returns-in-Some-clause-frames : goal.returns-in-Some-clause-frames
returns-in-Some-clause-frames g c = λ told has.
    let all : c.args.info.now.first_byte + frame_len c.args.info.now * c.args.info.now.frames ≤ c.len-end.result = omega (
      arith,
      c.len-end.ensures told,
      has,
    ) in
    let place = some_same (c.in-Some.first, c.in-Some.len) (range_from c.args.info.now c.args.from c.args.most)
    (c.in-Some.ensures.place all) in
    IfOk-weaker c.read_samples.result _ _
    (λ samples same. same
    ∙ ap (λ (p : ℕ × ℕ). samples_in (slice_range (g.S.Source.bytes c.args.source.now) p.0 (p.0 + p.1))) place
    ∙ sym (frames_are (g.S.Source.bytes c.args.source.now) c.args.info.now c.args.from c.args.most))
    (c.read_samples.ensures.samples told)
