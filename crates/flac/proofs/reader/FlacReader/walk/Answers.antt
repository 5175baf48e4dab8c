use Rattle.std.proofs.Common.{◌≡◌, ◌+◌, ◌≤◌, ◌∙◌, [], length, drop, refl, sym, ap, arith}
use Rattle.std.proofs.lemmas.Result.{err_from_is_err_and}
use Rattle.song_files.proofs.Sources.{keeps_then, grows_after}
use Rattle.flac_frames.specs.Decoder.{samples_of}
use Rattle.flac.specs.Frames.{samples_in, side_by_side}
use Rattle.flac.specs.Reader.{AreHeld, IsPlace, IsReaderOf}
use Rattle.flac.proofs.Samples.{count_end, offset_end}
use Rattle.flac.proofs.Verdicts.{fault_is}
use Rattle.flac.proofs.reader.FlacReader.walk.Goals as goal

pub frames-init : goal.frames-init
frames-init g c = (
  (refl, refl),
  λ told. record { is_honest = told; same = refl; counted = omega arith; stays = λ steady. steady },
  λ told all known. (record { places = known.places; held = tt }, c.nearest-at.ensures.known (g.S.Source.bytes c.args.source.now) known),
)

pub returns-in_err-held-clause-knows : goal.returns-in_err-held-clause-knows
returns-in_err-held-clause-knows g c = λ told all known.
    let kept = c.frames.invariant.1 told in
    let here : c.args.end ≡ length (g.S.Source.bytes c.frames.source) = rw kept.same all in
    let before = c.frames.invariant.2 told all known in
    let place : IsPlace c.frames.self.info c.frames.self.start (g.S.Source.bytes c.frames.source) c.frames.at = rw kept.same before.1 in
    let reader : IsReaderOf (g.S.Source.bytes c.frames.source) c.frames.self = rw kept.same before.0 in
    rw kept.same at (c.in_err-held.ensures.knows kept.is_honest here place reader)

pub returns-in_err-held-clause-same : goal.returns-in_err-held-clause-same
returns-in_err-held-clause-same g c = (
  c.in_err-held.ensures.same.0 ∙ c.frames.invariant.0.0,
  c.in_err-held.ensures.same.1 ∙ c.frames.invariant.0.1,
)

pub returns-in_err-held-clause-fault : goal.returns-in_err-held-clause-fault
returns-in_err-held-clause-fault g c = λ told all failed.
    let kept = c.frames.invariant.1 told in
    let here : c.args.end ≡ length (g.S.Source.bytes c.frames.source) = rw kept.same all in
    let p = err_from_is_err_and c.from_residual.result c.from_residual.ensures.1 in
    fault_is c.from_residual.result p.0 _ _ _ (grows_after _ _ _ kept.counted) p.1 p.2 (c.in_err-held.ensures.fault kept.is_honest here)
    failed

pub returns-in_err-held-clause-kept : goal.returns-in_err-held-clause-kept
returns-in_err-held-clause-kept g c = λ told.
    let kept = c.frames.invariant.1 told in keeps_then kept (c.in_err-held.ensures.kept kept.is_honest)

pub returns-in_default-clause-walked : goal.returns-in_default-clause-walked
returns-in_default-clause-walked g c = λ told all known.
    let kept = c.frames.invariant.1 told in
    let here : c.args.end ≡ length (g.S.Source.bytes c.frames.source) = rw kept.same all in
    let before = c.frames.invariant.2 told all known in
    let place : IsPlace c.frames.self.info c.frames.self.start (g.S.Source.bytes c.frames.source) c.frames.at = rw kept.same before.1 in
    let same = c.in_ok-held.ensures.same in
    let none : samples_in c.hold.new.self.info (drop c.frames.at.offset (g.S.Source.bytes c.args.source.now)) ≡ []
    = rw kept.same at (rw c.in_default.is at (c.in_ok-held.ensures.held kept.is_honest here place)) in
    let there : IsPlace c.hold.new.self.info c.hold.new.self.start (g.S.Source.bytes c.args.source.now) c.frames.at = rw (
      same.0,
      same.1,
    ) before.1 in
    count_end c.hold.new.self.info c.hold.new.self.start (g.S.Source.bytes c.args.source.now) c.frames.at there none

pub returns-in_default-clause-knows : goal.returns-in_default-clause-knows
returns-in_default-clause-knows g c = λ told all known.
    let kept = c.frames.invariant.1 told in
    let here : c.args.end ≡ length (g.S.Source.bytes c.frames.source) = rw kept.same all in
    let before = c.frames.invariant.2 told all known in
    let place : IsPlace c.frames.self.info c.frames.self.start (g.S.Source.bytes c.frames.source) c.frames.at = rw kept.same before.1 in
    let reader : IsReaderOf (g.S.Source.bytes c.frames.source) c.frames.self = rw kept.same before.0 in
    rw kept.same at (c.in_ok-held.ensures.knows kept.is_honest here place reader)

pub returns-in_default-clause-same : goal.returns-in_default-clause-same
returns-in_default-clause-same g c = (
  c.in_ok-held.ensures.same.0 ∙ c.frames.invariant.0.0,
  c.in_ok-held.ensures.same.1 ∙ c.frames.invariant.0.1,
)

pub returns-in_default-clause-kept : goal.returns-in_default-clause-kept
returns-in_default-clause-kept g c = λ told.
    let kept = c.frames.invariant.1 told in keeps_then kept (c.in_ok-held.ensures.kept kept.is_honest)

pub frames-preserved : goal.frames-preserved
frames-preserved g c = (
  (c.in_ok-held.ensures.same.0 ∙ c.frames.invariant.0.0, c.in_ok-held.ensures.same.1 ∙ c.frames.invariant.0.1),
  λ told. let kept = c.frames.invariant.1 told in keeps_then kept (c.in_ok-held.ensures.kept kept.is_honest),
  λ told all known.
      let kept = c.frames.invariant.1 told in
      let here : c.args.end ≡ length (g.S.Source.bytes c.frames.source) = rw kept.same all in
      let before = c.frames.invariant.2 told all known in
      let place : IsPlace c.frames.self.info c.frames.self.start (g.S.Source.bytes c.frames.source) c.frames.at = rw kept.same
      before.1 in
      let reader : IsReaderOf (g.S.Source.bytes c.frames.source) c.frames.self = rw kept.same before.0 in
      let after : IsReaderOf (g.S.Source.bytes c.args.source.now) c.hold.new.self
      = rw kept.same at (c.in_ok-held.ensures.knows kept.is_honest here place reader) in
      let held : AreHeld c.hold.new.self.info c.hold.new.self.start (g.S.Source.bytes c.args.source.now) (side_by_side (samples_of c.hold.new.self.decoder)) c.in-Some.held
      = rw kept.same at (rw c.in-Some.is at (c.in_ok-held.ensures.held kept.is_honest here place)) in
      let sum : c.in-Some-checked_add.sample ≡ c.in-Some.held.first + c.in-Some.held.count = c.in-Some-checked_add.ensures.1 ∙ ap (λ n. c.in-Some.held.first + n) c.from.ensures in
      let next : IsPlace c.hold.new.self.info c.hold.new.self.start (g.S.Source.bytes c.args.source.now) (record {
        sample = c.in-Some-checked_add.sample;
        offset = c.in-Some.held.offset;
      }) = rw sum held.next in (
        record {
          places = c.note.ensures c.hold.new.self.info c.hold.new.self.start (g.S.Source.bytes c.args.source.now)
              after.places next;
          held = after.held;
        },
        next,
      ),
)

pub returns-clause-knows : goal.returns-clause-knows
returns-clause-knows g c = λ told all known. (c.frames.invariant.2 told all known).0

pub returns-clause-same : goal.returns-clause-same
returns-clause-same g c = c.frames.invariant.0

pub returns-clause-kept : goal.returns-clause-kept
returns-clause-kept g c = c.frames.invariant.1

pub returns-clause-walked : goal.returns-clause-walked
returns-clause-walked g c = λ told all known.
    let before = c.frames.invariant.2 told all known in
    count_end c.frames.self.info c.frames.self.start (g.S.Source.bytes c.args.source.now) c.frames.at before.1
    (offset_end c.frames.self.info (g.S.Source.bytes c.args.source.now) c.frames.at.offset (omega (arith, all)))
