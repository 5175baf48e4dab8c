use Rattle.std.proofs.Common.{◌≡◌, ◌+◌, ◌≤◌, ◌∙◌, [], length, drop, refl, sym, arith}
use Rattle.std.proofs.lemmas.Result.{err_from_is_err_and}
use Rattle.song_files.proofs.Sources.{keeps_then, grows_after}
use Rattle.flac_frames.specs.Decoder.{samples_of}
use Rattle.flac.specs.Frames.{samples_in, side_by_side}
use Rattle.flac.specs.Reader.{AreHeld, IsPlace, IsReaderOf}
use Rattle.flac.proofs.Samples.{place_end, offset_end}
use Rattle.flac.proofs.Verdicts.{fails_more}
use Rattle.flac.proofs.reader.FlacReader.find.Goals as goal

pub frames-init : goal.frames-init
frames-init g c = (
  (refl, refl),
  c.nearest-at.ensures.before,
  λ told. record { is_honest = told; same = refl; counted = omega arith; stays = λ steady. steady },
  λ told all known. (record { places = known.places; held = tt }, c.nearest-at.ensures.known (g.S.Source.bytes c.args.source.now) known),
)

pub returns-in_err-held-clause-knows : goal.returns-in_err-held-clause-knows
returns-in_err-held-clause-knows g c = λ told all known.
    let kept = c.frames.invariant.2 told in
    let here : c.args.end ≡ length (g.S.Source.bytes c.frames.source) = rw kept.same all in
    let before = c.frames.invariant.3 told all known in
    let place : IsPlace c.frames.self.info c.frames.self.start (g.S.Source.bytes c.frames.source) c.frames.at = rw kept.same before.1 in
    let reader : IsReaderOf (g.S.Source.bytes c.frames.source) c.frames.self = rw kept.same before.0 in
    rw kept.same at (c.in_err-held.ensures.knows kept.is_honest here place reader)

pub returns-in_err-held-clause-same : goal.returns-in_err-held-clause-same
returns-in_err-held-clause-same g c = (
  c.in_err-held.ensures.same.0 ∙ c.frames.invariant.0.0,
  c.in_err-held.ensures.same.1 ∙ c.frames.invariant.0.1,
)

pub returns-in_err-held-clause-fault : goal.returns-in_err-held-clause-fault
returns-in_err-held-clause-fault g c = λ told all.
    let kept = c.frames.invariant.2 told in
    let here : c.args.end ≡ length (g.S.Source.bytes c.frames.source) = rw kept.same all in
    let p = err_from_is_err_and c.from_residual.result c.from_residual.ensures.1 in
    rw (p.1, p.2) (fails_more _ _ (grows_after _ _ _ kept.counted) _ (c.in_err-held.ensures.fault kept.is_honest here))

pub returns-in_err-held-clause-kept : goal.returns-in_err-held-clause-kept
returns-in_err-held-clause-kept g c = λ told.
    let kept = c.frames.invariant.2 told in keeps_then kept (c.in_err-held.ensures.kept kept.is_honest)

pub returns-in_default-clause-found : goal.returns-in_default-clause-found
returns-in_default-clause-found g c = λ told all known.
    let kept = c.frames.invariant.2 told in
    let here : c.args.end ≡ length (g.S.Source.bytes c.frames.source) = rw kept.same all in
    let before = c.frames.invariant.3 told all known in
    let place : IsPlace c.frames.self.info c.frames.self.start (g.S.Source.bytes c.frames.source) c.frames.at = rw kept.same before.1 in
    let same = c.in_ok-held.ensures.same in
    let none : samples_in c.hold.new.self.info (drop c.frames.at.offset (g.S.Source.bytes c.args.source.now)) ≡ []
    = rw kept.same at (rw c.in_default.is at (c.in_ok-held.ensures.held kept.is_honest here place)) in
    let there : IsPlace c.hold.new.self.info c.hold.new.self.start (g.S.Source.bytes c.args.source.now) c.frames.at = rw (
      same.0,
      same.1,
    ) before.1 in
    place_end c.hold.new.self.info c.hold.new.self.start c.args.sample (g.S.Source.bytes c.args.source.now) c.frames.at there
    c.frames.invariant.1 none

pub returns-in_default-clause-knows : goal.returns-in_default-clause-knows
returns-in_default-clause-knows g c = λ told all known.
    let kept = c.frames.invariant.2 told in
    let here : c.args.end ≡ length (g.S.Source.bytes c.frames.source) = rw kept.same all in
    let before = c.frames.invariant.3 told all known in
    let place : IsPlace c.frames.self.info c.frames.self.start (g.S.Source.bytes c.frames.source) c.frames.at = rw kept.same before.1 in
    let reader : IsReaderOf (g.S.Source.bytes c.frames.source) c.frames.self = rw kept.same before.0 in
    rw kept.same at (c.in_ok-held.ensures.knows kept.is_honest here place reader)

pub returns-in_default-clause-same : goal.returns-in_default-clause-same
returns-in_default-clause-same g c = (
  c.in_ok-held.ensures.same.0 ∙ c.frames.invariant.0.0,
  c.in_ok-held.ensures.same.1 ∙ c.frames.invariant.0.1,
)

pub returns-in_default-clause-kept : goal.returns-in_default-clause-kept
returns-in_default-clause-kept g c = λ told.
    let kept = c.frames.invariant.2 told in keeps_then kept (c.in_ok-held.ensures.kept kept.is_honest)

pub returns-then-has-clause-knows : goal.returns-then-has-clause-knows
returns-then-has-clause-knows g c = λ told all known.
    let kept = c.frames.invariant.2 told in
    let here : c.args.end ≡ length (g.S.Source.bytes c.frames.source) = rw kept.same all in
    let before = c.frames.invariant.3 told all known in
    let place : IsPlace c.frames.self.info c.frames.self.start (g.S.Source.bytes c.frames.source) c.frames.at = rw kept.same before.1 in
    let reader : IsReaderOf (g.S.Source.bytes c.frames.source) c.frames.self = rw kept.same before.0 in
    rw kept.same at (c.in_ok-held.ensures.knows kept.is_honest here place reader)

pub returns-then-has-clause-same : goal.returns-then-has-clause-same
returns-then-has-clause-same g c = (
  c.in_ok-held.ensures.same.0 ∙ c.frames.invariant.0.0,
  c.in_ok-held.ensures.same.1 ∙ c.frames.invariant.0.1,
)

pub returns-then-has-clause-kept : goal.returns-then-has-clause-kept
returns-then-has-clause-kept g c = λ told.
    let kept = c.frames.invariant.2 told in keeps_then kept (c.in_ok-held.ensures.kept kept.is_honest)

pub overflow_add-at : goal.overflow_add-at
overflow_add-at g c =
    let first = rw c.in-Some.is at c.in_ok-held.ensures.ahead in
    let past : c.in-Some.held.first + c.in-Some.held.count ≤ c.args.sample = c.has.ensures.past (omega (
      arith,
      first.0,
      c.frames.invariant.1,
    )) c.if-has.false in
    omega (arith, past, c.from.ensures)

pub frames-preserved : goal.frames-preserved
frames-preserved g c =
    let first = rw c.in-Some.is at c.in_ok-held.ensures.ahead in
    let past : c.in-Some.held.first + c.in-Some.held.count ≤ c.args.sample = c.has.ensures.past (omega (
      arith,
      first.0,
      c.frames.invariant.1,
    )) c.if-has.false in (
      (c.in_ok-held.ensures.same.0 ∙ c.frames.invariant.0.0, c.in_ok-held.ensures.same.1 ∙ c.frames.invariant.0.1),
      omega (arith, past, c.from.ensures),
      λ told. let kept = c.frames.invariant.2 told in keeps_then kept (c.in_ok-held.ensures.kept kept.is_honest),
      λ told all known.
          let kept = c.frames.invariant.2 told in
          let here : c.args.end ≡ length (g.S.Source.bytes c.frames.source) = rw kept.same all in
          let before = c.frames.invariant.3 told all known in
          let place : IsPlace c.frames.self.info c.frames.self.start (g.S.Source.bytes c.frames.source) c.frames.at = rw kept.same
          before.1 in
          let reader : IsReaderOf (g.S.Source.bytes c.frames.source) c.frames.self = rw kept.same before.0 in
          let after : IsReaderOf (g.S.Source.bytes c.args.source.now) c.hold.new.self
          = rw kept.same at (c.in_ok-held.ensures.knows kept.is_honest here place reader) in
          let held : AreHeld c.hold.new.self.info c.hold.new.self.start (g.S.Source.bytes c.args.source.now) (side_by_side (samples_of
          c.hold.new.self.decoder)) c.in-Some.held
          = rw kept.same at (rw c.in-Some.is at (c.in_ok-held.ensures.held kept.is_honest here place)) in
          let next : IsPlace c.hold.new.self.info c.hold.new.self.start (g.S.Source.bytes c.args.source.now) (record {
            sample = c.in-Some.held.first + c.from.result;
            offset = c.in-Some.held.offset;
          }) = rw c.from.ensures held.next in (
            record {
              places = c.note.ensures c.hold.new.self.info c.hold.new.self.start (g.S.Source.bytes c.args.source.now)
                  after.places next;
              held = after.held;
            },
            next,
          ),
    )

pub returns-clause-found : goal.returns-clause-found
returns-clause-found g c = λ told all known.
    let before = c.frames.invariant.3 told all known in
    place_end c.frames.self.info c.frames.self.start c.args.sample (g.S.Source.bytes c.args.source.now) c.frames.at before.1
    c.frames.invariant.1 (offset_end c.frames.self.info (g.S.Source.bytes c.args.source.now) c.frames.at.offset (omega (arith, all)))

pub returns-clause-knows : goal.returns-clause-knows
returns-clause-knows g c = λ told all known. (c.frames.invariant.3 told all known).0

pub returns-clause-same : goal.returns-clause-same
returns-clause-same g c = c.frames.invariant.0

pub returns-clause-kept : goal.returns-clause-kept
returns-clause-kept g c = c.frames.invariant.2
