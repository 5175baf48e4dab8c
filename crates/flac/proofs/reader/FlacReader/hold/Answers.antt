use Rattle.std.proofs.Common.{◌≡◌, ◌+◌, ◌*◌, ◌<◌, ◌≤◌, length, take, drop, refl, sym, arith}
use Rattle.flac.specs.Frames.{frame_in, frame_room, side_by_side}
use Rattle.flac.specs.Reader.{AreHeld, IsReaderOf}
use Rattle.flac.proofs.Samples.{none_is, samples_end, held_by}
use Rattle.flac.proofs.reader.FlacReader.hold.Goals as goal

pub returns-in_default-clause-held : goal.returns-in_default-clause-held
returns-in_default-clause-held g c = λ told all is.
    samples_end c.args.self.now.info (drop c.args.at.offset (g.S.Source.bytes c.args.source.now)) (none_is _ _ (rw c.in_default.is at
    (c.in_ok-decoded.ensures.frame told all)))

pub returns-clause-held : goal.returns-clause-held
returns-clause-held g c = λ told all is.
    let found = rw c.in-Some.is at (c.in_ok-decoded.ensures.frame told all) in
    let ahead = rw c.in-Some.is at c.in_ok-decoded.ensures.within in
    let sized = rw c.in-Some.is at c.in_ok-decoded.ensures.sized in
    held_by c.args.self.now.info c.args.self.now.start (g.S.Source.bytes c.args.source.now) c.args.at _ c.in-Some.decoded _ refl found
    is ahead.0 (omega (arith, ahead.1, all)) sized

pub returns-clause-knows : goal.returns-clause-knows
returns-clause-knows g c = λ told all is known.
    let found = rw c.in-Some.is at (c.in_ok-decoded.ensures.frame told all) in
    let ahead = rw c.in-Some.is at c.in_ok-decoded.ensures.within in
    let sized = rw c.in-Some.is at c.in_ok-decoded.ensures.sized in
    record {
      places = known.places;
      held = held_by c.args.self.now.info c.args.self.now.start (g.S.Source.bytes c.args.source.now) c.args.at _ c.in-Some.decoded _
          refl found is ahead.0 (omega (arith, ahead.1, all)) sized;
    }
