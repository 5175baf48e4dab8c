use Rattle.std.proofs.Common.{sym, refl, true, false}
use Rattle.flac_frames.specs.Decoder.{samples_of}
use Rattle.flac_frames.specs.Frame.{Framed}
use Rattle.flac.specs.Frames.{frame_in}
use Rattle.flac.proofs.Decodings.{frame_by_test, is_none, is_some}
use Rattle.flac.proofs.decoding.taken.Goals as goal

pub returns-then-not-belongs-clause-frame : goal.returns-then-not-belongs-clause-frame
returns-then-not-belongs-clause-frame c = λ read.
    let framed : Framed = record {
      frame = record { head = c.args.framing.head; samples = samples_of c.args.decoder.now };
      used = c.args.framing.used;
    } in
    is_none (frame_in c.args.info.now c.args.bytes.now) (samples_of c.args.decoder.now) (frame_by_test c.args.info.now c.args.bytes.now framed
    c.size_of-size.result false read c.size_of-size.ensures (sym c.if-not-belongs.ensures.test))

pub returns-clause-frame : goal.returns-clause-frame
returns-clause-frame c = λ read.
    let framed : Framed = record {
      frame = record { head = c.args.framing.head; samples = samples_of c.args.decoder.now };
      used = c.args.framing.used;
    } in
    is_some (frame_in c.args.info.now c.args.bytes.now) framed _ (samples_of c.args.decoder.now) (frame_by_test c.args.info.now
    c.args.bytes.now framed c.size_of-size.result true read c.size_of-size.ensures (sym c.if-not-belongs.ensures.test)) refl refl
    (sym c.size_of-size.ensures)
