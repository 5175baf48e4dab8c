use Rattle.std.proofs.lemmas.Result.{IfOk-weaker}
use Rattle.flac_frames.specs.Frame.{frame_of}
use Rattle.flac.specs.Frames.{stream_of}
use Rattle.flac.proofs.Decodings.{none_by}
use Rattle.flac.proofs.decoding.decode.Goals as goal

pub returns-in-Err-clause-frame : goal.returns-in-Err-clause-frame
returns-in-Err-clause-frame c =
    IfOk-weaker c.refusal.result _ _ (λ found h. none_by c.args.info.now c.args.bytes.now found _ h.0 (h.1 (frame_of (stream_of
    c.args.info.now) c.args.bytes.now) c.in-Err.ensures.refused)) c.refusal.ensures.none
