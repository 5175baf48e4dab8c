use Rattle.std.proofs.Common.{◌≡◌, ◌+◌, ◌≤◌, ◌∙◌, length, drop, take, sym, ap, subst, List, ℕ, IfOk}
use Rattle.std.proofs.lemmas.Result.{IfOk-weaker}
use Rattle.song_files.proofs.Sources.{keeps_then, grows_after}
use Rattle.flac_frames.specs.Decoder.{samples_of}
use Rattle.flac.specs.Frames.{frame_in, frame_room, next_frame}
use Rattle.flac.specs.Reader.{AreDecoded}
use Rattle.flac.proofs.Decodings.{found_first, found_longer}
use Rattle.flac.proofs.Verdicts.{failed_more}
use Rattle.flac.proofs.decoding.decode_at.Goals as goal

pub returns-in-Some-clause-frame : goal.returns-in-Some-clause-frame
returns-in-Some-clause-frame g c = λ told all.
    found_first c.args.info.now (drop c.args.at (g.S.Source.bytes c.args.source.now)) c.frame_room-room.result _ _ c.frame_room-room.ensures.room
    (rw c.in-Some.is at (c.in_ok-found.ensures.frame told all))

pub returns-clause-frame : goal.returns-clause-frame
returns-clause-frame g c = λ told all.
    let kept = c.in_ok-found.ensures.kept told in
    let here : c.args.end ≡ length (g.S.Source.bytes c.decode_within.new.source) = rw kept.same all in
    let none = rw c.in_default.is at (c.in_ok-found.ensures.frame told all) in
    let room : c.frame_room-room.result ≡ frame_room c.args.info.now = c.frame_room-room.ensures.room in
    IfOk-weaker c.decode_within-2.result _ _ (λ found h. found_longer c.args.info.now (drop c.args.at (g.S.Source.bytes
    c.args.source.now)) c.frame_room-room.result found (samples_of c.decode_within.new.decoder) (samples_of c.decode_within-2.new.decoder)
    room none h)
    (subst (λ (file : List ℕ). IfOk c.decode_within-2.result (λ found. AreDecoded (frame_in c.args.info.now (take 589824 (drop c.args.at file))) found (samples_of
    c.decode_within-2.new.decoder))) kept.same (c.decode_within-2.ensures.frame kept.is_honest here))
