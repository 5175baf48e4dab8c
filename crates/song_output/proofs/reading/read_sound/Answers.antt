use Rattle.std.proofs.Common.{◌≡◌, ◌+◌, ◌-◌, ◌*◌, ◌≤◌, length, take, drop, map, slice_range, arith, ap, ◌∙◌}
use Rattle.wave_pcm.specs.Pcm.{frame_len, range_from, at_volume, samples_in}
use Rattle.wave_pcm.proofs.FrameList.{some_same}
use Rattle.song_files.proofs.Sources.{grows_not}
use Rattle.song_output.specs.Sound.{bytes_of, head_in}
use Rattle.song_output.proofs.Pieces.{piece_is, piece_len, ordered_is}
use Rattle.song_output.proofs.reading.read_sound.Goals as goal

pub returns-in-Ok-clause-sound : goal.returns-in-Ok-clause-sound
returns-in-Ok-clause-sound g c = λ honest has.
    let info = c.args.info.now in
    let file = g.S.Source.bytes c.args.source.now in
    let first = c.in-Some.first in
    let len = c.in-Some.len in
    let all : info.first_byte + frame_len info * info.frames ≤ c.len.result = omega (arith, c.len.ensures honest, has) in
    let place : (first, len) ≡ range_from info c.args.order.now.first_frame 4096 = some_same (first, len) (range_from info c.args.order.now.first_frame
    4096) (c.in-Some.ensures.place all) in
    let part : length (take (length c.deref_mut.result.now - (c.len-2.result - len)) (drop (c.len-2.result - len)
    c.deref_mut.result.now)) ≡ len =
    piece_len c.len-2.result len c.in_ok-bytes.bytes.items c.deref_mut.result.now (head_in c.args.form info len) c.deref_mut.ensures.value
    c.in_ok-bytes.ensures (omega (arith, c.len-2.ensures, c.in_ok-bytes.bytes.ok)) in
    let long : length c.read_scaled.new.buffer ≡ len = c.read_scaled.auto.buffer ∙ part in
    piece_is c.in_ok-bytes.bytes.len (c.len-2.result - len) len c.in_ok-bytes.bytes.items c.deref_mut.result.now
    c.read_scaled.new.buffer (head_in c.args.form info len) c.deref_mut.ensures.value c.in_ok-bytes.ensures
    (omega (arith, c.len-2.ensures, c.in_ok-bytes.bytes.ok)) (omega (arith, c.in_ok-bytes.bytes.ok)) long
    ∙ ordered_is c.args.form file info c.args.order.now.first_frame c.args.order.now.volume (first, len) c.read_scaled.new.buffer place long
    (c.in-Ok.ensures.sound honest ∙ ap (λ n. bytes_of (map (at_volume c.args.order.now.volume) (samples_in (slice_range file first (first +
    n))))) part)

pub returns-in-Err-clause-none : goal.returns-in-Err-clause-none
returns-in-Err-clause-none g c = λ honest has steady same.
    let len = c.in-Some.len in
    let part : length (take (length c.deref_mut.result.now - (c.len-2.result - len)) (drop (c.len-2.result - len)
    c.deref_mut.result.now)) ≡ len =
    piece_len c.len-2.result len c.in_ok-bytes.bytes.items c.deref_mut.result.now (head_in c.args.form c.args.info.now len)
    c.deref_mut.ensures.value c.in_ok-bytes.ensures (omega (arith, c.len-2.ensures, c.in_ok-bytes.bytes.ok)) in
    grows_not (g.S.Source.faults c.args.source.now) (g.S.Source.faults c.read_scaled.new.source)
    (c.in-Err.ensures.fault honest (omega (arith, part, c.in-Some.ensures.within, c.len.ensures honest)))
    (g.met.S.Source.none_failed c.read_scaled.new.source ((c.in-Err.ensures.kept honest).stays steady))
