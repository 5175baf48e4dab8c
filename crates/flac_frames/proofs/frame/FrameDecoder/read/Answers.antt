-- The frame is its head and what stands behind it.
use Rattle.std.proofs.Common.{sym, arith}
use Rattle.std.proofs.lemmas.Result.{err_from_is_err_and}
use Rattle.std.proofs.lemmas.List.{with_items_is}
use Rattle.flac_frames.specs.Left.{left}
use Rattle.flac_frames.proofs.Frames.{frame_read, frame_refused, head_refused, refuses, shown_is}
use Rattle.flac_frames.proofs.frame.FrameDecoder.read.Goals as goal

pub returns-in_err-head-clause-refused : goal.returns-in_err-head-clause-refused
returns-in_err-head-clause-refused c =
    let p = err_from_is_err_and c.from_residual.result c.from_residual.ensures.1 in
    rw (p.1, p.2) (refuses _ _ (head_refused c.args.stream c.args.bytes.now (left c.new-reader.result) _ c.new-reader.ensures c.in_err-head.ensures.reads))

pub returns-in_err-used-clause-refused : goal.returns-in_err-used-clause-refused
returns-in_err-used-clause-refused c =
    let p = err_from_is_err_and c.from_residual-in_err-used.result c.from_residual-in_err-used.ensures.1 in
    rw (p.1, p.2) (refuses _ _ (frame_refused c.args.stream c.args.bytes.now (left c.read_head.new.reader) (left c.new-reader.result) c.in_ok-head.head _ c.new-reader.ensures c.in_ok-head.ensures.reads c.in_err-used.ensures.reads))

pub returns-clause-read : goal.returns-clause-read
returns-clause-read c =
    let ef = with_items_is c.make_room.new.self.first c.read_rest.new.first (omega (arith, c.in_ok-make_room.ensures.first)) in
    let es = with_items_is c.make_room.new.self.second c.read_rest.new.second (omega (arith, c.in_ok-make_room.ensures.second)) in
    let w = shown_is c.in_ok-head.head.channels c.channel_count-self.result c.read_rest.new.first c.read_rest.new.second c.channel_count-self.ensures in
    let h = frame_read c.args.stream c.args.bytes.now (left c.read_head.new.reader) (left c.new-reader.result) (left c.read_rest.new.reader) c.in_ok-head.head _ c.in_ok-used.used
    c.new-reader.ensures c.in_ok-head.ensures.reads c.in_ok-used.ensures.reads c.in_ok-used.ensures.used in
    rw (ef, es, sym w) h
