use Rattle.std.proofs.Common.{◌≡◌, inl, inr, ◌<◌, ◌≤◌, ◌-◌, ℕ, List, length, take, sym, subst, ap, ◌∙◌, arith}
use Rattle.std.specs.Io.KnownBytes.{Consumes}
use Rattle.std.proofs.lemmas.List.{length-take}
use Rattle.std.proofs.lemmas.Result.{err_from_is_err_and}
use Rattle.client_session.proofs.ByteLaws.{consumes_nothing, keeps_itself}
use Rattle.mpd_program.proofs.ByteLaws.{refilled}
use Rattle.mpd_program.proofs.InputLaws.{reads_begin, reads_ready, reads_on, reads_stop, reads_cut, reads_all}
use Rattle.mpd_program.proofs.console.serving.Service.serve_input.Goals as goal

pub returns-in-Err : goal.returns-in-Err
returns-in-Err g c =
    let input = g.R.Read.remaining c.args.reader.now in
    reads_cut c.requires.fresh (keeps_itself input) (reads_begin c.requires.fresh input c.requires.ready.usable.stage)

pub loop-reads-init : goal.loop-reads-init
loop-reads-init g c = record {
  reads = reads_begin c.requires.fresh (g.R.Read.remaining c.args.reader.now) c.requires.ready.usable.stage;
  room = c.in-Ok.ensures.len;
  idle = c.requires.ready.idle;
}

pub serve_piece-requires : goal.serve_piece-requires
serve_piece-requires g c =
    reads_ready c.requires.fresh c.requires.ready.usable c.loop-reads.invariant.reads c.loop-reads.invariant.idle

pub returns-in-Ok-eq0 : goal.returns-in-Ok-eq0
returns-in-Ok-eq0 g c =
    let bytes = c.in-Ok-eq0.ensures.bytes in
    let room : 0 < length c.read.new.buf = omega (arith, c.read.auto.buf, c.deref_mut.ensures.len, c.loop-reads.invariant.room) in
    let taken = subst (Consumes (g.R.Read.remaining c.loop-reads.reader) (g.R.Read.remaining c.read.new.self))
    (ap (λ (k : ℕ). take k c.read.new.buf) c.in-Ok-eq0.field-0-test) bytes.0 in
    let piece = c.serve_piece.ensures in
    reads_all c.requires.fresh taken (inl (bytes.1 c.in-Ok-eq0.field-0-test room)) c.loop-reads.invariant.reads piece.served piece.whole
    piece.idle

pub returns-in-Err-read : goal.returns-in-Err-read
returns-in-Err-read g c = reads_cut c.requires.fresh c.in-Err-read.ensures.bytes c.loop-reads.invariant.reads

pub returns : goal.returns
returns g c =
    let piece = c.serve_piece-2.ensures in
    reads_all c.requires.fresh (consumes_nothing _ _ (keeps_itself _)) (inr (omega arith)) c.loop-reads.invariant.reads piece.served
    piece.whole piece.idle

pub loop-reads-preserved : goal.loop-reads-preserved
loop-reads-preserved g c =
    let done = c.in_ok-serve_piece.ensures in
    let whole : length c.read.new.buf ≡ c.loop-reads.buffer.len = omega (arith, c.read.auto.buf, c.deref_mut.ensures.len) in
    let same : c.deref.result.now ≡ c.read.new.buf = c.deref.ensures.value
    ∙ refilled c.read.new.buf c.loop-reads.buffer.items c.loop-reads.buffer.len whole in
    let taken = subst (λ (v : List ℕ). Consumes (g.R.Read.remaining c.loop-reads.reader) (g.R.Read.remaining c.read.new.self)
    (take c.in-Ok-read.count v)) (sym same) c.in-Ok-read.ensures.bytes.0 in
    let some : 1 ≤ length (take c.in-Ok-read.count c.deref.result.now) =
    omega (arith, length-take c.in-Ok-read.count c.deref.result.now, ap length same, c.read.auto) in
    record {
      reads = reads_on c.requires.fresh (take c.in-Ok-read.count c.deref.result.now) taken some c.loop-reads.invariant.reads done.served;
      room = c.loop-reads.invariant.room;
      idle = done.idle;
    }

pub returns-in_err-serve_piece : goal.returns-in_err-serve_piece
returns-in_err-serve_piece g c =
    let p = err_from_is_err_and c.from_residual.result c.from_residual.ensures.1 in
    let whole : length c.read.new.buf ≡ c.loop-reads.buffer.len = omega (arith, c.read.auto.buf, c.deref_mut.ensures.len) in
    let same : c.deref.result.now ≡ c.read.new.buf = c.deref.ensures.value
    ∙ refilled c.read.new.buf c.loop-reads.buffer.items c.loop-reads.buffer.len whole in
    let taken = subst (λ (v : List ℕ). Consumes (g.R.Read.remaining c.loop-reads.reader) (g.R.Read.remaining c.read.new.self)
    (take c.in-Ok-read.count v)) (sym same) c.in-Ok-read.ensures.bytes.0 in
    rw (p.1, p.2) (reads_stop c.requires.fresh (take c.in-Ok-read.count c.deref.result.now) taken c.loop-reads.invariant.reads
    c.in_err-serve_piece.ensures.served)
