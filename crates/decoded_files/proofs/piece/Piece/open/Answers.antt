use Rattle.std.proofs.Common.{arith, ◌∙◌, ap, ◌<◌, ◌^◌, length}
use Rattle.decoded_files.proofs.piece.Piece.open.Goals as goal

pub returns-clause-opened : goal.returns-clause-opened
returns-clause-opened g c = λ told fresh.
    let sent = c.in_ok-send.ensures.opened told c.args.path.now (c.deref.ensures.value ∙ c.in_ok-request.ensures.request) fresh in
    let answer = sent.1 in
    let honest = c.in_ok-send.ensures.open_kept told fresh in
    let small : length answer.body < 2 ^ 32 = omega (arith, answer.answers.short) in
    let ok = c.in_ok-take.ensures.ok honest.0 answer.body small answer.framed in
    let len = answer.answers.told c.take.new.self.bytes ok in
    let fits : length len.file < 2 ^ 64 = omega (arith, len.fits) in
    let kept = c.in_ok-take.ensures.kept honest.0 in
    record {
      path = c.args.path.now;
      file = len.file;
      is_path = kept.same_path ∙ sent.0;
      is_wave = ap (λ f. f c.args.path.now) (kept.same_files ∙ honest.1) ∙ len.is_wave;
      has_length = c.in_ok-len.ensures.len (length len.file) fits len.length_of;
    }
