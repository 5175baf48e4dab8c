use Rattle.std.proofs.Common.{◌≡◌, ◌+◌, ◌-◌, ◌<◌, ◌≤◌, List, ℕ, ◌++◌, length, arith, ap, sym, ◌∙◌}
use Rattle.std.proofs.lemmas.List.{length-append}
use Rattle.disk_model.specs.History.{Change, Wrote}
use Rattle.disk_model.proofs.BehindLaws.{behind_made, behind_failed}
use Rattle.disk_model.proofs.LaterLaws.{later_made, later_failed, later_on}
use Rattle.play_journal.proofs.LayLaws.{since_of, done_of, piece_written, next_long}
use Rattle.play_journal.proofs.laying.write_pieces.Goals as goal

pub returns-in_err-write_at-clause-later : goal.returns-in_err-write_at-clause-later
returns-in_err-write_at-clause-later g c =
    later_on c.loop-at.invariant.later
    (later_failed g.D.Disk.honest g.D.Disk.history g.D.Disk.faults c.loop-at.disk c.write_at.new.self c.write_at.ensures.honest
    c.write_at.ensures.counted.later (Wrote c.loop-at.at (length c.deref.result.now)) _ _ c.in_err-write_at.ensures.in_part)

pub returns-in_err-write_at-clause-behind : goal.returns-in_err-write_at-clause-behind
returns-in_err-write_at-clause-behind g c = λ honest.
    let inv = c.loop-at.invariant in
    let first = g.D.Disk.history c.args.disk.now in
    done_of c.args.start first _ (behind_failed c.args.start (Wrote c.loop-at.at (length c.deref.result.now)) first
    (g.D.Disk.history c.loop-at.disk) (g.D.Disk.history c.write_at.new.self) _ _ (inv.begins, tt)
    (since_of c.args.start first _ (inv.behind honest)) (c.in_err-write_at.ensures.in_part (inv.later.honesty.0 honest)))

pub loop-at-preserved : goal.loop-at-preserved
loop-at-preserved g c =
    let inv = c.loop-at.invariant in
    let first = g.D.Disk.history c.args.disk.now in
    let piece = c.next.ensures.piece in
    let rest = g.P.Pieces.left c.next.new.self in
    let is : c.deref.result.now ≡ c.next.new.buffer.items = c.deref.ensures.value in
    let len : c.len-in-loop-at.result ≡ length c.deref.result.now = cc in
    let parted : g.P.Pieces.left c.loop-at.pieces ≡ c.deref.result.now ++ rest = piece.parted ∙ ap (λ (l : List ℕ). l ++ rest) (sym is) in
    let sum : length (g.P.Pieces.left c.loop-at.pieces) ≡ length c.deref.result.now + length rest =
    ap length parted ∙ length-append c.deref.result.now rest in
    let next : c.loop-at.at + c.len-in-loop-at.result ≡ c.loop-at.at + length c.deref.result.now = ap (λ (n : ℕ). c.loop-at.at + n) len in
    let whole_length : length c.deref.result.now ≡ length c.next.new.buffer.items = ap length is in
    let full : 0 < length rest → 32768 ≤ length c.deref.result.now = λ some. let long : 32768 ≤ length c.next.new.buffer.items =
    piece.full (λ none. omega (arith, some, ap length none)) in omega (arith, long, whole_length) in
    record {
      rest = omega (arith, inv.rest, len, sum);
      begins = omega (arith, inv.begins);
      room = omega (arith, inv.room, c.next.ensures.room);
      later = later_on inv.later (later_made g.D.Disk.honest g.D.Disk.history g.D.Disk.faults c.loop-at.disk c.write_at.new.self
          c.write_at.ensures.honest c.write_at.ensures.counted.later (Wrote c.loop-at.at (length c.deref.result.now))
          c.in_ok-write_at.ensures.made);
      behind = λ honest. done_of c.args.start first _ (behind_made c.args.start (Wrote c.loop-at.at (length c.deref.result.now)) first
          (g.D.Disk.history c.loop-at.disk) (g.D.Disk.history c.write_at.new.self) (inv.begins, tt)
          (since_of c.args.start first _ (inv.behind honest)) (c.in_ok-write_at.ensures.made (inv.later.honesty.0 honest)));
      long = λ honest within. let more = next_long (g.D.Disk.content c.loop-at.disk) c.deref.result.now
          (g.D.Disk.content c.write_at.new.self) c.loop-at.at (inv.long honest within)
          (c.in_ok-write_at.ensures.written (inv.later.honesty.0 honest)) in omega (arith, more, len);
      spelled = λ honest within. piece_written (g.D.Disk.content c.loop-at.disk) (g.D.Disk.content c.write_at.new.self)
          (g.P.Pieces.left c.loop-at.pieces) c.deref.result.now rest _ c.loop-at.at (c.loop-at.at + c.len-in-loop-at.result)
          (inv.long honest within) (inv.spelled honest within) parted (c.in_ok-write_at.ensures.written (inv.later.honesty.0 honest)) next;
      all = λ honest. let made = ap (λ (l : List Change). length l) (c.in_ok-write_at.ensures.made (inv.later.honesty.0 honest)) in
          omega (arith, made, inv.whole honest c.loop-at-test.true, inv.begins);
      whole = λ honest below. let made = ap (λ (l : List Change). length l) (c.in_ok-write_at.ensures.made (inv.later.honesty.0 honest)) in
          let long = full (omega (arith, below, inv.rest, len, sum)) in
          omega (arith, made, inv.whole honest c.loop-at-test.true, inv.begins, long, len);
      faults = c.in_ok-write_at.ensures.counted.ok ∙ inv.faults;
    }
