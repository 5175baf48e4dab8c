use Rattle.std.proofs.Common.{◌≡◌, ◌+◌, ◌-◌, ◌*◌, ◌%◌, ◌^◌, ◌<◌, length}
use Rattle.flac_frames.specs.CodedNumber.{continued}
use Rattle.flac_frames.specs.Left.{left}
use Rattle.flac_frames.proofs.fields.read_continued.Given as goal

-- the number so far, and the bytes that are left to read
abbrev pub invariant-loop-k : goal.invariant-loop-k
invariant-loop-k l = record {
  same : continued (l.n - l._k) l.number (left l.reader) ≡ continued l.n l.first (left l.fn.reader);
  small : l.number < 2 ^ (6 * l._k + 6);
  whole : length (left l.reader) % 8 ≡ length (left l.fn.reader) % 8;
}
