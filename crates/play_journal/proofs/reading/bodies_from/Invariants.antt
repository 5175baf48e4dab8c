use Rattle.std.proofs.Common.{◌≡◌, ◌+◌, ◌-◌, ◌≤◌, length, drop}
use Rattle.std.specs.Prelude.{flat_map, All}
use Rattle.play_journal.specs.File.{gated}
use Rattle.play_journal.specs.Reading.{records_at}
use Rattle.play_journal.specs.Stored.{bodies_in, IsWithin}
use Rattle.play_journal.proofs.LoopLaws.{with_front}
use Rattle.play_journal.proofs.reading.bodies_from.Given as goal

abbrev pub invariant-loop-bodies : goal.invariant-loop-bodies
invariant-loop-bodies l = record {
  within : l.at ≤ length l.bytes;
  number : l.before ≡ l.base + length l.bodies.items;
  placed : All (IsWithin (length l.bytes)) l.bodies.items;
  end : l.at ≡ l.start + length (flat_map gated (bodies_in l.bytes l.bodies.items));
  read : with_front (bodies_in l.bytes l.bodies.items) (records_at 0 l.at l.before (drop l.at l.bytes))
      ≡ records_at 0 l.start l.base (drop l.start l.bytes);
}

abbrev pub decreases-loop-bodies : goal.decreases-loop-bodies
decreases-loop-bodies l = length l.bytes - l.at
