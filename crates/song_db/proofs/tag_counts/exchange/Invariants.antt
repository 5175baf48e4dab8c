use Rattle.std.proofs.Common.{◌≡◌, length}
use Rattle.std.specs.Prelude.{option_copied}
use Rattle.song_files.specs.declared.tag.TheConstants.{TAG_COUNT}
use Rattle.song_db.proofs.TagCounts.{AreDone, AreLeft}
use Rattle.song_db.proofs.tag_counts.exchange.Given as goal

-- the tags with lower numbers are done
abbrev pub invariant-loop-number : goal.invariant-loop-number
invariant-loop-number l = record {
  len : length l.counts ≡ TAG_COUNT;
  done : AreDone (option_copied l.goes) (option_copied l.comes) l.initial.counts l.counts l.number;
  left : AreLeft l.initial.counts l.counts l.number;
}
