use Rattle.std.proofs.Common.{refl}
use Rattle.std.proofs.lemmas.List.{get_or-replicate}
use Rattle.song_files.specs.declared.tag.TheConstants.{TAG_COUNT}
use Rattle.song_files.proofs.TagNumbers.{number_below}
use Rattle.song_files.specs.Tag.{number_of}
use Rattle.song_db.proofs.Batches.{empty_database}
use Rattle.song_db.proofs.song_db.SongDb.new.Goals as goal

pub invariant_of-result : goal.invariant_of-result
invariant_of-result c = rw (c.new.ensures.items, c.new-2.ensures.items, c.new-3.ensures) record {
  database = empty_database;
  timed = record { sum = refl; each = tt };
  indexed = record { exact = λ tag value. refl };
  told = refl;
  counted = λ tag. get_or-replicate TAG_COUNT (number_of tag) 0 0 (number_below tag);
}
