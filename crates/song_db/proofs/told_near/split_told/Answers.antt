use Rattle.std.proofs.Common.{rules}
use Rattle.std.specs.Cmp.Lexicographic.{slice_cmp}
use Rattle.std.specs.Ordering.{nat_cmp, is_lt}
use Rattle.std.proofs.lemmas.List.Sorted.{IsPartitionPoint-from_clause}
use Rattle.song_db.specs.Told.{told_key}
use Rattle.song_db.proofs.Rising.{partitioned}
use Rattle.song_db.proofs.told_near.split_told.Goals as goal

pub returns-clause-split : goal.returns-clause-split
returns-clause-split g c = IsPartitionPoint-from_clause (λ other. is_lt (slice_cmp nat_cmp (g.T.ToldSong.key other)
    (told_key c.args.row.now))) _ _ c.partition_point.ensures.partitioned (partitioned g.T.ToldSong.key c.args.told.now
    (told_key c.args.row.now) c.requires) (λ a r q k. search rules)
