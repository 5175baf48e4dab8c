use Rattle.std.proofs.Common.{rules, ◌++◌}
use Rattle.std.specs.Ordering.{nat_cmp, is_lt}
use Rattle.std.specs.Cmp.Lexicographic.{slice_cmp}
use Rattle.std.proofs.lemmas.List.Sorted.{IsPartitionPoint-from_clause}
use Rattle.song_db.specs.Told.{folder_end, folder_key, told_key}
use Rattle.song_db.proofs.Rising.{partitioned}
use Rattle.song_db.proofs.told_rows.folder_point.Goals as goal

pub returns-clause-split : goal.returns-clause-split
returns-clause-split c = IsPartitionPoint-from_clause (λ row. is_lt (slice_cmp nat_cmp (told_key row) (folder_key c.args.folder.now
    ++ folder_end c.args.own))) _ _ c.partition_point.ensures.partitioned (partitioned told_key c.args.told.now (folder_key
    c.args.folder.now ++ folder_end c.args.own) c.requires) (λ a r q k. search rules)
