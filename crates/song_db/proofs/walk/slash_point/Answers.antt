use Rattle.std.proofs.Common.{rules, [], ◌∷◌, ◌++◌}
use Rattle.std.specs.Ordering.{nat_cmp, is_lt}
use Rattle.std.specs.Cmp.Lexicographic.{slice_cmp}
use Rattle.std.proofs.lemmas.List.Sorted.{IsPartitionPoint-from_clause}
use Rattle.song_db.specs.Row.{row_uri}
use Rattle.song_db.proofs.Rising.{partitioned}
use Rattle.song_db.proofs.walk.slash_point.Goals as goal

pub returns-clause-split : goal.returns-clause-split
returns-clause-split c = IsPartitionPoint-from_clause (λ row. is_lt (slice_cmp nat_cmp row.uri (c.args.folder.now ++ 47 ∷
    []))) _ _ c.partition_point.ensures.partitioned (partitioned row_uri c.args.rows.now (c.args.folder.now ++ 47 ∷ [])
    c.requires) (λ a r q k. search rules)
