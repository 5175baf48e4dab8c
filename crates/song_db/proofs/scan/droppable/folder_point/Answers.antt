use Rattle.std.proofs.Common.{rules, [], ◌∷◌, ◌++◌}
use Rattle.std.specs.Ordering.{nat_cmp, is_lt}
use Rattle.std.specs.Cmp.Lexicographic.{slice_cmp}
use Rattle.std.proofs.lemmas.List.Sorted.{IsPartitionPoint-from_clause}
use Rattle.song_db.proofs.KnownSongs.{rising_songs, split_songs, uri_of}
use Rattle.song_db.proofs.Rising.{partitioned}
use Rattle.song_db.proofs.scan.droppable.folder_point.Goals as goal

pub returns-clause-split : goal.returns-clause-split
returns-clause-split c = split_songs c.args.known.now (c.args.folder.now ++ c.args.next ∷ []) _ (IsPartitionPoint-from_clause
    (λ song. is_lt (slice_cmp nat_cmp (uri_of song) (c.args.folder.now ++ c.args.next ∷ []))) _ _ c.partition_point.ensures.partitioned
    (partitioned uri_of c.args.known.now (c.args.folder.now ++ c.args.next ∷ []) (rising_songs c.args.known.now c.requires)) (λ a r q k. search rules))
