use Rattle.std.proofs.Common.{◌≡◌, map, drop}
use Rattle.std.specs.List.{flat_map}
use Rattle.song_files.specs.Tags.{texts_of}
use Rattle.song_db.specs.Query.{distinct_of, values_of, with_texts}
use Rattle.song_db.proofs.values.values_among.Given as goal

-- the values so far, with those of the rows that are left
abbrev pub invariant-loop-row : goal.invariant-loop-row
invariant-loop-row l =
    with_texts (distinct_of (map (λ value. value.now) l.values.items))
    (flat_map (λ row. texts_of row.tags l.tag) (map (λ row. row.now) (drop l.row-index l.rows)))
    ≡ values_of (map (λ row. row.now) l.rows) l.tag
