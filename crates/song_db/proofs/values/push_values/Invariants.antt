use Rattle.std.proofs.Common.{◌≡◌, drop, map}
use Rattle.song_files.specs.Tags.{texts_of}
use Rattle.song_db.specs.Query.{distinct_of, with_texts}
use Rattle.song_db.proofs.values.push_values.Given as goal

-- the texts so far, with those that are left
abbrev pub invariant-loop-at : goal.invariant-loop-at
invariant-loop-at l = with_texts (distinct_of (map (λ value. value.now) l.values.items)) (texts_of (drop l.at l.tags) l.tag)
    ≡ with_texts (distinct_of (map (λ value. value.now) l.initial.values.items)) (texts_of l.tags l.tag)
