use Rattle.std.proofs.Common.{◌≡◌, ◌-◌, ◌≤◌, length, vec_len, slice_range}
use Rattle.song_files.specs.Source.{Keeps}
use Rattle.flac.specs.Comments.{kept_of, texts_in}
use Rattle.flac.specs.declared.comments.TheConstants.{MAX_COMMENTS}
use Rattle.flac.proofs.FieldList.{kept_after}
use Rattle.flac.proofs.comments.list_comments.Given as goal

-- What is listed, with the fields from here on, is all that is kept.
abbrev pub invariant-fields : goal.invariant-fields
invariant-fields g l =
    (l.at ≤ l.end)
    × (vec_len l.comments ≤ MAX_COMMENTS)
    × (g.S.Source.honest l.initial.source
    → Keeps g.S.Source.bytes g.S.Source.honest g.S.Source.faults g.S.Source.steady l.initial.source l.source)
    × (g.S.Source.honest l.initial.source → l.end ≤ length (g.S.Source.bytes l.initial.source)
    → kept_after MAX_COMMENTS l.comments.items (texts_in l.left (slice_range (g.S.Source.bytes l.initial.source) l.at l.end))
    ≡ kept_of (texts_in l.count (slice_range (g.S.Source.bytes l.initial.source) l.start l.end)))

abbrev pub decreases-fields : goal.decreases-fields
decreases-fields g l = l.left
