use Rattle.std.proofs.Common.{◌≡◌, ◌+◌, drop}
use Rattle.song_db.specs.Limits.{MAX_ROW_TAG_BYTES}
use Rattle.song_db.specs.Row.{tags_size}
use Rattle.song_db.proofs.row.has_short_tags.Given as goal

-- what is left, and what the first texts take
abbrev pub invariant-loop-at : goal.invariant-loop-at
invariant-loop-at l = l.left + tags_size l.tags ≡ MAX_ROW_TAG_BYTES + tags_size (drop l.at l.tags)
