use Rattle.std.proofs.Common.{◌≡◌, drop}
use Rattle.std.specs.List.{list_any}
use Rattle.song_db.specs.Endings.{decoded_endings, has_ending}
use Rattle.song_db.proofs.DecodedEndings.{ends_lent}
use Rattle.song_db.proofs.decoded.is_decoded.Given as goal

-- the endings that are left decide
abbrev pub invariant-loop-ending : goal.invariant-loop-ending
invariant-loop-ending l = list_any (ends_lent l.path) (drop l.ending-index l.ending-items) ≡ list_any (has_ending l.path) decoded_endings
