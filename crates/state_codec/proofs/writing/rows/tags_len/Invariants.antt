use Rattle.std.proofs.Common.{◌≡◌, ◌*◌, ◌≤◌, length, take}
use Rattle.std.specs.List.{flat_map}
use Rattle.song_db.specs.Row.{six_texts}
use Rattle.state_codec.specs.SpellingRows.{tag_bytes}
use Rattle.state_codec.proofs.writing.rows.tags_len.Given as goal

abbrev pub invariant-loop-number : goal.invariant-loop-number
invariant-loop-number l = (l.len ≡ length (flat_map tag_bytes (take l.number (six_texts l.tags)))) × (l.len ≤ 515 * l.number)
