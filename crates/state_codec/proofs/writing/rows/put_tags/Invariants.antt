use Rattle.std.proofs.Common.{◌≡◌, ◌++◌, take, vec_capacity}
use Rattle.std.specs.List.{flat_map}
use Rattle.song_db.specs.Row.{six_texts}
use Rattle.state_codec.specs.SpellingRows.{tag_bytes}
use Rattle.state_codec.proofs.writing.rows.put_tags.Given as goal

abbrev pub invariant-loop-number : goal.invariant-loop-number
invariant-loop-number l = (l.out.items ≡ l.fn.out.items ++ flat_map tag_bytes (take l.number (six_texts l.tags)))
    × (vec_capacity l.out ≡ vec_capacity l.fn.out)
