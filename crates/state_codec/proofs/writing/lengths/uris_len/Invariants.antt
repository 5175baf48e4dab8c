use Rattle.std.proofs.Common.{◌≡◌, ◌*◌, ◌≤◌, length, take}
use Rattle.std.specs.List.{flat_map}
use Rattle.state_codec.specs.SpellingFields.{text_bytes}
use Rattle.state_codec.proofs.writing.lengths.uris_len.Given as goal

abbrev pub invariant-loop-uri : goal.invariant-loop-uri
invariant-loop-uri l = (l.len ≡ length (flat_map text_bytes (take l.uri-index l.uris))) × (l.len ≤ 1026 * l.uri-index)
