use Rattle.std.proofs.Common.{◌≡◌, ◌++◌, take, vec_capacity}
use Rattle.std.specs.List.{flat_map}
use Rattle.state_codec.specs.SpellingFields.{text_bytes}
use Rattle.state_codec.proofs.writing.saved.put_uris.Given as goal

abbrev pub invariant-loop-uri : goal.invariant-loop-uri
invariant-loop-uri l = (l.out.items ≡ l.fn.out.items ++ flat_map text_bytes (take l.uri-index l.uris))
    × (vec_capacity l.out ≡ vec_capacity l.fn.out)
