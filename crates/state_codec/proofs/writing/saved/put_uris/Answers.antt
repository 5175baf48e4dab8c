use Rattle.std.proofs.Common.{ℕ, List, length, take, ap, arith}
use Rattle.std.specs.List.{flat_map}
use Rattle.std.proofs.lemmas.List.{length-append}
use Rattle.std.proofs.lemmas.List.Folds.{length-flat_map-take}
use Rattle.state_codec.specs.SpellingFields.{text_bytes}
use Rattle.state_codec.proofs.writing.saved.put_uris.Goals as goal

pub put_uri-requires : goal.put_uri-requires
put_uri-requires c =
    let i = c.loop-uri.uri-index in
    let item = c.uri-item.result in
    omega (
      arith,
      c.requires,
      c.loop-uri.out.ok.0,
      c.args.out.now.ok.0,
      c.loop-uri.invariant.1,
      ap length c.loop-uri.invariant.0,
      length-append c.args.out.now.items (flat_map text_bytes (take i c.args.uris.now)),
      length-flat_map-take text_bytes c.args.uris.now i item (omega arith),
      ap (λ (x : List ℕ). length (text_bytes x)) c.uri-item.is,
    )
