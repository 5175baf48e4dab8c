use Rattle.std.proofs.Common.{rules, ◌<◌, ℕ, List, length, ap, arith}
use Rattle.std.proofs.lemmas.List.{length-append}
use Rattle.state_codec.proofs.pieces.part.fill.Goals as goal

pub items-smaller : goal.items-smaller
items-smaller g c =
    let more : length c.items.out.items < length c.put_next.new.out.items = c.put_next.ensures.some (search rules) in
    omega (
      arith,
      more,
      ap (λ (l : List ℕ). length l) c.put_next.ensures.moved.items,
      length-append c.put_next.new.out.items (g.P.Part.left c.put_next.new.self),
      length-append c.items.out.items (g.P.Part.left c.items.part),
    )
