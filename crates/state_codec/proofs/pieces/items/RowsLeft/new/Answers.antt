use Rattle.std.proofs.Common.{◌≡◌}
use Rattle.std.specs.Slice.Iter.{iter_rest}
use Rattle.state_codec.proofs.PieceLaws.{rows_short}
use Rattle.state_codec.proofs.pieces.items.RowsLeft.new.Goals as goal

pub invariant_of-result : goal.invariant_of-result
invariant_of-result c =
    let all : iter_rest c.iter.result ≡ c.args.saved.now.songs = cc in
    rw (all, c.profile.ensures) (rows_short c.args.saved.now c.key-key.ensures.kept)
