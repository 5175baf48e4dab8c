use Rattle.std.proofs.Common.{◌≡◌, drop, nat_eq, arith}
use Rattle.std.specs.List.{common_prefix_len}
use Rattle.song_db.proofs.Beginnings.{common_end}
use Rattle.song_db.proofs.walk.common_length.Goals as goal

pub returns : goal.returns
returns c =
    let none : common_prefix_len (λ a b. nat_eq a b) (drop c.loop-at.at c.args.path.now) (drop c.loop-at.at c.args.other.now) ≡ 0 =
    common_end c.args.path.now c.args.other.now c.loop-at.at (omega arith) in
    omega (arith, c.loop-at.invariant, none)
