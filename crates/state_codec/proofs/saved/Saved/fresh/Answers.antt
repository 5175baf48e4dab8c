use Rattle.std.proofs.Common.{rules}
use Rattle.state_codec.proofs.Kept.{fresh_kept}
use Rattle.state_codec.proofs.saved.Saved.fresh.Goals as goal

pub invariant_of-result : goal.invariant_of-result
invariant_of-result c = rw (
  c.default.ensures,
  c.new.ensures,
  c.new-2.ensures,
  c.new-3.ensures,
  c.new-4.ensures,
  c.in_ok-first_place.ensures.place,
  c.in_ok-first_times.ensures.times,
)
    (fresh_kept c.args.profile c.args.key c.default-2.result (search rules) (search rules))
