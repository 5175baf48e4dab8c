use Rattle.std.proofs.Common.{length, sym, ap, ◌∙◌}
use Rattle.state_codec.proofs.PlaceFields.{spot_out, spot_in_len}
use Rattle.state_codec.proofs.writing.place.spot_len.Goals as goal

pub returns-then-has_no_spot-clause-len : goal.returns-then-has_no_spot-clause-len
returns-then-has_no_spot-clause-len c =
    sym (ap length (spot_out c.args.place.now (sym c.has_no_spot.ensures ∙ c.if-has_no_spot.true)))

pub returns-clause-len : goal.returns-clause-len
returns-clause-len c = sym (spot_in_len c.args.place.now (sym c.has_no_spot.ensures ∙ c.if-has_no_spot.false))
