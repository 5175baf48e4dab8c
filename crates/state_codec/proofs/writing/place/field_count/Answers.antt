use Rattle.std.proofs.Common.{◌≡◌, ◌+◌, ℕ, List, Bool, cond, ap, ◌∙◌}
use Rattle.player_core.specs.Place.{no_place}
use Rattle.state_codec.specs.OpsPlace.{is_empty, stays_by}
use Rattle.state_codec.specs.declared.op.place_op.PlaceOp.TheVariants.{Put}
use Rattle.state_codec.proofs.writing.place.field_count.Goals as goal

pub returns-clause-count : goal.returns-clause-count
returns-clause-count c =
    let place = c.args.place.now in
    let spot : c.told_count-spot.result ≡ cond (stays_by (Put place.state place.song place.frame) no_place) 0 1 =
    c.told_count-spot.ensures.count ∙ ap (λ (b : Bool). cond {A = ℕ} b 0 1) c.has_no_spot.ensures in
    let round : c.told_count-round.result ≡ cond (is_empty place.played) 0 1 =
    c.told_count-round.ensures.count ∙ ap (λ (b : Bool). cond {A = ℕ} b 0 1) c.has_no_ids.ensures
    ∙ ap (λ (ids : List ℕ). cond {A = ℕ} (is_empty ids) 0 1) c.played.ensures.ids in
    λ i. spot i + round i
