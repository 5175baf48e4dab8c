use Rattle.std.proofs.Common.{◌≡◌, ℕ, List, [], ◌∷◌, get_or, ap, ◌∙◌}
use Rattle.std.proofs.lemmas.List.{take_all}
use Rattle.player_core.specs.Place.{found_ids}
use Rattle.player_core.proofs.KeptRounds.{found_step}
use Rattle.player_core.proofs.place.resumed_round.Goals as goal

pub loop-id-preserved : goal.loop-id-preserved
loop-id-preserved c =
    let entries = c.args.entries.now in
    let ids = c.args.played.now in
    let i = c.loop-id.id-index in
    let added : c.add_found.new.known.keys ≡ found_ids entries (get_or ids i 0 ∷ []) c.loop-id.known.keys = c.in_ok-add_found.ensures in
    added ∙ ap (λ (known : List ℕ). found_ids entries (get_or ids i 0 ∷ []) known) c.loop-id.invariant
    ∙ found_step entries ids i c.loop-id-test.true

pub returns : goal.returns
returns c =
    rw c.if-not-random.false (
    c.loop-id.invariant
    ∙ ap (λ (ids : List ℕ). found_ids c.args.entries.now ids []) (take_all c.loop-id.id-index c.args.played.now c.loop-id-test.false)
    )
