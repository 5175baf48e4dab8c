use Rattle.std.proofs.Common.{◌≡◌, ◌++◌, [], Option, ap, ◌∙◌}
use Rattle.std.specs.List.{flat_map}
use Rattle.std.specs.Option.{option_map_or}
use Rattle.player_core.specs.Place.{PlaceState}
use Rattle.stored_lists.specs.Times.{Times}
use Rattle.state_codec.specs.Pieces.{front_of_fields}
use Rattle.state_codec.specs.SpellingFields.{u32_bytes}
use Rattle.state_codec.specs.SpellingPlace.{place_head}
use Rattle.state_codec.specs.SpellingTimes.{time_bytes}
use Rattle.state_codec.proofs.PieceLaws.{fields_left}
use Rattle.state_codec.proofs.pieces.fields_of.Goals as goal

pub returns : goal.returns
returns c =
    let s = c.args.saved.now in
    let front : c.new.result ≡ front_of_fields s.changed s.place =
    c.new.ensures ∙ (λ i. front_of_fields (c.changed.ensures i) (c.place.ensures i)) in
    let times : c.new-2.result ≡ option_map_or (flat_map time_bytes) s.changed [] =
    c.new-2.ensures ∙ ap (λ (t : Option Times). option_map_or (flat_map time_bytes) t []) c.changed-2.ensures in
    let place : c.new-3.result ≡ option_map_or place_head s.place [] =
    c.new-3.ensures ∙ ap (λ (p : Option PlaceState). option_map_or place_head p []) c.place-2.ensures in
    let round : c.new-4.result ≡ option_map_or (λ (p : PlaceState). flat_map u32_bytes p.played) s.place [] =
    c.new-4.ensures ∙ ap (λ (p : Option PlaceState). option_map_or (λ (q : PlaceState). flat_map u32_bytes q.played) p []) c.place-3.ensures in
    (λ i. front i ++ (times i ++ (place i ++ round i))) ∙ fields_left s c.key-key.ensures.kept
