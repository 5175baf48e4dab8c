use Rattle.std.proofs.Common.{◌≡◌, ◌≤◌, ◌++◌, ℕ, List, [], Option, length, sym, ap, ◌∙◌, arith}
use Rattle.std.specs.Option.{option_copied, option_map_or}
use Rattle.std.proofs.lemmas.Bool.Decides.{nat_tests}
use Rattle.std.proofs.lemmas.List.{append-nil, length-append}
use denote.Ref.{Bor}
use Rattle.player_core.specs.Place.{PlaceState}
use Rattle.state_codec.specs.SpellingPlace.{place_head}
use Rattle.state_codec.proofs.PieceLaws.{put_none}
use Rattle.state_codec.proofs.PlaceFields.{head_short}
use Rattle.state_codec.proofs.pieces.place.PlaceHeadLeftPart.put_next.Goals as goal

pub put_place_head-requires : goal.put_place_head-requires
put_place_head-requires c =
    let place = c.in-Some.place.now in
    let view : place_head place ≡ c.args.self.now =
    sym (ap (λ (p : Option (Bor PlaceState)). option_map_or place_head (option_copied p) []) c.in-Some.is) ∙ c.self.view_is in
    omega (arith, c.requires, ap length view, head_short place)

pub returns-in-Some-clause-moved : goal.returns-in-Some-clause-moved
returns-in-Some-clause-moved c =
    let place = c.in-Some.place.now in
    let old = c.args.out.now.items in
    let view : place_head place ≡ c.args.self.now =
    sym (ap (λ (p : Option (Bor PlaceState)). option_map_or place_head (option_copied p) []) c.in-Some.is) ∙ c.self.view_is in
    record {
      items = append-nil c.put_place_head.new.out.items ∙ c.put_place_head.ensures.items ∙ ap (λ (l : List ℕ). old ++ l) view;
      capacity = c.put_place_head.ensures.capacity;
      few = omega (arith, ap length c.put_place_head.ensures.items, length-append old (place_head place), head_short place);
    }

pub returns-in-Some-clause-none : goal.returns-in-Some-clause-none
returns-in-Some-clause-none c = λ none.
    let place = c.in-Some.place.now in
    let view : place_head place ≡ c.args.self.now =
    sym (ap (λ (p : Option (Bor PlaceState)). option_map_or place_head (option_copied p) []) c.in-Some.is) ∙ c.self.view_is in
    let short : length c.put_place_head.new.out.items ≤ length c.args.out.now.items =
    grind (arith, nat_tests, none, c.len-before.ensures, c.len.ensures, c.args.out.now.ok.0, c.put_place_head.new.out.ok.0) in
    put_none c.args.out.now c.put_place_head.new.out (place_head place) c.args.self.now c.put_place_head.ensures short view
