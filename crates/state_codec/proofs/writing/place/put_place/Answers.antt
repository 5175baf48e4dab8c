use Rattle.std.proofs.Common.{List, ℕ, length, sym, subst}
use Rattle.std.specs.List.{flat_map}
use Rattle.state_codec.specs.Appended.{Appends, HasRoom}
use Rattle.state_codec.specs.SpellingFields.{u32_bytes}
use Rattle.state_codec.specs.SpellingPlace.{place_head}
use Rattle.state_codec.proofs.RoomLaws.{appends_both, room_behind, room_first}
use Rattle.state_codec.proofs.writing.place.put_place.Goals as goal

pub put_place_head-requires : goal.put_place_head-requires
put_place_head-requires c =
    let place = c.args.place.now in
    room_first c.args.out.now (place_head place) (flat_map u32_bytes place.played) c.requires

pub put_numbers-requires : goal.put_numbers-requires
put_numbers-requires c =
    let place = c.args.place.now in
    subst (λ (ids : List ℕ). HasRoom c.put_place_head.new.out (length (flat_map u32_bytes ids))) (sym c.played.ensures.ids)
    (room_behind c.args.out.now c.put_place_head.new.out (place_head place) (flat_map u32_bytes place.played) c.requires
    c.put_place_head.ensures)

pub returns : goal.returns
returns c =
    let place = c.args.place.now in
    appends_both c.args.out.now c.put_place_head.new.out c.put_numbers.new.out (place_head place) (flat_map u32_bytes place.played)
    c.put_place_head.ensures
    (subst (λ (ids : List ℕ). Appends c.put_place_head.new.out c.put_numbers.new.out (flat_map u32_bytes ids)) c.played.ensures.ids
    c.put_numbers.ensures)
