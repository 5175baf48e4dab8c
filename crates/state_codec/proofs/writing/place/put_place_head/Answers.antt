use Rattle.std.proofs.Common.{List, ℕ, length, sym, ap, subst, arith}
use Rattle.state_codec.specs.Appended.{Appends, HasRoom}
use Rattle.state_codec.specs.SpellingPlace.{round_head, spot_field}
use Rattle.state_codec.proofs.RoomLaws.{appends_both, room_behind, room_first}
use Rattle.state_codec.proofs.writing.place.put_place_head.Goals as goal

pub put_spot_field-requires : goal.put_spot_field-requires
put_spot_field-requires c =
    let place = c.args.place.now in
    room_first c.args.out.now (spot_field place) (round_head place.played) c.requires

pub put_round_head-requires-clause-few : goal.put_round_head-requires-clause-few
put_round_head-requires-clause-few c = omega (arith, ap length c.played.ensures.ids, c.played.ensures.within.played.few)

pub put_round_head-requires-clause-room : goal.put_round_head-requires-clause-room
put_round_head-requires-clause-room c =
    let place = c.args.place.now in
    subst (λ (ids : List ℕ). HasRoom c.put_spot_field.new.out (length (round_head ids))) (sym c.played.ensures.ids)
    (room_behind c.args.out.now c.put_spot_field.new.out (spot_field place) (round_head place.played) c.requires c.put_spot_field.ensures)

pub returns : goal.returns
returns c =
    let place = c.args.place.now in
    let round : Appends c.put_spot_field.new.out c.put_round_head.new.out (round_head place.played) =
    subst (λ (ids : List ℕ). Appends c.put_spot_field.new.out c.put_round_head.new.out (round_head ids)) c.played.ensures.ids
    c.put_round_head.ensures in
    appends_both c.args.out.now c.put_spot_field.new.out c.put_round_head.new.out (spot_field place) (round_head place.played)
    c.put_spot_field.ensures round
