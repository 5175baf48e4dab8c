use Rattle.std.proofs.Common.{◌++◌, List, ℕ, length, sym, subst}
use Rattle.std.specs.List.{flat_map}
use Rattle.stored_lists.specs.Times.{Times}
use Rattle.state_codec.specs.Appended.{Appends, HasRoom}
use Rattle.state_codec.specs.SpellingPlace.{place_bytes}
use Rattle.state_codec.specs.SpellingTimes.{time_bytes, times_head}
use Rattle.state_codec.proofs.RoomLaws.{appends_both, room_behind, room_first}
use Rattle.state_codec.proofs.writing.times.put_all_fields.Goals as goal

pub put_times_head-requires : goal.put_times_head-requires
put_times_head-requires c =
    let times = c.args.times.now in
    let place = c.args.place.now in
    room_first c.args.out.now (times_head times place) (flat_map time_bytes times ++ place_bytes place) c.requires

pub put_items-requires : goal.put_items-requires
put_items-requires c =
    let times = c.args.times.now in
    let place = c.args.place.now in
    subst (λ (all : Times). HasRoom c.put_times_head.new.out (length (flat_map time_bytes all))) (sym c.as_slice.ensures.times)
    (room_first c.put_times_head.new.out (flat_map time_bytes times) (place_bytes place)
    (room_behind c.args.out.now c.put_times_head.new.out (times_head times place) (flat_map time_bytes times ++ place_bytes place) c.requires
    c.put_times_head.ensures.appended))

pub put_place-requires : goal.put_place-requires
put_place-requires c =
    let times = c.args.times.now in
    let place = c.args.place.now in
    let items : Appends c.put_times_head.new.out c.put_items.new.out (flat_map time_bytes times) =
    subst (λ (all : Times). Appends c.put_times_head.new.out c.put_items.new.out (flat_map time_bytes all)) c.as_slice.ensures.times
    c.put_items.ensures in
    room_behind c.put_times_head.new.out c.put_items.new.out (flat_map time_bytes times) (place_bytes place)
    (room_behind c.args.out.now c.put_times_head.new.out (times_head times place) (flat_map time_bytes times ++ place_bytes place) c.requires
    c.put_times_head.ensures.appended)
    items

pub returns : goal.returns
returns c =
    let times = c.args.times.now in
    let place = c.args.place.now in
    let items : Appends c.put_times_head.new.out c.put_items.new.out (flat_map time_bytes times) =
    subst (λ (all : Times). Appends c.put_times_head.new.out c.put_items.new.out (flat_map time_bytes all)) c.as_slice.ensures.times
    c.put_items.ensures in
    appends_both c.args.out.now c.put_times_head.new.out c.put_place.new.out (times_head times place) (flat_map time_bytes times ++ place_bytes place)
    c.put_times_head.ensures.appended
    (appends_both c.put_times_head.new.out c.put_items.new.out c.put_place.new.out (flat_map time_bytes times) (place_bytes place) items
    c.put_place.ensures)
