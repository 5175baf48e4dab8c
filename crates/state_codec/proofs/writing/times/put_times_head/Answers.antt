use Rattle.std.proofs.Common.{◌≡◌, ◌++◌, List, ℕ, length, sym, ap, subst, arith}
use Rattle.std.proofs.lemmas.List.{length-append}
use Rattle.stored_lists.specs.Times.{Times}
use Rattle.state_codec.specs.Appended.{Appends, HasRoom}
use Rattle.state_codec.specs.SpellingFields.{byte_bytes}
use Rattle.state_codec.specs.SpellingTimes.{count_of_fields, times_front}
use Rattle.state_codec.proofs.RoomLaws.{appends_both, room_behind, room_first}
use Rattle.state_codec.proofs.TimeFields.{front_short}
use Rattle.state_codec.proofs.writing.times.put_times_head.Goals as goal

pub put_byte-requires : goal.put_byte-requires
put_byte-requires c =
    let times = c.args.times.now in
    room_first c.args.out.now (byte_bytes (count_of_fields times c.args.place.now)) (times_front times) c.requires

pub put_front-requires-clause-few : goal.put_front-requires-clause-few
put_front-requires-clause-few c = omega (arith, c.as_slice.ensures.within.few, ap length c.as_slice.ensures.times)

pub put_front-requires-clause-room : goal.put_front-requires-clause-room
put_front-requires-clause-room c =
    let times = c.args.times.now in
    let count = count_of_fields times c.args.place.now in
    let first : Appends c.args.out.now c.put_byte.new.out (byte_bytes count) =
    subst (λ (n : ℕ). Appends c.args.out.now c.put_byte.new.out (byte_bytes n)) c.count_of_fields.ensures c.put_byte.ensures in
    subst (λ (all : Times). HasRoom c.put_byte.new.out (length (times_front all))) (sym c.as_slice.ensures.times)
    (room_behind c.args.out.now c.put_byte.new.out (byte_bytes count) (times_front times) c.requires first)

pub returns-clause-appended : goal.returns-clause-appended
returns-clause-appended c =
    let times = c.args.times.now in
    let count = count_of_fields times c.args.place.now in
    let first : Appends c.args.out.now c.put_byte.new.out (byte_bytes count) =
    subst (λ (n : ℕ). Appends c.args.out.now c.put_byte.new.out (byte_bytes n)) c.count_of_fields.ensures c.put_byte.ensures in
    let front : Appends c.put_byte.new.out c.put_front.new.out (times_front times) =
    subst (λ (all : Times). Appends c.put_byte.new.out c.put_front.new.out (times_front all)) c.as_slice.ensures.times c.put_front.ensures in
    appends_both c.args.out.now c.put_byte.new.out c.put_front.new.out (byte_bytes count) (times_front times) first front

pub returns-clause-within : goal.returns-clause-within
returns-clause-within c =
    let times = c.args.times.now in
    omega (arith, length-append (byte_bytes (count_of_fields times c.args.place.now)) (times_front times), front_short times)
