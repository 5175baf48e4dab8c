use Rattle.std.proofs.Common.{◌≡◌, List, ℕ, length, sym, ap, subst, arith}
use Rattle.state_codec.specs.Appended.{Appends, HasRoom}
use Rattle.state_codec.specs.SpellingFields.{text_bytes, u64_bytes}
use Rattle.state_codec.proofs.RoomLaws.{appends_both, room_behind, room_first}
use Rattle.state_codec.proofs.TimeFields.{name_short}
use Rattle.state_codec.proofs.writing.times.put_time.Goals as goal

pub put_text-requires-clause-short : goal.put_text-requires-clause-short
put_text-requires-clause-short c =
    omega (arith, name_short c.args.time.now.name c.as_str.ensures.form, ap length c.as_str.ensures.text)

pub put_text-requires-clause-room : goal.put_text-requires-clause-room
put_text-requires-clause-room c =
    let time = c.args.time.now in
    subst (λ (text : List ℕ). HasRoom c.args.out.now (length (text_bytes text))) (sym c.as_str.ensures.text)
    (room_first c.args.out.now (text_bytes time.name) (u64_bytes time.seconds) c.requires)

pub put_u64-requires : goal.put_u64-requires
put_u64-requires c =
    let time = c.args.time.now in
    let text : Appends c.args.out.now c.put_text.new.out (text_bytes time.name) =
    subst (λ (text : List ℕ). Appends c.args.out.now c.put_text.new.out (text_bytes text)) c.as_str.ensures.text c.put_text.ensures in
    room_behind c.args.out.now c.put_text.new.out (text_bytes time.name) (u64_bytes time.seconds) c.requires text

pub returns-clause-appended : goal.returns-clause-appended
returns-clause-appended c =
    let time = c.args.time.now in
    let text : Appends c.args.out.now c.put_text.new.out (text_bytes time.name) =
    subst (λ (text : List ℕ). Appends c.args.out.now c.put_text.new.out (text_bytes text)) c.as_str.ensures.text c.put_text.ensures in
    appends_both c.args.out.now c.put_text.new.out c.put_u64.new.out (text_bytes time.name) (u64_bytes time.seconds) text c.put_u64.ensures
