use Rattle.std.proofs.Common.{◌≡◌, ◌+◌, ◌++◌, List, ℕ, length, refl, sym, ap, subst, ◌∙◌, arith}
use Rattle.std.proofs.lemmas.List.{append-nil, length-append}
use Rattle.state_codec.specs.Appended.{Appends, HasRoom}
use Rattle.state_codec.specs.SpellingFields.{byte_bytes, list_bytes, u32_bytes}
use Rattle.state_codec.specs.SpellingTimes.{time_bytes}
use Rattle.state_codec.proofs.RoomLaws.{appends_both, room_behind}
use Rattle.state_codec.proofs.TimeFields.{front_in, front_out, items_len}
use Rattle.state_codec.proofs.writing.times.put_front.Goals as goal

pub returns-then-has_none : goal.returns-then-has_none
returns-then-has_none c =
    let none = front_out c.args.times.now (sym c.has_none.ensures ∙ c.if-has_none.true) in
    subst (λ (l : List ℕ). Appends c.args.out.now c.args.out.now l) (sym none)
    (record { items = sym (append-nil c.args.out.now.items); capacity = refl })

pub put_byte-requires : goal.put_byte-requires
put_byte-requires c =
    let front = front_in c.args.times.now (sym c.has_none.ensures ∙ c.if-has_none.false) in
    omega (arith, c.requires.room, ap length front)

pub put_u32-requires : goal.put_u32-requires
put_u32-requires c =
    let times = c.args.times.now in
    let size = u32_bytes (length (list_bytes time_bytes times)) in
    let count = u32_bytes (length times) in
    let front = front_in times (sym c.has_none.ensures ∙ c.if-has_none.false) in
    let room : HasRoom c.args.out.now (length (byte_bytes 1 ++ (size ++ count))) =
    subst (λ (l : List ℕ). HasRoom c.args.out.now (length l)) front c.requires.room in
    omega (
      arith,
      room_behind c.args.out.now c.put_byte.new.out (byte_bytes 1) (size ++ count) room c.put_byte.ensures,
      length-append size count,
    )

pub put_u32-requires-2 : goal.put_u32-requires-2
put_u32-requires-2 c =
    let times = c.args.times.now in
    let size = u32_bytes (length (list_bytes time_bytes times)) in
    let count = u32_bytes (length times) in
    let front = front_in times (sym c.has_none.ensures ∙ c.if-has_none.false) in
    let room : HasRoom c.args.out.now (length (byte_bytes 1 ++ (size ++ count))) =
    subst (λ (l : List ℕ). HasRoom c.args.out.now (length l)) front c.requires.room in
    omega (
      arith,
      room_behind c.args.out.now c.put_byte.new.out (byte_bytes 1) (size ++ count) room c.put_byte.ensures,
      length-append size count,
      c.put_u32.ensures.capacity,
      ap length c.put_u32.ensures.items,
      length-append c.put_byte.new.out.items (u32_bytes (4 + c.items_len.result)),
      c.put_byte.new.out.ok.0,
      c.put_u32.new.out.ok.0,
    )

pub returns : goal.returns
returns c =
    let times = c.args.times.now in
    let size = length (list_bytes time_bytes times) in
    let front = front_in times (sym c.has_none.ensures ∙ c.if-has_none.false) in
    let len : 4 + c.items_len.result ≡ size = omega (arith, c.items_len.ensures.len, items_len times) in
    let told : Appends c.put_byte.new.out c.put_u32.new.out (u32_bytes size) =
    subst (λ (n : ℕ). Appends c.put_byte.new.out c.put_u32.new.out (u32_bytes n)) len c.put_u32.ensures in
    subst (λ (l : List ℕ). Appends c.args.out.now c.put_u32-2.new.out l) (sym front)
    (appends_both c.args.out.now c.put_byte.new.out c.put_u32-2.new.out (byte_bytes 1) (u32_bytes size ++ u32_bytes (length times))
    c.put_byte.ensures
    (appends_both c.put_byte.new.out c.put_u32.new.out c.put_u32-2.new.out (u32_bytes size) (u32_bytes (length times)) told
    c.put_u32-2.ensures))
