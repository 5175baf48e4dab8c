-- The heads of written frames, as they are read.
use Rattle.std.proofs.Common.{◌≡◌, ℕ, ◌+◌, ◌-◌, ◌*◌, ◌/◌, ◌%◌, ◌<◌, ◌≤◌, List, [], ◌∷◌, length, min, true, false, Some}
use Rattle.std.proofs.Common.{nat_lt, slice_range, refl, arith}
use Rattle.std.specs.Prelude.{nat_le}
use Rattle.std.specs.List.{list_all}
use Rattle.std.proofs.lemmas.Bool.{le-ltb, le-leb}
use Rattle.id3_tags.specs.Frames.{is_id_byte, framed, head_at}
use Rattle.id3_tags.specs.Writing.{frame_front}
use Rattle.id3_tags.specs.declared.frame_head.FrameHead.{FrameHead}
use Rattle.id3_tags.specs.declared.frame_head.Layout.{Layout}

abbrev pub layout4 : Layout
layout4 = record { version = 4; unsynchronised = false }

-- a frame without flags at a place
abbrev pub written_head : List ℕ → ℕ → ℕ → FrameHead
written_head id at size = record {
  id = id;
  first = at + 10;
  len = size;
  next = at + 10 + size;
  hidden = false;
  unsynchronised = false;
}

-- seven bits a byte give the number back
pub safe_is : (n : ℕ) → n < 268435456 → ((n / 2097152 % 128 * 128 + n / 16384 % 128) * 128 + n / 128 % 128) * 128 + n % 128 ≡ n
safe_is n few = omega arith

framed_is : (id : List ℕ) (at size s end : ℕ) → s ≡ size → at + 10 + size ≤ end
    → framed id (at + 10) s 0 false false end ≡ Some (written_head id at size)
framed_is id at size s end same room =
    let test : nat_le size (end - (at + 10)) ≡ true = le-leb size (end - (at + 10)) (omega arith) in
    let first : at + 10 + min 0 size ≡ at + 10 = omega arith in
    let len : size - 0 ≡ size = omega arith in
    rw (same, test, first, len) refl

-- the head of a written frame
pub head_read : (id file : List ℕ) (at size end : ℕ) → length id ≡ 4 → list_all is_id_byte id ≡ true → size < 268435456
    → at + 10 + size ≤ end → slice_range file at (at + 10) ≡ frame_front id size
    → head_at layout4 file at end ≡ Some (written_head id at size)
head_read [] file at size end four ids few room read = absurd (omega arith)
head_read (a ∷ []) file at size end four ids few room read = absurd (omega arith)
head_read (a ∷ b ∷ []) file at size end four ids few room read = absurd (omega arith)
head_read (a ∷ b ∷ c ∷ []) file at size end four ids few room read = absurd (omega arith)
head_read (a ∷ b ∷ c ∷ d ∷ e ∷ id) file at size end four ids few room read = absurd (omega arith)
head_read (a ∷ b ∷ c ∷ d ∷ []) file at size end four ids few room read =
    let long : nat_lt (end - at) 10 ≡ false = le-ltb (end - at) 10 (omega arith) in
    rw (long, read, ids) (framed_is (a ∷ b ∷ c ∷ d ∷ []) at size _ end (safe_is size few) room)
