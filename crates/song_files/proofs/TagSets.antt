-- One tag more or less in a set.
use Rattle.std.proofs.Common.{◌≡◌, ℕ, ◌-◌, ◌*◌, ◌%◌, ◌^◌, ◌<◌, Bool, true, false, bit_and, bit_or, nat_eq, w64, refl, sym, ap, ◌∙◌, arith}
use Rattle.std.specs.Prelude.{◌||◌, ◌&&◌, not, ◌≢◌}
use Rattle.std.specs.Int.{bit_at}
use Rattle.std.proofs.lemmas.Bool.{false≢true}
use Rattle.std.proofs.lemmas.Nat.Bits.{bit_at_set_same, bit_at_set_other, bit_at_clear_same, bit_at_clear_other}
use Rattle.song_files.specs.Tag.{is_tag, number_of}
use Rattle.song_files.specs.declared.tag.Tag.{Tag}
use Rattle.song_files.specs.declared.tag.TheConstants.{TAG_COUNT}
use Rattle.song_files.proofs.TagNumbers.{number_below, number_same, is_tag_same, is_tag_refl}

-- a tag's bit stands in the mask
pub bit_within : (tag : Tag) → number_of tag < 64
bit_within tag = let below : number_of tag < TAG_COUNT = number_below tag in omega arith

other_number : (tag other : Tag) → is_tag tag other ≡ false → number_of other ≢ number_of tag
other_number tag other differs same =
    let one : other ≡ tag = number_same other tag same in
    false≢true (sym differs ∙ ap (λ t. is_tag tag t) one ∙ is_tag_refl tag)

pub with_bit : (mask : ℕ) (tag other : Tag)
    → nat_eq (bit_at (bit_or mask (1 * 2 ^ number_of tag % 2 ^ 64)) (number_of other)) 1
    ≡ (is_tag tag other || nat_eq (bit_at mask (number_of other)) 1)
with_bit mask tag other = by_cases (is_tag tag other) refl
  where
    by_cases : (b : Bool) → is_tag tag other ≡ b → nat_eq (bit_at (bit_or mask (1 * 2 ^ number_of tag % 2 ^ 64)) (number_of other)) 1
        ≡ (b || nat_eq (bit_at mask (number_of other)) 1)
    by_cases true same = ap (λ k. nat_eq (bit_at (bit_or mask (1 * 2 ^ number_of tag % 2 ^ 64)) k) 1)
        (ap number_of (sym (is_tag_same tag other same)))
        ∙ ap (λ b. nat_eq b 1) (bit_at_set_same w64 mask (number_of tag) (bit_within tag))
    by_cases false differs = ap (λ b. nat_eq b 1)
        (bit_at_set_other w64 mask (number_of tag) (bit_within tag) (number_of other) (other_number tag other differs))

pub without_bit : (mask : ℕ) (tag other : Tag)
    → nat_eq (bit_at (bit_and mask (2 ^ 64 - 1 - 1 * 2 ^ number_of tag % 2 ^ 64)) (number_of other)) 1
    ≡ (not (is_tag tag other) && nat_eq (bit_at mask (number_of other)) 1)
without_bit mask tag other = by_cases (is_tag tag other) refl
  where
    by_cases : (b : Bool) → is_tag tag other ≡ b
        → nat_eq (bit_at (bit_and mask (2 ^ 64 - 1 - 1 * 2 ^ number_of tag % 2 ^ 64)) (number_of other)) 1
        ≡ (not b && nat_eq (bit_at mask (number_of other)) 1)
    by_cases true same = ap (λ k. nat_eq (bit_at (bit_and mask (2 ^ 64 - 1 - 1 * 2 ^ number_of tag % 2 ^ 64)) k) 1)
        (ap number_of (sym (is_tag_same tag other same)))
        ∙ ap (λ b. nat_eq b 1) (bit_at_clear_same w64 mask (number_of tag) (bit_within tag))
    by_cases false differs = ap (λ b. nat_eq b 1)
        (bit_at_clear_other w64 mask (number_of tag) (bit_within tag) (number_of other) (bit_within other)
        (other_number tag other differs))
