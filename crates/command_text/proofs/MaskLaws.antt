-- A number is a mask of tags by its bits.
use Rattle.std.proofs.Common.{◌≡◌, ◌≢◌, ℕ, zero, suc, ◌-◌, ◌<◌, ◌^◌, min, max, true, false, not, ◌&&◌, ◌||◌, ◌==◌, refl, sym, ◌∙◌, ap}
use Rattle.std.proofs.Common.{arith}
use Rattle.std.proofs.Common.{List, [], ◌∷◌, ◌++◌}
use Rattle.std.specs.Int.{bit_at, bit_not, w64}
use Rattle.std.specs.List.{flat_map}
use Rattle.std.proofs.lemmas.Nat.Bits.{bit_at-zero, bit_at_ones, bit_at-pow_same, bit_at-pow_other, bit_at_or, bit_at_and, bit_at_not}
use Rattle.std.proofs.lemmas.Nat.Bits.{bit_at-lt}
use Rattle.command_text.specs.declared.tag_mask.TagMask.{TagMask}
use Rattle.song_files.specs.declared.tag.Tag.{Tag}
use Rattle.song_files.specs.declared.tag.TheConstants.{TAG_COUNT}
use Rattle.command_text.specs.Masks.{all_in_mask, empty_mask, has, only_tag, with_tags, without_tags}
use Rattle.command_text.specs.AnswerSongs.{tag_line, tag_lines}
use Rattle.song_files.specs.Tag.{number_of}
use Rattle.song_files.specs.Tags.{TagText}
use Rattle.song_files.proofs.TagNumbers.{number_below, number_same}

one : (n : ℕ) → n ≡ 1 → (n == 1) ≡ true
one n e = rw e refl

no : (n : ℕ) → n ≡ 0 → (n == 1) ≡ false
no n e = rw e refl

either : (x y : ℕ) → x < 2 → y < 2 → (max x y == 1) ≡ ((x == 1) || (y == 1))
either zero zero h k = refl
either zero (suc zero) h k = refl
either (suc zero) zero h k = refl
either (suc zero) (suc zero) h k = refl
either (suc (suc x)) y h k = absurd (omega arith)
either zero (suc (suc y)) h k = absurd (omega arith)
either (suc zero) (suc (suc y)) h k = absurd (omega arith)

one_alone : (x y : ℕ) → x < 2 → y < 2 → (min x (1 - y) == 1) ≡ ((x == 1) && not (y == 1))
one_alone zero zero h k = refl
one_alone zero (suc zero) h k = refl
one_alone (suc zero) zero h k = refl
one_alone (suc zero) (suc zero) h k = refl
one_alone (suc (suc x)) y h k = absurd (omega arith)
one_alone zero (suc (suc y)) h k = absurd (omega arith)
one_alone (suc zero) (suc (suc y)) h k = absurd (omega arith)

apart : (tag other : Tag) → tag ≢ other → number_of other ≢ number_of tag
apart tag other h e = h (number_same tag other (sym e))

pub in_empty : (tag : Tag) → has empty_mask tag ≡ false
in_empty tag = no (bit_at 0 (number_of tag)) (bit_at-zero (number_of tag))

pub in_all : (tag : Tag) → has all_in_mask tag ≡ true
in_all tag = one (bit_at (2 ^ TAG_COUNT - 1) (number_of tag)) (bit_at_ones TAG_COUNT (number_of tag) (number_below tag))

pub in_only : (tag : Tag) → has (only_tag tag) tag ≡ true
in_only tag = one (bit_at (2 ^ number_of tag) (number_of tag)) (bit_at-pow_same (number_of tag))

pub not_others : (tag other : Tag) → tag ≢ other → has (only_tag tag) other ≡ false
not_others tag other h = no (bit_at (2 ^ number_of tag) (number_of other)) (bit_at-pow_other (number_of tag) (number_of other)
    (apart tag other h))

pub in_both : (mask others : TagMask) (tag : Tag) → has (with_tags mask others) tag ≡ (has mask tag || has others tag)
in_both mask others tag =
    ap (λ (n : ℕ). n == 1) (bit_at_or mask.bits others.bits (number_of tag))
    ∙ either (bit_at mask.bits (number_of tag)) (bit_at others.bits (number_of tag)) (bit_at-lt mask.bits (number_of tag))
    (bit_at-lt others.bits (number_of tag))

pub in_rest : (mask others : TagMask) (tag : Tag) → others.bits < 2 ^ 64
    → has (without_tags mask others) tag ≡ (has mask tag && not (has others tag))
in_rest mask others tag h =
    let i = number_of tag in
    let low : i < TAG_COUNT = number_below tag in
    let lt : i < 64 = omega arith in
    ap (λ (n : ℕ). n == 1) (bit_at_and mask.bits (bit_not w64 others.bits) i ∙ ap (min (bit_at mask.bits i))
    (bit_at_not w64 others.bits i h lt))
    ∙ one_alone (bit_at mask.bits i) (bit_at others.bits i) (bit_at-lt mask.bits i) (bit_at-lt others.bits i)

-- where all tags are seen each text has its line
pub all_told : (texts : List TagText) → tag_lines all_in_mask texts ≡ flat_map tag_line texts
all_told [] = refl
all_told (text ∷ texts) = rw (in_all text.tag) (ap (λ (lines : List ℕ). tag_line text ++ lines) (all_told texts))
