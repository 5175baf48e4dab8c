-- How many bytes the texts of a row take, one after the other.
use Rattle.std.proofs.Common.{◌≡◌, ℕ, ◌+◌, ◌<◌, ◌≤◌, nat_le, true, false, List, ◌∷◌, length, drop, Some, sym, ap, ◌∙◌, arith}
use Rattle.std.specs.Prelude.{slice_get}
use Rattle.std.proofs.lemmas.Bool.Decides.{nat_tests}
use Rattle.std.proofs.lemmas.List.{at_drop_more, drop_all}
use Rattle.std.proofs.lemmas.List.Sums.{sum_by-cons}
use Rattle.std.proofs.lemmas.Option.{get_or_from_slice_get, slice_get_within}
use Rattle.song_files.specs.Tags.{TagText}
use Rattle.song_db.specs.Limits.{MAX_ROW_TAG_BYTES}
use Rattle.song_db.specs.Row.{tags_size}

pub size_here : (tags : List TagText) (at : ℕ) (t : TagText) → slice_get tags at ≡ Some t
    → tags_size (drop at tags) ≡ 3 + length t.text + tags_size (drop (at + 1) tags)
size_here tags at t here =
    at_drop_more tags_size tags at t (slice_get_within tags at t here)
    ∙ ap (λ (x : TagText). tags_size (x ∷ drop (at + 1) tags)) (get_or_from_slice_get tags at t t here)
    ∙ sum_by-cons (λ (t : TagText). 3 + length t.text) t (drop (at + 1) tags)

-- one that is too long
pub too_long : (tags : List TagText) (at left : ℕ) (t : TagText) → slice_get tags at ≡ Some t
    → left + tags_size tags ≡ MAX_ROW_TAG_BYTES + tags_size (drop at tags) → left < 3 + length t.text
    → false ≡ nat_le (tags_size tags) MAX_ROW_TAG_BYTES
too_long tags at left t here so_far more =
    let size = size_here tags at t here in
    let over : MAX_ROW_TAG_BYTES < tags_size tags = omega (arith, size, so_far, more) in
    let no : nat_le (tags_size tags) MAX_ROW_TAG_BYTES ≡ false = grind (arith, nat_tests) in
    sym no

-- none is
pub all_short : (tags : List TagText) (at left : ℕ) → length tags ≤ at
    → left + tags_size tags ≡ MAX_ROW_TAG_BYTES + tags_size (drop at tags) → true ≡ nat_le (tags_size tags) MAX_ROW_TAG_BYTES
all_short tags at left past so_far =
    let none : tags_size (drop at tags) ≡ 0 = ap tags_size (drop_all at tags past) in
    let within : tags_size tags ≤ MAX_ROW_TAG_BYTES = omega (arith, none, so_far) in
    let yes : nat_le (tags_size tags) MAX_ROW_TAG_BYTES ≡ true = grind (arith, nat_tests) in
    sym yes
