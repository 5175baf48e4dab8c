-- The tags' numbers.
use Rattle.std.proofs.Common.{◌≡◌, ℕ, zero, suc, ◌+◌, ◌<◌, true, false, List, [], ◌∷◌, ◌++◌, map, take, Some, get_or, length, refl, sym}
use Rattle.std.proofs.Common.{ap, ◌∙◌, arith}
use Rattle.std.specs.Prelude.{slice_get, option_map}
use Rattle.std.specs.List.{list_any}
use Rattle.std.proofs.lemmas.Option.{get_or_from_slice_get, slice_get-map, slice_get_within, same_Some}
use Rattle.std.proofs.lemmas.List.{take_more}
use denote.Enum.Declared.{tag_of}
use denote.Enum.Bare.{tag_one, same_true, true_same, false_same}
use Rattle.song_files.specs.Tag.{Row, table, all_tags, is_tag, number_of, tag_at, name_of}
use Rattle.song_files.specs.contracts.tag.Tag.{the_type}
use Rattle.song_files.specs.declared.tag.Tag.{Tag}
use Rattle.song_files.specs.declared.tag.TheConstants.{TAG_COUNT}
use Rattle.song_files.specs.declared.tag.Tag.TheVariants.{Title}

pub number_is : (tag : Tag) → tag_of the_type tag ≡ number_of tag
unfolding number_of table
number_is Title = refl
number_is _ = refl

pub number_below : (tag : Tag) → number_of tag < TAG_COUNT
unfolding number_of table
number_below Title = omega arith
number_below _ = omega arith

pub tag_at-number : (tag : Tag) → tag_at (number_of tag) ≡ Some tag
unfolding number_of tag_at all_tags table
tag_at-number Title = refl
tag_at-number _ = refl

pub is_tag_same : (tag other : Tag) → is_tag tag other ≡ true → tag ≡ other
is_tag_same tag other same = same_true the_type tt tag other same

pub is_tag_refl : (tag : Tag) → is_tag tag tag ≡ true
is_tag_refl tag = true_same the_type tag tag refl

pub number_same : (tag other : Tag) → number_of tag ≡ number_of other → tag ≡ other
number_same tag other same = tag_one the_type tt tag other (number_is tag ∙ same ∙ sym (number_is other))

-- the numbers from n on, as many as there are elements
counted : ℕ → List Tag → List ℕ
counted n [] = []
counted n (x ∷ xs) = n ∷ counted (n + 1) xs

counted_at : (n : ℕ) (xs : List Tag) (k : ℕ) (tag : Tag) → slice_get xs k ≡ Some tag → slice_get (counted n xs) k ≡ Some (n + k)
unfolding counted
counted_at n [] k tag is = cc
counted_at n (x ∷ xs) zero tag is = ap Some (omega arith)
counted_at n (x ∷ xs) (suc k) tag is = counted_at (n + 1) xs k tag is ∙ ap Some (omega arith)

numbers_in_order : map number_of all_tags ≡ counted 0 all_tags
unfolding number_of all_tags table counted
numbers_in_order = refl

-- the tag with a number has that number
pub number_at : (number : ℕ) (tag : Tag) → tag_at number ≡ Some tag → number_of tag ≡ number
unfolding tag_at
number_at number tag is = same_Some (number_of tag) number
    (sym (slice_get-map number_of all_tags number ∙ ap (option_map number_of) is)
    ∙ ap (λ numbers. slice_get numbers number) numbers_in_order ∙ counted_at 0 all_tags number tag is ∙ ap Some (omega arith))

-- the name in the row at a tag's number is the tag's
pub name_at : (tag : Tag) (d : Row) → name_of tag ≡ (get_or table (number_of tag) d).name
unfolding name_of number_of table
name_at Title d = refl
name_at _ d = refl

-- tags of other numbers are other tags
pub is_tag_other : (tag other : Tag) → (number_of tag ≡ number_of other → ⊥) → is_tag tag other ≡ false
is_tag_other tag other apart = false_same the_type tt tag other (λ same. apart (ap number_of same))

-- each tag stands in the list of all, which is as long as there are tags
pub all_long : length all_tags ≡ TAG_COUNT
unfolding all_tags table
all_long = refl

pub each_tag : (tag : Tag) → list_any (λ (t : Tag). is_tag t tag) all_tags ≡ true
unfolding all_tags table
each_tag Title = refl
each_tag _ = refl

-- the tags with a number below n, and that one
pub take_tag : (n : ℕ) (tag : Tag) → tag_at n ≡ Some tag → take (n + 1) all_tags ≡ take n all_tags ++ tag ∷ []
unfolding tag_at
take_tag n tag is =
    take_more all_tags n tag (slice_get_within all_tags n tag is)
    ∙ ap (λ (t : Tag). take n all_tags ++ t ∷ []) (get_or_from_slice_get all_tags n tag tag is)
