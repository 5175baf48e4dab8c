-- The rows that the program has, one after the other.
use Rattle.std.proofs.Common.{◌≡◌, ℕ, ◌+◌, ◌<◌, ◌≤◌, Bool, true, false, List, length, drop, get_or, Some, None, refl, sym, ap, ◌∙◌, arith}
use Rattle.std.specs.Prelude.{slice_get, Option, option_map}
use Rattle.std.specs.List.{find}
use Rattle.std.proofs.lemmas.List.{length-map, get_or-map, at_drop_more, at_drop_all}
use Rattle.std.proofs.lemmas.Option.{slice_get-map, slice_get-get_or, slice_get_past}
use Rattle.song_files.proofs.TagNumbers.{name_at, number_below}
use Rattle.song_files.specs.Tag.{Row, table, all_tags, tag_at, number_of, name_of}
use Rattle.song_files.specs.TagRows.{row_of, rows_of}
use Rattle.song_files.specs.declared.tag.Tag.{Tag}
use Rattle.song_files.specs.declared.tag.TheConstants.{TAG_COUNT}
use Rattle.song_files.specs.declared.tag.TagRow.{TagRow}

-- as many as there are tags
pub rows_long : (rows : List TagRow) → rows_of rows ≡ table → length rows ≡ TAG_COUNT
unfolding table
rows_long rows same = sym (length-map rows row_of) ∙ ap length same

-- the row at a place is that of the tag with this number
pub tag_of_row : (rows : List TagRow) (i : ℕ) (d : TagRow) → rows_of rows ≡ table → i < TAG_COUNT → tag_at i ≡ Some (get_or rows i d).0
unfolding tag_at all_tags
tag_of_row rows i d same within =
    slice_get-map (λ (row : Row). row.tag) table i
    ∙ ap (λ (t : List Row). option_map (λ (row : Row). row.tag) (slice_get t i)) (sym same)
    ∙ ap (option_map (λ (row : Row). row.tag)) (slice_get-map row_of rows i)
    ∙ ap (λ (o : Option TagRow). option_map (λ (row : Row). row.tag) (option_map row_of o))
    (slice_get-get_or rows i d (omega (arith, rows_long rows same)))

-- no tag has a number past the rows
pub tag_past : (i : ℕ) → TAG_COUNT ≤ i → tag_at i ≡ None
unfolding tag_at all_tags table
tag_past i past = slice_get_past all_tags i past

-- its name
pub name_of_row : (rows : List TagRow) (tag : Tag) (d : TagRow) → rows_of rows ≡ table → name_of tag ≡ (get_or rows (number_of tag) d).1.now
name_of_row rows tag d same =
    name_at tag (row_of d)
    ∙ ap (λ (t : List Row). (get_or t (number_of tag) (row_of d)).name) (sym same)
    ∙ ap (λ (r : Row). r.name) (get_or-map row_of rows (number_of tag) d (row_of d)
    (let below : number_of tag < TAG_COUNT = number_below tag in omega (arith, rows_long rows same)))

-- the tag of the first row that passes
abbrev pub tag_found : (Row → Bool) → List TagRow → Option Tag
tag_found test rows = option_map (λ (row : Row). row.tag) (find test (rows_of rows))

pub row_found : (test : Row → Bool) (rows : List TagRow) (i : ℕ) (d : TagRow) (found : Option Tag) → i < length rows
    → test (row_of (get_or rows i d)) ≡ true → tag_found test (drop i rows) ≡ found → Some (get_or rows i d).0 ≡ found
row_found test rows i d found within passes left = sym (at_drop_more (tag_found test) rows i d within ∙ rw passes refl) ∙ left

pub row_passed : (test : Row → Bool) (rows : List TagRow) (i : ℕ) (d : TagRow) (found : Option Tag) → i < length rows
    → test (row_of (get_or rows i d)) ≡ false → tag_found test (drop i rows) ≡ found → tag_found test (drop (i + 1) rows) ≡ found
row_passed test rows i d found within fails left = sym (at_drop_more (tag_found test) rows i d within ∙ rw fails refl) ∙ left

-- where a list of rows is the whole table, and where none is left
pub rows_begin : (test : Row → Bool) (rows : List TagRow) → rows_of rows ≡ table
    → tag_found test rows ≡ option_map (λ (row : Row). row.tag) (find test table)
rows_begin test rows same = ap (λ (t : List Row). option_map (λ (row : Row). row.tag) (find test t)) same

pub rows_end : (test : Row → Bool) (rows : List TagRow) (i : ℕ) (found : Option Tag) → length rows ≤ i
    → tag_found test (drop i rows) ≡ found → None ≡ found
rows_end test rows i found past left = sym (at_drop_all (tag_found test) rows i past) ∙ left
