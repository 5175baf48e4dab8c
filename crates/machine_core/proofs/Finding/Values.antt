-- The values of a tag, gathered song after song.
use Rattle.std.proofs.Common.{◌≡◌, ℕ, ◌++◌, Bool, true, false, cond, List, [], ◌∷◌, map, Some, None, find, sym, ap, refl}
use Rattle.std.specs.List.{filter, flat_map}
use Rattle.std.specs.Option.{option_map}
use Rattle.profile.specs.declared.profile.Profile.{Profile}
use Rattle.profile.specs.declared.profile.Profile.TheVariants.{Wide}
use Rattle.song_files.specs.Tag.{is_tag}
use Rattle.song_files.specs.Tags.{TagText, first_text, texts_of}
use Rattle.song_files.specs.declared.tag.Tag.{Tag}
use Rattle.song_db.specs.Query.{distinct_of, values_of}
use Rattle.song_db.specs.Row.{Row}
use Rattle.machine_core.specs.Finding.{or_empty, told_texts, told_values}

-- a song without a text of a tag has the empty one in the wide profile
pub texts_none : (tags : List TagText) (tag : Tag) → first_text tags tag ≡ None → or_empty Wide (texts_of tags tag) ≡ [] ∷ []
texts_none [] tag e = refl
texts_none (x ∷ tags) tag e = by_cases (is_tag x.tag tag) e (texts_none tags tag) where
  by_cases : (b : Bool)
      → option_map (λ (t : TagText). t.text) (cond b (Some x) (find (λ (t : TagText). is_tag t.tag tag) tags)) ≡ None
      → (first_text tags tag ≡ None → or_empty Wide (texts_of tags tag) ≡ [] ∷ [])
      → or_empty Wide (map (λ (t : TagText). t.text) (cond b (x ∷ filter (λ (t : TagText). is_tag t.tag tag) tags)
      (filter (λ (t : TagText). is_tag t.tag tag) tags))) ≡ [] ∷ []
  by_cases true e rest = absurd (cc)
  by_cases false e rest = rest e

pub texts_some : (tags : List TagText) (tag : Tag) (text : List ℕ) → first_text tags tag ≡ Some text
    → or_empty Wide (texts_of tags tag) ≡ texts_of tags tag
texts_some [] tag text e = absurd (cc)
texts_some (x ∷ tags) tag text e = by_cases (is_tag x.tag tag) e (texts_some tags tag text) where
  by_cases : (b : Bool)
      → option_map (λ (t : TagText). t.text) (cond b (Some x) (find (λ (t : TagText). is_tag t.tag tag) tags)) ≡ Some text
      → (first_text tags tag ≡ Some text → or_empty Wide (texts_of tags tag) ≡ texts_of tags tag)
      → or_empty Wide (map (λ (t : TagText). t.text) (cond b (x ∷ filter (λ (t : TagText). is_tag t.tag tag) tags)
      (filter (λ (t : TagText). is_tag t.tag tag) tags)))
      ≡ map (λ (t : TagText). t.text) (cond b (x ∷ filter (λ (t : TagText). is_tag t.tag tag) tags)
      (filter (λ (t : TagText). is_tag t.tag tag) tags))
  by_cases true e rest = refl
  by_cases false e rest = rest e

own_texts : (profile : Profile) (rows : List Row) (tag : Tag) → ((row : Row) → told_texts profile tag row ≡ texts_of row.tags tag)
    → flat_map (told_texts profile tag) rows ≡ flat_map (λ (row : Row). texts_of row.tags tag) rows
own_texts profile [] tag own = refl
own_texts profile (row ∷ rows) tag own = (λ i. own row i ++ own_texts profile rows tag own i)

-- where songs tell their own texts alone they are the tag's values
pub own_values : (profile : Profile) (rows : List Row) (tag : Tag) → ((row : Row) → told_texts profile tag row ≡ texts_of row.tags tag)
    → values_of rows tag ≡ told_values profile rows tag
own_values profile rows tag own = sym (ap distinct_of (own_texts profile rows tag own))
