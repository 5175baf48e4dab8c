-- The texts of one tag among the places, one after the other.
use Rattle.std.proofs.Common.{◌≡◌, ℕ, suc, ◌+◌, ◌<◌, ◌≤◌, true, false, List, length, drop, get_or, Some, None, refl, sym, ◌∙◌}
use Rattle.std.specs.Prelude.{slice_get, Option}
use Rattle.std.proofs.lemmas.List.{at_drop_more, at_drop_all}
use Rattle.song_files.specs.Tag.{is_tag}
use Rattle.song_files.specs.Tags.{texts_of}
use Rattle.song_files.specs.Places.{text_at, texts_at}
use Rattle.song_files.specs.declared.tag.Tag.{Tag}
use Rattle.song_files.specs.declared.tags.Place.{Place}

abbrev pub nth_of : List ℕ → Tag → ℕ → List Place → Option (List ℕ)
nth_of bytes tag n places = slice_get (texts_of (texts_at bytes places) tag) n

module _ (bytes : List ℕ) (tag : Tag) (places : List Place) (i : ℕ) (d : Place) (found : Option (List ℕ)) where
  pub nth_here : i < length places → is_tag (get_or places i d).tag tag ≡ true → nth_of bytes tag 0 (drop i places) ≡ found
      → Some (text_at bytes (get_or places i d)).text ≡ found
  nth_here within same left = sym (at_drop_more (nth_of bytes tag 0) places i d within ∙ rw same refl) ∙ left

  pub nth_later : (n : ℕ) → i < length places → is_tag (get_or places i d).tag tag ≡ true → nth_of bytes tag (suc n) (drop i places) ≡ found
      → nth_of bytes tag n (drop (i + 1) places) ≡ found
  nth_later n within same left = sym (at_drop_more (nth_of bytes tag (suc n)) places i d within ∙ rw same refl) ∙ left

  pub nth_other : (n : ℕ) → i < length places → is_tag (get_or places i d).tag tag ≡ false → nth_of bytes tag n (drop i places) ≡ found
      → nth_of bytes tag n (drop (i + 1) places) ≡ found
  nth_other n within differs left = sym (at_drop_more (nth_of bytes tag n) places i d within ∙ rw differs refl) ∙ left

  pub nth_none : (n : ℕ) → length places ≤ i → nth_of bytes tag n (drop i places) ≡ found → None ≡ found
  nth_none n past left = sym (at_drop_all (nth_of bytes tag n) places i past) ∙ left
