-- Texts of a tag that are added one after the other.
use Rattle.std.specs.Prelude.{ℕ, List, [], ◌∷◌}
use Rattle.song_files.specs.Tags.{TagText, added}
use Rattle.song_files.specs.declared.tag.Tag.{Tag}

abbrev pub with_texts : List TagText → Tag → List (List ℕ) → List TagText
with_texts tags tag [] = tags
with_texts tags tag (text ∷ texts) = with_texts (added tags tag text) tag texts
