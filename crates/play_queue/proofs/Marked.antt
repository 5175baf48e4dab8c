-- A URI whose mark isn't set is none of those that set the marks.
use Rattle.std.proofs.Common.{◌≡◌, ℕ, ◌<◌, Bool, true, false, List, [], length, get_or, refl}
use Rattle.std.specs.Str.{bytes_eq}
use Rattle.std.proofs.lemmas.List.{get_or_default}
use Rattle.std.proofs.lemmas.List.Folds.{list_any_none}
use Rattle.std.proofs.lemmas.Slice.Eq.{bytes_eq-Decides}
use Rattle.play_queue.specs.Entries.{Uris, is_among}
use Rattle.play_queue.specs.Marks.{mark_of, AreMarked}

pub unmarked : (marks : List Bool) (uris : Uris) (text : List ℕ) → AreMarked marks uris → get_or marks (mark_of text) false ≡ false
    → is_among uris text ≡ false
unmarked marks uris text marked unset =
    list_any_none (λ other. bytes_eq other text) uris (λ k d within. of k d within (bytes_eq (get_or uris k d) text) refl)
  where
    of : (k : ℕ) (d : List ℕ) → k < length uris → (b : Bool) → bytes_eq (get_or uris k d) text ≡ b → b ≡ false
    of k d within false is = refl
    of k d within true is = absurd (let same : get_or uris k d ≡ text = (bytes_eq-Decides (get_or uris k d) text).0 is in
        let yes : get_or marks (mark_of text) false ≡ true = rw (get_or_default uris k [] d within, same) at (marked k within) in cc)
