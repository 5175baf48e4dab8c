-- Where a song is told by the parts of its path and of a folder's.
use Rattle.std.proofs.Common.{◌≡◌, ℕ, Bool, true, false, List, [], ◌∷◌, ◌++◌, refl, sym, ap, ◌∙◌, append_assoc}
use Rattle.std.specs.List.{flat_map}
use Rattle.std.specs.Ordering.{is_eq, is_lt, ordering_then}
use Rattle.std.specs.declared.cmp.Ordering.{Ordering}
use Rattle.song_db.specs.Letters.{text_cmp}
use Rattle.song_db.specs.Row.{Row}
use Rattle.song_db.specs.Told.{folder_end, part_key, path_key}
use Rattle.song_db.specs.Uri.{parts}
use Rattle.song_db.proofs.Below.{has_first}
use Rattle.song_db.proofs.LetterKeys.{keys_cmp}
use Rattle.song_db.proofs.LetterSteps.{decided, tied}
use Rattle.song_db.proofs.Rising.{texts}
use Rattle.song_db.proofs.ToldKeys.{path_more}

-- both have a part more
folder_cmp : (row : Row) (part rest first : List ℕ) (others : List (List ℕ)) (end : List ℕ)
    → texts (path_key row (part ∷ parts rest)) (flat_map part_key (first ∷ others) ++ end)
    ≡ ordering_then (text_cmp part first) (texts (path_key row (parts rest)) (flat_map part_key others ++ end))
folder_cmp row part rest first others end =
    ap (λ (l : List ℕ). texts l ((part_key first ++ flat_map part_key others) ++ end)) (path_more row part rest)
    ∙ ap (texts (part_key part ++ path_key row (parts rest))) (append_assoc (part_key first) (flat_map part_key others) end)
    ∙ keys_cmp part first (path_key row (parts rest)) (flat_map part_key others ++ end)

-- the parts decide
pub part_decides : (row : Row) (part rest first : List ℕ) (others : List (List ℕ)) (end : List ℕ) (o : Ordering) (w : Bool)
    → o ≡ text_cmp part first → is_eq o ≡ false
    → is_lt (texts (path_key row (part ∷ parts rest)) (flat_map part_key (first ∷ others) ++ end)) ≡ w → is_lt o ≡ w
part_decides row part rest first others end o w same other is =
    ap is_lt (same
    ∙ sym (decided (text_cmp part first) (texts (path_key row (parts rest)) (flat_map part_key others ++ end)) (ap is_eq (sym same) ∙ other))
    ∙ sym (folder_cmp row part rest first others end)) ∙ is

-- what is behind them decides
pub part_tied : (row : Row) (part rest first : List ℕ) (others : List (List ℕ)) (end : List ℕ) (o : Ordering) (w : Bool)
    → o ≡ text_cmp part first → is_eq o ≡ true
    → is_lt (texts (path_key row (part ∷ parts rest)) (flat_map part_key (first ∷ others) ++ end)) ≡ w
    → is_lt (texts (path_key row (parts rest)) (flat_map part_key others ++ end)) ≡ w
part_tied row part rest first others end o w same equal is =
    ap is_lt (sym (tied (text_cmp part first) (texts (path_key row (parts rest)) (flat_map part_key others ++ end)) (ap is_eq (sym same) ∙ equal))
    ∙ sym (folder_cmp row part rest first others end)) ∙ is

-- below the folder
pub at_end : (row : Row) (path : List ℕ) (own : Bool) → is_lt (texts (path_key row (parts path)) (folder_end own)) ≡ own
at_end row path own = let first = has_first path in rw first.is (by_parts first.first first.others own)
  where
    by_parts : (part : List ℕ) (ps : List (List ℕ)) (own : Bool) → is_lt (texts (path_key row (part ∷ ps)) (folder_end own)) ≡ own
    by_parts part [] true = refl
    by_parts part [] false = refl
    by_parts part (p ∷ ps) true = refl
    by_parts part (p ∷ ps) false = refl

-- the song of a folder is told before the folders in it
pub before_folders : (row : Row) (name folder end : List ℕ)
    → is_lt (texts (path_key row (name ∷ [])) (flat_map part_key (parts folder) ++ end)) ≡ true
before_folders row name folder end = let first = has_first folder in rw first.is refl
