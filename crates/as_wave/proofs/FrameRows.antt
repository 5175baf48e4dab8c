-- The rows that the program has, one after the other.
use Rattle.std.proofs.Common.{◌≡◌, ℕ, ◌+◌, ◌<◌, ◌≤◌, List, Bool, true, false, Some, None, length, drop, get_or, ap, ◌∙◌, sym}
use Rattle.std.specs.Prelude.{Option, option_map}
use Rattle.std.specs.List.{find}
use Rattle.std.specs.Str.{bytes_eq}
use Rattle.std.proofs.lemmas.List.{drop_more}
use Rattle.as_wave.specs.FlacNames.{FrameName, frame_names, frame_named}
use Rattle.as_wave.specs.FlacRows.{frame_of, frames_of}
use Rattle.as_wave.specs.declared.flac_names.FrameRow.{FrameRow}
use Rattle.as_wave.proofs.Firsts.{find-map, found_here, passed_by, none_left}

abbrev pub is_row : List ℕ → FrameRow → Bool
is_row name row = bytes_eq row.0.now name

named_is : (rows : List FrameRow) (name : List ℕ) → frames_of rows ≡ frame_names
    → option_map frame_of (find (is_row name) rows) ≡ frame_named name
unfolding frame_named
named_is rows name same = sym (ap (find (λ (f : FrameName). bytes_eq f.name name)) (sym same)
    ∙ find-map frame_of (λ (f : FrameName). bytes_eq f.name name) rows)

pub row_found : (rows : List FrameRow) (i : ℕ) (d : FrameRow) (name : List ℕ) → frames_of rows ≡ frame_names → i < length rows
    → is_row name (get_or rows i d) ≡ true → find (is_row name) (drop i rows) ≡ find (is_row name) rows
    → option_map frame_of (Some (get_or rows i d)) ≡ frame_named name
row_found rows i d name same within passes left =
    ap (option_map frame_of) (found_here (is_row name) (drop i rows) (drop (i + 1) rows) (get_or rows i d) (find (is_row name) rows)
    (drop_more rows i d within) passes left) ∙ named_is rows name same

pub row_passed : (rows : List FrameRow) (i : ℕ) (d : FrameRow) (name : List ℕ) → i < length rows → is_row name (get_or rows i d) ≡ false
    → find (is_row name) (drop i rows) ≡ find (is_row name) rows → find (is_row name) (drop (i + 1) rows) ≡ find (is_row name) rows
row_passed rows i d name within fails left =
    passed_by (is_row name) (drop i rows) (drop (i + 1) rows) (get_or rows i d) (find (is_row name) rows) (drop_more rows i d within) fails left

pub row_none : (rows : List FrameRow) (i : ℕ) (name : List ℕ) → frames_of rows ≡ frame_names → length rows ≤ i
    → find (is_row name) (drop i rows) ≡ find (is_row name) rows → option_map frame_of None ≡ frame_named name
row_none rows i name same past left =
    ap (option_map frame_of) (none_left (is_row name) rows i (find (is_row name) rows) past left) ∙ named_is rows name same
