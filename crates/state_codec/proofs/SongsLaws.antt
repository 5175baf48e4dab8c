-- The rows of a snapshot.
use Rattle.std.proofs.Common.{◌≡◌, ℕ, zero, suc, ◌<◌, ◌≤◌, Bool, true, false, ◌&&◌, cond, List, [], ◌∷◌, length, Some, refl, sym, ap, subst}
use Rattle.std.proofs.Common.{◌∙◌, arith}
use Rattle.std.specs.Prelude.{is_some, IsTrue}
use Rattle.std.specs.declared.cmp.Ordering.TheVariants.{Less}
use Rattle.std.specs.Ordering.{nat_cmp, is_lt, is_eq, ordering_reverse}
use Rattle.std.specs.Cmp.Lexicographic.{slice_cmp, nat_list_cmp_total}
use Rattle.std.specs.List.{AllByRecursion, slice_get, position_or_len, find}
use Rattle.std.specs.List.Sorted.{IsStrictlySortedBy}
use Rattle.std.specs.Str.{bytes_eq}
use Rattle.std.proofs.lemmas.Slice.Eq.{bytes_eq-Decides}
use Rattle.std.proofs.lemmas.Map.Text.{is_eq-slice_cmp}
use Rattle.std.proofs.lemmas.Map.Keys.{sorted_head, sorted_tail}
use Rattle.profile.specs.declared.profile.Profile.{Profile}
use Rattle.song_db.specs.Change.{has_uri}
use Rattle.song_db.specs.Last.{ends_before}
use Rattle.song_db.specs.Limits.{MAX_ROWS}
use Rattle.song_db.specs.Query.{number_at}
use Rattle.song_db.specs.Replaced.{by_text, IsRising}
use Rattle.song_db.specs.Row.{Row, row_uri, is_kept_by}
use Rattle.song_db.specs.Uri.{is_uri}
use Rattle.state_codec.specs.Changes.{IsSavedRow}
use Rattle.state_codec.specs.Fields.{number_within}
use Rattle.state_codec.specs.ReadingRows.{row_at}
use Rattle.state_codec.specs.ReadingSaved.{next_uri_at, songs_at}
use Rattle.state_codec.specs.SavedState.{AreSavedSongs, AreKeptSongs}
use Rattle.state_codec.specs.SpellingFields.{u32_bytes, text_bytes, list_bytes}
use Rattle.state_codec.specs.SpellingRows.{row_bytes}
use Rattle.state_codec.proofs.FieldLaws.{both_true, IsField, fits_is, within_is}
use Rattle.state_codec.proofs.ItemLaws.{all_push, all_middle, IsItem, counted_is}
use Rattle.state_codec.proofs.RowLaws.{IsKeptRow, uri_form, row_takes, row_again}
use Rattle.state_codec.proofs.TextLaws.{form_is, both_is_true, uri_short}
use Rattle.state_codec.proofs.Rising.{less_is, all_places, all_in_turn, rises_push, rises_above}

-- all rows stand before the URI
abbrev AreBefore : List Row → List ℕ → Type 0
AreBefore rows uri = AllByRecursion (λ row. slice_cmp nat_cmp row.uri uri ≡ Less) rows

last_tells : (rows : List Row) (uri : List ℕ) → IsRising row_uri rows → ends_before rows uri ≡ true → AreBefore rows uri
last_tells [] uri rising before = tt
last_tells (x ∷ []) uri rising before = (less_is (slice_cmp nat_cmp x.uri uri) before, tt)
last_tells (x ∷ y ∷ rows) uri rising before =
    let rest = last_tells (y ∷ rows) uri (sorted_tail (by_text row_uri) x (y ∷ rows) rising) before in
    let first = sorted_head (by_text row_uri) x (y ∷ rows) rising in
    (nat_list_cmp_total.trans x.uri y.uri uri first.0 rest.0, rest)

last_before : (rows : List Row) (uri : List ℕ) → AreBefore rows uri → ends_before rows uri ≡ true
last_before [] uri before = refl
last_before (x ∷ []) uri before = ap is_lt before.0
last_before (x ∷ y ∷ rows) uri before = last_before (y ∷ rows) uri before.1

-- what rows that were read keep
abbrev KnownSongs : Profile → List Row → Type 0
KnownSongs profile rows = IsRising row_uri rows × AllByRecursion (IsKeptRow profile) rows

abbrev IsNext : List Row → List ℕ → Type 0
IsNext known uri = (is_uri uri && ends_before known uri) ≡ true

next_uri_is : (known : List Row) → IsField (λ bytes. next_uri_at known bytes) (λ uri. text_bytes uri) (IsNext known)
next_uri_is known = form_is (λ uri. is_uri uri && ends_before known uri)
    (λ text h. uri_short text (both_true (is_uri text) (ends_before known text) h).0)

song_is : (profile : Profile) → IsItem (λ known. row_at profile (next_uri_at known)) (row_bytes profile) (KnownSongs profile)
song_is profile = record {
  takes = λ known bytes x fits in_range e.
      let t = row_takes profile (λ b. next_uri_at known b) (IsNext known) (next_uri_is known)
      (λ name h. (both_true (is_uri name) (ends_before known name) h).0) bytes x in_range e in
      let before = last_tells known x.0.uri fits.0 (both_true (is_uri x.0.uri) (ends_before known x.0.uri) t.1.1).1 in
      (t.0, (rises_push (by_text row_uri) known x.0 fits.0 before, all_push (IsKeptRow profile) known x.0 fits.1 t.1.0));
  again = λ known row more rest fits.
      let good = all_middle (IsKeptRow profile) known row more fits.1 in
      let before = last_before known row.uri (rises_above (by_text row_uri) known row more fits.0) in
      row_again profile (λ b. next_uri_at known b) (IsNext known) (next_uri_is known) row rest good
      (both_is_true (is_uri row.uri) (ends_before known row.uri) (uri_form row good.0) before);
}

none_known : (profile : Profile) → KnownSongs profile []
unfolding IsStrictlySortedBy
none_known profile = (tt, tt)

-- each row is one of the program's, and the profile keeps it
kept_by_turn : (profile : Profile) (rows : List Row) → AllByRecursion (IsKeptRow profile) rows
    → AllByRecursion IsSavedRow rows × AllByRecursion (λ row. IsTrue (is_kept_by profile row)) rows
kept_by_turn profile [] all = (tt, tt)
kept_by_turn profile (row ∷ rows) all = let rest = kept_by_turn profile rows all.1 in ((all.0.0, rest.0), (all.0.1, rest.1))

by_turn : (profile : Profile) (rows : List Row) → AllByRecursion IsSavedRow rows → AllByRecursion (λ row. IsTrue (is_kept_by profile row)) rows
    → AllByRecursion (IsKeptRow profile) rows
by_turn profile [] good kept = tt
by_turn profile (row ∷ rows) good kept = ((good.0, kept.0), by_turn profile rows good.1 kept.1)

-- the songs of a saved state
abbrev pub AreKeptRows : Profile → List Row → Type 0
AreKeptRows profile rows = AreSavedSongs rows × AreKeptSongs profile rows

pub songs_is : (profile : Profile)
    → IsField (λ bytes. songs_at profile bytes) (λ rows. list_bytes (row_bytes profile) rows) (AreKeptRows profile)
songs_is profile =
    fits_is (λ bytes. songs_at profile bytes) (λ rows. list_bytes (row_bytes profile) rows)
    (λ rows. ((0 ≤ length rows) × (length rows ≤ MAX_ROWS)) × KnownSongs profile rows) (AreKeptRows profile)
    (counted_is (λ bytes. number_within 0 MAX_ROWS bytes) (λ n. u32_bytes n) (λ n. (0 ≤ n) × (n ≤ MAX_ROWS))
    (within_is 0 MAX_ROWS (omega arith)) (λ known. row_at profile (next_uri_at known)) (row_bytes profile) (KnownSongs profile)
    (song_is profile) (none_known profile))
    (λ rows h. let parts = kept_by_turn profile rows h.1.1 in (
      record { database = record { few = h.0.1; rising = h.1.0 }; rows = all_places IsSavedRow rows parts.0 },
      all_places (λ row. IsTrue (is_kept_by profile row)) rows parts.1,
    ))
    (λ rows h. (
      (omega arith, h.0.database.few),
      (
        h.0.database.rising,
        by_turn profile rows (all_in_turn IsSavedRow rows h.0.rows) (all_in_turn (λ row. IsTrue (is_kept_by profile row)) rows h.1),
      ),
    ))

-- ---- the number of a row

apart_of : (a b : List ℕ) → slice_cmp nat_cmp a b ≡ Less → bytes_eq b a ≡ false
apart_of a b less = sym (is_eq-slice_cmp b a) ∙ ap is_eq (nat_list_cmp_total.antisymm b a ∙ ap ordering_reverse less)

-- the place of a row, counted to the first row of its URI
place_is : (songs : List Row) (n : ℕ) (row : Row) → IsRising row_uri songs → slice_get songs n ≡ Some row
    → (n < length songs) × (position_or_len (λ r. bytes_eq row.uri r.uri) songs ≡ n)
place_is [] n row rising at = absurd cc
place_is (x ∷ songs) zero row rising at =
    let same : x ≡ row = cc in
    let found : bytes_eq row.uri x.uri ≡ true = (bytes_eq-Decides row.uri x.uri).1 (ap (λ (r : Row). r.uri) (sym same)) in
    (omega arith, rw found refl)
place_is (x ∷ songs) (suc n) row rising at =
    let rest = place_is songs n row (sorted_tail (by_text row_uri) x songs rising) at in
    let first : slice_cmp nat_cmp x.uri row.uri ≡ Less = at_place songs n (sorted_head (by_text row_uri) x songs rising) at in
    (omega (arith, rest.0), rw (apart_of x.uri row.uri first) (omega (arith, rest.1)))
  where
    at_place : (rows : List Row) (k : ℕ) → AllByRecursion (λ r. slice_cmp nat_cmp x.uri r.uri ≡ Less) rows → slice_get rows k ≡ Some row
        → slice_cmp nat_cmp x.uri row.uri ≡ Less
    at_place [] k all is = absurd cc
    at_place (r ∷ rows) zero all is = let same : r ≡ row = cc in subst (λ (s : Row). slice_cmp nat_cmp x.uri s.uri ≡ Less) same all.0
    at_place (r ∷ rows) (suc k) all is = at_place rows k all.1 is

pub number_is : (songs : List Row) (n : ℕ) (row : Row) → IsRising row_uri songs → slice_get songs n ≡ Some row
    → (n < length songs) × (number_at songs row.uri ≡ Some n)
number_is songs n row rising at =
    let place = place_is songs n row rising at in
    (place.0, rw (place.1, Rattle.std.proofs.lemmas.Bool.lt-ltb n (length songs) place.0) refl)

-- the row of a URI that has one
pub record RowOf (songs : List Row) (uri : List ℕ) : Type 0 where
  pub n : ℕ
  pub row : Row
  pub at : slice_get songs n ≡ Some row
  pub same : row.uri ≡ uri

pub row_of : (songs : List Row) (uri : List ℕ) → has_uri songs uri ≡ true → RowOf songs uri
row_of [] uri has = absurd cc
row_of (x ∷ songs) uri has = by (bytes_eq uri x.uri) refl (row_of songs uri) has
  where
    by : (b : Bool) → bytes_eq uri x.uri ≡ b → (has_uri songs uri ≡ true → RowOf songs uri)
        → is_some (cond b (Some x) (find (λ r. bytes_eq uri r.uri) songs)) ≡ true → RowOf (x ∷ songs) uri
    by true is behind has = record { n = 0; row = x; at = refl; same = sym ((bytes_eq-Decides uri x.uri).0 is) }
    by false is behind has =
        let rest = behind has in
        record { n = suc rest.n; row = rest.row; at = rest.at; same = rest.same }

-- a row that is found by its URI has it
pub found_uri : (songs : List Row) (uri : List ℕ) (row : Row) → find (λ r. bytes_eq uri r.uri) songs ≡ Some row → row.uri ≡ uri
found_uri [] uri row e = absurd cc
found_uri (x ∷ songs) uri row e = by (bytes_eq uri x.uri) refl e (found_uri songs uri row)
  where
    by : (b : Bool) → bytes_eq uri x.uri ≡ b → cond b (Some x) (find (λ r. bytes_eq uri r.uri) songs) ≡ Some row
        → (find (λ r. bytes_eq uri r.uri) songs ≡ Some row → row.uri ≡ uri) → row.uri ≡ uri
    by true is found behind =
        let same : x ≡ row = cc in subst (λ (r : Row). r.uri ≡ uri) same (sym ((bytes_eq-Decides uri x.uri).0 is))
    by false is found behind = behind found

-- the URI of each row has one
pub has_of : (songs : List Row) (n : ℕ) (row : Row) → slice_get songs n ≡ Some row → has_uri songs row.uri ≡ true
has_of [] n row at = absurd cc
has_of (x ∷ songs) zero row at =
    let same : x ≡ row = cc in
    let found : bytes_eq row.uri x.uri ≡ true = (bytes_eq-Decides row.uri x.uri).1 (ap (λ (r : Row). r.uri) (sym same)) in
    rw found refl
has_of (x ∷ songs) (suc n) row at = by (bytes_eq row.uri x.uri) (has_of songs n row at)
  where
    by : (b : Bool) → has_uri songs row.uri ≡ true → is_some (cond b (Some x) (find (λ r. bytes_eq row.uri r.uri) songs)) ≡ true
    by true has = refl
    by false has = has

-- and it has the form of a URI
pub has_form : (songs : List Row) (uri : List ℕ) → AllByRecursion IsSavedRow songs → has_uri songs uri ≡ true → is_uri uri ≡ true
has_form songs uri good has =
    let found = row_of songs uri has in
    subst (λ (u : List ℕ). is_uri u ≡ true) found.same (uri_form found.row (at_place songs found.n found.row good found.at))
  where
    at_place : (rows : List Row) (k : ℕ) (row : Row) → AllByRecursion IsSavedRow rows → slice_get rows k ≡ Some row → IsSavedRow row
    at_place [] k row all is = absurd cc
    at_place (r ∷ rows) zero row all is = let same : r ≡ row = cc in subst IsSavedRow same all.0
    at_place (r ∷ rows) (suc k) row all is = at_place rows k row all.1 is
