-- The row of a URI has it.
use Rattle.std.proofs.Common.{◌≡◌, ℕ, Bool, true, false, List, [], ◌∷◌, Option, Some, None, cond, is_some, Err, refl, ap, sym, ◌∙◌}
use Rattle.std.proofs.lemmas.Slice.Eq.{bytes_eq-Decides}
use Rattle.std.proofs.lemmas.Bool.{false≢true}
use Rattle.std.specs.Str.{bytes_eq}
use Rattle.song_db.specs.Change.{has_uri}
use Rattle.song_db.specs.Refusal.{AnswersExactlyIfThere}
use Rattle.song_db.specs.Row.{Row, row_at}
use Rattle.song_db.specs.declared.refusal.SongDbError.{SongDbError}

pub uri_of_row : (rows : List Row) (uri : List ℕ) (row : Row) → row_at rows uri ≡ Some row → row.uri ≡ uri
uri_of_row [] uri row is = cc
uri_of_row (x ∷ rows) uri row is = by_cases (bytes_eq uri x.uri) refl is (uri_of_row rows uri row) where
  by_cases : (b : Bool) → bytes_eq uri x.uri ≡ b → cond b (Some x) (row_at rows uri) ≡ Some row
      → (row_at rows uri ≡ Some row → row.uri ≡ uri) → row.uri ≡ uri
  by_cases true same found below =
      let equal : uri ≡ x.uri = (bytes_eq-Decides uri x.uri).0 same in
      let this : x ≡ row = cc in
      ap (λ (r : Row). r.uri) (sym this) ∙ sym equal
  by_cases false other found below = below found

pub has_found : (rows : List Row) (uri : List ℕ) (row : Row) → row_at rows uri ≡ Some row → has_uri rows uri ≡ true
has_found rows uri row is = rw is

pub no_row : (T : Type 0) (row : Option Row) (e : SongDbError) → AnswersExactlyIfThere {T = T} (is_some row) (Err e) → row ≡ None
no_row T None e h = refl
no_row T (Some row) e h = absurd (false≢true h)
