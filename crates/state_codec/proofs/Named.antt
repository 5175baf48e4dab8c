-- Songs that row numbers and URIs name.
use Rattle.std.proofs.Common.{◌≡◌, ℕ, zero, suc, ◌&&◌, Bool, true, false, cond, List, [], ◌∷◌, Option, Some, None, is_some, IsTrue, refl}
use Rattle.std.proofs.Common.{sym, ap, arith}
use Rattle.std.specs.List.{All, slice_get}
use Rattle.std.specs.Str.{bytes_eq}
use Rattle.std.proofs.lemmas.Slice.Eq.{bytes_eq-Decides}
use Rattle.std.proofs.lemmas.List.Elements.{All-cons, All-head, All-tail, All-map, All-weaker}
use Rattle.play_queue.specs.declared.entry.Entry.{Entry}
use Rattle.play_queue.specs.Entries.{Uris}
use Rattle.song_db.specs.Change.{has_uri}
use Rattle.song_db.specs.Row.{Row, row_at}
use Rattle.song_db.specs.Uri.{is_uri}
use Rattle.stored_lists.specs.Songs.{AreUris}
use Rattle.state_codec.specs.Changes.{IsSavedRow}
use Rattle.state_codec.specs.OpsLists.{uris_of}
use Rattle.state_codec.specs.OpsSongs.{uris_at}
use Rattle.state_codec.specs.SavedState.{IsSavedEntry}

abbrev pub HasRow : List Row → List ℕ → Type 0
HasRow songs uri = IsTrue (has_uri songs uri)

-- the row of a number is found under its URI
member : (songs : List Row) (n : ℕ) (row : Row) → slice_get songs n ≡ Some row → has_uri songs row.uri ≡ true
member [] n row at = absurd (cc)
member (x ∷ xs) zero row at =
    let same : x ≡ row = cc in
    let here : bytes_eq row.uri x.uri ≡ true = (bytes_eq-Decides row.uri x.uri).1 (ap (λ (r : Row). r.uri) (sym same)) in
    rw here refl
member (x ∷ xs) (suc n) row at = of (bytes_eq row.uri x.uri) (member xs n row at)
  where
    of : (b : Bool) → has_uri xs row.uri ≡ true → is_some (cond b (Some x) (row_at xs row.uri)) ≡ true
    of true rest = refl
    of false rest = rest

pub uris_have_rows : (songs : List Row) (numbers : List ℕ) → All (HasRow songs) (uris_at songs numbers)
uris_have_rows songs [] = λ k d within. absurd (omega arith)
uris_have_rows songs (number ∷ numbers) = of (slice_get songs number) refl (uris_have_rows songs numbers)
  where
    of : (o : Option Row) → slice_get songs number ≡ o → All (HasRow songs) (uris_at songs numbers)
        → All (HasRow songs) (uris_at songs (number ∷ numbers))
    of None none rest = rw none rest
    of (Some row) found rest = rw found (All-cons (HasRow songs) row.uri (uris_at songs numbers) (member songs number row found) rest)

-- a URI that has a row has the form of one
pub form_of : (songs : List Row) (uri : List ℕ) → All IsSavedRow songs → HasRow songs uri → IsTrue (is_uri uri)
form_of [] uri rows found = absurd (cc)
form_of (x ∷ xs) uri rows found = of (λ rest. form_of xs uri (All-tail IsSavedRow x xs rows) rest) (bytes_eq uri x.uri) refl found
  where
    first : (a b : Bool) → (a && b) ≡ true → a ≡ true
    first true b both = refl
    first false b both = both

    of : (HasRow xs uri → IsTrue (is_uri uri)) → (b : Bool) → bytes_eq uri x.uri ≡ b → is_some (cond b (Some x) (row_at xs uri)) ≡ true
        → IsTrue (is_uri uri)
    of more true same found = rw ((bytes_eq-Decides uri x.uri).0 same) (first (is_uri x.uri) _ (All-head IsSavedRow x xs rows).form)
    of more false other found = more found

pub are_uris : (songs : List Row) (uris : Uris) → All IsSavedRow songs → All (HasRow songs) uris → AreUris uris
are_uris songs uris rows all = All-weaker (HasRow songs) (λ uri. IsTrue (is_uri uri)) (λ uri found. form_of songs uri rows found) uris all

pub entries_are_uris : (songs : List Row) (entries : List Entry) → All IsSavedRow songs → All (IsSavedEntry songs) entries
    → AreUris (uris_of entries)
entries_are_uris songs entries rows all =
    All-map (λ uri. IsTrue (is_uri uri)) (λ (entry : Entry). entry.uri) entries
    (All-weaker (IsSavedEntry songs) (λ entry. IsTrue (is_uri entry.uri)) (λ entry saved. form_of songs entry.uri rows saved.has_row)
    entries all)
