-- The numbers of the rows of songs.
use Rattle.std.proofs.Common.{◌≡◌, ℕ, zero, suc, ◌+◌, ◌<◌, ◌≤◌, Bool, true, false, cond, List, [], ◌∷◌, ◌++◌}
use Rattle.std.proofs.Common.{length, map, take, drop, get_or, length-append}
use Rattle.std.proofs.Common.{◌||◌, Option, Some, None, Ok, Bor, codes, add-one, refl, ap, sym, ◌∙◌, arith}
use Rattle.std.proofs.Math.Seq.{drop-cons}
use Rattle.std.proofs.lemmas.Grind.{common_steps}
use Rattle.std.proofs.lemmas.List.{map-append, take_more}
use Rattle.std.proofs.lemmas.List.Elements.{filter_map-append}
use Rattle.std.proofs.lemmas.List.Quantifiers.{position-Some}
use Rattle.std.proofs.lemmas.Option.{slice_get-get_or}
use Rattle.std.specs.List.{cons_option, filter_map, position_or_len, range_with_len}
use Rattle.std.specs.Option.{option_to_list}
use Rattle.std.specs.Str.{bytes_eq}
use Rattle.play_queue.specs.declared.entry.Entry.{Entry}
use Rattle.song_db.specs.Place.{place_of}
use Rattle.song_db.specs.Query.{number_at}
use Rattle.song_db.specs.Refusal.{AnswersExactlyIfThere}
use Rattle.song_db.specs.Replaced.{IsRising}
use Rattle.song_db.specs.Row.{Row, row_uri, row_at}
use Rattle.state_codec.proofs.SongsLaws.{number_is}
use Rattle.state_codec.specs.OpsLists.{uris_of}
use Rattle.machine_core.specs.Lent.{lent}
use Rattle.profile.specs.declared.profile.Profile.{Profile}
use Rattle.machine_core.specs.Named.{numbers_of, numbers_under}

no_row : Row
no_row = record { uri = []; rate = 0; channels = 0; first_byte = 0; frames = 0; tags = []; stamp = None }

-- a URI without a row has no number
no_place : (rows : List Row) (uri : List ℕ) → row_at rows uri ≡ None → position_or_len (λ row. bytes_eq uri row.uri) rows ≡ length rows
no_place [] uri none = refl
no_place (x ∷ rows) uri none = of (bytes_eq uri x.uri) refl none (no_place rows uri) where
  of : (b : Bool) → bytes_eq uri x.uri ≡ b → cond b (Some x) (row_at rows uri) ≡ None
      → (row_at rows uri ≡ None → position_or_len (λ row. bytes_eq uri row.uri) rows ≡ length rows)
      → position_or_len (λ row. bytes_eq uri row.uri) (x ∷ rows) ≡ length (x ∷ rows)
  of true is none behind = cc
  of false is none behind = rw is (omega (arith, behind none))

pub no_number : (rows : List Row) (uri : List ℕ) → row_at rows uri ≡ None → number_at rows uri ≡ None
no_number rows uri none = rw (no_place rows uri none) (grind arith)

-- a range of numbers, and one more
pub range_more : (from n at : ℕ) → from + n ≡ at → range_with_len from (suc n) ≡ range_with_len from n ++ at ∷ []
range_more from zero at is = let same : from ≡ at = omega arith in ap (λ x. x ∷ []) same
range_more from (suc n) at is = ap (λ rest. from ∷ rest) (range_more (from + 1) n at (omega (arith, is)))

-- a number behind a run of them
pub pushed : (from at : ℕ) (old new : List ℕ) → old ≡ range_with_len from (length old) → from + length old ≡ at → new ≡ old ++ at ∷ []
    → (new ≡ range_with_len from (length new)) × (from + length new ≡ at + 1)
pushed from at old new run next is =
    let longer : length new ≡ suc (length old) = omega (arith, ap length is, length-append old (at ∷ [])) in (
      is ∙ ap (λ front. front ++ at ∷ []) run ∙ sym (range_more from (length old) at next) ∙ ap (range_with_len from) (sym longer),
      omega (arith, longer, next),
    )

-- rows that stand together have numbers one after the other
pub run_numbers : (songs : List Row) (first n : ℕ) → IsRising row_uri songs → first + n ≤ length songs
    → numbers_of songs (map row_uri (take n (drop first songs))) ≡ range_with_len first n
run_numbers songs first zero rising fits = refl
run_numbers songs first (suc n) rising fits =
    let here : drop first songs ≡ get_or songs first no_row ∷ drop (suc first) songs = drop-cons songs first no_row (omega arith) in
    let number : number_at songs (get_or songs first no_row).uri ≡ Some first =
    (number_is songs first (get_or songs first no_row) rising (slice_get-get_or songs first no_row (omega arith))).1 in
    rw (here, number) (ap (λ rest. first ∷ rest)
    (ap (λ at. numbers_of songs (map row_uri (take n (drop at songs)))) (sym (add-one first))
    ∙ run_numbers songs (first + 1) n rising (omega arith)))

-- and no more numbers than songs
pub fewer : {A B : Type 0} (h : A → Option B) (xs : List A) → length (filter_map h xs) ≤ length xs
fewer h [] = omega arith
fewer {A = A} {B = B} h (x ∷ xs) = of (h x) (fewer h xs) where
  of : (o : Option B) → length (filter_map h xs) ≤ length xs → length (cons_option o (filter_map h xs)) ≤ length (x ∷ xs)
  of None behind = omega (arith, behind)
  of (Some y) behind = omega (arith, behind)

-- the number of one entry's row more
pub one_entry_more : (songs : List Row) (entries : List Entry) (at : ℕ) (entry : Entry) → at < length entries
    → get_or entries at entry ≡ entry → numbers_of songs (uris_of (take (at + 1) entries))
    ≡ numbers_of songs (uris_of (take at entries)) ++ option_to_list (number_at songs entry.uri)
one_entry_more songs entries at entry within is =
    let more : take (at + 1) entries ≡ take at entries ++ entry ∷ [] =
    take_more entries at entry within ∙ ap (λ (e : Entry). take at entries ++ e ∷ []) is in
    rw more (grind (arith, common_steps, filter_map-append))

-- the number of a row, if it has one
one_number : (o : Option ℕ) → cons_option o [] ≡ option_to_list o
one_number None = refl
one_number (Some n) = refl

-- the number of one row more
pub one_row_more : (songs rows : List Row) (at : ℕ) (row : Row) → at < length rows → row ≡ get_or rows at row
    → numbers_of songs (map row_uri (take (at + 1) rows))
    ≡ numbers_of songs (map row_uri (take at rows)) ++ option_to_list (number_at songs row.uri)
one_row_more songs rows at row within is =
    let more : take (at + 1) rows ≡ take at rows ++ row ∷ [] =
    take_more rows at row within ∙ ap (λ (r : Row). take at rows ++ r ∷ []) (sym is) in
    ap (λ some. numbers_of songs (map row_uri some)) more
    ∙ ap (numbers_of songs) (map-append row_uri (take at rows) (row ∷ []))
    ∙ filter_map-append (number_at songs) (map row_uri (take at rows)) (row.uri ∷ [])
    ∙ ap (λ last. numbers_of songs (map row_uri (take at rows)) ++ last) (one_number (number_at songs row.uri))

-- what is there isn't refused
pub is_there : (T : Type 0) (b : Bool) (x : T) → AnswersExactlyIfThere b (Ok x) → b ≡ true
is_there T true x answer = refl
is_there T false x answer = absurd (cc)

-- where the path lies in memory is nothing to the songs under it
pub same_numbers_under : (profile : Profile) (path : Bor (List ℕ)) (songs : List Row)
    → numbers_under profile songs (place_of (lent path.now)) ≡ numbers_under profile songs (place_of path)
same_numbers_under profile path songs = of (bytes_eq path.now [] || bytes_eq path.now (codes "/")) refl where
  of : (b : Bool) → (bytes_eq path.now [] || bytes_eq path.now (codes "/")) ≡ b
      → numbers_under profile songs (place_of (lent path.now)) ≡ numbers_under profile songs (place_of path)
  of true is = rw is
  of false is = rw is
