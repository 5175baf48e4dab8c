-- The playlists of a snapshot.
use Rattle.std.proofs.Common.{◌≡◌, ℕ, ◌+◌, ◌^◌, ◌<◌, ◌≤◌, true, ◌&&◌, eqb, leb, List, [], ◌∷◌, ◌++◌, length, Ok, refl, ap, subst, ◌∙◌}
use Rattle.std.proofs.Common.{append_assoc, arith}
use Rattle.std.specs.Prelude.{not, IsTrue}
use Rattle.std.specs.declared.cmp.Ordering.TheVariants.{Less}
use Rattle.std.specs.Ordering.{nat_cmp, is_lt}
use Rattle.std.specs.Cmp.Lexicographic.{slice_cmp}
use Rattle.std.specs.List.{AllByRecursion, flat_map, sum_by}
use Rattle.std.specs.List.Sorted.{IsStrictlySortedBy}
use Rattle.std.specs.Str.{is_utf8}
use Rattle.std.proofs.lemmas.Bool.{leb-true, le-leb, ltb-false, le-ltb, not-true}
use Rattle.std.proofs.lemmas.List.{map-append}
use Rattle.std.proofs.lemmas.List.Sums.{sum_by_push, sum_by-append, sum_by-cons}
use Rattle.song_db.specs.Uri.{is_uri}
use Rattle.stored_lists.specs.Limits.{MAX_ENTRIES}
use Rattle.stored_lists.specs.Lists.{Stored, names_of, total, is_full_for}
use Rattle.stored_lists.specs.Name.{is_good_name}
use Rattle.stored_lists.specs.Part.{is_last}
use Rattle.stored_lists.specs.Songs.{AreUris}
use Rattle.state_codec.specs.declared.layout.Layout.{Layout}
use Rattle.state_codec.specs.Layout.{IsLayout}
use Rattle.state_codec.specs.Fields.{such, u32_at, number_within, text_at}
use Rattle.state_codec.specs.ReadingRows.{uri_at}
use Rattle.state_codec.specs.ReadingSaved.{uris_at, list_name_at, playlist_at, lists_at}
use Rattle.state_codec.specs.SavedState.{AreSavedLists, IsSavedList, IsBytes}
use Rattle.state_codec.specs.Spelling.{playlist_bytes}
use Rattle.state_codec.specs.SpellingFields.{u32_bytes, text_bytes, list_bytes}
use Rattle.state_codec.specs.Text.{is_text}
use Rattle.state_codec.proofs.FieldLaws.{bind_ok, ok_is, both_true, Takes, Takes-then, IsField, fits_is, such_is, within_is, u32_is}
use Rattle.state_codec.proofs.FieldLaws.{text_is}
use Rattle.state_codec.proofs.ItemLaws.{all_push, all_middle, counted_is, alone_is}
use Rattle.state_codec.proofs.TextLaws.{both_is_true, uri_is}
use Rattle.state_codec.proofs.Rising.{less_is, all_places, all_in_turn, all_weaker, rises_push, rises_above}

-- ---- names that rise

abbrev AreBelow : Stored → List ℕ → Type 0
AreBelow lists name = AllByRecursion (λ other. slice_cmp nat_cmp other name ≡ Less) (names_of lists)

last_tells : (lists : Stored) (name : List ℕ) → is_last lists name ≡ true → AreBelow lists name
last_tells [] name last = tt
last_tells (list ∷ lists) name last =
    let parts = both_true (is_lt (slice_cmp nat_cmp list.0 name)) (is_last lists name) last in
    (less_is (slice_cmp nat_cmp list.0 name) parts.0, last_tells lists name parts.1)

last_below : (lists : Stored) (name : List ℕ) → AreBelow lists name → is_last lists name ≡ true
last_below [] name below = refl
last_below (list ∷ lists) name below =
    both_is_true (is_lt (slice_cmp nat_cmp list.0 name)) (is_last lists name) (ap is_lt below.0) (last_below lists name below.1)

-- ---- the songs of a playlist

abbrev IsRoom : Stored → ℕ → Type 0
IsRoom known n = (n < 2 ^ 32) × (not (is_full_for known n) ≡ true)

abbrev AreSongs : Stored → List (List ℕ) → Type 0
AreSongs known songs = IsRoom known (length songs) × AllByRecursion (λ uri. is_uri uri ≡ true) songs

songs_is : (known : Stored) → IsField (λ bytes. uris_at known bytes) (λ songs. list_bytes text_bytes songs) (AreSongs known)
songs_is known =
    counted_is (λ bytes. such (λ n. not (is_full_for known n)) u32_at bytes) (λ n. u32_bytes n) (IsRoom known)
    (such_is (λ n. not (is_full_for known n)) (λ bytes. u32_at bytes) (λ n. u32_bytes n) (λ n. n < 2 ^ 32) u32_is)
    (λ songs. uri_at) text_bytes (AllByRecursion (λ uri. is_uri uri ≡ true))
    (alone_is (λ bytes. uri_at bytes) (λ uri. text_bytes uri) (λ uri. is_uri uri ≡ true) uri_is) tt

-- ---- playlists

abbrev IsNext : Stored → List ℕ → Type 0
IsNext known name = IsTrue (is_text name) × ((is_good_name name && is_last known name) ≡ true)

name_is : (known : Stored) → IsField (λ bytes. list_name_at known bytes) (λ name. text_bytes name) (IsNext known)
name_is known = such_is (λ name. is_good_name name && is_last known name) (λ bytes. text_at bytes) (λ name. text_bytes name)
    (λ name. IsTrue (is_text name)) text_is

abbrev IsGood : List ℕ × List (List ℕ) → Type 0
IsGood list = (IsTrue (is_good_name list.0) × AreUris list.1) × IsSavedList list

abbrev KnownLists : Stored → Type 0
KnownLists lists = IsStrictlySortedBy (slice_cmp nat_cmp) (names_of lists) × ((total lists ≤ MAX_ENTRIES) × AllByRecursion IsGood lists)

list_takes : (known : Stored) (bytes : List ℕ) (x : (List ℕ × List (List ℕ)) × List ℕ) → KnownLists known → IsBytes bytes
    → playlist_at known bytes ≡ Ok x
    → Takes bytes (playlist_bytes x.0) x.1 × KnownLists (known ++ x.0 ∷ [])
unfolding playlist_at
list_takes known bytes x fits in_range e =
    let name = bind_ok (list_name_at known bytes) _ x e in
    let songs = bind_ok (uris_at known name.0.1) _ x name.2 in
    let t = (name_is known).takes bytes name.0 in_range name.1 in
    let u = (songs_is known).takes name.0.1 songs.0 t.0.rest_fits songs.1 in
    let list : List ℕ × List (List ℕ) = (name.0.0, songs.0.0) in
    let all = Takes-then bytes (text_bytes list.0) name.0.1 (list_bytes text_bytes list.1) songs.0.1 t.0 u.0 in
    let test = both_true (is_good_name list.0) (is_last known list.0) t.1.1 in
    let utf8 = both_true (is_utf8 list.0) (leb (length list.0) 65535) t.1.0 in
    let rising : IsStrictlySortedBy (slice_cmp nat_cmp) (names_of (known ++ list ∷ [])) =
    rw (map-append (λ (l : List ℕ × List (List ℕ)). l.0) known (list ∷ []))
    (rises_push (slice_cmp nat_cmp) (names_of known) list.0 fits.0 (last_tells known list.0 test.1)) in
    let room : total known + length list.1 ≤ MAX_ENTRIES =
    ltb-false MAX_ENTRIES (total known + length list.1) (not-true (is_full_for known (length list.1)) u.1.0.1) in
    let sum : total (known ++ list ∷ []) ≤ MAX_ENTRIES =
    omega (arith, sum_by_push (λ (l : List ℕ × List (List ℕ)). length l.1) known list, room) in
    let good : IsGood list = ((test.0, all_places (λ uri. IsTrue (is_uri uri)) list.1 u.1.1), utf8.0) in
    subst (λ (y : (List ℕ × List (List ℕ)) × List ℕ). Takes bytes (playlist_bytes y.0) y.1 × KnownLists (known ++ y.0 ∷ [])) {x =
    (list, songs.0.1)} (ok_is (list, songs.0.1) x songs.2)
    (all, (rising, (sum, all_push IsGood known list fits.1.1 good)))

list_again : (known : Stored) (list : List ℕ × List (List ℕ)) (more : Stored) (rest : List ℕ) → KnownLists (known ++ list ∷ more)
    → playlist_at known (playlist_bytes list ++ rest) ≡ Ok (list, rest)
unfolding playlist_at
list_again known list more rest fits =
    let good = all_middle IsGood known list more fits.1.1 in
    let names : IsStrictlySortedBy (slice_cmp nat_cmp) (names_of known ++ list.0 ∷ names_of more) =
    subst (IsStrictlySortedBy (slice_cmp nat_cmp)) (map-append (λ (l : List ℕ × List (List ℕ)). l.0) known (list ∷ more)) fits.0 in
    let last = last_below known list.0 (rises_above (slice_cmp nat_cmp) (names_of known) list.0 (names_of more) names) in
    let parts = both_true (Rattle.std.specs.Prelude.not (eqb (length list.0) 0)) _ good.0.0 in
    let short = both_true (leb (length list.0) 256) _ parts.1 in
    let text : is_text list.0 ≡ true =
    both_is_true (is_utf8 list.0) (leb (length list.0) 65535) good.1
    (le-leb (length list.0) 65535 (omega (arith, leb-true _ _ short.0))) in
    let next : IsNext known list.0 = (text, both_is_true (is_good_name list.0) (is_last known list.0) good.0.0 last) in
    let count : List ℕ × List (List ℕ) → ℕ = λ l. length l.1 in
    let sum : total known + length list.1 ≤ MAX_ENTRIES =
    omega (arith, sum_by-append count known (list ∷ more), sum_by-cons count list more, fits.1.0) in
    let room : IsRoom known (length list.1) = (omega (arith, sum), ap not (le-ltb MAX_ENTRIES (total known + length list.1) sum)) in
    let whole : playlist_bytes list ++ rest ≡ text_bytes list.0 ++ (list_bytes text_bytes list.1 ++ rest) =
    append_assoc (text_bytes list.0) (list_bytes text_bytes list.1) rest in
    ap (playlist_at known) whole
    ∙ rw (
      (name_is known).again list.0 (list_bytes text_bytes list.1 ++ rest) next,
      (songs_is known).again list.1 rest (room, all_in_turn (λ uri. IsTrue (is_uri uri)) list.1 good.0.1),
    ) refl

none_known : KnownLists []
unfolding IsStrictlySortedBy
none_known = (tt, (omega arith, tt))

-- so many playlists at most
abbrev pub AreListsWithin : ℕ → Stored → Type 0
AreListsWithin limit lists = AreSavedLists lists × (length lists ≤ limit)

pub lists_is : (layout : Layout) → IsLayout layout
    → IsField (λ bytes. lists_at layout bytes) (λ lists. list_bytes playlist_bytes lists) (AreListsWithin layout.list_limit)
lists_is layout form =
    fits_is (λ bytes. lists_at layout bytes) (λ lists. list_bytes playlist_bytes lists)
    (λ lists. ((0 ≤ length lists) × (length lists ≤ layout.list_limit)) × KnownLists lists) (AreListsWithin layout.list_limit)
    (counted_is (λ bytes. number_within 0 layout.list_limit bytes) (λ n. u32_bytes n) (λ n. (0 ≤ n) × (n ≤ layout.list_limit))
    (within_is 0 layout.list_limit (omega (arith, form.list_limit))) playlist_at playlist_bytes KnownLists
    (record { takes = list_takes; again = list_again }) none_known)
    (λ lists h. (
      record {
        rising = h.1.0;
        within = record {
          few_lists = omega (arith, h.0.1, form.list_limit);
          few_entries = h.1.1.0;
          good_lists = all_weaker IsGood (λ list. IsTrue (is_good_name list.0) × AreUris list.1) (λ list good. good.0) lists h.1.1.1;
        };
        texts = all_weaker IsGood IsSavedList (λ list good. good.1) lists h.1.1.1;
      },
      h.0.1,
    ))
    (λ lists h. (
      (omega arith, h.1),
      (h.0.rising, (h.0.within.few_entries, both_facts lists h.0.within.good_lists h.0.texts)),
    ))
  where
    both_facts : (lists : Stored) → AllByRecursion (λ list. IsTrue (is_good_name list.0) × AreUris list.1) lists
        → AllByRecursion IsSavedList lists → AllByRecursion IsGood lists
    both_facts [] a b = tt
    both_facts (list ∷ lists) a b = ((a.0, b.0), both_facts lists a.1 b.1)
