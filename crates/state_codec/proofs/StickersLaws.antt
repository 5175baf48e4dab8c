-- The stickers of a snapshot.
use Rattle.std.proofs.Common.{◌≡◌, ℕ, ◌≤◌, true, false, ◌&&◌, eqb, leb, List, [], ◌∷◌, ◌++◌, length, Ok, refl, ap, subst, ◌∙◌, append_assoc}
use Rattle.std.proofs.Common.{arith}
use Rattle.std.specs.Prelude.{not, IsTrue}
use Rattle.std.specs.declared.cmp.Ordering.{Ordering}
use Rattle.std.specs.declared.cmp.Ordering.TheVariants.{Less, Equal, Greater}
use Rattle.std.specs.Ordering.{nat_cmp, is_lt, ordering_then, ordering_reverse}
use Rattle.std.specs.Cmp.Lexicographic.{slice_cmp, nat_list_cmp_total}
use Rattle.std.specs.List.{AllByRecursion, flat_map}
use Rattle.std.specs.Str.{is_utf8}
use Rattle.std.proofs.lemmas.Bool.{leb-true, le-leb}
use Rattle.song_db.specs.Change.{has_uri}
use Rattle.song_db.specs.Row.{Row}
use Rattle.stickers.specs.Limits.{MAX_STICKERS}
use Rattle.stickers.specs.Name.{is_good_name}
use Rattle.stickers.specs.Part.{is_last}
use Rattle.stickers.specs.Sticker.{Sticker, IsSticker, compare, sticker, AreRising}
use Rattle.stickers.specs.Value.{is_good_value}
use Rattle.state_codec.specs.Changes.{IsSavedRow}
use Rattle.state_codec.specs.Fields.{number_within, text_at}
use Rattle.state_codec.specs.ReadingOps.{value_at}
use Rattle.state_codec.specs.ReadingSaved.{last_uri, song_uri_at, sticker_name_at, sticker_at, stickers_at}
use Rattle.state_codec.specs.SavedState.{AreSavedSongs, AreSavedStickers, IsSavedSticker, IsBytes}
use Rattle.state_codec.specs.Spelling.{sticker_bytes}
use Rattle.state_codec.specs.SpellingFields.{u32_bytes, text_bytes, list_bytes}
use Rattle.state_codec.specs.Text.{is_text}
use Rattle.state_codec.proofs.FieldLaws.{bind_ok, ok_is, both_true, Takes, Takes-then, IsField, fits_is, such_is, within_is, text_is}
use Rattle.state_codec.proofs.ItemLaws.{all_push, all_middle, counted_is}
use Rattle.state_codec.proofs.TextLaws.{both_is_true, uri_short}
use Rattle.state_codec.proofs.Rising.{less_is, all_in_turn, all_weaker}
use Rattle.state_codec.proofs.SongsLaws.{has_form}

-- ---- stickers that rise

abbrev AreBelow : List Sticker → Sticker → Type 0
AreBelow all s = AllByRecursion (λ t. compare t s ≡ Less) all

rising_push : (all : List Sticker) (s : Sticker) → AreRising all → AreBelow all s → AreRising (all ++ s ∷ [])
rising_push [] s rising below = (tt, tt)
rising_push (t ∷ ts) s rising below = (all_push (λ u. compare t u ≡ Less) ts s rising.0 below.0, rising_push ts s rising.1 below.1)

rising_above : (all : List Sticker) (s : Sticker) (more : List Sticker) → AreRising (all ++ s ∷ more) → AreBelow all s
rising_above [] s more rising = tt
rising_above (t ∷ ts) s more rising = (all_middle (λ u. compare t u ≡ Less) ts s more rising.0, rising_above ts s more rising.1)

last_tells : (all : List Sticker) (s : Sticker) → is_last all s.uri s.name ≡ true → AreBelow all s
last_tells [] s last = tt
last_tells (t ∷ ts) s last =
    let parts = both_true (is_lt (compare t (sticker s.uri (s.name, [])))) (is_last ts s.uri s.name) last in
    (less_is (compare t s) parts.0, last_tells ts s parts.1)

last_below : (all : List Sticker) (s : Sticker) → AreBelow all s → is_last all s.uri s.name ≡ true
last_below [] s below = refl
last_below (t ∷ ts) s below = both_is_true (is_lt (compare t (sticker s.uri (s.name, [])))) (is_last ts s.uri s.name) (ap is_lt below.0)
    (last_below ts s below.1)

-- the URI of the last one isn't above that of one behind it
not_before : (a b c d : List ℕ) → ordering_then (slice_cmp nat_cmp a b) (slice_cmp nat_cmp c d) ≡ Less
    → is_lt (slice_cmp nat_cmp b a) ≡ false
not_before a b c d less = ap is_lt (nat_list_cmp_total.antisymm b a) ∙ by (slice_cmp nat_cmp a b) less
  where
    by : (o : Ordering) → ordering_then o (slice_cmp nat_cmp c d) ≡ Less → is_lt (ordering_reverse o) ≡ false
    by Less less = refl
    by Equal less = refl
    by Greater less = absurd (cc)

uri_after : (all : List Sticker) (s : Sticker) → AreBelow all s → is_lt (slice_cmp nat_cmp s.uri (last_uri all)) ≡ false
uri_after [] s below = empty s.uri
  where
    empty : (uri : List ℕ) → is_lt (slice_cmp nat_cmp uri []) ≡ false
    empty [] = refl
    empty (b ∷ uri) = refl
uri_after (t ∷ []) s below = not_before t.uri s.uri t.name s.name below.0
uri_after (t ∷ u ∷ ts) s below = uri_after (u ∷ ts) s below.1

-- ---- the fields of a sticker

module _ (songs : List Row) (saved : AreSavedSongs songs) where
  abbrev IsOfSong : List ℕ → List ℕ → Type 0
  IsOfSong last uri = (has_uri songs uri && not (is_lt (slice_cmp nat_cmp uri last))) ≡ true

  has_short : (uri : List ℕ) → has_uri songs uri ≡ true → is_text uri ≡ true
  has_short uri has = uri_short uri (has_form songs uri (all_in_turn IsSavedRow songs saved.rows) has)

  uri_field : (last : List ℕ) → IsField (λ bytes. song_uri_at songs last bytes) (λ uri. text_bytes uri) (IsOfSong last)
  uri_field last =
      fits_is (λ bytes. song_uri_at songs last bytes) (λ uri. text_bytes uri) (λ uri. IsTrue (is_text uri) × IsOfSong last uri)
      (IsOfSong last)
      (such_is (λ uri. has_uri songs uri && not (is_lt (slice_cmp nat_cmp uri last))) (λ bytes. text_at bytes) (λ uri. text_bytes uri)
      (λ uri. IsTrue (is_text uri)) text_is)
      (λ uri h. h.1) (λ uri h. (has_short uri (both_true (has_uri songs uri) (not (is_lt (slice_cmp nat_cmp uri last))) h).0, h))

  abbrev IsNext : List Sticker → List ℕ → List ℕ → Type 0
  IsNext known uri name = IsTrue (is_text name) × ((is_good_name name && is_last known uri name) ≡ true)

  name_field : (known : List Sticker) (uri : List ℕ)
      → IsField (λ bytes. sticker_name_at known uri bytes) (λ name. text_bytes name) (IsNext known uri)
  name_field known uri = such_is (λ name. is_good_name name && is_last known uri name) (λ bytes. text_at bytes) (λ name. text_bytes name)
      (λ name. IsTrue (is_text name)) text_is

  abbrev IsValue : List ℕ → Type 0
  IsValue value = IsTrue (is_text value) × (is_good_value value ≡ true)

  value_field : IsField (λ bytes. value_at bytes) (λ value. text_bytes value) IsValue
  value_field = such_is is_good_value (λ bytes. text_at bytes) (λ value. text_bytes value) (λ value. IsTrue (is_text value)) text_is

  abbrev IsGood : Sticker → Type 0
  IsGood s = IsSticker s × IsSavedSticker songs s

  abbrev KnownStickers : List Sticker → Type 0
  KnownStickers all = AreRising all × AllByRecursion IsGood all

  sticker_takes : (known : List Sticker) (bytes : List ℕ) (x : Sticker × List ℕ) → KnownStickers known → IsBytes bytes
      → sticker_at songs known bytes ≡ Ok x
      → Takes bytes (sticker_bytes x.0) x.1 × KnownStickers (known ++ x.0 ∷ [])
  unfolding sticker_at
  sticker_takes known bytes x fits in_range e =
      let uri = bind_ok (song_uri_at songs (last_uri known) bytes) _ x e in
      let name = bind_ok (sticker_name_at known uri.0.0 uri.0.1) _ x uri.2 in
      let value = bind_ok (value_at name.0.1) _ x name.2 in
      let t0 = (uri_field (last_uri known)).takes bytes uri.0 in_range uri.1 in
      let t1 = (name_field known uri.0.0).takes uri.0.1 name.0 t0.0.rest_fits name.1 in
      let t2 = value_field.takes name.0.1 value.0 t1.0.rest_fits value.1 in
      let s : Sticker = record { uri = uri.0.0; name = name.0.0; value = value.0.0 } in
      let end = value.0.1 in
      let j1 = Takes-then uri.0.1 (text_bytes s.name) name.0.1 (text_bytes s.value) end t1.0 t2.0 in
      let j0 : Takes bytes (sticker_bytes s) end =
      Takes-then bytes (text_bytes s.uri) uri.0.1 (text_bytes s.name ++ text_bytes s.value) end t0.0 j1 in
      let of_song = both_true (has_uri songs s.uri) (not (is_lt (slice_cmp nat_cmp s.uri (last_uri known)))) t0.1 in
      let test = both_true (is_good_name s.name) (is_last known s.uri s.name) t1.1.1 in
      let name_utf8 = both_true (is_utf8 s.name) (leb (length s.name) 65535) t1.1.0 in
      let value_utf8 = both_true (is_utf8 s.value) (leb (length s.value) 65535) t2.1.0 in
      let form : IsSticker s = record {
        good_uri = has_form songs s.uri (all_in_turn IsSavedRow songs saved.rows) of_song.0;
        good_name =
            test.0;
        good_value = t2.1.1;
      } in
      let kept : IsSavedSticker songs s = record { has_row = of_song.0; name = name_utf8.0; value = value_utf8.0 } in
      subst (λ (y : Sticker × List ℕ). Takes bytes (sticker_bytes y.0) y.1 × KnownStickers (known ++ y.0 ∷ [])) {x = (s, end)}
      (ok_is (s, end) x value.2)
      (j0, (rising_push known s fits.0 (last_tells known s test.1), all_push IsGood known s fits.1 (form, kept)))

  sticker_again : (known : List Sticker) (s : Sticker) (more : List Sticker) (rest : List ℕ) → KnownStickers (known ++ s ∷ more)
      → sticker_at songs known (sticker_bytes s ++ rest) ≡ Ok (s, rest)
  unfolding sticker_at
  sticker_again known s more rest fits =
      let good = all_middle IsGood known s more fits.1 in
      let below = rising_above known s more fits.0 in
      let of_song : IsOfSong (last_uri known) s.uri =
      both_is_true (has_uri songs s.uri) (not (is_lt (slice_cmp nat_cmp s.uri (last_uri known)))) good.1.has_row
      (ap not (uri_after known s below)) in
      let parts = both_true (Rattle.std.specs.Prelude.not (eqb (length s.name) 0)) _ good.0.good_name in
      let short = both_true (leb (length s.name) 256) _ parts.1 in
      let name : is_text s.name ≡ true =
      both_is_true (is_utf8 s.name) (leb (length s.name) 65535) good.1.name
      (le-leb (length s.name) 65535 (omega (arith, leb-true _ _ short.0))) in
      let next : IsNext known s.uri s.name =
      (name, both_is_true (is_good_name s.name) (is_last known s.uri s.name) good.0.good_name (last_below known s below)) in
      let value_short : length s.value ≤ 4096 = leb-true _ _ good.0.good_value in
      let value : is_text s.value ≡ true =
      both_is_true (is_utf8 s.value) (leb (length s.value) 65535) good.1.value
      (le-leb (length s.value) 65535 (omega (arith, value_short))) in
      let r2 = text_bytes s.value ++ rest in
      let r1 = text_bytes s.name ++ r2 in
      let regrouped : sticker_bytes s ++ rest ≡ text_bytes s.uri ++ r1 =
      append_assoc (text_bytes s.uri) (text_bytes s.name ++ text_bytes s.value) rest
      ∙ ap (λ (r : List ℕ). text_bytes s.uri ++ r) (append_assoc (text_bytes s.name) (text_bytes s.value) rest) in
      ap (sticker_at songs known) regrouped
      ∙ rw (
        (uri_field (last_uri known)).again s.uri r1 of_song,
        (name_field known s.uri).again s.name r2 next,
        value_field.again s.value rest (value, good.0.good_value),
      ) refl

  stickers_field : IsField (λ bytes. stickers_at songs bytes) (λ all. list_bytes sticker_bytes all) (AreSavedStickers songs)
  stickers_field =
      fits_is (λ bytes. stickers_at songs bytes) (λ all. list_bytes sticker_bytes all)
      (λ all. ((0 ≤ length all) × (length all ≤ MAX_STICKERS)) × KnownStickers all) (AreSavedStickers songs)
      (counted_is (λ bytes. number_within 0 MAX_STICKERS bytes) (λ n. u32_bytes n) (λ n. (0 ≤ n) × (n ≤ MAX_STICKERS))
      (within_is 0 MAX_STICKERS (omega arith)) (sticker_at songs) sticker_bytes KnownStickers
      (record { takes = sticker_takes; again = sticker_again }) (tt, tt))
      (λ all h. record {
        within = record { few = h.0.1; good = all_weaker IsGood IsSticker (λ s good. good.0) all h.1.1; rising = h.1.0 };
        each = all_weaker IsGood (IsSavedSticker songs) (λ s good. good.1) all h.1.1;
      })
      (λ all h. ((omega arith, h.within.few), (h.within.rising, both_facts all h.within.good h.each)))
    where
      both_facts : (all : List Sticker) → AllByRecursion IsSticker all → AllByRecursion (IsSavedSticker songs) all
          → AllByRecursion IsGood all
      both_facts [] a b = tt
      both_facts (s ∷ all) a b = ((a.0, b.0), both_facts all a.1 b.1)

pub stickers_is : (songs : List Row) → AreSavedSongs songs
    → IsField (λ bytes. stickers_at songs bytes) (λ all. list_bytes sticker_bytes all) (AreSavedStickers songs)
stickers_is songs saved = stickers_field songs saved
