-- The songs below a folder stand together: from the folder and a slash on, and before the folder and the next byte.
use Rattle.std.proofs.Common.{◌≡◌, ℕ, Bool, true, false, not, ◌&&◌, cond, List, [], ◌∷◌, ◌++◌, filter, map, string_bytes, nat_eq, nat_lt}
use Rattle.std.proofs.Common.{refl, sym, ap, ◌∙◌, arith}
use Rattle.std.proofs.lemmas.Bool.Decides.{nat_tests}
use Rattle.std.specs.declared.string.String.{String}
use Rattle.std.specs.declared.alloc.Global.{Global}
use Rattle.std.specs.declared.cmp.Ordering.{Ordering}
use Rattle.std.specs.declared.cmp.Ordering.TheVariants.{Less, Equal, Greater}
use Rattle.std.specs.declared.ops.Bound.TheVariants.{Included, Excluded, Unbounded}
use Rattle.std.specs.Ordering.{nat_cmp, is_le, is_gt, ordering_then}
use Rattle.std.specs.Cmp.Lexicographic.{slice_cmp}
use Rattle.std.specs.Str.{bytes_eq}
use Rattle.std.specs.String.{string_cmp}
use Rattle.std.specs.BTreeMap.Range.{entries_between, range_contains}
use denote.Ref.{Bor}
use Rattle.song_db.specs.Place.{is_below}
use Rattle.song_db.specs.declared.place.Place.TheVariants.{Root, At}
use Rattle.song_db.proofs.Below.{begins_below, below-bytes}
use Rattle.stickers.specs.ByName.{by_name, bytes_of_key}
use Rattle.stickers.specs.Find.{found_in, is_found, passes, uri_and_value}
use Rattle.stickers.specs.Named.{Values}
use Rattle.stickers.specs.Sticker.{flat, in_song, sticker}
use Rattle.stickers.specs.declared.find.ValueTest.{ValueTest}
use Rattle.stickers.proofs.FoundSongs.{found_in-append, not_under}

abbrev pub texts : List ℕ → List ℕ → Ordering
texts one other = slice_cmp nat_cmp one other

-- from one byte on
from_byte : (next y : ℕ) (ys : List ℕ) → is_le (texts (next ∷ []) (y ∷ ys)) ≡ not (nat_lt y next)
from_byte next y ys = by_rest ys (nat_lt next y) refl (nat_eq next y) refl (nat_lt y next) refl
  where
    by_rest : (ys : List ℕ) (a : Bool) → nat_lt next y ≡ a → (b : Bool) → nat_eq next y ≡ b → (c : Bool) → nat_lt y next ≡ c
        → is_le (ordering_then (cond a Less (cond b Equal Greater)) (texts [] ys)) ≡ not c
    by_rest ys true h b k true l = absurd (grind (arith, nat_tests))
    by_rest ys true h b k false l = refl
    by_rest ys false h true k true l = absurd (grind (arith, nat_tests))
    by_rest [] false h true k false l = refl
    by_rest (z ∷ zs) false h true k false l = refl
    by_rest ys false h false k true l = refl
    by_rest ys false h false k false l = absurd (grind (arith, nat_tests))

order : (folder path : List ℕ)
    → (is_le (texts (folder ++ 47 ∷ []) path) && not (is_le (texts (folder ++ 48 ∷ []) path))) ≡ begins_below folder path
order [] [] = refl
order [] (y ∷ ys) = rw (from_byte 47 y ys, from_byte 48 y ys) (by_cases (nat_eq y 47) refl (nat_lt y 47) refl (nat_lt y 48) refl)
  where
    by_cases : (a : Bool) → nat_eq y 47 ≡ a → (b : Bool) → nat_lt y 47 ≡ b → (c : Bool) → nat_lt y 48 ≡ c → (not b && not (not c)) ≡ a
    by_cases true h true k c l = absurd (grind (arith, nat_tests))
    by_cases true h false k true l = refl
    by_cases true h false k false l = absurd (grind (arith, nat_tests))
    by_cases false h true k c l = refl
    by_cases false h false k true l = absurd (grind (arith, nat_tests))
    by_cases false h false k false l = refl
order (x ∷ xs) [] = refl
order (x ∷ xs) (y ∷ ys) = by_cases (nat_lt x y) refl (nat_eq x y) refl (order xs ys)
  where
    by_cases : (b : Bool) → nat_lt x y ≡ b → (c : Bool) → nat_eq x y ≡ c
        → (is_le (texts (xs ++ 47 ∷ []) ys) && not (is_le (texts (xs ++ 48 ∷ []) ys))) ≡ begins_below xs ys
        → (is_le (ordering_then (cond b Less (cond c Equal Greater)) (texts (xs ++ 47 ∷ []) ys))
        && not (is_le (ordering_then (cond b Less (cond c Equal Greater)) (texts (xs ++ 48 ∷ []) ys)))) ≡ (c && begins_below xs ys)
    by_cases true h true k rest = absurd (grind (arith, nat_tests))
    by_cases true h false k rest = refl
    by_cases false h true k rest = rest
    by_cases false h false k rest = refl

texts_forward : (folder : List ℕ) → is_gt (texts (folder ++ 47 ∷ []) (folder ++ 48 ∷ [])) ≡ false
texts_forward [] = refl
texts_forward (x ∷ xs) =
    let same : nat_eq x x ≡ true = grind (arith, nat_tests) in let least : nat_lt x x ≡ false = grind (arith, nat_tests) in
    rw (least, same) (texts_forward xs)

-- the one end is before the other
pub ends_forward : (first end : String Global) (folder : List ℕ) → string_bytes first ≡ folder ++ 47 ∷ []
    → string_bytes end ≡ folder ++ 48 ∷ []
    → is_gt (string_cmp first end) ≡ false
ends_forward first end folder first_is end_is = rw (first_is, end_is) (texts_forward folder)

-- a key between the two ends
between : (first end key : String Global) (folder : List ℕ) → string_bytes first ≡ folder ++ 47 ∷ [] → string_bytes end ≡ folder ++ 48 ∷ []
    → range_contains string_cmp (Included first) (Excluded end) key ≡ is_below folder (string_bytes key)
between first end key folder first_is end_is = rw (first_is, end_is) (order folder (string_bytes key))
    ∙ sym (below-bytes folder (string_bytes key))

-- all that a folder is over is over by the root
same_song : (uri : List ℕ) (values : Values) (folder : Bor (List ℕ)) (name : List ℕ) (test : ValueTest) → is_below folder.now uri ≡ true
    → found_in (in_song (uri, values)) Root name test ≡ found_in (in_song (uri, values)) (At folder) name test
same_song uri [] folder name test below = refl
same_song uri (v ∷ vs) folder name test below =
    rw below (by_cases (bytes_eq name v.0 && passes test v.1) (same_song uri vs folder name test below))
  where
    by_cases : (b : Bool) → found_in (in_song (uri, vs)) Root name test ≡ found_in (in_song (uri, vs)) (At folder) name test
        → map uri_and_value (cond b (sticker uri v ∷ filter (is_found Root name test) (in_song (uri, vs)))
        (filter (is_found Root name test) (in_song (uri, vs))))
        ≡ map uri_and_value (cond b (sticker uri v ∷ filter (is_found (At folder) name test) (in_song (uri, vs)))
        (filter (is_found (At folder) name test) (in_song (uri, vs))))
    by_cases true rest = ap (λ l. (uri, v.1) ∷ l) rest
    by_cases false rest = rest

-- the first of some songs, whether it stands between the two ends or not, and what is found in the others
found_more : (b : Bool) (song : String Global × Values) (rest songs : List (String Global × Values)) (folder : Bor (List ℕ)) (name : List ℕ)
    (test : ValueTest)
    → is_below folder.now (string_bytes song.0) ≡ b
    → found_in (flat (by_name rest)) Root name test ≡ found_in (flat (by_name songs)) (At folder) name test
    → found_in (flat (by_name (cond b (song ∷ rest) rest))) Root name test
    ≡ found_in (in_song (bytes_of_key song)) (At folder) name test ++ found_in (flat (by_name songs)) (At folder) name test
found_more true song rest songs folder name test below more =
    found_in-append (in_song (bytes_of_key song)) (flat (by_name rest)) Root name test
    ∙ rw (same_song (string_bytes song.0) song.1 folder name test below, more) refl
found_more false song rest songs folder name test apart more =
    more ∙ rw (not_under (string_bytes song.0) song.1 (At folder) name test apart) refl

-- what is found in the songs between the two ends is what is found below the folder
pub found_below : (songs : List (String Global × Values)) (first end : String Global) (folder : Bor (List ℕ)) (name : List ℕ)
    (test : ValueTest)
    → string_bytes first ≡ folder.now ++ 47 ∷ [] → string_bytes end ≡ folder.now ++ 48 ∷ []
    → found_in (flat (by_name (entries_between string_cmp (Included first) (Excluded end) songs))) Root name test
    ≡ found_in (flat (by_name songs)) (At folder) name test
found_below [] first end folder name test first_is end_is = refl
found_below (song ∷ songs) first end folder name test first_is end_is =
    rw (between first end song.0 folder.now first_is end_is)
    (found_more (is_below folder.now (string_bytes song.0)) song (entries_between string_cmp
    (Included first) (Excluded end) songs) songs folder name test refl (found_below songs first end folder name test first_is end_is))
    ∙ sym (found_in-append
    (in_song (bytes_of_key song)) (flat (by_name songs)) (At folder) name test)

-- without ends all songs are there
pub between_all : {X : Type 0} (songs : List (String Global × X)) → entries_between string_cmp Unbounded Unbounded songs ≡ songs
between_all [] = refl
between_all (song ∷ songs) = ap (λ l. song ∷ l) (between_all songs)
