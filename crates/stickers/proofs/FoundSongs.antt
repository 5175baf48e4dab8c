-- What `find` gives, song by song.
use Rattle.std.proofs.Common.{◌≡◌, ℕ, Bool, true, false, ◌&&◌, cond, List, [], ◌∷◌, ◌++◌, filter, map, Some, None, if◌then◌else◌, refl, ap}
use Rattle.std.proofs.Common.{◌∙◌}
use Rattle.std.specs.Str.{bytes_eq}
use Rattle.std.proofs.lemmas.List.{map-append}
use Rattle.song_db.specs.Place.{is_under}
use Rattle.song_db.specs.declared.place.Place.{Place}
use Rattle.stickers.specs.declared.find.ValueTest.{ValueTest}
use Rattle.stickers.specs.Find.{passes, uri_and_value, is_found, found_in}
use Rattle.stickers.specs.Named.{Values, IsRising, under}
use Rattle.stickers.specs.Sticker.{Sticker, sticker, in_song}
use Rattle.stickers.proofs.Named.{before_tail, rising_tail, under_before, same_name}

filter-append : {X : Type 0} (test : X → Bool) (xs ys : List X) → filter test (xs ++ ys) ≡ filter test xs ++ filter test ys
filter-append test [] ys = refl
filter-append test (x ∷ xs) ys = by_cases (test x) (filter-append test xs ys)
  where
    by_cases : (b : Bool) → filter test (xs ++ ys) ≡ filter test xs ++ filter test ys
        → cond b (x ∷ filter test (xs ++ ys)) (filter test (xs ++ ys)) ≡ cond b (x ∷ filter test xs) (filter test xs) ++ filter test ys
    by_cases true rest = ap (λ l. x ∷ l) rest
    by_cases false rest = rest

pub found_in-append : (xs ys : List Sticker) (place : Place) (name : List ℕ) (test : ValueTest)
    → found_in (xs ++ ys) place name test ≡ found_in xs place name test ++ found_in ys place name test
found_in-append xs ys place name test = ap (map uri_and_value) (filter-append (is_found place name test) xs ys)
    ∙ map-append uri_and_value (filter (is_found place name test) xs) (filter (is_found place name test) ys)

-- a song that isn't under the place
pub not_under : (uri : List ℕ) (vs : Values) (place : Place) (name : List ℕ) (test : ValueTest) → is_under place uri ≡ false
    → found_in (in_song (uri, vs)) place name test ≡ []
not_under uri [] place name test apart = refl
not_under uri (v ∷ vs) place name test apart = rw apart (not_under uri vs place name test apart)

-- a song without a sticker of the name
pub not_named : (uri : List ℕ) (vs : Values) (place : Place) (name : List ℕ) (test : ValueTest) → is_under place uri ≡ true
    → under vs name ≡ None → found_in (in_song (uri, vs)) place name test ≡ []
not_named uri [] place name test below none = refl
not_named uri (v ∷ vs) place name test below none = rw below (by_cases (bytes_eq name v.0) none (not_named uri vs place name test below))
  where
    by_cases : (b : Bool) → cond b (Some v.1) (under vs name) ≡ None
        → (under vs name ≡ None → found_in (in_song (uri, vs)) place name test ≡ [])
        → map uri_and_value (cond (b && passes test v.1) (sticker uri v ∷ filter (is_found place name test) (in_song (uri, vs)))
        (filter (is_found place name test) (in_song (uri, vs)))) ≡ []
    by_cases true none rest = absurd (cc)
    by_cases false none rest = rest none

-- a song with one
pub named : (uri : List ℕ) (vs : Values) (place : Place) (name value : List ℕ) (test : ValueTest) → is_under place uri ≡ true → IsRising vs
    → under vs name ≡ Some value → found_in (in_song (uri, vs)) place name test ≡ (if passes test value then (uri, value) ∷ [] else [])
named uri [] place name value test below rising found = absurd (cc)
named uri (v ∷ vs) place name value test below rising found =
    rw below (by_cases (bytes_eq name v.0) refl found (named uri vs place name value test below (rising_tail v vs rising)))
  where
    by_cases : (b : Bool) → bytes_eq name v.0 ≡ b → cond b (Some v.1) (under vs name) ≡ Some value
        → (under vs name ≡ Some value → found_in (in_song (uri, vs)) place name test
        ≡ (if passes test value then (uri, value) ∷ [] else []))
        → map uri_and_value (cond (b && passes test v.1) (sticker uri v ∷ filter (is_found place name test) (in_song (uri, vs)))
        (filter (is_found place name test) (in_song (uri, vs)))) ≡ (if passes test value then (uri, value) ∷ [] else [])
    by_cases true same found rest =
        let equal : v.1 ≡ value = cc in
        let none : found_in (in_song (uri, vs)) place name test ≡ [] =
        not_named uri vs place name test below (rw (same_name name v.0 same) (under_before vs v.0 (before_tail v vs rising))) in
        rw (← equal) (by_test (passes test v.1) none)
      where
        by_test : (b : Bool) → found_in (in_song (uri, vs)) place name test ≡ []
            → map uri_and_value (cond b (sticker uri v ∷ filter (is_found place name test) (in_song (uri, vs)))
            (filter (is_found place name test) (in_song (uri, vs)))) ≡ (if b then (uri, v.1) ∷ [] else [])
        by_test true none = ap (λ l. (uri, v.1) ∷ l) none
        by_test false none = none
    by_cases false same found rest = rest found
