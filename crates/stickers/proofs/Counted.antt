-- How each change counts the stickers, and that it keeps them in order.
use Rattle.std.proofs.Common.{◌≡◌, ℕ, ◌+◌, ◌-◌, ◌<◌, ◌≤◌, Bool, true, false, not, ◌&&◌, cond, List, [], ◌∷◌, length, filter, find, Option}
use Rattle.std.proofs.Common.{Some, None, is_some, refl, sym, ap, ◌∙◌, arith}
use Rattle.std.specs.declared.cmp.Ordering.{Ordering}
use Rattle.std.specs.declared.cmp.Ordering.TheVariants.{Less, Equal, Greater}
use Rattle.std.specs.Cmp.{IsTotalOrder}
use Rattle.std.specs.Ordering.{nat_cmp, match_ordering, ordering_then, ordering_reverse, is_eq}
use Rattle.std.specs.Option.{option_map}
use Rattle.std.specs.Cmp.Lexicographic.{slice_cmp, nat_list_cmp_total}
use Rattle.std.specs.List.{AllByRecursion}
use Rattle.std.specs.Str.{bytes_eq}
use Rattle.std.proofs.lemmas.Cmp.{on_total, then_total}
use Rattle.std.proofs.lemmas.List.Filters.{length-filter_both}
use Rattle.std.proofs.lemmas.Map.Text.{is_eq-slice_cmp}
use Rattle.stickers.specs.Limits.{MAX_STICKERS}
use Rattle.stickers.specs.Sticker.{Sticker, IsSticker, compare, placed, is_of_song, is_at, value_at, stickers_of, with_sticker}
use Rattle.stickers.specs.Sticker.{without_sticker, without_song, IsRisingFrom, AreRising, IsCounted}

pub stickers_total : IsTotalOrder compare
stickers_total = then_total (on_total (λ (s : Sticker). s.uri) nat_list_cmp_total) (on_total (λ (s : Sticker). s.name) nat_list_cmp_total)

all_filter : (P : Sticker → Type 0) (test : Sticker → Bool) (ts : List Sticker) → AllByRecursion P ts → AllByRecursion P (filter test ts)
all_filter P test [] all = tt
all_filter P test (t ∷ ts) all = by_cases (test t) (all_filter P test ts all.1)
  where
    by_cases : (b : Bool) → AllByRecursion P (filter test ts) → AllByRecursion P (cond b (t ∷ filter test ts) (filter test ts))
    by_cases true rest = (all.0, rest)
    by_cases false rest = rest

rising_filter : (test : Sticker → Bool) (ts : List Sticker) → AreRising ts → AreRising (filter test ts)
rising_filter test [] rising = tt
rising_filter test (t ∷ ts) rising = by_cases (test t) (rising_filter test ts rising.1)
  where
    by_cases : (b : Bool) → AreRising (filter test ts) → AreRising (cond b (t ∷ filter test ts) (filter test ts))
    by_cases true rest = (all_filter (λ u. compare t u ≡ Less) test ts rising.0, rest)
    by_cases false rest = rest

all_placed : (P : Sticker → Type 0) (s : Sticker) (ts : List Sticker) → P s → AllByRecursion P ts → AllByRecursion P (placed s ts)
all_placed P s [] here all = (here, tt)
all_placed P s (t ∷ ts) here all = by_cases (compare s t) (all_placed P s ts here all.1)
  where
    by_cases : (o : Ordering) → AllByRecursion P (placed s ts) → AllByRecursion P (match_ordering o (s ∷ t ∷ ts) (s ∷ ts) (t ∷ placed s ts))
    by_cases Less rest = (here, all)
    by_cases Equal rest = (here, all.1)
    by_cases Greater rest = (all.0, rest)

-- what is before or at a sticker is before all that come after it
pub below_later : (s t : Sticker) (ts : List Sticker) → compare s t ≡ Less → IsRisingFrom t ts → IsRisingFrom s ts
below_later s t [] less rising = tt
below_later s t (u ∷ ts) less rising = (stickers_total.trans s t u less rising.0, below_later s t ts less rising.1)

same_below : (s t : Sticker) (ts : List Sticker) → compare s t ≡ Equal → IsRisingFrom t ts → IsRisingFrom s ts
same_below s t [] same rising = tt
same_below s t (u ∷ ts) same rising = (stickers_total.congr s t u same ∙ rising.0, same_below s t ts same rising.1)

rising_placed : (s : Sticker) (ts : List Sticker) → AreRising ts → AreRising (placed s ts)
rising_placed s [] rising = (tt, tt)
rising_placed s (t ∷ ts) rising = by_cases (compare s t) refl (rising_placed s ts rising.1)
  where
    by_cases : (o : Ordering) → compare s t ≡ o → AreRising (placed s ts)
        → AreRising (match_ordering o (s ∷ t ∷ ts) (s ∷ ts) (t ∷ placed s ts))
    by_cases Less is rest = ((is, below_later s t ts is rising.0), rising)
    by_cases Equal is rest = (same_below s t ts is rising.0, rising.1)
    by_cases Greater is rest = (
      all_placed (λ u. compare t u ≡ Less) s ts (stickers_total.antisymm t s ∙ ap ordering_reverse is) rising.0,
      rest,
    )

-- the test of a URI and a name is whether they compare equal
pub is_at-compare : (s t : Sticker) → is_at s.uri s.name t ≡ is_eq (compare s t)
is_at-compare s t = rw (← is_eq-slice_cmp s.uri t.uri, ← is_eq-slice_cmp s.name t.name) (by_cases (slice_cmp nat_cmp s.uri t.uri))
  where
    by_cases : (o : Ordering) → (is_eq o && is_eq (slice_cmp nat_cmp s.name t.name))
        ≡ is_eq (ordering_then o (slice_cmp nat_cmp s.name t.name))
    by_cases Less = refl
    by_cases Equal = refl
    by_cases Greater = refl

-- none of the stickers that come after one has its URI and name
pub none_after : (s : Sticker) (ts : List Sticker) → IsRisingFrom s ts
    → (filter (is_at s.uri s.name) ts ≡ []) × (find (is_at s.uri s.name) ts ≡ None)
none_after s [] rising = (refl, refl)
none_after s (t ∷ ts) rising =
    let rest = none_after s ts rising.1 in
    let apart : is_at s.uri s.name t ≡ false = is_at-compare s t ∙ ap is_eq rising.0 in
    (rw apart rest.0, rw apart rest.1)

-- a sticker that is there is there once, and gives way; one that isn't is one more
length-placed : (s : Sticker) (ts : List Sticker) → AreRising ts
    → length (placed s ts) ≡ cond (is_some (find (is_at s.uri s.name) ts)) (length ts) (length ts + 1)
length-placed s [] rising = refl
length-placed s (t ∷ ts) rising = rw (is_at-compare s t) (by_cases (compare s t) refl (length-placed s ts rising.1))
  where
    by_cases : (o : Ordering) → compare s t ≡ o
        → length (placed s ts) ≡ cond (is_some (find (is_at s.uri s.name) ts)) (length ts) (length ts + 1)
        → length (match_ordering o (s ∷ t ∷ ts) (s ∷ ts) (t ∷ placed s ts))
        ≡ cond (is_some (cond (is_eq o) (Some t) (find (is_at s.uri s.name) ts))) (length (t ∷ ts)) (length (t ∷ ts) + 1)
    by_cases Less is rest = rw ((none_after s ts (below_later s t ts is rising.0)).1) (omega arith)
    by_cases Equal is rest = refl
    by_cases Greater is rest = greater (is_some (find (is_at s.uri s.name) ts)) rest
      where
        greater : (b : Bool) → length (placed s ts) ≡ cond b (length ts) (length ts + 1)
            → length (t ∷ placed s ts) ≡ cond b (length (t ∷ ts)) (length (t ∷ ts) + 1)
        greater true same = omega (arith, same)
        greater false same = omega (arith, same)

length-at : (s : Sticker) (ts : List Sticker) → AreRising ts → is_some (find (is_at s.uri s.name) ts) ≡ true
    → length (filter (is_at s.uri s.name) ts) ≡ 1
length-at s [] rising found = absurd (cc)
length-at s (t ∷ ts) rising found =
    rw (is_at-compare s t) (by_cases (compare s t) refl (rw (is_at-compare s t) at found) (length-at s ts rising.1))
  where
    by_cases : (o : Ordering) → compare s t ≡ o → is_some (cond (is_eq o) (Some t) (find (is_at s.uri s.name) ts)) ≡ true
        → (is_some (find (is_at s.uri s.name) ts) ≡ true → length (filter (is_at s.uri s.name) ts) ≡ 1)
        → length (cond (is_eq o) (t ∷ filter (is_at s.uri s.name) ts) (filter (is_at s.uri s.name) ts)) ≡ 1
    by_cases Less is found rest = rest found
    by_cases Equal is found rest = rw ((none_after s ts (same_below s t ts is rising.0)).0) refl
    by_cases Greater is found rest = rest found

is_some-option_map : {X Y : Type 0} (f : X → Y) (o : Option X) → is_some (option_map f o) ≡ is_some o
is_some-option_map f None = refl
is_some-option_map f (Some x) = refl

-- a song without stickers has no value
pub empty_absent : (all : List Sticker) (uri name : List ℕ) → stickers_of all uri ≡ [] → value_at all uri name ≡ None
empty_absent [] uri name empty = refl
empty_absent (t ∷ ts) uri name empty = by_cases (bytes_eq uri t.uri) empty (empty_absent ts uri name)
  where
    by_cases : (b : Bool) → cond b (t ∷ stickers_of ts uri) (stickers_of ts uri) ≡ []
        → (stickers_of ts uri ≡ [] → value_at ts uri name ≡ None)
        → option_map (λ (s : Sticker). s.value) (cond (b && bytes_eq name t.name) (Some t) (find (is_at uri name) ts)) ≡ None
    by_cases true empty rest = absurd (cc)
    by_cases false empty rest = rest empty

pub counted_new : (all : List Sticker) (n : ℕ) (uri name value : List ℕ) → IsCounted all n
    → IsSticker (record { uri = uri; name = name; value = value }) → is_some (value_at all uri name) ≡ false → n < MAX_STICKERS
    → IsCounted (with_sticker all uri name value) (n + 1)
counted_new all n uri name value counted good absent few =
    let s : Sticker = record { uri = uri; name = name; value = value } in
    let none : is_some (find (is_at uri name) all) ≡ false = sym (is_some-option_map (λ (t : Sticker). t.value) (find (is_at uri name) all))
    ∙ absent in
    let long : length (placed s all) ≡ length all + 1 = length-placed s all counted.within.rising ∙ rw none refl in
    record {
      counted = omega (arith, long, counted.counted);
      within = record {
        few = omega (arith, long, counted.counted);
        good = all_placed IsSticker s all good counted.within.good;
        rising =
            rising_placed s all counted.within.rising;
      };
    }

pub counted_other : (all : List Sticker) (n : ℕ) (uri name value : List ℕ) → IsCounted all n
    → IsSticker (record { uri = uri; name = name; value = value }) → is_some (value_at all uri name) ≡ true
    → IsCounted (with_sticker all uri name value) n
counted_other all n uri name value counted good present =
    let s : Sticker = record { uri = uri; name = name; value = value } in
    let found : is_some (find (is_at uri name) all) ≡ true = sym (is_some-option_map (λ (t : Sticker). t.value) (find (is_at uri name) all))
    ∙ present in
    let long : length (placed s all) ≡ length all = length-placed s all counted.within.rising ∙ rw found refl in
    record {
      counted = omega (arith, long, counted.counted);
      within = record {
        few = omega (arith, long, counted.within.few);
        good = all_placed IsSticker s all good counted.within.good;
        rising =
            rising_placed s all counted.within.rising;
      };
    }

pub counted_without_sticker : (all : List Sticker) (n : ℕ) (uri name : List ℕ) → IsCounted all n → is_some (value_at all uri name) ≡ true
    → IsCounted (without_sticker all uri name) (n - 1)
counted_without_sticker all n uri name counted present =
    let s : Sticker = record { uri = uri; name = name; value = [] } in
    let found : is_some (find (is_at uri name) all) ≡ true = sym (is_some-option_map (λ (t : Sticker). t.value) (find (is_at uri name) all))
    ∙ present in
    let one : length (filter (is_at uri name) all) ≡ 1 = length-at s all counted.within.rising found in
    let both = length-filter_both (is_at uri name) (λ t. not (is_at uri name t)) (λ t. refl) all in
    record {
      counted = omega (arith, one, both, counted.counted);
      within = record {
        few = omega (arith, both, counted.within.few);
        good =
            all_filter IsSticker (λ t. not (is_at uri name t)) all counted.within.good;
        rising =
            rising_filter (λ t. not (is_at uri name t)) all counted.within.rising;
      };
    }

pub fits_song : (all : List Sticker) (n : ℕ) (uri : List ℕ) → IsCounted all n → length (stickers_of all uri) ≤ n
fits_song all n uri counted = omega (
  arith,
  length-filter_both (is_of_song uri) (λ t. not (is_of_song uri t)) (λ t. refl) all,
  counted.counted,
)

pub counted_without_song : (all : List Sticker) (n m : ℕ) (uri : List ℕ) → IsCounted all n → m + length (stickers_of all uri) ≡ n
    → IsCounted (without_song all uri) m
counted_without_song all n m uri counted same =
    let both = length-filter_both (is_of_song uri) (λ t. not (is_of_song uri t)) (λ t. refl) all in
    record {
      counted = omega (arith, both, counted.counted);
      within = record {
        few = omega (arith, both, counted.within.few);
        good =
            all_filter IsSticker (λ t. not (is_of_song uri t)) all counted.within.good;
        rising =
            rising_filter (λ t. not (is_of_song uri t)) all counted.within.rising;
      };
    }

-- a song without stickers leaves them as they were
pub unchanged_without_song : (all : List Sticker) (uri : List ℕ) → length (stickers_of all uri) ≡ 0 → without_song all uri ≡ all
unchanged_without_song [] uri none = refl
unchanged_without_song (t ∷ ts) uri none = by_cases (bytes_eq uri t.uri) none (unchanged_without_song ts uri)
  where
    by_cases : (b : Bool) → length (cond b (t ∷ stickers_of ts uri) (stickers_of ts uri)) ≡ 0
        → (length (stickers_of ts uri) ≡ 0 → without_song ts uri ≡ ts)
        → cond (not b) (t ∷ without_song ts uri) (without_song ts uri) ≡ t ∷ ts
    by_cases true none rest = absurd (omega arith)
    by_cases false none rest = ap (λ l. t ∷ l) (rest none)
