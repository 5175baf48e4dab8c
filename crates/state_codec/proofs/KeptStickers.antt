-- The stickers of a saved state stay so through each edit.
use Rattle.std.proofs.Common.{◌≡◌, ℕ, ◌<◌, ◌≤◌, Bool, true, false, cond, List, [], ◌∷◌, length, filter, is_some, refl, arith}
use Rattle.std.specs.declared.cmp.Ordering.{Ordering}
use Rattle.std.specs.declared.cmp.Ordering.TheVariants.{Less, Equal, Greater}
use Rattle.std.specs.Ordering.{match_ordering}
use Rattle.std.specs.List.{AllByRecursion}
use Rattle.song_db.specs.Row.{Row}
use Rattle.stickers.specs.Limits.{MAX_STICKERS}
use Rattle.stickers.specs.Sticker.{Sticker, IsSticker, IsWithinLimits, IsCounted, AreRising, compare, placed, value_at, with_sticker}
use Rattle.stickers.proofs.Counted.{counted_new, counted_other}
use Rattle.state_codec.specs.SavedState.{IsSavedSticker, AreSavedStickers}

all_filter : (P : Sticker → Type 0) (test : Sticker → Bool) (ts : List Sticker) → AllByRecursion P ts → AllByRecursion P (filter test ts)
all_filter P test [] all = tt
all_filter P test (t ∷ ts) all = of (test t) (all_filter P test ts all.1)
  where
    of : (b : Bool) → AllByRecursion P (filter test ts) → AllByRecursion P (cond b (t ∷ filter test ts) (filter test ts))
    of true rest = (all.0, rest)
    of false rest = rest

rising_filter : (test : Sticker → Bool) (ts : List Sticker) → AreRising ts → AreRising (filter test ts)
rising_filter test [] rising = tt
rising_filter test (t ∷ ts) rising = of (test t) (rising_filter test ts rising.1)
  where
    of : (b : Bool) → AreRising (filter test ts) → AreRising (cond b (t ∷ filter test ts) (filter test ts))
    of true rest = (all_filter (λ u. compare t u ≡ Less) test ts rising.0, rest)
    of false rest = rest

short_filter : (test : Sticker → Bool) (ts : List Sticker) → length (filter test ts) ≤ length ts
short_filter test [] = omega arith
short_filter test (t ∷ ts) = of (test t) (short_filter test ts)
  where
    of : (b : Bool) → length (filter test ts) ≤ length ts → length (cond b (t ∷ filter test ts) (filter test ts)) ≤ length (t ∷ ts)
    of true rest = omega arith
    of false rest = omega arith

all_placed : (P : Sticker → Type 0) (s : Sticker) (ts : List Sticker) → P s → AllByRecursion P ts → AllByRecursion P (placed s ts)
all_placed P s [] here all = (here, tt)
all_placed P s (t ∷ ts) here all = of (compare s t) (all_placed P s ts here all.1)
  where
    of : (o : Ordering) → AllByRecursion P (placed s ts) → AllByRecursion P (match_ordering o (s ∷ t ∷ ts) (s ∷ ts) (t ∷ placed s ts))
    of Less rest = (here, all)
    of Equal rest = (here, all.1)
    of Greater rest = (all.0, rest)

-- whatever stickers go
pub kept_filter : (songs : List Row) (all : List Sticker) (test : Sticker → Bool) → AreSavedStickers songs all
    → AreSavedStickers songs (filter test all)
kept_filter songs all test saved = record {
  within = record {
    few = omega (arith, short_filter test all, saved.within.few);
    good = all_filter IsSticker test all saved.within.good;
    rising = rising_filter test all saved.within.rising;
  };
  each = all_filter (IsSavedSticker songs) test all saved.each;
}

pub kept_set : (songs : List Row) (all : List Sticker) (uri name value : List ℕ) → AreSavedStickers songs all
    → IsSticker (record { uri = uri; name = name; value = value }) → IsSavedSticker songs (record { uri = uri; name = name; value = value })
    → (is_some (value_at all uri name) ≡ false → length all < MAX_STICKERS) → AreSavedStickers songs (with_sticker all uri name value)
kept_set songs all uri name value saved good here room = record {
  within = of (is_some (value_at all uri name)) refl;
  each = all_placed (IsSavedSticker songs) (record { uri = uri; name = name; value = value }) all here saved.each;
}
  where
    counted : IsCounted all (length all)
    counted = record { counted = refl; within = saved.within }

    of : (b : Bool) → is_some (value_at all uri name) ≡ b → IsWithinLimits (with_sticker all uri name value)
    of true present = (counted_other all (length all) uri name value counted good present).within
    of false absent = (counted_new all (length all) uri name value counted good absent (room absent)).within
