-- How many bytes the parts of a snapshot take, and that its texts are short.
use Rattle.std.proofs.Common.{◌≡◌, ℕ, ◌+◌, ◌*◌, ◌<◌, ◌≤◌, ◌^◌, List, [], ◌∷◌, ◌++◌, length, eqb, leb, refl, ap, subst, ◌∙◌, arith}
use Rattle.std.specs.Prelude.{not, IsTrue}
use Rattle.std.specs.List.{AllByRecursion, flat_map}
use Rattle.std.proofs.lemmas.Bool.{leb-true}
use Rattle.std.proofs.lemmas.List.{length-append}
use Rattle.std.proofs.lemmas.List.Concat.{flat_map-cons}
use Rattle.std.proofs.lemmas.Grind.{flat_map-append}
use Rattle.std.proofs.lemmas.List.Sums.{sum_by-cons}
use Rattle.play_queue.specs.declared.entry.Entry.{Entry}
use Rattle.song_db.specs.Row.{Row}
use Rattle.stickers.specs.Named.{Values, Songs}
use Rattle.stickers.specs.Sticker.{Sticker, IsSticker, IsWithinLimits as AreStickers, flat, in_song}
use Rattle.stored_lists.specs.Lists.{Stored, IsWithinLimits as AreLists, total}
use Rattle.stored_lists.specs.Name.{is_good_name}
use Rattle.stored_lists.specs.Songs.{AreUris}
use Rattle.state_codec.specs.Appended.{IsShortList, IsShortSticker}
use Rattle.state_codec.specs.Longest.{longest_sticker}
use Rattle.state_codec.specs.SavedState.{SavedState, IsSavedState}
use Rattle.state_codec.specs.Spelling.{entry_bytes, playlist_bytes, sticker_bytes, head_bytes, parts_bytes}
use Rattle.state_codec.specs.SpellingFields.{list_bytes}
use Rattle.state_codec.specs.SpellingRows.{row_bytes}
use Rattle.state_codec.proofs.FieldLaws.{both_true}
use Rattle.state_codec.proofs.LengthLaws.{flat_short, text_len, list_len, uri_len, name_len, lists_len, sticker_len, head_len, value_len}
use Rattle.state_codec.proofs.Rising.{all_weaker}

-- the bytes of one item more in front
pub one_more : {A : Type 0} (f : A → List ℕ) (x : A) (xs : List A) → length (flat_map f (x ∷ xs)) ≡ length (f x) + length (flat_map f xs)
one_more f x xs = ap length (flat_map-cons f x xs) ∙ length-append (f x) (flat_map f xs)

pub thirteen_each : (songs : List Row) (entries : List Entry) → length (flat_map (entry_bytes songs) entries) ≡ 13 * length entries
thirteen_each songs [] = refl
thirteen_each songs (entry ∷ entries) = omega (arith, one_more (entry_bytes songs) entry entries, thirteen_each songs entries)

-- ---- playlists

short_in : (lists : Stored) → total lists ≤ 65536 → AllByRecursion (λ list. IsTrue (is_good_name list.0) × AreUris list.1) lists
    → AllByRecursion IsShortList lists
short_in [] few good = tt
short_in (list ∷ lists) few good =
    let sum = sum_by-cons (λ (l : List ℕ × List (List ℕ)). length l.1) list lists in (
      record { name = omega (arith, name_len list.0 good.0.0); songs = omega (arith, few, sum) },
      short_in lists (omega (arith, few, sum)) good.1,
    )

pub short_lists : (lists : Stored) → AreLists lists → AllByRecursion IsShortList lists
short_lists lists within = short_in lists within.few_entries within.good_lists

pub lists_bound : (lists : Stored) → AreLists lists → length (flat_map playlist_bytes lists) < 2 ^ 40
lists_bound lists within =
    let count : length lists ≤ 1024 = within.few_lists in
    let songs : total lists ≤ 65536 = within.few_entries in
    omega (arith, lists_len lists within.good_lists, count, songs)

-- ---- stickers

pub short_sticker : (s : Sticker) → IsSticker s → IsShortSticker s
short_sticker s good =
    let parts = both_true (not (eqb (length s.name) 0)) _ good.good_name in
    let name : length s.name ≤ 256 = leb-true _ _ (both_true (leb (length s.name) 256) _ parts.1).0 in
    record {
      uri = omega (arith, text_len s.uri, uri_len s.uri good.good_uri);
      name = omega (arith, name);
      value = omega (arith, value_len s.value good.good_value);
    }

pub short_stickers : (all : List Sticker) → AreStickers all → AllByRecursion IsShortSticker all
short_stickers all within = all_weaker IsSticker IsShortSticker short_sticker all within.good

pub stickers_bound : (all : List Sticker) → AreStickers all → length (flat_map sticker_bytes all) < 2 ^ 40
stickers_bound all within =
    let short : length (flat_map sticker_bytes all) ≤ length all * 5382 =
    flat_short sticker_bytes longest_sticker all
    (all_weaker IsSticker (λ t. length (sticker_bytes t) ≤ longest_sticker) sticker_len all within.good) in
    let count : length all ≤ 65536 = within.few in
    omega (arith, short, count)

-- the stickers of one song more in front
pub song_first : (song : List ℕ × Values) (songs : Songs)
    → flat_map sticker_bytes (flat (song ∷ songs)) ≡ flat_map sticker_bytes (in_song song) ++ flat_map sticker_bytes (flat songs)
song_first song songs =
    ap (λ (all : List Sticker). flat_map sticker_bytes all) (flat_map-cons in_song song songs)
    ∙ flat_map-append sticker_bytes (in_song song) (flat songs)

pub one_song_more : (song : List ℕ × Values) (songs : Songs)
    → length (flat_map sticker_bytes (flat (song ∷ songs)))
    ≡ length (flat_map sticker_bytes (in_song song)) + length (flat_map sticker_bytes (flat songs))
one_song_more song songs =
    ap length (song_first song songs) ∙ length-append (flat_map sticker_bytes (in_song song)) (flat_map sticker_bytes (flat songs))

pub both_parts : {A : Type 0} (P : A → Type 0) (xs ys : List A) → AllByRecursion P (xs ++ ys) → AllByRecursion P xs × AllByRecursion P ys
both_parts P [] ys all = (tt, all)
both_parts P (x ∷ xs) ys all = let rest = both_parts P xs ys all.1 in ((all.0, rest.0), rest.1)

pub short_song : (song : List ℕ × Values) (songs : Songs) → AllByRecursion IsShortSticker (flat (song ∷ songs))
    → AllByRecursion IsShortSticker (in_song song) × AllByRecursion IsShortSticker (flat songs)
short_song song songs short =
    both_parts IsShortSticker (in_song song) (flat songs)
    (subst (AllByRecursion IsShortSticker) (flat_map-cons in_song song songs) short)

-- ---- the whole

pub record PartsLen (s : SavedState) : Type 0 where
  pub head : length (head_bytes s) ≡ 53
  pub rows : length (list_bytes (row_bytes s.profile) s.songs) ≡ 4 + length (flat_map (row_bytes s.profile) s.songs)
  pub entries : length (list_bytes (entry_bytes s.songs) s.queue.entries) ≡ 4 + 13 * length s.queue.entries
  pub lists : length (list_bytes playlist_bytes s.lists) ≡ 4 + length (flat_map playlist_bytes s.lists)
  pub stickers : length (list_bytes sticker_bytes s.stickers) ≡ 4 + length (flat_map sticker_bytes s.stickers)
  pub whole : length (head_bytes s ++ parts_bytes s) ≡ length (head_bytes s) + length (list_bytes (row_bytes s.profile) s.songs)
      + length (list_bytes (entry_bytes s.songs) s.queue.entries) + length (list_bytes playlist_bytes s.lists)
      + length (list_bytes sticker_bytes s.stickers)

pub parts_len : (s : SavedState) → IsSavedState s → PartsLen s
parts_len s good =
    let rows = list_bytes (row_bytes s.profile) s.songs in
    let entries = list_bytes (entry_bytes s.songs) s.queue.entries in
    let lists = list_bytes playlist_bytes s.lists in
    let stickers = list_bytes sticker_bytes s.stickers in
    record {
      head = head_len s good;
      rows = list_len (row_bytes s.profile) s.songs;
      entries = omega (arith, list_len (entry_bytes s.songs) s.queue.entries, thirteen_each s.songs s.queue.entries);
      lists = list_len playlist_bytes s.lists;
      stickers = list_len sticker_bytes s.stickers;
      whole = omega (
        arith,
        length-append (head_bytes s) (parts_bytes s),
        length-append rows (entries ++ (lists ++ stickers)),
        length-append entries (lists ++ stickers),
        length-append lists stickers,
      );
    }
