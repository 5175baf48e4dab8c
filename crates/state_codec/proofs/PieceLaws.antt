-- A snapshot that is handed over in pieces.
use Rattle.std.proofs.Common.{Option, Some, None}
use Rattle.std.proofs.Common.{◌≡◌, ℕ, ◌+◌, ◌≤◌, List, [], ◌∷◌, ◌++◌, length, fold, bit_xor, vec_capacity, append_assoc, refl, sym, ap, ◌∙◌, arith}
use Rattle.std.specs.Prelude.{IsTrue}
use Rattle.std.specs.Global.{Vec}
use Rattle.std.specs.List.{AllByRecursion, flat_map}
use Rattle.std.specs.Option.{option_map_or}
use Rattle.std.proofs.lemmas.List.{append-nil, length-append, nil_from_length}
use Rattle.std.proofs.lemmas.List.Concat.{flat_map-cons}
use Rattle.std.proofs.lemmas.List.Sums.{sum_by-cons}
use Rattle.player_core.specs.Place.{PlaceState}
use Rattle.profile.specs.declared.profile.Profile.{Profile}
use Rattle.profile.specs.declared.profile.Profile.TheVariants.{Named, Wide}
use Rattle.song_db.specs.Row.{is_kept_by}
use Rattle.stickers.specs.Named.{Values, Songs}
use Rattle.stickers.specs.Sticker.{Sticker, IsSticker, IsWithinLimits as AreStickers, flat, in_song, sticker}
use Rattle.stored_lists.specs.Lists.{Stored, IsWithinLimits as AreLists, total}
use Rattle.stored_lists.specs.Name.{is_good_name}
use Rattle.stored_lists.specs.Songs.{AreUris}
use Rattle.stored_lists.specs.Times.{Times}
use Rattle.state_codec.specs.Appended.{Appends}
use Rattle.state_codec.specs.Changes.{IsSavedRow}
use Rattle.state_codec.specs.Checksum.{with_byte, ONES}
use Rattle.state_codec.specs.Longest.{longest_row}
use Rattle.state_codec.specs.Pieces.{HadNone, HandsOver, IsListItem, IsStickerItem, front_of_fields, longest_item, sealed_from}
use Rattle.state_codec.specs.SavedState.{SavedState, AreSavedTimes, IsSavedPlace, IsSavedState}
use Rattle.state_codec.specs.Sealed.{sealed}
use Rattle.state_codec.specs.Spelling.{entry_bytes, fields_of, head_bytes, parts_bytes, playlist_bytes, sticker_bytes, with_fields}
use Rattle.state_codec.specs.SpellingFields.{list_bytes, u32_bytes}
use Rattle.state_codec.specs.SpellingPlace.{place_head}
use Rattle.state_codec.specs.SpellingTimes.{time_bytes}
use Rattle.state_codec.specs.SpellingRows.{row_bytes}
use Rattle.state_codec.proofs.LengthLaws.{fields_behind, fields_told, rows_len, told_fields, name_len, sticker_len}
use Rattle.state_codec.proofs.Rising.{all_in_turn, all_weaker}
use Rattle.state_codec.proofs.SnapshotLaws.{short_sticker}

-- ---- items are short

pub rows_short : (s : SavedState) → IsSavedState s
    → AllByRecursion (λ row. length (row_bytes s.profile row) ≤ longest_row s.profile) s.songs
rows_short s good = rows_len s.profile s.songs (all_in_turn IsSavedRow s.songs good.songs.rows)
    (all_in_turn (λ row. IsTrue (is_kept_by s.profile row)) s.songs good.kept)

pub row_fits : (profile : Profile) → longest_row profile ≤ longest_item
row_fits Named = omega arith
row_fits Wide = omega arith

lists_in : (lists : Stored) → total lists ≤ 65536 → AllByRecursion (λ list. IsTrue (is_good_name list.0) × AreUris list.1) lists
    → AllByRecursion IsListItem lists
lists_in [] few good = tt
lists_in (list ∷ lists) few good =
    let sum = sum_by-cons (λ (l : List ℕ × List (List ℕ)). length l.1) list lists in (
      record { name = name_len list.0 good.0.0; songs = omega (arith, few, sum) },
      lists_in lists (omega (arith, few, sum)) good.1,
    )

pub list_items : (lists : Stored) → AreLists lists → AllByRecursion IsListItem lists
list_items lists within = lists_in lists within.few_entries within.good_lists

pub sticker_items : (all : List Sticker) → AreStickers all → AllByRecursion IsStickerItem all
sticker_items all within = all_weaker IsSticker IsStickerItem
    (λ s good. record { short = short_sticker s good; fits = sticker_len s good }) all within.good

pub both_joined : {A : Type 0} (P : A → Type 0) (xs ys : List A) → AllByRecursion P xs → AllByRecursion P ys → AllByRecursion P (xs ++ ys)
both_joined P [] ys first second = second
both_joined P (x ∷ xs) ys first second = (first.0, both_joined P xs ys first.1 second)

-- ---- the stickers of a song are begun

pub song_begun : (uri : List ℕ) (songs : Songs) (song : Values) (rest : Songs) (named : List ℕ × List ℕ) (values : Values)
    → songs ≡ (uri, song) ∷ rest → song ≡ named ∷ values → flat songs ≡ sticker uri named ∷ (in_song (uri, values) ++ flat rest)
song_begun uri songs song rest named values front first =
    ap (λ (l : Songs). flat l) front ∙ flat_map-cons in_song (uri, song) rest
    ∙ ap (λ (l : Values). in_song (uri, l) ++ flat rest) first

pub song_empty : (uri : List ℕ) (songs : Songs) (song : Values) (rest : Songs) → songs ≡ (uri, song) ∷ rest → song ≡ []
    → flat songs ≡ flat rest
song_empty uri songs song rest front none =
    ap (λ (l : Songs). flat l) front ∙ flat_map-cons in_song (uri, song) rest
    ∙ ap (λ (l : Values). in_song (uri, l) ++ flat rest) none

-- ---- parts

pub hands_first : (before after : Vec ℕ) (a a' b : List ℕ) → HandsOver before after a a' → HandsOver before after (a ++ b) (a' ++ b)
hands_first before after a a' b h = record {
  items = sym (append_assoc after.items a' b) ∙ ap (λ (l : List ℕ). l ++ b) h.items ∙ append_assoc before.items a b;
  capacity = h.capacity;
  few = h.few;
}

pub hands_second : (before between after : Vec ℕ) (a a' b b' : List ℕ) → HadNone before between a a'
    → vec_capacity between ≡ vec_capacity before → HandsOver between after b b' → HandsOver before after (a ++ b) (a' ++ b')
hands_second before between after a a' b b' none room h = record {
  items = ap (λ (l : List ℕ). after.items ++ (l ++ b')) none.still_none ∙ h.items ∙ ap (λ (l : List ℕ). l ++ b) none.same
      ∙ ap (λ (l : List ℕ). before.items ++ (l ++ b)) (sym none.none);
  capacity = h.capacity ∙ room;
  few = omega (arith, h.few, ap (λ (l : List ℕ). length l) none.same);
}

pub none_both : (before between after : Vec ℕ) (a a' b b' : List ℕ) → HadNone before between a a' → HadNone between after b b'
    → HadNone before after (a ++ b) (a' ++ b')
none_both before between after a a' b b' first second = record {
  none = ap (λ (l : List ℕ). l ++ b) first.none ∙ second.none;
  still_none = ap (λ (l : List ℕ). l ++ b') first.still_none ∙ second.still_none;
  same = second.same ∙ first.same;
}

-- an item goes behind the bytes
pub item_over : (before after : Vec ℕ) (item rest left : List ℕ) → after.items ≡ before.items ++ item
    → vec_capacity after ≡ vec_capacity before → left ≡ item ++ rest → length item ≤ longest_item → HandsOver before after left rest
item_over before after item rest left put room is short = record {
  items = ap (λ (l : List ℕ). l ++ rest) put ∙ append_assoc before.items item rest
      ∙ ap (λ (l : List ℕ). before.items ++ l) (sym is);
  capacity = room;
  few = omega (arith, ap (λ (l : List ℕ). length l) put, length-append before.items item, short);
}

-- where no byte was put nothing was left
pub put_none : (before after : Vec ℕ) (text left : List ℕ) → Appends before after text → length after.items ≤ length before.items → text ≡ left
    → HadNone before after left []
put_none before after text left put short is =
    let none : text ≡ [] =
    nil_from_length text (omega (arith, ap (λ (l : List ℕ). length l) put.items, length-append before.items text, short)) in
    record {
      none = sym is ∙ none;
      still_none = refl;
      same = put.items ∙ ap (λ (l : List ℕ). before.items ++ l) none ∙ append-nil before.items;
    }

-- ---- what stands behind the parts

fold_on : (start : ℕ) (xs ys : List ℕ) → fold with_byte start (xs ++ ys) ≡ fold with_byte (fold with_byte start xs) ys
fold_on start [] ys = refl
fold_on start (x ∷ xs) ys = fold_on (with_byte start x) xs ys

pub begins_sealed : (profile : Profile) (bytes : List ℕ) → sealed_from profile ONES bytes ≡ sealed profile bytes
begins_sealed Named bytes = refl
begins_sealed Wide bytes = refl

pub goes_on_sealed : (profile : Profile) (sum next : ℕ) (piece rest : List ℕ) → (profile ≡ Named → next ≡ sum)
    → (profile ≡ Wide → next ≡ fold with_byte sum piece)
    → sealed_from profile sum (piece ++ rest) ≡ piece ++ sealed_from profile next rest
goes_on_sealed Named sum next piece rest named wide = refl
goes_on_sealed Wide sum next piece rest named wide =
    let told : List ℕ → List ℕ = λ bytes. u32_bytes (bit_xor (fold with_byte sum bytes) ONES) in
    let folded : fold with_byte sum (piece ++ rest) ≡ fold with_byte next rest =
    fold_on sum piece rest ∙ ap (λ (n : ℕ). fold with_byte n rest) (sym (wide refl)) in
    append_assoc piece rest (told (piece ++ rest)) ∙ ap (λ (n : ℕ). piece ++ (rest ++ u32_bytes (bit_xor n ONES))) folded

pub sealed_fits : (profile : Profile) (sum : ℕ) (bytes : List ℕ) → length (sealed_from profile sum bytes) ≤ length bytes + 4
sealed_fits Named sum bytes = omega arith
sealed_fits Wide sum bytes = omega (arith, length-append bytes (u32_bytes (bit_xor (fold with_byte sum bytes) ONES)))

-- ---- the parts and the fields, one behind the other

-- the fields by their items
abbrev pub ids_in : Option PlaceState → List ℕ
ids_in place = option_map_or (λ (p : PlaceState). flat_map u32_bytes p.played) place []

abbrev pub field_items : Option Times → Option PlaceState → List ℕ
field_items times place =
    front_of_fields times place ++ (option_map_or (flat_map time_bytes) times [] ++ (option_map_or place_head place [] ++ ids_in place))

told_items : (profile : Profile) (times : Option Times) (place : Option PlaceState) → AreSavedTimes profile times → IsSavedPlace profile place
    → told_fields times place ≡ field_items times place
told_items Named None None are good = refl
told_items Named None (Some place) are good = absurd good
told_items Named (Some times) place are good = absurd are
told_items Wide None place are good = absurd are
told_items Wide (Some times) None are good = absurd good
told_items Wide (Some times) (Some place) are good = refl

-- those of a state
pub fields_left : (s : SavedState) → IsSavedState s → field_items s.changed s.place ≡ fields_of s
fields_left s saved =
    sym (fields_told s.profile s.changed s.place saved.changed saved.place ∙ told_items s.profile s.changed s.place saved.changed saved.place)

in_a_row : (head rows entries lists stickers fields : List ℕ)
    → head ++ (rows ++ (entries ++ (lists ++ (stickers ++ fields)))) ≡ (head ++ (rows ++ (entries ++ (lists ++ stickers)))) ++ fields
in_a_row head rows entries lists stickers fields = simp append_assoc

pub parts_left : (s : SavedState)
    → head_bytes s
    ++ (list_bytes (row_bytes s.profile) s.songs
    ++ (list_bytes (entry_bytes s.songs) s.queue.entries
    ++ (list_bytes playlist_bytes s.lists
    ++ (list_bytes sticker_bytes s.stickers
    ++ fields_of s))))
    ≡ with_fields s.profile s.changed s.place (head_bytes s ++ parts_bytes s)
parts_left s =
    in_a_row (head_bytes s) (list_bytes (row_bytes s.profile) s.songs) (list_bytes (entry_bytes s.songs) s.queue.entries)
    (list_bytes playlist_bytes s.lists) (list_bytes sticker_bytes s.stickers) (fields_of s)
    ∙ sym (fields_behind s.profile s.changed s.place (head_bytes s ++ parts_bytes s))
