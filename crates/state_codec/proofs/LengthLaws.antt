-- How many bytes a snapshot has at most.
use Rattle.std.proofs.Common.{◌≡◌, ℕ, ◌+◌, ◌*◌, ◌≤◌, Bool, true, false, eqb, leb, List, [], ◌∷◌, ◌++◌, length, Some, None, refl, sym, subst}
use Rattle.std.proofs.Common.{arith, ◌<◌, ◌^◌, mul-le-mul_right}
use Rattle.std.specs.Prelude.{Option, IsTrue, unwrap_or}
use Rattle.std.specs.List.{AllByRecursion, flat_map, sum_by}
use Rattle.std.specs.Int.{w16, to_le_bytes}
use Rattle.std.specs.Str.{is_utf8}
use Rattle.std.proofs.lemmas.Bool.{leb-true}
use Rattle.std.proofs.lemmas.List.{append-nil, length-append}
use Rattle.std.proofs.lemmas.List.Concat.{length-flat_map}
use Rattle.std.proofs.lemmas.List.Sums.{sum_by-le, sum_by-cons}
use Rattle.play_queue.specs.declared.entry.Entry.{Entry}
use Rattle.player_core.specs.Place.{PlaceState, no_place}
use Rattle.player_core.specs.declared.options.Options.{Options}
use Rattle.player_core.specs.declared.options.Single.{Single}
use Rattle.player_core.specs.declared.options.Single.TheVariants.{Off, On, Oneshot}
use Rattle.profile.specs.declared.profile.Profile.{Profile}
use Rattle.profile.specs.declared.profile.Profile.TheVariants.{Named, Wide}
use Rattle.song_files.specs.declared.folder.FileStamp.{FileStamp}
use Rattle.song_db.specs.Row.{Row, six_texts, tags_size, is_kept_by}
use Rattle.song_db.specs.Uri.{is_uri}
use Rattle.song_db.specs.declared.change.RowChange.{RowChange}
use Rattle.song_db.specs.declared.change.RowChange.TheVariants.{Put, Drop}
use Rattle.stickers.specs.Sticker.{Sticker, IsSticker}
use Rattle.stickers.specs.Value.{is_good_value}
use Rattle.stored_lists.specs.Lists.{Stored, total}
use Rattle.stored_lists.specs.Name.{is_good_name}
use Rattle.stored_lists.specs.Songs.{AreUris}
use Rattle.state_codec.specs.Changes.{IsSavedRow, IsChange, AreChanges, is_kept_change, are_kept}
use Rattle.state_codec.specs.declared.op.Op.TheVariants.{Batch}
use Rattle.state_codec.specs.Longest.{longest_told, longest_row, longest_batch, longest_sticker, longest_end, longest_snapshot}
use Rattle.state_codec.specs.ReadingRows.{Told}
use Rattle.state_codec.specs.SavedState.{SavedState, AreSavedTimes, IsSavedPlace, IsSavedState}
use Rattle.state_codec.specs.Sealed.{checksum_len, sealed}
use Rattle.state_codec.specs.Spelling.{options_bytes, entry_bytes, playlist_bytes, sticker_bytes, head_bytes, parts_bytes, saved_bytes}
use Rattle.state_codec.specs.Spelling.{with_fields}
use Rattle.state_codec.specs.SpellingFields.{byte_bytes, u32_bytes, u64_bytes, flag_bytes, single_bytes, text_bytes, list_bytes}
use Rattle.state_codec.specs.SpellingOps.{op_bytes}
use Rattle.state_codec.specs.SpellingTimes.{fields_bytes}
use Rattle.stored_lists.specs.Times.{Times}
use Rattle.state_codec.specs.SpellingRows.{tag_bytes, stamp_bytes, numbered_bytes, texts_bytes, row_fields_bytes, row_bytes, change_bytes}
use Rattle.state_codec.proofs.FieldLaws.{both_true}
use Rattle.state_codec.proofs.TimeFields.{fields_short}
use Rattle.state_codec.proofs.RowLaws.{IsKeptRow, fields_fit}
use Rattle.state_codec.proofs.SealedLaws.{sealed_len}
use Rattle.state_codec.proofs.TagLaws.{IsTextOrNone, tag_text_short, six_good}
use Rattle.state_codec.proofs.ToldLaws.{IsTold, told_text, texts_size}
use Rattle.state_codec.proofs.Rising.{all_places, all_in_turn, all_weaker}

-- each of them is no longer than this, so all together aren't longer than so many of these
pub flat_short : {X : Type 0} (f : X → List ℕ) (m : ℕ) (xs : List X) → AllByRecursion (λ x. length (f x) ≤ m) xs
    → length (flat_map f xs) ≤ length xs * m
flat_short f m xs short = subst (λ (n : ℕ). n ≤ length xs * m) (sym (length-flat_map f xs))
    (sum_by-le (λ x. length (f x)) m xs (all_places (λ x. length (f x) ≤ m) xs short))

pub text_len : (text : List ℕ) → length (text_bytes text) ≡ 2 + length text
text_len text = length-append (to_le_bytes w16 (length text)) text

pub list_len : {X : Type 0} (f : X → List ℕ) (xs : List X) → length (list_bytes f xs) ≡ 4 + length (flat_map f xs)
list_len f xs = length-append (u32_bytes (length xs)) (flat_map f xs)

pub uri_len : (uri : List ℕ) → is_uri uri ≡ true → length (text_bytes uri) ≤ 1026
uri_len uri form =
    let utf8 = both_true (is_utf8 uri) _ form in
    let len = both_true (leb (length uri) 1024) _ utf8.1 in
    omega (arith, text_len uri, leb-true _ _ len.0)

-- ---- rows

tag_len : (tag : Option (List ℕ)) → IsTextOrNone tag → length (tag_bytes tag) ≤ 515
tag_len None good = omega arith
tag_len (Some text) good = omega (arith, text_len text, tag_text_short text good)

stamp_len : (stamp : Option FileStamp) → length (stamp_bytes stamp) ≤ 17
stamp_len None = omega arith
stamp_len (Some stamp) = omega arith

told_len : (profile : Profile) (told : Told) → IsTold profile told → length (told_text profile told) ≤ longest_told profile
told_len Named told fits =
    flat_short tag_bytes 515 (six_texts told.1)
    (all_weaker IsTextOrNone (λ tag. length (tag_bytes tag) ≤ 515) tag_len (six_texts told.1) (six_good told.1 fits.1.0))
told_len Wide told fits =
    let size : tags_size told.1 ≤ 30000 = leb-true _ _ fits.1.1 in
    omega (
      arith,
      length-append (stamp_bytes told.0) (texts_bytes told.1),
      stamp_len told.0,
      length-append (byte_bytes (length told.1)) (flat_map numbered_bytes told.1),
      texts_size told.1,
      size,
    )

pub row_len : (profile : Profile) (row : Row) → IsKeptRow profile row → length (row_bytes profile row) ≤ longest_row profile
row_len profile row good =
    let fits = fields_fit profile row good in
    let told = told_text profile (row.stamp, row.tags) in
    let few : length told ≤ longest_told profile = told_len profile (row.stamp, row.tags) fits.0.1.1.1.1 in
    let d = length-append (u64_bytes row.frames) told in
    let c = length-append (u64_bytes row.first_byte) (u64_bytes row.frames ++ told) in
    let b = length-append (byte_bytes row.channels) (u64_bytes row.first_byte ++ (u64_bytes row.frames ++ told)) in
    let a = length-append (u32_bytes row.rate) (byte_bytes row.channels ++ (u64_bytes row.first_byte ++ (u64_bytes row.frames ++ told))) in
    omega (arith, length-append (text_bytes row.uri) (row_fields_bytes profile row), uri_len row.uri fits.1, a, b, c, d, few)

change_len : (profile : Profile) (change : RowChange) → IsChange change → is_kept_change profile change ≡ true
    → length (change_bytes profile change) ≤ 1 + longest_row profile
change_len profile (Put row) good kept = omega (arith, row_len profile row (good, kept))
change_len profile (Drop uri) good kept = omega (arith, uri_len uri good)

changes_len : (profile : Profile) (changes : List RowChange) → AllByRecursion IsChange changes → are_kept profile changes ≡ true
    → AllByRecursion (λ change. length (change_bytes profile change) ≤ 1 + longest_row profile) changes
changes_len profile [] good kept = tt
changes_len profile (change ∷ changes) good kept =
    let b = both_true (is_kept_change profile change) (are_kept profile changes) kept in
    (change_len profile change good.0 b.0, changes_len profile changes good.1 b.1)

pub batch_len : (profile : Profile) (changes : List RowChange) → AreChanges changes → are_kept profile changes ≡ true
    → length (op_bytes profile (Batch changes)) ≤ longest_batch profile
batch_len profile changes good kept =
    let each : length (flat_map (change_bytes profile) changes) ≤ length changes * (1 + longest_row profile) =
    flat_short (change_bytes profile) (1 + longest_row profile) changes
    (changes_len profile changes (all_in_turn IsChange changes good.each) kept) in
    let few : length changes ≤ 64 = leb-true _ _ (both_true (leb 1 (length changes)) (leb (length changes) 64) good.count).1 in
    let most : length changes * (1 + longest_row profile) ≤ 64 * (1 + longest_row profile) = mul-le-mul_right (1 + longest_row profile) few in
    omega (arith, length-append (byte_bytes (length changes)) (flat_map (change_bytes profile) changes), each, most)

-- ---- playlists

songs_len : (songs : List (List ℕ)) → AreUris songs → length (list_bytes text_bytes songs) ≤ 4 + length songs * 1026
songs_len songs good =
    omega (
      arith,
      list_len text_bytes songs,
      flat_short text_bytes 1026 songs (all_weaker (λ uri. IsTrue (is_uri uri)) (λ uri. length (text_bytes uri) ≤ 1026) uri_len songs
          (all_in_turn (λ uri. IsTrue (is_uri uri)) songs good)),
    )

pub name_len : (name : List ℕ) → is_good_name name ≡ true → length name ≤ 256
name_len name good =
    let parts = both_true (Rattle.std.specs.Prelude.not (eqb (length name) 0)) _ good in
    leb-true _ _ (both_true (leb (length name) 256) _ parts.1).0

pub lists_len : (lists : Stored) → AllByRecursion (λ list. IsTrue (is_good_name list.0) × AreUris list.1) lists
    → length (flat_map playlist_bytes lists) ≤ length lists * 262 + total lists * 1026
lists_len [] good = omega arith
lists_len (list ∷ lists) good =
    let count : List ℕ × List (List ℕ) → ℕ = λ l. length l.1 in
    omega (
      arith,
      length-append (playlist_bytes list) (flat_map playlist_bytes lists),
      length-append (text_bytes list.0) (list_bytes text_bytes list.1),
      text_len list.0,
      name_len list.0 good.0.0,
      songs_len list.1 good.0.1,
      sum_by-cons count list lists,
      lists_len lists good.1,
    )

-- ---- entries and stickers

pub value_len : (value : List ℕ) → is_good_value value ≡ true → length value ≤ 4096
value_len value good = leb-true _ _ good

entry_len : (songs : List Row) (entries : List Entry) → AllByRecursion (λ entry. length (entry_bytes songs entry) ≤ 13) entries
entry_len songs [] = tt
entry_len songs (entry ∷ entries) = (omega arith, entry_len songs entries)

pub sticker_len : (s : Sticker) → IsSticker s → length (sticker_bytes s) ≤ longest_sticker
sticker_len s good =
    let parts = both_true (Rattle.std.specs.Prelude.not (eqb (length s.name) 0)) _ good.good_name in
    let name : length s.name ≤ 256 = leb-true _ _ (both_true (leb (length s.name) 256) _ parts.1).0 in
    omega (
      arith,
      length-append (text_bytes s.uri) (text_bytes s.name ++ text_bytes s.value),
      length-append (text_bytes s.name) (text_bytes s.value),
      uri_len s.uri good.good_uri,
      text_len s.name,
      name,
      text_len s.value,
      value_len s.value good.good_value,
    )

-- ---- the head

flag_len : (on : Bool) → length (flag_bytes on) ≡ 1
flag_len false = refl
flag_len true = refl

single_len : (value : Single) → length (single_bytes value) ≡ 1
single_len Off = refl
single_len On = refl
single_len Oneshot = refl

options_len : (o : Options) → length (options_bytes o) ≡ 4
options_len o =
    omega (
      arith,
      length-append (flag_bytes o.repeat) (flag_bytes o.random ++ (single_bytes o.single ++ single_bytes o.consume)),
      length-append (flag_bytes o.random) (single_bytes o.single ++ single_bytes o.consume),
      length-append (single_bytes o.single) (single_bytes o.consume),
      flag_len o.repeat,
      flag_len o.random,
      single_len o.single,
      single_len o.consume,
    )

pub head_len : (s : SavedState) → IsSavedState s → length (head_bytes s) ≡ 53
head_len s good =
    let r4 = options_bytes s.options in
    let r3 = byte_bytes s.volume ++ r4 in
    let r2 = u32_bytes s.queue.next_id ++ r3 in
    let r1 = u32_bytes s.queue.version ++ r2 in
    let r0 = u64_bytes s.order ++ r1 in
    let key : length s.key ≡ 32 = good.key_len in
    omega (
      arith,
      length-append s.key r0,
      key,
      length-append (u64_bytes s.order) r1,
      length-append (u32_bytes s.queue.version) r2,
      length-append (u32_bytes s.queue.next_id) r3,
      length-append (byte_bytes s.volume) r4,
      options_len s.options,
    )

-- the fields of times and a place, where both are kept
abbrev pub told_fields : Option Times → Option PlaceState → List ℕ
told_fields None place = []
told_fields (Some times) None = []
told_fields (Some times) (Some place) = fields_bytes times place

pub fields_told : (profile : Profile) (times : Option Times) (place : Option PlaceState) → AreSavedTimes profile times
    → IsSavedPlace profile place → with_fields profile times place [] ≡ told_fields times place
fields_told Named None place are good = refl
fields_told Named (Some times) place are good = absurd are
fields_told Wide None place are good = absurd are
fields_told Wide (Some times) None are good = absurd good
fields_told Wide (Some times) (Some place) are good = refl

-- and stand behind the parts
pub fields_behind : (profile : Profile) (times : Option Times) (place : Option PlaceState) (bytes : List ℕ)
    → with_fields profile times place bytes ≡ bytes ++ with_fields profile times place []
fields_behind Named times place bytes = sym (append-nil bytes)
fields_behind Wide times place bytes = refl

-- what stands behind the parts
pub end_len : (profile : Profile) (times : Option Times) (place : Option PlaceState) (bytes : List ℕ)
    → length (sealed profile (with_fields profile times place bytes))
    ≡ length bytes + length (with_fields profile times place []) + checksum_len profile
end_len Named times place bytes = omega arith
end_len Wide times place bytes =
    let fields = fields_bytes (unwrap_or times []) (unwrap_or place no_place) in
    omega (arith, sealed_len Wide (bytes ++ fields), length-append bytes fields)

end_short : (profile : Profile) (times : Option Times) (place : Option PlaceState) → AreSavedTimes profile times → IsSavedPlace profile place
    → length (with_fields profile times place []) + checksum_len profile ≤ longest_end profile
end_short Named times place are good = omega arith
end_short Wide None place are good = absurd are
end_short Wide (Some times) None are good = absurd good
end_short Wide (Some times) (Some place) are good = omega (arith, fields_short times place are good)

pub rows_len : (profile : Profile) (rows : List Row) → AllByRecursion IsSavedRow rows → AllByRecursion (λ row. IsTrue (is_kept_by profile row)) rows
    → AllByRecursion (λ row. length (row_bytes profile row) ≤ longest_row profile) rows
rows_len profile [] good kept = tt
rows_len profile (row ∷ rows) good kept = (row_len profile row (good.0, kept.0), rows_len profile rows good.1 kept.1)

-- the head and the four parts, where a row takes so many bytes at most
parts_short : (s : SavedState) (row : ℕ) → IsSavedState s → length (flat_map (row_bytes s.profile) s.songs) ≤ length s.songs * row
    → length s.songs * row ≤ 65536 * row
    → length (head_bytes s ++ parts_bytes s) ≤ 69 + 65536 * row + 65536 * 13 + (1024 * 262 + 65536 * 1026) + 65536 * 5382
parts_short s row good rows_short row_count =
    let rows = list_bytes (row_bytes s.profile) s.songs in
    let entries = list_bytes (entry_bytes s.songs) s.queue.entries in
    let lists = list_bytes playlist_bytes s.lists in
    let stickers = list_bytes sticker_bytes s.stickers in
    let entries_short : length (flat_map (entry_bytes s.songs) s.queue.entries) ≤ length s.queue.entries * 13 =
    flat_short (entry_bytes s.songs) 13 s.queue.entries (entry_len s.songs s.queue.entries) in
    let lists_short = lists_len s.lists good.lists.within.good_lists in
    let stickers_short : length (flat_map sticker_bytes s.stickers) ≤ length s.stickers * 5382 =
    flat_short sticker_bytes longest_sticker s.stickers
    (all_weaker IsSticker (λ t. length (sticker_bytes t) ≤ longest_sticker) sticker_len s.stickers good.stickers.within.good) in
    let entry_count : length s.queue.entries ≤ 65536 = good.queue.queue.few in
    let list_count : length s.lists ≤ 1024 = good.lists.within.few_lists in
    let song_count : total s.lists ≤ 65536 = good.lists.within.few_entries in
    let sticker_count : length s.stickers ≤ 65536 = good.stickers.within.few in
    omega (
      arith,
      length-append (head_bytes s) (parts_bytes s),
      head_len s good,
      length-append rows (entries ++ (lists ++ stickers)),
      length-append entries (lists ++ stickers),
      length-append lists stickers,
      list_len (row_bytes s.profile) s.songs,
      list_len (entry_bytes s.songs) s.queue.entries,
      list_len playlist_bytes s.lists,
      list_len sticker_bytes s.stickers,
      rows_short,
      row_count,
      entries_short,
      lists_short,
      stickers_short,
      entry_count,
      list_count,
      song_count,
      sticker_count,
    )

longest_is : (profile : Profile)
    → 69 + 65536 * longest_row profile + 65536 * 13 + (1024 * 262 + 65536 * 1026) + 65536 * 5382 + longest_end profile
    ≡ longest_snapshot profile
longest_is Named = refl
longest_is Wide = refl

pub snapshot_len : (s : SavedState) → IsSavedState s → length (saved_bytes s) ≤ longest_snapshot s.profile
snapshot_len s good =
    let row = longest_row s.profile in
    let rows_short : length (flat_map (row_bytes s.profile) s.songs) ≤ length s.songs * row =
    flat_short (row_bytes s.profile) row s.songs
    (rows_len s.profile s.songs (all_in_turn IsSavedRow s.songs good.songs.rows)
    (all_in_turn (λ row. IsTrue (is_kept_by s.profile row)) s.songs good.kept)) in
    let row_count : length s.songs * row ≤ 65536 * row = mul-le-mul_right row good.songs.database.few in
    omega (
      arith,
      end_len s.profile s.changed s.place (head_bytes s ++ parts_bytes s),
      end_short s.profile s.changed s.place good.changed good.place,
      parts_short s row good rows_short row_count,
      longest_is s.profile,
    )

pub snapshot_counted : (profile : Profile) → longest_snapshot profile < 2 ^ 32
snapshot_counted Named = omega arith
snapshot_counted Wide = omega arith
