-- What every saved state keeps is kept by each op.
use Rattle.std.proofs.Common.{◌≡◌, ℕ, ◌+◌, ◌-◌, ◌<◌, ◌≤◌, ◌==◌, Bool, true, false, cond, not, ◌||◌, ◌&&◌, List, [], ◌++◌, length, Option}
use Rattle.std.proofs.Common.{Some, None, is_some, IsTrue, nat_lt, nat_le, refl, ◌∙◌, arith}
use Rattle.std.specs.Option.{option_map}
use Rattle.std.specs.Str.{is_utf8}
use Rattle.std.proofs.lemmas.Bool.{eqb-false}
use Rattle.std.proofs.lemmas.Bool.Decides.{nat_tests}
use Rattle.std.proofs.lemmas.List.{length-map, length-append}
use Rattle.std.proofs.lemmas.List.Elements.{All-append}
use Rattle.std.proofs.lemmas.List.Edits.{length-between}
use Rattle.play_queue.specs.declared.entry.Entry.{Entry}
use Rattle.play_queue.specs.Entries.{block, deleted}
use Rattle.play_queue.specs.Limits.{MAX_ENTRIES as QUEUE_ENTRIES, MAX_ID}
use Rattle.play_queue.specs.Queue.{QueueState, ruled}
use Rattle.play_queue.specs.Refused.{add_refusal as queue_add_refusal, range_refusal, move_refusal as queue_move_refusal, swap_refusal}
use Rattle.player_core.specs.Place.{PlaceState, place_left}
use Rattle.player_core.specs.Words.{word, next_order}
use Rattle.song_db.specs.Scan.{drops_of}
use Rattle.song_db.specs.Change.{has_uri}
use Rattle.song_db.specs.Uri.{is_uri}
use Rattle.stored_lists.specs.declared.refusal.ListsError.TheVariants.{ListsFull}
use Rattle.stored_lists.specs.Limits.{MAX_LISTS, MAX_ENTRIES}
use Rattle.stored_lists.specs.Lists.{Stored, songs_of, songs_or_none, total, added_to, with_songs, is_full_for, name_refusal}
use Rattle.stored_lists.specs.Lists.{new_list_refusal, add_refusal}
use Rattle.stored_lists.specs.Name.{IsListName, is_good_name}
use Rattle.stored_lists.specs.Songs.{Uris, AreUris, without_range, moved}
use Rattle.stored_lists.specs.Times.{Times, timed}
use Rattle.stored_lists.proofs.Absent.{songs_or_none_present}
use Rattle.stored_lists.proofs.Counted.{counted_uris, counted_fits, length-without_range, length-moved, uris-without_range, uris-moved}
use Rattle.stored_lists.proofs.Counted.{uris-none}
use Rattle.stickers.specs.Limits.{MAX_STICKERS}
use Rattle.stickers.specs.Sticker.{Sticker, value_at, set_refusal}
use Rattle.stickers.specs.Name.{is_good_name as is_good_sticker_name}
use Rattle.state_codec.specs.declared.op.Op.{Op}
use Rattle.state_codec.specs.declared.op.Op.TheVariants as ops
use Rattle.state_codec.specs.declared.op.list_op.ListOp.{ListOp}
use Rattle.state_codec.specs.declared.op.list_op.ListOp.TheVariants as lists
use Rattle.state_codec.specs.declared.op.queue_op.QueueOp.{QueueOp}
use Rattle.state_codec.specs.declared.op.queue_op.QueueOp.TheVariants as queue
use Rattle.state_codec.specs.declared.op.sticker_op.StickerOp.{StickerOp}
use Rattle.state_codec.specs.declared.op.sticker_op.StickerOp.TheVariants as stickers
use Rattle.state_codec.specs.declared.refusal.OpRefusal.{OpRefusal}
use Rattle.state_codec.specs.Applied.{refusal_of, after}
use Rattle.state_codec.specs.Ops.{IsOp, IsQueueOp, IsListOp, IsStickerOp}
use Rattle.state_codec.specs.OpsLists.{leaves_lists, list_refusal, lists_after, lists_edited, uris_of}
use Rattle.state_codec.specs.OpsQueue.{queue_refusal, after_queue, range, words_for}
use Rattle.state_codec.specs.Changes.{are_kept}
use Rattle.state_codec.specs.OpsRows.{if_kept, no_range}
use Rattle.state_codec.specs.OpsSongs.{have_rows, uris_at, if_named}
use Rattle.state_codec.specs.OpsStickers.{sticker_refusal, stickers_after}
use Rattle.state_codec.specs.OpsTimes.{list_times, named_by}
use Rattle.state_codec.specs.SavedState.{SavedState, IsSavedPlace, IsSavedState, IsSavedQueue, AreSavedLists, AreSavedStickers}
use Rattle.state_codec.specs.SavedState.{AreSavedTimes}
use Rattle.state_codec.specs.Text.{is_text}
use Rattle.state_codec.proofs.Edits.{length-uris_at}
use Rattle.state_codec.proofs.KeptLists.{kept_with_list, kept_with_songs, kept_without_list, kept_renamed}
use Rattle.state_codec.proofs.KeptQueue.{kept_added, kept_deleted, kept_moved, kept_swapped, kept_shuffled, kept_prioritized}
use Rattle.state_codec.proofs.KeptRows.{kept_songs, kept_by_profile, kept_batch, stickers_left}
use Rattle.state_codec.proofs.KeptStickers.{kept_filter, kept_set}
use Rattle.state_codec.proofs.PlaceLaws.{kept_saved_left, kept_saved_place}
use Rattle.state_codec.proofs.TimeLaws.{kept_list_times, kept_timed}
use Rattle.state_codec.proofs.Named.{uris_have_rows, are_uris, entries_are_uris}

pub map_none : {X Y : Type 0} (f : X → Y) (o : Option X) → option_map f o ≡ None → o ≡ None
map_none f None none = refl
map_none f (Some x) none = absurd (cc)

pub named_none : (b : Bool) (o : Option OpRefusal) → if_named b o ≡ None → (b ≡ true) × (o ≡ None)
named_none true o none = (refl, none)
named_none false o none = absurd (cc)

pub cond_none : {X : Type 0} (b : Bool) (x : X) (rest : Option X) → cond b (Some x) rest ≡ None → (b ≡ false) × (rest ≡ None)
cond_none true x rest none = absurd (cc)
cond_none false x rest none = (refl, none)

-- a batch that isn't refused has rows that the profile keeps
pub kept_none : (b : Bool) (o : Option OpRefusal) → if_kept b o ≡ None → (b ≡ true) × (o ≡ None)
kept_none true o none = (refl, none)
kept_none false o none = absurd (cc)

pub or_false : (a b : Bool) → (a || b) ≡ false → (a ≡ false) × (b ≡ false)
or_false true b none = absurd (cc)
or_false false b none = (refl, none)

pub and_true : (a b : Bool) → (a && b) ≡ true → (a ≡ true) × (b ≡ true)
and_true true b both = (refl, both)
and_true false b both = absurd (cc)

pub not_less : (a b : ℕ) → nat_lt a b ≡ false → b ≤ a
not_less a b none = grind (arith, nat_tests)

pub not_le : (a b : ℕ) → nat_le a b ≡ false → b < a
not_le a b none = grind (arith, nat_tests)

pub not_none : (b : Bool) → not b ≡ false → b ≡ true
not_none true none = refl
not_none false none = absurd (cc)

-- a range that isn't refused
pub range_within : (entries : List Entry) (start end : ℕ) → range_refusal entries start end ≡ None → (start ≤ end) × (end ≤ length entries)
range_within entries start end none =
    let parts = or_false _ _ (cond_none _ _ _ none).0 in
    (not_less end start parts.0, not_less (length entries) end parts.1)

pub move_forward : (entries : List Entry) (start end to : ℕ) → queue_move_refusal entries start end to ≡ None → start ≤ end
move_forward entries start end to none = not_less end start (or_false _ _ (cond_none _ _ _ none).0).0

pub swap_within : (entries : List Entry) (one other : ℕ) → swap_refusal entries one other ≡ None
    → (one < length entries) × (other < length entries)
swap_within entries one other none =
    let parts = or_false _ _ (cond_none _ _ _ none).0 in
    (not_le (length entries) one parts.0, not_le (length entries) other parts.1)

pub add_within : (q : QueueState) (at n : ℕ) → queue_add_refusal q at n ≡ None
    → (length q.entries + n ≤ QUEUE_ENTRIES) × (q.next_id + n ≤ MAX_ID + 1)
add_within q at n none =
    let place = cond_none _ _ _ none in
    let few = cond_none _ _ _ place.1 in
    let ids = cond_none _ _ _ few.1 in
    (not_less QUEUE_ENTRIES (length q.entries + n) few.0, not_less (MAX_ID + 1) (q.next_id + n) ids.0)

words_drawn : (key : List ℕ) (order : ℕ) (entries : List Entry) (start end : ℕ) → start ≤ end → end ≤ length entries
    → length (words_for key order entries start end) ≡ end - start
words_drawn key order entries start end forward within = length-map (block entries start end) (λ (entry : Entry). word key order entry.id)
    ∙ length-between entries start end within

with_queue : (s : SavedState) (q : QueueState) (order : ℕ) → IsSavedState s → IsSavedQueue s.songs q → order < 18446744073709551616
    → IsSavedState (record s { order = order; queue = q })
with_queue s q order saved kept low = record {
  key_len = saved.key_len;
  key_bytes = saved.key_bytes;
  order = low;
  volume = saved.volume;
  songs = saved.songs;
  kept = saved.kept;
  queue = kept;
  lists = saved.lists;
  stickers = saved.stickers;
  place = saved.place;
  changed = saved.changed;
}

pub with_place : (s : SavedState) (place : Option PlaceState) → IsSavedState s → IsSavedPlace s.profile place
    → IsSavedState (record s { place = place })
with_place s place saved kept = record {
  key_len = saved.key_len;
  key_bytes = saved.key_bytes;
  order = saved.order;
  volume = saved.volume;
  songs = saved.songs;
  kept = saved.kept;
  queue = saved.queue;
  lists = saved.lists;
  stickers = saved.stickers;
  place = kept;
  changed = saved.changed;
}

pub with_times : (s : SavedState) (times : Option Times) → IsSavedState s → AreSavedTimes s.profile times
    → IsSavedState (record s { changed = times })
with_times s times saved kept = record {
  key_len = saved.key_len;
  key_bytes = saved.key_bytes;
  order = saved.order;
  volume = saved.volume;
  songs = saved.songs;
  kept = saved.kept;
  queue = saved.queue;
  lists = saved.lists;
  stickers = saved.stickers;
  place = saved.place;
  changed = kept;
}

next_low : (order : ℕ) → order < 18446744073709551616 → next_order order < 18446744073709551616
next_low order low = of (order == 18446744073709551615) refl
  where
    of : (b : Bool) → (order == 18446744073709551615) ≡ b → cond b 0 (order + 1) < 18446744073709551616
    of true last = omega arith
    of false other = let apart = eqb-false order 18446744073709551615 other in omega arith

pub kept_queue : (op : QueueOp) (s : SavedState) → IsQueueOp op → IsSavedState s → queue_refusal op s ≡ None
    → IsSavedState (after_queue op s)
kept_queue (queue.Add at rows) s form saved none =
    let parts = named_none (have_rows s.songs rows) _ none in
    let within = add_within s.queue at (length rows) (map_none _ _ parts.1) in
    let long : length (uris_at s.songs rows) ≡ length rows = length-uris_at s.songs rows parts.0 in
    with_queue s _ s.order saved (kept_added s.songs s.queue at (uris_at s.songs rows) saved.queue (omega (arith, within.0))
    (omega (arith, within.1)) (uris_have_rows s.songs rows)) saved.order
kept_queue (queue.Delete start end) s form saved none =
    with_place (record s { queue = ruled s.queue (deleted s.queue.entries start end) [] })
    (option_map (place_left (range start end) [] s.queue.entries) s.place)
    (with_queue s _ s.order saved (kept_deleted s.songs s.queue start end saved.queue
    (range_within s.queue.entries start end (map_none _ _ none)).0) saved.order)
    (kept_saved_left (range start end) [] s.queue.entries s.profile s.place saved.place)
kept_queue (queue.Move start end to) s form saved none =
    with_queue s _ s.order saved (kept_moved s.songs s.queue start end to saved.queue
    (move_forward s.queue.entries start end to (map_none _ _ none))) saved.order
kept_queue (queue.Swap one other) s form saved none =
    let within = swap_within s.queue.entries one other (map_none _ _ none) in
    with_queue s _ s.order saved (kept_swapped s.songs s.queue one other saved.queue within.0 within.1) saved.order
kept_queue (queue.Shuffle start end) s form saved none =
    let within = range_within s.queue.entries start end (map_none _ _ none) in
    with_queue s _ (next_order s.order) saved
    (kept_shuffled s.songs s.queue start end (words_for s.key (next_order s.order) s.queue.entries start end) saved.queue within.0
    within.1 (words_drawn s.key (next_order s.order) s.queue.entries start end within.0 within.1)) (next_low s.order saved.order)
kept_queue (queue.Prio priority ranges) s form saved none =
    with_queue s _ s.order saved (kept_prioritized s.songs s.queue ranges priority saved.queue form.0) saved.order

pub is_none : {X : Type 0} (o : Option X) → is_some o ≡ false → o ≡ None
is_none None absent = refl
is_none (Some x) absent = absurd (cc)

-- the songs of a playlist that is there
pub found_songs : (all : Stored) (name : List ℕ) → is_some (songs_of all name) ≡ true → songs_of all name ≡ Some (songs_or_none all name)
found_songs all name present = of (songs_of all name) refl present
  where
    of : (o : Option Uris) → songs_of all name ≡ o → is_some o ≡ true → songs_of all name ≡ Some (songs_or_none all name)
    of None found present = absurd (cc)
    of (Some songs) found present = rw (songs_or_none_present all name songs found) found

pub there_from : (all : Stored) (name : List ℕ) → name_refusal all name ≡ None → songs_of all name ≡ Some (songs_or_none all name)
there_from all name none = found_songs all name (not_none _ (cond_none _ _ _ (cond_none _ _ _ none).1).0)

new_within : (all : Stored) (n : ℕ) → new_list_refusal all n ≡ None → (length all < MAX_LISTS) × (total all + n ≤ MAX_ENTRIES)
new_within all n none =
    let parts = or_false _ _ (cond_none _ _ _ none).0 in
    (not_le MAX_LISTS (length all) parts.0, not_less MAX_ENTRIES (total all + n) parts.1)

pub utf8_of : (name : List ℕ) → IsTrue (is_text name) → IsTrue (is_utf8 name)
utf8_of name form = (and_true (is_utf8 name) _ form).0

pub with_lists : (s : SavedState) (all : Stored) → IsSavedState s → AreSavedLists all → IsSavedState (record s { lists = all })
with_lists s all saved kept = record {
  key_len = saved.key_len;
  key_bytes = saved.key_bytes;
  order = saved.order;
  volume = saved.volume;
  songs = saved.songs;
  kept = saved.kept;
  queue = saved.queue;
  lists = kept;
  stickers = saved.stickers;
  place = saved.place;
  changed = saved.changed;
}

-- new songs for a playlist that is there
with_fewer : (all : Stored) (name : List ℕ) (new : Uris) → AreSavedLists all → AreUris new
    → songs_of all name ≡ Some (songs_or_none all name) → length new ≤ length (songs_or_none all name)
    → AreSavedLists (with_songs all name new)
with_fewer all name new saved uris found fewer =
    let old = songs_or_none all name in
    let fits : length old ≤ total all = counted_fits all (total all) name old (record { counted = refl; within = saved.within }) found in
    kept_with_songs all name old new (total all + length new - length old) saved uris found (omega arith)
    (omega (arith, saved.within.few_entries))

old_uris : (all : Stored) (name : List ℕ) → AreSavedLists all → songs_of all name ≡ Some (songs_or_none all name)
    → AreUris (songs_or_none all name)
old_uris all name saved found = counted_uris all (total all) name (songs_or_none all name)
    (record { counted = refl; within = saved.within }) found

kept_extended : (all : Stored) (name : List ℕ) (songs : Uris) → AreSavedLists all → IsTrue (is_utf8 name) → AreUris songs
    → add_refusal all name (length songs) ≡ None → AreSavedLists (added_to (songs_of all name) all name songs)
kept_extended all name songs saved text uris none = of (songs_of all name) refl named.1
  where
    named : (not (is_good_name name) ≡ false)
        × ((cond (is_some (songs_of all name)) (cond (is_full_for all (length songs)) (Some ListsFull) None)
        (new_list_refusal all (length songs))) ≡ None)
    named = cond_none _ _ _ none

    of : (o : Option Uris) → songs_of all name ≡ o
        → (cond (is_some o) (cond (is_full_for all (length songs)) (Some ListsFull) None) (new_list_refusal all (length songs))) ≡ None
        → AreSavedLists (added_to o all name songs)
    of None free none =
        let within = new_within all (length songs) none in
        kept_with_list all name songs saved (not_none _ named.0) text uris free within.0 within.1
    of (Some old) found none =
        let room = not_less MAX_ENTRIES (total all + length songs) (cond_none _ _ _ none).0 in
        let same : songs_of all name ≡ Some old = found in
        let olds : AreUris old = counted_uris all (total all) name old (record { counted = refl; within = saved.within }) found in
        kept_with_songs all name old (old ++ songs) (total all + length songs) saved
        (All-append (λ uri. IsTrue (is_uri uri)) old songs olds uris) found (omega (arith, length-append old songs)) room

pub kept_list : (op : ListOp) (s : SavedState) → IsListOp op → IsSavedState s → list_refusal op s ≡ None → AreSavedLists (lists_after op s)
kept_list (lists.Save name) s form saved none =
    let named = cond_none _ _ _ (map_none _ _ none) in
    let free = cond_none _ _ _ named.1 in
    let within = new_within s.lists (length s.queue.entries) free.1 in
    let long : length (uris_of s.queue.entries) ≡ length s.queue.entries = length-map s.queue.entries (λ (entry : Entry). entry.uri) in
    kept_with_list s.lists name (uris_of s.queue.entries) saved.lists (not_none _ named.0) (utf8_of name form)
    (entries_are_uris s.songs s.queue.entries saved.songs.rows saved.queue.entries) (is_none _ free.0) within.0
    (omega (arith, within.1))
kept_list (lists.Add name rows) s form saved none =
    let parts = named_none (have_rows s.songs rows) _ none in
    let long : length (uris_at s.songs rows) ≡ length rows = length-uris_at s.songs rows parts.0 in
    let fits : add_refusal s.lists name (length (uris_at s.songs rows)) ≡ None = rw long (map_none _ _ parts.1) in
    kept_extended s.lists name (uris_at s.songs rows) saved.lists (utf8_of name form.0)
    (are_uris s.songs (uris_at s.songs rows) saved.songs.rows (uris_have_rows s.songs rows)) fits
kept_list (lists.Remove name start end) s form saved none =
    let named = cond_none _ _ _ (map_none _ _ none) in
    let there = cond_none _ _ _ named.1 in
    let found = found_songs s.lists name (not_none _ there.0) in
    let range = or_false _ _ (cond_none _ _ _ there.1).0 in
    let old = songs_or_none s.lists name in
    let fewer = length-without_range old start end (not_less end start range.0) (not_less (length old) end range.1) in
    with_fewer s.lists name (without_range old start end) saved.lists
    (uris-without_range old start end (old_uris s.lists name saved.lists found)) found (omega arith)
kept_list (lists.Move name from to) s form saved none =
    let named = cond_none _ _ _ (map_none _ _ none) in
    let there = cond_none _ _ _ named.1 in
    let found = found_songs s.lists name (not_none _ there.0) in
    let places = or_false _ _ (cond_none _ _ _ there.1).0 in
    let old = songs_or_none s.lists name in
    let in_from = not_le (length old) from places.0 in
    let same = length-moved old from to in_from (not_le (length old) to places.1) in
    with_fewer s.lists name (moved old from to) saved.lists (uris-moved old from to (old_uris s.lists name saved.lists found) in_from) found
    (omega arith)
kept_list (lists.Clear name) s form saved none =
    with_fewer s.lists name [] saved.lists uris-none (there_from s.lists name (map_none _ _ none)) (omega arith)
kept_list (lists.Rename from to) s form saved none =
    let named = cond_none _ _ _ (map_none _ _ none) in
    let there = cond_none _ _ _ named.1 in
    let free = cond_none _ _ _ there.1 in
    let names = or_false _ _ named.0 in
    kept_renamed s.lists from to saved.lists (not_none _ there.0) (is_none _ free.0) (not_none _ names.1) (utf8_of to form.1)
kept_list (lists.Drop name) s form saved none =
    kept_without_list s.lists name (songs_or_none s.lists name) saved.lists (there_from s.lists name (map_none _ _ none))

set_within : (all : List Sticker) (uri name : List ℕ) → set_refusal all uri name ≡ None
    → (IsTrue (is_good_sticker_name name)) × (is_some (value_at all uri name) ≡ false → length all < MAX_STICKERS)
set_within all uri name none =
    let named = cond_none _ _ _ none in (
      not_none _ named.0,
      λ absent. room (is_some (value_at all uri name)) (nat_le MAX_STICKERS (length all)) refl absent
          (cond_none _ _ _ named.1).0,
    )
  where
    room : (b c : Bool) → nat_le MAX_STICKERS (length all) ≡ c → b ≡ false → (not b && c) ≡ false → length all < MAX_STICKERS
    room true c is absent none = absurd (cc)
    room false true is absent none = absurd (cc)
    room false false is absent none = not_le MAX_STICKERS (length all) is

pub kept_sticker : (op : StickerOp) (s : SavedState) → IsStickerOp op → IsSavedState s → sticker_refusal op s ≡ None
    → AreSavedStickers s.songs (stickers_after op s.stickers)
kept_sticker (stickers.Set uri name value) s form saved none =
    let parts = named_none (has_uri s.songs uri) _ none in
    let within = set_within s.stickers uri name (map_none _ _ parts.1) in
    let text = and_true (is_utf8 value) _ form.1.1 in
    kept_set s.songs s.stickers uri name value saved.stickers (record { good_uri = form.0; good_name = within.0; good_value = text.1 })
    (record { has_row = parts.0; name = utf8_of name form.1.0; value = text.0 }) within.1
kept_sticker (stickers.Delete uri name) s form saved none = kept_filter s.songs s.stickers _ saved.stickers
kept_sticker (stickers.DeleteAll uri) s form saved none = kept_filter s.songs s.stickers _ saved.stickers

-- the name that an op tells a time of is one that a playlist may have
pub name_good : (op : ListOp) (s : SavedState) → list_refusal op s ≡ None → IsTrue (is_good_name (named_by op))
name_good (lists.Save name) s none = not_none _ (cond_none _ _ _ (map_none _ _ none)).0
name_good (lists.Add name rows) s none =
    not_none _ (cond_none _ _ _ (map_none _ _ (named_none (have_rows s.songs rows) _ none).1)).0
name_good (lists.Remove name start end) s none = not_none _ (cond_none _ _ _ (map_none _ _ none)).0
name_good (lists.Move name from to) s none = not_none _ (cond_none _ _ _ (map_none _ _ none)).0
name_good (lists.Clear name) s none = not_none _ (cond_none _ _ _ (map_none _ _ none)).0
name_good (lists.Rename from to) s none = not_none _ (or_false _ _ (cond_none _ _ _ (map_none _ _ none)).0).1
name_good (lists.Drop name) s none = not_none _ (cond_none _ _ _ (map_none _ _ none)).0

name_text : (op : ListOp) → IsListOp op → IsTrue (is_utf8 (named_by op))
name_text (lists.Save name) form = utf8_of name form
name_text (lists.Add name rows) form = utf8_of name form.0
name_text (lists.Remove name start end) form = utf8_of name form.0
name_text (lists.Move name from to) form = utf8_of name form.0
name_text (lists.Clear name) form = utf8_of name form
name_text (lists.Rename from to) form = utf8_of to form.1
name_text (lists.Drop name) form = utf8_of name form

named_good : (op : ListOp) (s : SavedState) → IsListOp op → list_refusal op s ≡ None → IsListName (named_by op)
named_good op s form none = record { good = name_good op s none; text = name_text op form }

pub kept_after : (op : Op) (s : SavedState) → IsOp op → IsSavedState s → refusal_of op s ≡ None → IsSavedState (after op s)
kept_after (ops.SetOption setting) s form saved none =
    record {
      key_len = saved.key_len;
      key_bytes = saved.key_bytes;
      order = saved.order;
      volume = saved.volume;
      songs = saved.songs;
      kept = saved.kept;
      queue =
          saved.queue;
      lists = saved.lists;
      stickers = saved.stickers;
      place = saved.place;
      changed = saved.changed;
    }
kept_after (ops.SetVolume volume) s form saved none =
    record {
      key_len = saved.key_len;
      key_bytes = saved.key_bytes;
      order = saved.order;
      volume = form;
      songs = saved.songs;
      kept = saved.kept;
      queue =
          saved.queue;
      lists = saved.lists;
      stickers = saved.stickers;
      place = saved.place;
      changed = saved.changed;
    }
kept_after (ops.SetOrder order) s form saved none =
    record {
      key_len = saved.key_len;
      key_bytes = saved.key_bytes;
      order = form;
      volume = saved.volume;
      songs = saved.songs;
      kept = saved.kept;
      queue =
          saved.queue;
      lists = saved.lists;
      stickers = saved.stickers;
      place = saved.place;
      changed = saved.changed;
    }
kept_after (ops.Queue op) s form saved none = kept_queue op s form saved none
kept_after (ops.List op) s form saved none =
    with_times (lists_edited op s) (list_times (leaves_lists op s) op s.changed)
    (with_lists s (lists_after op s) saved (kept_list op s form saved none))
    (kept_list_times (leaves_lists op s) op s.profile s.changed (named_good op s form none) saved.changed)
kept_after (ops.Sticker op) s form saved none = record {
  key_len = saved.key_len;
  key_bytes = saved.key_bytes;
  order = saved.order;
  volume = saved.volume;
  songs = saved.songs;
  kept = saved.kept;
  queue = saved.queue;
  lists = saved.lists;
  stickers = kept_sticker op s form saved none;
  place = saved.place;
  changed = saved.changed;
}
kept_after (ops.Batch changes) s form saved none = record {
  key_len = saved.key_len;
  key_bytes = saved.key_bytes;
  order = saved.order;
  volume = saved.volume;
  songs = kept_songs s.songs changes form.each saved.songs;
  kept = kept_by_profile s.profile s.songs changes (kept_none (are_kept s.profile changes) _ none).0 saved.kept;
  queue = kept_batch s.songs changes s.queue _ saved.songs.database saved.queue;
  lists = saved.lists;
  stickers = record {
    within = (kept_filter s.songs s.stickers _ saved.stickers).within;
    each = stickers_left s.songs changes s.stickers saved.songs.database saved.stickers.each;
  };
  place = kept_saved_left no_range (drops_of changes) s.queue.entries s.profile s.place saved.place;
  changed = saved.changed;
}
kept_after (ops.Place op) s form saved none = record {
  key_len = saved.key_len;
  key_bytes = saved.key_bytes;
  order = saved.order;
  volume = saved.volume;
  songs = saved.songs;
  kept = saved.kept;
  queue = saved.queue;
  lists = saved.lists;
  stickers = saved.stickers;
  place = kept_saved_place op s.profile s.place form saved.place;
  changed = saved.changed;
}
kept_after (ops.Timed seconds) s form saved none =
    with_times s (option_map (timed seconds) s.changed) saved (kept_timed seconds s.profile s.changed form saved.changed)
