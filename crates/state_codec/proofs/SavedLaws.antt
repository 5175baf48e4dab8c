-- A snapshot that is read is spelled so, and what is spelled so is read.
use Rattle.std.proofs.Common.{◌≡◌, ℕ, ◌+◌, ◌^◌, ◌<◌, ◌≤◌, Bool, true, false, cond, eqb, List, [], ◌++◌, length, Result, Ok, Err, refl, sym, ap, subst, ◌∙◌}
use Rattle.std.proofs.Common.{Option, Some, None, append_assoc, arith}
use Rattle.std.specs.Prelude.{IfOk, unwrap_or}
use Rattle.std.proofs.lemmas.Bool.{eqb-true}
use Rattle.std.proofs.lemmas.List.{append-nil, nil_from_length}
use Rattle.play_queue.specs.Limits.{MAX_ID, MAX_VERSION}
use Rattle.player_core.specs.Place.{PlaceState, no_place}
use Rattle.player_core.specs.declared.options.Options.{Options}
use Rattle.profile.specs.declared.profile.Profile.{Profile}
use Rattle.profile.specs.declared.profile.Profile.TheVariants.{Named, Wide}
use Rattle.state_codec.specs.declared.layout.Layout.{Layout}
use Rattle.state_codec.specs.declared.refusal.CodecError.{CodecError}
use Rattle.state_codec.specs.declared.reading.saved.Header.{Header}
use Rattle.state_codec.specs.Answers.{GivesSaved}
use Rattle.state_codec.specs.Fields.{Field, u64_at, number_within, volume_at, flag_at, consume_at, single_at, key_at}
use Rattle.state_codec.specs.Layout.{layout_1, layout_2, layout_3, layout_of, written_layout, is_consume, IsLayout, IsStateIn}
use Rattle.state_codec.specs.Reading.{alone, in_bytes, front_state, saved_reading, saved_reading_in}
use Rattle.state_codec.specs.ReadingSaved.{options_at, songs_at, entries_at, lists_at, stickers_at, header_at, parts_at, saved_at}
use Rattle.state_codec.specs.ReadingSaved.{before_fields}
use Rattle.state_codec.specs.SavedState.{SavedState, IsSavedState, AreSavedTimes, IsSavedPlace, AreKeptSongs, IsBytes, key_len}
use Rattle.state_codec.specs.ReadingTimes.{fields_at}
use Rattle.state_codec.specs.Sealed.{sealed, unsealed}
use Rattle.state_codec.specs.Spelling.{options_bytes, entry_bytes, playlist_bytes, sticker_bytes, head_bytes, parts_bytes, saved_bytes}
use Rattle.state_codec.specs.Spelling.{with_fields}
use Rattle.state_codec.specs.SpellingFields.{byte_bytes, u32_bytes, u64_bytes, flag_bytes, single_bytes, list_bytes}
use Rattle.state_codec.specs.SpellingTimes.{fields_bytes}
use Rattle.stored_lists.specs.Times.{Times}
use Rattle.state_codec.specs.SpellingRows.{row_bytes}
use Rattle.state_codec.specs.Steps.{◌>>=◌}
use Rattle.state_codec.proofs.FieldLaws.{bind_ok, ok_is, passed_ok, Takes, Takes-then, u64_is, within_is, flag_is, single_is, volume_is}
use Rattle.state_codec.proofs.FieldLaws.{key_is, consume_is, consume_written}
use Rattle.state_codec.proofs.SealedLaws.{unseals, seals, front_fits}
use Rattle.state_codec.proofs.SongsLaws.{songs_is}
use Rattle.state_codec.proofs.EntriesLaws.{entries_is}
use Rattle.state_codec.proofs.PlaylistsLaws.{lists_is}
use Rattle.state_codec.proofs.StickersLaws.{stickers_is}
use Rattle.state_codec.proofs.TimeFields.{fields_are}

-- ---- options

options_take : (layout : Layout) (bytes : List ℕ) (x : Options × List ℕ) → IsBytes bytes → options_at layout bytes ≡ Ok x
    → Takes bytes (options_bytes x.0) x.1 × (is_consume layout x.0.consume ≡ true)
unfolding options_at
options_take layout bytes x fits e =
    let a = bind_ok (flag_at bytes) _ x e in
    let b = bind_ok (flag_at a.0.1) _ x a.2 in
    let c = bind_ok (single_at b.0.1) _ x b.2 in
    let d = bind_ok (consume_at layout c.0.1) _ x c.2 in
    let ta = (flag_is.takes bytes a.0 fits a.1).0 in
    let tb = (flag_is.takes a.0.1 b.0 ta.rest_fits b.1).0 in
    let tc = (single_is.takes b.0.1 c.0 tb.rest_fits c.1).0 in
    let read = (consume_is layout).takes c.0.1 d.0 tc.rest_fits d.1 in
    let td = read.0 in
    let tcd = Takes-then b.0.1 (single_bytes c.0.0) c.0.1 (single_bytes d.0.0) d.0.1 tc td in
    let tbd = Takes-then a.0.1 (flag_bytes b.0.0) b.0.1 (single_bytes c.0.0 ++ single_bytes d.0.0) d.0.1 tb tcd in
    let tad = Takes-then bytes (flag_bytes a.0.0) a.0.1 (flag_bytes b.0.0 ++ (single_bytes c.0.0 ++ single_bytes d.0.0)) d.0.1 ta tbd in
    let made : Options × List ℕ = (record { repeat = a.0.0; random = b.0.0; single = c.0.0; consume = d.0.0 }, d.0.1) in
    subst (λ (y : Options × List ℕ). Takes bytes (options_bytes y.0) y.1 × (is_consume layout y.0.consume ≡ true)) {x = made}
    (ok_is made x d.2) (tad, read.1.1)

options_again : (layout : Layout) (options : Options) (rest : List ℕ) → is_consume layout options.consume ≡ true
    → options_at layout (options_bytes options ++ rest) ≡ Ok (options, rest)
unfolding options_at
options_again layout o rest in_layout =
    let regrouped : options_bytes o ++ rest ≡ flag_bytes o.repeat
    ++ (flag_bytes o.random ++ (single_bytes o.single ++ (single_bytes o.consume ++ rest))) = simp append_assoc in
    ap (options_at layout) regrouped
    ∙ rw (
      flag_is.again o.repeat (flag_bytes o.random ++ (single_bytes o.single ++ (single_bytes o.consume ++ rest))) tt,
      flag_is.again o.random (single_bytes o.single ++ (single_bytes o.consume ++ rest)) tt,
      single_is.again o.single (single_bytes o.consume ++ rest) tt,
      (consume_is layout).again o.consume rest (tt, in_layout),
    )
    refl

-- ---- the header

record IsHeader (layout : Layout) (header : Header) : Type 0 where
  consume : is_consume layout header.options.consume ≡ true
  key_len : length header.key ≡ key_len
  key_bytes : IsBytes header.key
  order : header.order < 2 ^ 64
  version_low : 1 ≤ header.version
  version_high : header.version ≤ MAX_VERSION
  next_low : 1 ≤ header.next_id
  next_high : header.next_id ≤ MAX_ID + 1
  volume : header.volume ≤ 100

abbrev header_text : Header → List ℕ
header_text h = h.key
    ++ (u64_bytes h.order ++ (u32_bytes h.version ++ (u32_bytes h.next_id ++ (byte_bytes h.volume ++ options_bytes h.options))))

header_takes : (layout : Layout) (bytes : List ℕ) (x : Header × List ℕ) → IsBytes bytes → header_at layout bytes ≡ Ok x
    → Takes bytes (header_text x.0) x.1 × IsHeader layout x.0
unfolding header_at
header_takes layout bytes x fits e =
    let key = bind_ok (key_at bytes) _ x e in
    let order = bind_ok (u64_at key.0.1) _ x key.2 in
    let version = bind_ok (number_within 1 MAX_VERSION order.0.1) _ x order.2 in
    let next_id = bind_ok (number_within 1 (MAX_ID + 1) version.0.1) _ x version.2 in
    let volume = bind_ok (volume_at next_id.0.1) _ x next_id.2 in
    let options = bind_ok (options_at layout volume.0.1) _ x volume.2 in
    let t0 = key_is.takes bytes key.0 fits key.1 in
    let t1 = u64_is.takes key.0.1 order.0 t0.0.rest_fits order.1 in
    let t2 = (within_is 1 MAX_VERSION (omega arith)).takes order.0.1 version.0 t1.0.rest_fits version.1 in
    let t3 = (within_is 1 (MAX_ID + 1) (omega arith)).takes version.0.1 next_id.0 t2.0.rest_fits next_id.1 in
    let t4 = volume_is.takes next_id.0.1 volume.0 t3.0.rest_fits volume.1 in
    let t5 = options_take layout volume.0.1 options.0 t4.0.rest_fits options.1 in
    let end = options.0.1 in
    let h : Header = record {
      key = key.0.0;
      order = order.0.0;
      version = version.0.0;
      next_id = next_id.0.0;
      volume = volume.0.0;
      options =
          options.0.0;
    } in
    let j4 = Takes-then next_id.0.1 (byte_bytes h.volume) volume.0.1 (options_bytes h.options) end t4.0 t5.0 in
    let j3 = Takes-then version.0.1 (u32_bytes h.next_id) next_id.0.1 (byte_bytes h.volume ++ options_bytes h.options) end t3.0 j4 in
    let j2 = Takes-then order.0.1 (u32_bytes h.version) version.0.1
    (u32_bytes h.next_id ++ (byte_bytes h.volume ++ options_bytes h.options)) end t2.0 j3 in
    let j1 = Takes-then key.0.1 (u64_bytes h.order) order.0.1
    (u32_bytes h.version ++ (u32_bytes h.next_id ++ (byte_bytes h.volume ++ options_bytes h.options))) end t1.0 j2 in
    let j0 : Takes bytes (header_text h) end =
    Takes-then bytes h.key key.0.1 (u64_bytes h.order
    ++ (u32_bytes h.version ++ (u32_bytes h.next_id ++ (byte_bytes h.volume ++ options_bytes h.options)))) end t0.0 j1 in
    let good : IsHeader layout h = record {
      key_len = t0.1.0;
      key_bytes = t0.1.1;
      order = t1.1;
      version_low = t2.1.0;
      version_high = t2.1.1;
      next_low = t3.1.0;
      next_high = t3.1.1;
      volume = t4.1;
      consume = t5.1;
    } in
    subst (λ (y : Header × List ℕ). Takes bytes (header_text y.0) y.1 × IsHeader layout y.0) {x = (h, end)} (ok_is (h, end) x
    options.2) (j0, good)

header_again : (layout : Layout) (h : Header) (rest : List ℕ) → IsHeader layout h → header_at layout (header_text h ++ rest) ≡ Ok (h, rest)
unfolding header_at
header_again layout h rest fits =
    let r5 = options_bytes h.options ++ rest in
    let r4 = byte_bytes h.volume ++ r5 in
    let r3 = u32_bytes h.next_id ++ r4 in
    let r2 = u32_bytes h.version ++ r3 in
    let r1 = u64_bytes h.order ++ r2 in
    let regrouped : header_text h ++ rest ≡ h.key ++ r1 = simp append_assoc in
    ap (header_at layout) regrouped
    ∙ rw (
      key_is.again h.key r1 (fits.key_len, fits.key_bytes),
      u64_is.again h.order r2 fits.order,
      (within_is 1 MAX_VERSION (omega arith)).again h.version r3 (fits.version_low, fits.version_high),
      (within_is 1 (MAX_ID + 1) (omega arith)).again h.next_id r4 (fits.next_low, fits.next_high),
      volume_is.again h.volume r5 fits.volume,
      options_again layout h.options rest fits.consume,
    )
    refl

-- ---- the parts

abbrev header_of : SavedState → Header
header_of s = record {
  key = s.key;
  order = s.order;
  version = s.queue.version;
  next_id = s.queue.next_id;
  volume = s.volume;
  options =
      s.options;
}

abbrev put_fields : Option Times → Option PlaceState → SavedState → SavedState
put_fields times place s = record s { place = place; changed = times }

-- a state in all but its times and its place, which aren't known yet
record IsButFields (layout : Layout) (s : SavedState) : Type 0 where
  no_times : s.changed ≡ None
  no_place : s.place ≡ None
  with_both : (times : Option Times) (place : Option PlaceState) → AreSavedTimes layout.profile times → IsSavedPlace layout.profile place
      → IsSavedState (put_fields times place s) × IsStateIn layout (put_fields times place s)

parts_take : (layout : Layout) → IsLayout layout → (h : Header) (bytes : List ℕ) (x : SavedState × List ℕ) → IsHeader layout h
    → IsBytes bytes → parts_at layout h bytes ≡ Ok x
    → Takes bytes (parts_bytes x.0) x.1 × (IsButFields layout x.0 × (header_of x.0 ≡ h))
unfolding parts_at
parts_take layout form h bytes x header fits e =
    let songs = bind_ok (songs_at layout.profile bytes) _ x e in
    let entries = bind_ok (entries_at layout songs.0.0 h.version h.next_id songs.0.1) _ x songs.2 in
    let lists = bind_ok (lists_at layout entries.0.1) _ x entries.2 in
    let stickers = bind_ok (stickers_at songs.0.0 lists.0.1) _ x lists.2 in
    let t0 = (songs_is layout.profile).takes bytes songs.0 fits songs.1 in
    let t1 = (entries_is layout form songs.0.0 t0.1.0 h.version h.next_id header.version_low header.version_high header.next_low
    header.next_high).takes
    songs.0.1 entries.0 t0.0.rest_fits entries.1 in
    let t2 = (lists_is layout form).takes entries.0.1 lists.0 t1.0.rest_fits lists.1 in
    let t3 = (stickers_is songs.0.0 t0.1.0).takes lists.0.1 stickers.0 t2.0.rest_fits stickers.1 in
    let end = stickers.0.1 in
    let s : SavedState = record {
      profile = layout.profile;
      key = h.key;
      order = h.order;
      volume = h.volume;
      options = h.options;
      songs = songs.0.0;
      queue = record { entries = entries.0.0; version = h.version; next_id = h.next_id };
      lists = lists.0.0;
      stickers = stickers.0.0;
      place = None;
      changed = None;
    } in
    let rows_text = list_bytes (row_bytes s.profile) s.songs in
    let entries_text = list_bytes (entry_bytes s.songs) s.queue.entries in
    let lists_text = list_bytes playlist_bytes s.lists in
    let stickers_text = list_bytes sticker_bytes s.stickers in
    let j2 = Takes-then entries.0.1 lists_text lists.0.1 stickers_text end t2.0 t3.0 in
    let j1 = Takes-then songs.0.1 entries_text entries.0.1 (lists_text ++ stickers_text) end t1.0 j2 in
    let j0 : Takes bytes (parts_bytes s) end =
    Takes-then bytes rows_text songs.0.1 (entries_text ++ (lists_text ++ stickers_text)) end t0.0 j1 in
    let good : (times : Option Times) (place : Option PlaceState) → AreSavedTimes layout.profile times → IsSavedPlace layout.profile place
    → IsSavedState (put_fields times place s) = λ times place are kept. record {
      key_len = header.key_len;
      key_bytes = header.key_bytes;
      order = header.order;
      volume = header.volume;
      songs = t0.1.0;
      kept = t0.1.1;
      queue = t1.1.0;
      lists = t2.1.0;
      stickers = t3.1;
      place = kept;
      changed = are;
    } in
    let within : (times : Option Times) (place : Option PlaceState) → IsStateIn layout (put_fields times place s) = λ times place. record {
      profile = refl;
      consume = header.consume;
      queue = t1.1.1;
      lists = t2.1.1;
    } in
    let but : IsButFields layout s = record {
      no_times = refl;
      no_place = refl;
      with_both = λ times place are kept. (good times place are kept, within times place);
    } in
    subst (λ (y : SavedState × List ℕ). Takes bytes (parts_bytes y.0) y.1 × (IsButFields layout y.0 × (header_of y.0 ≡ h)))
    {x = (s, end)} (ok_is (s, end) x stickers.2) (j0, (but, refl))

parts_again : (layout : Layout) → IsLayout layout → (s : SavedState) (rest : List ℕ) → IsSavedState s → IsStateIn layout s
    → parts_at layout (header_of s) (parts_bytes s ++ rest) ≡ Ok (put_fields None None s, rest)
unfolding parts_at
parts_again layout form s rest fits within =
    let queue = fits.queue.queue in
    let rows = list_bytes (row_bytes layout.profile) s.songs in
    let r3 = list_bytes sticker_bytes s.stickers ++ rest in
    let r2 = list_bytes playlist_bytes s.lists ++ r3 in
    let r1 = list_bytes (entry_bytes s.songs) s.queue.entries ++ r2 in
    let join : (a b c : List ℕ) → (a ++ b) ++ c ≡ a ++ (b ++ c) = append_assoc in
    let others = list_bytes (entry_bytes s.songs) s.queue.entries ++ (list_bytes playlist_bytes s.lists ++ list_bytes sticker_bytes s.stickers) in
    let tail : (list_bytes playlist_bytes s.lists ++ list_bytes sticker_bytes s.stickers) ++ rest ≡ r2 =
    join (list_bytes playlist_bytes s.lists) (list_bytes sticker_bytes s.stickers) rest in
    let middle : others ++ rest ≡ r1 =
    join (list_bytes (entry_bytes s.songs) s.queue.entries) (list_bytes playlist_bytes s.lists ++ list_bytes sticker_bytes s.stickers) rest
    ∙ ap (λ (r : List ℕ). list_bytes (entry_bytes s.songs) s.queue.entries ++ r) tail in
    let regrouped : parts_bytes s ++ rest ≡ rows ++ r1 =
    ap (λ (p : Profile). (list_bytes (row_bytes p) s.songs ++ others) ++ rest) within.profile
    ∙ join rows others rest ∙ ap (λ (r : List ℕ). rows ++ r) middle in
    let kept : AreKeptSongs layout.profile s.songs = subst (λ (p : Profile). AreKeptSongs p s.songs) within.profile fits.kept in
    ap (parts_at layout (header_of s)) regrouped
    ∙ rw (
      (songs_is layout.profile).again s.songs r1 (fits.songs, kept),
      (entries_is layout form s.songs fits.songs s.queue.version s.queue.next_id queue.version_low queue.version_high queue.next_low
          queue.next_high).again s.queue.entries r2 (fits.queue, within.queue),
      (lists_is layout form).again s.lists r3 (fits.lists, within.lists),
      (stickers_is s.songs fits.songs).again s.stickers rest fits.stickers,
    )
    refl
    ∙ ap (λ (p : Profile). Ok (record s { profile = p; place = None; changed = None }, rest)) (sym within.profile)

-- ---- the fields behind the parts

abbrev pub fields_text : Profile → Option Times → Option PlaceState → List ℕ
fields_text Named times place = []
fields_text Wide times place = fields_bytes (unwrap_or times []) (unwrap_or place no_place)

pub with_fields_is : (profile : Profile) (times : Option Times) (place : Option PlaceState) (bytes : List ℕ)
    → with_fields profile times place bytes ≡ bytes ++ fields_text profile times place
with_fields_is Named times place bytes = sym (append-nil bytes)
with_fields_is Wide times place bytes = refl

-- the parts in front of the fields, and the times and the place that those tell
record BeforeFields (profile : Profile) (field : Field SavedState) (x : SavedState × List ℕ) : Type 0 where
  parts : SavedState × List ℕ
  times : Option Times
  place : Option PlaceState
  read : field ≡ Ok parts
  same : parts.0.changed ≡ None → parts.0.place ≡ None → put_fields times place parts.0 ≡ x.0
  good : IsBytes parts.1 → AreSavedTimes profile times × IsSavedPlace profile place
  taken : IsBytes parts.1 → Takes parts.1 (fields_text profile times place) x.1

fields_take : (profile : Profile) (field : Field SavedState) (x : SavedState × List ℕ) → before_fields profile field ≡ Ok x
    → BeforeFields profile field x
fields_take Named field x e = record {
  parts = x;
  times = None;
  place = None;
  read = e;
  same = λ no_times no_place. λ i. put_fields (sym no_times i) (sym no_place i) x.0;
  good = λ fits. (tt, tt);
  taken = λ fits. record { parts = refl; rest_fits = fits };
}
fields_take Wide field x e =
    let parts = bind_ok field _ x e in
    let fields = bind_ok (fields_at parts.0.1) _ x parts.2 in
    let read = ok_is (put_fields (Some fields.0.0.0) (Some fields.0.0.1) parts.0.0, fields.0.1) x fields.2 in
    record {
      parts = parts.0;
      times = Some fields.0.0.0;
      place = Some fields.0.0.1;
      read = parts.1;
      same = λ no_times no_place. ap (λ (y : SavedState × List ℕ). y.0) read;
      good = λ fits. (fields_are.takes parts.0.1 fields.0 fits fields.1).1;
      taken = λ fits. subst (λ (rest : List ℕ). Takes parts.0.1 (fields_bytes fields.0.0.0 fields.0.0.1) rest)
          (ap (λ (y : SavedState × List ℕ). y.1) read) (fields_are.takes parts.0.1 fields.0 fits fields.1).0;
    }

fields_again : (profile : Profile) (s : SavedState) (rest : List ℕ) → AreSavedTimes profile s.changed → IsSavedPlace profile s.place
    → before_fields profile (Ok (put_fields None None s, fields_text profile s.changed s.place ++ rest)) ≡ Ok (s, rest)
fields_again Named s rest are good = of s.changed s.place refl refl are good
  where
    of : (times : Option Times) (place : Option PlaceState) → s.changed ≡ times → s.place ≡ place → AreSavedTimes Named times
        → IsSavedPlace Named place → before_fields Named (Ok (put_fields None None s, rest)) ≡ Ok (s, rest)
    of None None no_times no_place are good = λ i. Ok (put_fields (sym no_times i) (sym no_place i) s, rest)
    of None (Some place) no_times is are good = absurd good
    of (Some times) place is no_place are good = absurd are
fields_again Wide s rest are good = of s.changed s.place refl refl are good
  where
    of : (times : Option Times) (place : Option PlaceState) → s.changed ≡ times → s.place ≡ place → AreSavedTimes Wide times
        → IsSavedPlace Wide place
        → before_fields Wide (Ok (put_fields None None s, fields_text Wide times place ++ rest)) ≡ Ok (s, rest)
    of None place no_times is are good = absurd are
    of (Some times) None is no_place are good = absurd good
    of (Some times) (Some place) dated is are good =
        rw (fields_are.again (times, place) rest (are, good)) (λ i. Ok (put_fields (sym dated i) (sym is i) s, rest))

-- ---- the state

-- all of a snapshot but its checksum
abbrev pub content_bytes : SavedState → List ℕ
content_bytes s = with_fields s.profile s.changed s.place (head_bytes s ++ parts_bytes s)

pub saved_takes : (layout : Layout) → IsLayout layout → (bytes : List ℕ) (x : SavedState × List ℕ) → IsBytes bytes
    → saved_at layout bytes ≡ Ok x
    → Takes bytes (content_bytes x.0) x.1 × (IsSavedState x.0 × IsStateIn layout x.0)
unfolding saved_at
saved_takes layout form bytes x fits e =
    let h = bind_ok (header_at layout bytes) _ x e in
    let t = header_takes layout bytes h.0 fits h.1 in
    let b = fields_take layout.profile (parts_at layout h.0.0 h.0.1) x h.2 in
    let u = parts_take layout form h.0.0 h.0.1 b.parts t.1 t.0.rest_fits b.read in
    let s = b.parts.0 in
    let both_good = b.good u.0.rest_fits in
    let good = u.1.0.with_both b.times b.place both_good.0 both_good.1 in
    let front : Takes bytes (head_bytes s) h.0.1 = subst (λ (header : Header). Takes bytes (header_text header) h.0.1) (sym u.1.1) t.0 in
    let both = Takes-then bytes (head_bytes s) h.0.1 (parts_bytes s) b.parts.1 front u.0 in
    let text = head_bytes s ++ parts_bytes s in
    let all : Takes bytes (text ++ fields_text layout.profile b.times b.place) x.1 =
    Takes-then bytes text b.parts.1 (fields_text layout.profile b.times b.place) x.1 both (b.taken u.0.rest_fits) in
    let whole : text ++ fields_text layout.profile b.times b.place ≡ content_bytes (put_fields b.times b.place s) =
    ap (λ (p : Profile). text ++ fields_text p b.times b.place) (sym good.1.profile) ∙ sym (with_fields_is s.profile b.times b.place text) in
    subst (λ (y : SavedState). Takes bytes (content_bytes y) x.1 × (IsSavedState y × IsStateIn layout y)) (b.same u.1.0.no_times u.1.0.no_place)
    (subst (λ (text : List ℕ). Takes bytes text x.1) whole all, good)

pub saved_again : (layout : Layout) → IsLayout layout → (s : SavedState) (rest : List ℕ) → IsSavedState s → IsStateIn layout s
    → saved_at layout (content_bytes s ++ rest) ≡ Ok (s, rest)
unfolding saved_at
saved_again layout form s rest fits within =
    let queue = fits.queue.queue in
    let header : IsHeader layout (header_of s) = record {
      key_len = fits.key_len;
      key_bytes = fits.key_bytes;
      order = fits.order;
      version_low = queue.version_low;
      version_high = queue.version_high;
      next_low = queue.next_low;
      next_high = queue.next_high;
      volume = fits.volume;
      consume = within.consume;
    } in
    let end = fields_text layout.profile s.changed s.place ++ rest in
    let regrouped : content_bytes s ++ rest ≡ head_bytes s ++ (parts_bytes s ++ end) =
    ap (λ (text : List ℕ). text ++ rest) (with_fields_is s.profile s.changed s.place (head_bytes s ++ parts_bytes s))
    ∙ ap (λ (p : Profile). ((head_bytes s ++ parts_bytes s) ++ fields_text p s.changed s.place) ++ rest) within.profile
    ∙ append_assoc (head_bytes s ++ parts_bytes s) (fields_text layout.profile s.changed s.place) rest
    ∙ append_assoc (head_bytes s) (parts_bytes s) end in
    let kept : IsSavedPlace layout.profile s.place = subst (λ (p : Profile). IsSavedPlace p s.place) within.profile fits.place in
    let are : AreSavedTimes layout.profile s.changed = subst (λ (p : Profile). AreSavedTimes p s.changed) within.profile fits.changed in
    ap (saved_at layout) regrouped
    ∙ rw (header_again layout (header_of s) (parts_bytes s ++ end) header)
    (ap (before_fields layout.profile) (parts_again layout form s end fits within) ∙ fields_again layout.profile s rest are kept)

-- ---- the whole snapshot

in_bytes_ok : {A : Type 0} (bytes : List ℕ) (r : Result A ℕ) (x : A) → in_bytes bytes r ≡ Ok x → r ≡ Ok x
in_bytes_ok bytes (Ok y) x e = e
in_bytes_ok bytes (Err d) x e = absurd cc

front_read : (layout : Layout) → IsLayout layout → (bytes : List ℕ) (s : SavedState) → IsBytes bytes → front_state layout bytes ≡ Ok s
    → (IsSavedState s × IsStateIn layout s) × (bytes ≡ content_bytes s)
front_read layout form bytes s fits e =
    let b = bind_ok (saved_at layout bytes) _ s (in_bytes_ok bytes (alone (saved_at layout bytes)) s e) in
    let g = passed_ok (eqb (length b.0.1) 0) (length b.0.1) b.0.0 s b.2 in
    let t = saved_takes layout form bytes b.0 fits b.1 in
    let nothing : b.0.1 ≡ [] = nil_from_length b.0.1 (eqb-true _ _ g.0) in
    let whole : bytes ≡ content_bytes b.0.0 = t.0.parts ∙ ap (λ (r : List ℕ). content_bytes b.0.0 ++ r) nothing
    ∙ append-nil (content_bytes b.0.0) in
    subst (λ (y : SavedState). (IsSavedState y × IsStateIn layout y) × (bytes ≡ content_bytes y)) g.1 (t.1, whole)

snapshot_read : (layout : Layout) → IsLayout layout → (bytes : List ℕ) (s : SavedState) → IsBytes bytes
    → saved_reading_in layout bytes ≡ Ok s
    → (IsSavedState s × IsStateIn layout s) × (bytes ≡ saved_bytes s)
snapshot_read layout form bytes s fits e =
    let front = bind_ok (unsealed layout.profile bytes) (front_state layout) s e in
    let read = front_read layout form front.0 s (front_fits layout.profile bytes front.0 fits front.1) front.2 in
    let whole : bytes ≡ saved_bytes s = seals layout.profile bytes front.0 front.1 ∙ ap (sealed layout.profile) read.1
    ∙ ap (λ (p : Profile). sealed p (content_bytes s)) (sym read.0.1.profile) in
    (read.0, whole)

pub snapshot_takes : (layout : Layout) → IsLayout layout → (bytes : List ℕ) (s : SavedState) → IsBytes bytes
    → saved_reading_in layout bytes ≡ Ok s
    → IsSavedState s × (bytes ≡ saved_bytes s)
snapshot_takes layout form bytes s fits e = let read = snapshot_read layout form bytes s fits e in (read.0.0, read.1)

-- the layout has its values
pub snapshot_within : (layout : Layout) → IsLayout layout → (bytes : List ℕ) (s : SavedState) → IsBytes bytes
    → saved_reading_in layout bytes ≡ Ok s → IsStateIn layout s
snapshot_within layout form bytes s fits e = (snapshot_read layout form bytes s fits e).0.1

pub snapshot_again_in : (layout : Layout) → IsLayout layout → (s : SavedState) → IsSavedState s → IsStateIn layout s
    → saved_reading_in layout (saved_bytes s) ≡ Ok s
snapshot_again_in layout form s fits within =
    let content = content_bytes s in
    let read : saved_at layout content ≡ Ok (s, []) =
    ap (saved_at layout) (sym (append-nil content)) ∙ saved_again layout form s [] fits within in
    let front : front_state layout content ≡ Ok s = rw read refl in
    let opened : unsealed layout.profile (saved_bytes s) ≡ Ok content =
    ap (λ (p : Profile). unsealed layout.profile (sealed p content)) within.profile ∙ unseals layout.profile content in
    ap (λ (r : Result (List ℕ) ℕ). r >>= front_state layout) opened ∙ front

form_1 : IsLayout layout_1
form_1 = record { queue_limit = omega arith; list_limit = omega arith }

form_2 : IsLayout layout_2
form_2 = record { queue_limit = omega arith; list_limit = omega arith }

form_3 : IsLayout layout_3
form_3 = record { queue_limit = omega arith; list_limit = omega arith }

one_of : (is_first is_third : Bool) → IsLayout (cond is_first layout_1 (cond is_third layout_3 layout_2))
one_of true is_third = form_1
one_of false true = form_3
one_of false false = form_2

-- a layout of any number allows no more than the program can hold
pub form_of : (number : ℕ) → IsLayout (layout_of number)
form_of number = one_of (eqb number 1) (eqb number 3)

-- the layout that is written has the ranges of every state
within_written : (profile : Profile) (s : SavedState) → s.profile ≡ profile → IsSavedState s
    → IsStateIn (layout_of (written_layout profile)) s
within_written Named s is fits = record {
  profile = is;
  consume = consume_written Named s.options.consume;
  queue = fits.queue.queue.few;
  lists = fits.lists.within.few_lists;
}
within_written Wide s is fits = record {
  profile = is;
  consume = consume_written Wide s.options.consume;
  queue = fits.queue.queue.few;
  lists = fits.lists.within.few_lists;
}

pub snapshot_again : (s : SavedState) → IsSavedState s → saved_reading (written_layout s.profile) (saved_bytes s) ≡ Ok s
snapshot_again s fits =
    snapshot_again_in (layout_of (written_layout s.profile)) (form_of (written_layout s.profile)) s fits (within_written s.profile s refl fits)

pub snapshot_found : (layout : Layout) → IsLayout layout → (bytes : List ℕ) (r : Result SavedState CodecError) → IsBytes bytes
    → GivesSaved r (saved_reading_in layout bytes)
    → IfOk r (λ s. IsSavedState s × (bytes ≡ saved_bytes s))
snapshot_found layout form bytes (Ok s) fits given = snapshot_takes layout form bytes s fits given
snapshot_found layout form bytes (Err e) fits given = tt

pub snapshot_in : (layout : Layout) → IsLayout layout → (bytes : List ℕ) (r : Result SavedState CodecError) → IsBytes bytes
    → GivesSaved r (saved_reading_in layout bytes) → IfOk r (λ s. IsStateIn layout s)
snapshot_in layout form bytes (Ok s) fits given = snapshot_within layout form bytes s fits given
snapshot_in layout form bytes (Err e) fits given = tt

-- a state that is spelled is answered, unless memory runs out
pub snapshot_only : (layout : Layout) → IsLayout layout → (bytes : List ℕ) (r : Result SavedState CodecError) (s : SavedState)
    → IsSavedState s → IsStateIn layout s → bytes ≡ saved_bytes s
    → GivesSaved r (saved_reading_in layout bytes) → GivesSaved r (Ok s)
snapshot_only layout form bytes r s fits within e given =
    subst (GivesSaved r) (ap (saved_reading_in layout) e ∙ snapshot_again_in layout form s fits within) given
