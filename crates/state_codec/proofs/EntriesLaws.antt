-- The queue entries of a snapshot.
use Rattle.std.proofs.Common.{◌≡◌, ◌≢◌, ℕ, suc, ◌+◌, ◌-◌, ◌^◌, ◌<◌, ◌≤◌, true, false, leb, ◌==◌, List, [], ◌∷◌, ◌++◌, length, get_or, Ok}
use Rattle.std.proofs.Common.{Some, None, refl, sym, ap, subst, ◌∙◌, append_assoc, arith}
use Rattle.std.specs.Prelude.{Option, not, unwrap_or}
use Rattle.std.specs.Int.{is_in_range}
use Rattle.std.specs.Option.{ok_or}
use Rattle.std.specs.List.{All, slice_get}
use Rattle.std.proofs.lemmas.Bool.{leb-true, le-leb, eq-eqb, ne_eqb, not-true}
use Rattle.std.proofs.lemmas.List.{length-append, length-map, map-append, get_or-map, get_or_append_left, get_or-append-add}
use Rattle.std.proofs.lemmas.List.Elements.{All-nil, All-push}
use Rattle.std.proofs.lemmas.List.Folds.{list_any_at, list_any_none}
use Rattle.std.proofs.lemmas.List.Quantifiers.{all_pairs_push}
use Rattle.play_queue.specs.Builder.{has_id}
use Rattle.play_queue.specs.Limits.{MAX_ENTRIES, MAX_ID, MAX_VERSION}
use Rattle.play_queue.specs.Queue.{QueueState, IsEntry, HaveOwnIds, ids_of}
use Rattle.play_queue.specs.declared.entry.Entry.{Entry}
use Rattle.song_db.specs.Change.{has_uri}
use Rattle.song_db.specs.Query.{number_at as number_of}
use Rattle.song_db.specs.Row.{Row}
use Rattle.state_codec.specs.declared.layout.Layout.{Layout}
use Rattle.state_codec.specs.Layout.{IsLayout}
use Rattle.state_codec.specs.Fields.{such, u32_at, byte_at, number_within}
use Rattle.state_codec.specs.ReadingSaved.{numbered_at, is_free_id, rest_of_entry_at, entry_at, entries_at}
use Rattle.state_codec.specs.SavedState.{AreSavedSongs, IsSavedEntry, IsSavedQueue, IsBytes}
use Rattle.state_codec.specs.Spelling.{entry_bytes}
use Rattle.state_codec.specs.SpellingFields.{byte_bytes, u32_bytes, list_bytes}
use Rattle.state_codec.proofs.FieldLaws.{bind_ok, ok_is, both_true, Takes, Takes-then, IsField, fits_is, such_is, within_is, byte_is}
use Rattle.state_codec.proofs.FieldLaws.{u32_is}
use Rattle.state_codec.proofs.ItemLaws.{counted_is}
use Rattle.state_codec.proofs.TextLaws.{both_is_true}
use Rattle.state_codec.proofs.SongsLaws.{number_is, row_of, has_of}

-- ---- the number of a row

found_row : (row : Option Row) (left : ℕ) (r : Row) → ok_or row left ≡ Ok r → row ≡ Some r
found_row None left r e = absurd cc
found_row (Some s) left r e = ap (λ (x : Row). Some x) (ok_is s r e)

abbrev number_text : List Row → List ℕ → List ℕ
number_text songs uri = u32_bytes (unwrap_or (number_of songs uri) 0)

numbered_takes : (songs : List Row) → AreSavedSongs songs → (bytes : List ℕ) (x : List ℕ × List ℕ) → IsBytes bytes
    → numbered_at songs bytes ≡ Ok x
    → Takes bytes (number_text songs x.0) x.1 × (has_uri songs x.0 ≡ true)
unfolding numbered_at
numbered_takes songs saved bytes x fits e =
    let n = bind_ok (u32_at bytes) _ x e in
    let row = bind_ok (ok_or (slice_get songs n.0.0) (length bytes)) _ x n.2 in
    let at = found_row (slice_get songs n.0.0) (length bytes) row.0 row.1 in
    let t = u32_is.takes bytes n.0 fits n.1 in
    let number : unwrap_or (number_of songs row.0.uri) 0 ≡ n.0.0 =
    ap (λ (o : Option ℕ). unwrap_or o 0) (number_is songs n.0.0 row.0 saved.database.rising at).1 in
    subst (λ (y : List ℕ × List ℕ). Takes bytes (number_text songs y.0) y.1 × (has_uri songs y.0 ≡ true)) (ok_is (row.0.uri, n.0.1) x row.2)
    (subst (λ (k : ℕ). Takes bytes (u32_bytes k) n.0.1) (sym number) t.0, has_of songs n.0.0 row.0 at)

numbered_again : (songs : List Row) → AreSavedSongs songs → (uri rest : List ℕ) → has_uri songs uri ≡ true
    → numbered_at songs (number_text songs uri ++ rest) ≡ Ok (uri, rest)
unfolding numbered_at
numbered_again songs saved uri rest has =
    let found = row_of songs uri has in
    let place = number_is songs found.n found.row saved.database.rising found.at in
    let number : unwrap_or (number_of songs uri) 0 ≡ found.n =
    ap (λ (o : Option ℕ). unwrap_or o 0) (ap (number_of songs) (sym found.same) ∙ place.1) in
    let small : found.n < 2 ^ 32 = omega (arith, place.0, saved.database.few) in
    rw (number, u32_is.again found.n rest small, found.at) (ap (λ (u : List ℕ). Ok (u, rest)) found.same)

numbered_is : (songs : List Row) → AreSavedSongs songs
    → IsField (λ bytes. numbered_at songs bytes) (number_text songs) (λ uri. has_uri songs uri ≡ true)
numbered_is songs saved = record { takes = numbered_takes songs saved; again = numbered_again songs saved }

-- ---- ids that differ

apart_at : (entries : List Entry) (id k : ℕ) (d : ℕ) (e : Entry) → has_id entries id ≡ false → k < length (ids_of entries)
    → get_or (ids_of entries) k d ≢ id
apart_at entries id k d e none within same =
    let long : length (ids_of entries) ≡ length entries = length-map entries (λ entry. entry.id) in
    let read : get_or (ids_of entries) k d ≡ (get_or entries k e).id = get_or-map (λ entry. entry.id) entries k e d (omega arith) in
    let found : has_id entries id ≡ true =
    list_any_at (λ entry. entry.id == id) entries k e (omega arith) (eq-eqb (get_or entries k e).id id (sym read ∙ same)) in
    absurd (cc)

own_push : (entries : List Entry) (entry : Entry) → HaveOwnIds entries → has_id entries entry.id ≡ false
    → HaveOwnIds (entries ++ entry ∷ [])
own_push entries entry own new =
    rw (map-append (λ (e : Entry). e.id) entries (entry ∷ []))
    (all_pairs_push (λ one other. one ≢ other) (ids_of entries) entry.id own
    (λ k d within. apart_at entries entry.id k d entry new within))

own_new : (known : List Entry) (entry : Entry) (more : List Entry) → HaveOwnIds (known ++ entry ∷ more) → has_id known entry.id ≡ false
own_new known entry more own = list_any_none (λ e. e.id == entry.id) known (λ k d within.
    let long : length (known ++ entry ∷ more) ≡ length known + suc (length more) = length-append known (entry ∷ more) in
    let ids : length (ids_of (known ++ entry ∷ more)) ≡ length (known ++ entry ∷ more) = length-map (known ++ entry ∷ more) (λ e. e.id) in
    let one : get_or (ids_of (known ++ entry ∷ more)) k 0 ≡ (get_or known k d).id =
    get_or-map (λ e. e.id) (known ++ entry ∷ more) k d 0 (omega arith)
    ∙ ap (λ (e : Entry). e.id) (get_or_append_left known (entry ∷ more) d k within) in
    let at : get_or (known ++ entry ∷ more) (length known) d ≡ entry = ap (λ (n : ℕ). get_or (known ++ entry ∷ more) n d) (omega arith)
    ∙ get_or-append-add known (entry ∷ more) 0 d in
    let other : get_or (ids_of (known ++ entry ∷ more)) (length known) 0 ≡ entry.id =
    get_or-map (λ e. e.id) (known ++ entry ∷ more) (length known) d 0 (omega arith) ∙ ap (λ (e : Entry). e.id) at in
    ne_eqb (get_or known k d).id entry.id (λ same. own k (length known) 0 within (omega arith) (one ∙ same ∙ sym other)))

-- ---- entries

record Bounds (version next_id : ℕ) : Type 0 where
  version_low : 1 ≤ version
  version_high : version ≤ MAX_VERSION
  next_low : 1 ≤ next_id
  next_high : next_id ≤ MAX_ID + 1

abbrev KnownEntries : List Row → ℕ → ℕ → List Entry → Type 0
KnownEntries songs version next_id entries = All (IsEntry next_id version) entries × (HaveOwnIds entries × All (IsSavedEntry songs) entries)

abbrev IsFree : ℕ → List Entry → ℕ → Type 0
IsFree next_id known id = (id < 2 ^ 32) × (is_free_id next_id known id ≡ true)

free_is : (next_id : ℕ) (known : List Entry)
    → IsField (λ bytes. such (is_free_id next_id known) u32_at bytes) (λ id. u32_bytes id) (IsFree next_id known)
free_is next_id known = such_is (is_free_id next_id known) (λ bytes. u32_at bytes) (λ id. u32_bytes id) (λ id. id < 2 ^ 32) u32_is

module _ (songs : List Row) (saved : AreSavedSongs songs) (version next_id : ℕ) (bounds : Bounds version next_id) where
  entry_takes : (known : List Entry) (bytes : List ℕ) (x : Entry × List ℕ) → KnownEntries songs version next_id known → IsBytes bytes
      → entry_at songs version next_id known bytes ≡ Ok x
      → Takes bytes (entry_bytes songs x.0) x.1 × KnownEntries songs version next_id (known ++ x.0 ∷ [])
  unfolding entry_at rest_of_entry_at
  entry_takes known bytes x fits in_range e =
      let id = bind_ok (such (is_free_id next_id known) u32_at bytes) _ x e in
      let uri = bind_ok (numbered_at songs id.0.1) _ x id.2 in
      let priority = bind_ok (byte_at uri.0.1) _ x uri.2 in
      let stamp = bind_ok (number_within 1 version priority.0.1) _ x priority.2 in
      let t0 = (free_is next_id known).takes bytes id.0 in_range id.1 in
      let t1 = (numbered_is songs saved).takes id.0.1 uri.0 t0.0.rest_fits uri.1 in
      let t2 = byte_is.takes uri.0.1 priority.0 t1.0.rest_fits priority.1 in
      let t3 = (within_is 1 version (omega (arith, bounds.version_high))).takes priority.0.1 stamp.0 t2.0.rest_fits stamp.1 in
      let entry : Entry = record { id = id.0.0; uri = uri.0.0; priority = priority.0.0; stamp = stamp.0.0 } in
      let end = stamp.0.1 in
      let j2 = Takes-then uri.0.1 (byte_bytes entry.priority) priority.0.1 (u32_bytes entry.stamp) end t2.0 t3.0 in
      let j1 = Takes-then id.0.1 (number_text songs entry.uri) uri.0.1 (byte_bytes entry.priority ++ u32_bytes entry.stamp) end t1.0 j2 in
      let j0 : Takes bytes (entry_bytes songs entry) end =
      Takes-then bytes (u32_bytes entry.id) id.0.1
      (number_text songs entry.uri ++ (byte_bytes entry.priority ++ u32_bytes entry.stamp)) end t0.0 j1 in
      let free = both_true (is_in_range 1 (next_id - 1) entry.id) (not (has_id known entry.id)) t0.1.1 in
      let range = both_true (leb 1 entry.id) (leb entry.id (next_id - 1)) free.0 in
      let id_low : 1 ≤ entry.id = leb-true _ _ range.0 in
      let id_high : entry.id ≤ next_id - 1 = leb-true _ _ range.1 in
      let good : IsEntry next_id version entry =
      record { id_low = id_low; id_used = omega (arith, id_low, id_high); stamp_low = t3.1.0; stamp_high = t3.1.1 } in
      let kept : IsSavedEntry songs entry = record { has_row = t1.1; priority = t2.1 } in
      subst (λ (y : Entry × List ℕ). Takes bytes (entry_bytes songs y.0) y.1 × KnownEntries songs version next_id (known ++ y.0 ∷ [])) {x =
      (entry, end)} (ok_is (entry, end) x stamp.2) (
        j0,
        (
          All-push (IsEntry next_id version) known entry fits.0 good,
          (own_push known entry fits.1.0 (not-true _ free.1), All-push (IsSavedEntry songs) known entry fits.1.1 kept),
        ),
      )

  at_middle : (P : Entry → Type 0) (known : List Entry) (entry : Entry) (more : List Entry) → All P (known ++ entry ∷ more) → P entry
  at_middle P known entry more all =
      let at : get_or (known ++ entry ∷ more) (length known) entry ≡ entry =
      ap (λ (n : ℕ). get_or (known ++ entry ∷ more) n entry) (omega arith) ∙ get_or-append-add known (entry ∷ more) 0 entry in
      subst P at (all (length known) entry (omega (arith, length-append known (entry ∷ more))))

  entry_again : (known : List Entry) (entry : Entry) (more : List Entry) (rest : List ℕ)
      → KnownEntries songs version next_id (known ++ entry ∷ more)
      → entry_at songs version next_id known (entry_bytes songs entry ++ rest) ≡ Ok (entry, rest)
  unfolding entry_at rest_of_entry_at
  entry_again known entry more rest fits =
      let good : IsEntry next_id version entry = at_middle (IsEntry next_id version) known entry more fits.0 in
      let kept : IsSavedEntry songs entry = at_middle (IsSavedEntry songs) known entry more fits.1.1 in
      let new : has_id known entry.id ≡ false = own_new known entry more fits.1.0 in
      let range : is_in_range 1 (next_id - 1) entry.id ≡ true =
      both_is_true (leb 1 entry.id) (leb entry.id (next_id - 1)) (le-leb 1 entry.id good.id_low)
      (le-leb entry.id (next_id - 1) (omega (arith, good.id_low, good.id_used))) in
      let free : is_free_id next_id known entry.id ≡ true =
      both_is_true (is_in_range 1 (next_id - 1) entry.id) (not (has_id known entry.id)) range (ap not new) in
      let small : entry.id < 2 ^ 32 = omega (arith, good.id_used, bounds.next_high) in
      let r3 = u32_bytes entry.stamp ++ rest in
      let r2 = byte_bytes entry.priority ++ r3 in
      let r1 = number_text songs entry.uri ++ r2 in
      let regrouped : entry_bytes songs entry ++ rest ≡ u32_bytes entry.id ++ r1 = simp append_assoc in
      ap (entry_at songs version next_id known) regrouped
      ∙ rw (
        (free_is next_id known).again entry.id r1 (small, free),
        (numbered_is songs saved).again entry.uri r2 kept.has_row,
        (within_is 1 version (omega (arith, bounds.version_high))).again entry.stamp rest (good.stamp_low, good.stamp_high),
      )
      refl

  none_known : KnownEntries songs version next_id []
  none_known = (All-nil (IsEntry next_id version), (λ i j d lt within. absurd (omega arith), All-nil (IsSavedEntry songs)))

  abbrev queue_of : List Entry → QueueState
  queue_of entries = record { entries = entries; version = version; next_id = next_id }

  -- a queue of so many entries at most
  abbrev IsQueueWithin : ℕ → List Entry → Type 0
  IsQueueWithin limit entries = IsSavedQueue songs (queue_of entries) × (length entries ≤ limit)

  entries_field : (layout : Layout) → layout.queue_limit ≤ MAX_ENTRIES
      → IsField (λ bytes. entries_at layout songs version next_id bytes) (λ entries. list_bytes (entry_bytes songs) entries)
      (IsQueueWithin layout.queue_limit)
  entries_field layout fits =
      fits_is (λ bytes. entries_at layout songs version next_id bytes) (λ entries. list_bytes (entry_bytes songs) entries)
      (λ entries. ((0 ≤ length entries) × (length entries ≤ layout.queue_limit)) × KnownEntries songs version next_id entries)
      (IsQueueWithin layout.queue_limit)
      (counted_is (λ bytes. number_within 0 layout.queue_limit bytes) (λ n. u32_bytes n) (λ n. (0 ≤ n) × (n ≤ layout.queue_limit))
      (within_is 0 layout.queue_limit (omega (arith, fits))) (entry_at songs version next_id) (entry_bytes songs) (KnownEntries songs
      version next_id)
      (record { takes = entry_takes; again = entry_again }) none_known)
      (λ entries h. (
        record {
          queue = record {
            few = omega (arith, h.0.1, fits);
            version_low = bounds.version_low;
            version_high = bounds.version_high;
            next_low = bounds.next_low;
            next_high = bounds.next_high;
            entry = h.1.0;
            own_ids = h.1.1.0;
          };
          entries = h.1.1.1;
        },
        h.0.1,
      ))
      (λ entries h. ((omega arith, h.1), (h.0.queue.entry, (h.0.queue.own_ids, h.0.entries))))

pub entries_is : (layout : Layout) → IsLayout layout → (songs : List Row) → AreSavedSongs songs → (version next_id : ℕ) → 1 ≤ version
    → version ≤ MAX_VERSION → 1 ≤ next_id → next_id ≤ MAX_ID + 1
    → IsField (λ bytes. entries_at layout songs version next_id bytes) (λ entries. list_bytes (entry_bytes songs) entries)
    (λ entries. IsSavedQueue songs (record { entries = entries; version = version; next_id = next_id })
    × (length entries ≤ layout.queue_limit))
entries_is layout form songs saved version next_id version_low version_high next_low next_high =
    entries_field songs saved version next_id
    (record { version_low = version_low; version_high = version_high; next_low = next_low; next_high = next_high }) layout form.queue_limit
