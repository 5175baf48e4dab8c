-- The frame position stays within the song that is current: the queue's ids differ, so that an entry is found by its id wherever it stands.
use Rattle.std.proofs.Common.{◌≡◌, ◌≢◌, ℕ, zero, suc, ◌<◌, ◌≤◌, Bool, true, false, cond, ◌==◌, ◌||◌, ◌&&◌, List, [], ◌∷◌}
use Rattle.std.proofs.Common.{length, get_or, slice_get, Option, Some, None, Ok, Err, refl, sym, ap, ◌∙◌, arith}
use Rattle.std.proofs.lemmas.Bool.{eqb-true, eq-eqb}
use Rattle.std.proofs.lemmas.List.Folds.{list_any_at}
use Rattle.std.proofs.lemmas.Slice.Eq.{bytes_eq-Decides}
use Rattle.std.specs.List.{find, list_any}
use Rattle.std.specs.Prelude.{IfSome, min, option_and_then}
use Rattle.std.specs.Str.{bytes_eq}
use Rattle.play_queue.specs.Queue.{ids_of, HaveOwnIds}
use Rattle.play_queue.specs.declared.entry.Entry.{Entry}
use Rattle.play_queue.proofs.OwnIds.{own_ids-back}
use Rattle.player_core.specs.Commands.{id_at, named}
use Rattle.player_core.specs.Order.{current_entry}
use Rattle.player_core.specs.declared.refusal.PlayerError.TheVariants.{NoSuchSong}
use Rattle.player_core.specs.declared.selector.Selector.{Selector}
use Rattle.player_core.specs.declared.selector.Selector.TheVariants.{Position, Id}
use Rattle.song_db.specs.Row.{Row, row_at}
use Rattle.machine_core.specs.Followed.{entry_row}
use Rattle.machine_core.specs.Sound.{IsIn}
use Rattle.machine_core.specs.Steps.{named_entry}
use Rattle.machine_core.proofs.Sound.Ids.{Has, Carries, has_later}
use Rattle.machine_core.proofs.Sound.Steps.{IsAt, at_song, no_entry, placed_at, placed_where}

-- an entry has the id, and is of the song
abbrev pub is_song : ℕ → List ℕ → Entry → Bool
is_song id uri entry = entry.id == id && bytes_eq entry.uri uri

-- ---- the entry with an id

no_other : (first : ℕ) (entries : List Entry) (id : ℕ) (uri : List ℕ)
    → ((k : ℕ) → k < length (ids_of entries) → first ≢ get_or (ids_of entries) k 0) → Has (is_song id uri) entries → first ≢ id
no_other first [] id uri apart h same = absurd (cc)
no_other first (entry ∷ entries) id uri apart h same =
    of (entry.id == id) refl h (no_other first entries id uri (λ k within. apart (suc k) (omega (arith, within))))
  where
    of : (b : Bool) → (entry.id == id) ≡ b → ((b && bytes_eq entry.uri uri) || list_any (is_song id uri) entries) ≡ true
        → (Has (is_song id uri) entries → first ≢ id) → ⊥
    of true is h rest = apart 0 (omega arith) (same ∙ sym (eqb-true entry.id id is))
    of false is h rest = rest h same

own_head : (entry : Entry) (entries : List Entry) → HaveOwnIds (entry ∷ entries) → (k : ℕ) → k < length (ids_of entries)
    → entry.id ≢ get_or (ids_of entries) k 0
own_head entry entries own k within = own 0 (suc k) 0 (omega arith) (omega (arith, within))

-- it is the one that is found
song_row : (songs : List Row) (entries : List Entry) (id : ℕ) (uri : List ℕ) → HaveOwnIds entries → Has (is_song id uri) entries
    → option_and_then (entry_row songs) (find (λ entry. entry.id == id) entries) ≡ row_at songs uri
song_row songs [] id uri own h = absurd (cc)
song_row songs (entry ∷ entries) id uri own h =
    of (entry.id == id) refl h (song_row songs entries id uri (own_ids-back (entry ∷ []) entries own))
  where
    of : (b : Bool) → (entry.id == id) ≡ b → ((b && bytes_eq entry.uri uri) || list_any (is_song id uri) entries) ≡ true
        → (Has (is_song id uri) entries
        → option_and_then (entry_row songs) (find (λ entry. entry.id == id) entries) ≡ row_at songs uri)
        → option_and_then (entry_row songs) (cond b (Some entry) (find (λ entry. entry.id == id) entries)) ≡ row_at songs uri
    of false is h rest = rest h
    of true is h rest = this (bytes_eq entry.uri uri) refl h
      where
        this : (same : Bool) → bytes_eq entry.uri uri ≡ same → (same || list_any (is_song id uri) entries) ≡ true
            → row_at songs entry.uri ≡ row_at songs uri
        this true same h = ap (row_at songs) ((bytes_eq-Decides entry.uri uri).0 same)
        this false other h =
            absurd (no_other entry.id entries id uri (own_head entry entries own) h (eqb-true entry.id id is))

-- the entry at a place is one of its id and its song
song_there : (entries : List Entry) (current : Option ℕ) (place : ℕ × ℕ) → IsAt entries current place
    → Has (is_song place.1 (get_or entries place.0 no_entry).uri) entries
song_there entries current place at =
    list_any_at (is_song place.1 (get_or entries place.0 no_entry).uri) entries place.0 no_entry at.within
    (at_song entries current place at)

pub row_at_place : (songs : List Row) (entries : List Entry) (current : Option ℕ) (place : ℕ × ℕ) → HaveOwnIds entries
    → IsAt entries current place
    → option_and_then (entry_row songs) (current_entry entries current) ≡ row_at songs (get_or entries place.0 no_entry).uri
row_at_place songs entries current place own at =
    ap (λ o. option_and_then (entry_row songs) (current_entry entries o)) at.this
    ∙ song_row songs entries place.1 (get_or entries place.0 no_entry).uri own (song_there entries current place at)

-- the song of the current entry stays where that entry does
pub row_kept_at : (songs : List Row) (before after : List Entry) (current : Option ℕ) (place : ℕ × ℕ) → HaveOwnIds before
    → HaveOwnIds after → IsAt before current place → Has (is_song place.1 (get_or before place.0 no_entry).uri) after
    → option_and_then (entry_row songs) (current_entry after current) ≡ option_and_then (entry_row songs) (current_entry before current)
row_kept_at songs before after current place own_before own_after at h =
    ap (λ o. option_and_then (entry_row songs) (current_entry after o)) at.this
    ∙ song_row songs after place.1 (get_or before place.0 no_entry).uri own_after h
    ∙ sym (row_at_place songs before current place own_before at)

pub row_kept : (songs : List Row) (before after : List Entry) (current : Option ℕ) → HaveOwnIds before → HaveOwnIds after
    → ((id : ℕ) (uri : List ℕ) → Carries (is_song id uri) before after) → IfSome current (IsIn before)
    → option_and_then (entry_row songs) (current_entry after current) ≡ option_and_then (entry_row songs) (current_entry before current)
row_kept songs before after None own_before own_after carries here = refl
row_kept songs before after (Some id) own_before own_after carries here =
    let place = placed_where before id here in
    let at = placed_at before (Some id) place.0 place.1 in
    row_kept_at songs before after (Some id) place.0 own_before own_after at
    (carries place.0.1 (get_or before place.0.0 no_entry).uri (song_there before (Some id) place.0 at))

-- an entry that stands at a place
standing : (l : List Entry) (k : ℕ) (entry : Entry) (id : ℕ) → slice_get l k ≡ Some entry → entry.id ≡ id
    → Has (is_song id entry.uri) l
standing [] k entry id stands same = absurd (cc)
standing (first ∷ l) zero entry id stands same =
    let this : first ≡ entry = cc in
    ap (λ b. b || list_any (is_song id entry.uri) l)
    (ap (is_song id entry.uri) this ∙ (λ i. eq-eqb entry.id id same i && (bytes_eq-Decides entry.uri entry.uri).1 refl i))
standing (first ∷ l) (suc k) entry id stands same =
    has_later (is_song id entry.uri) first l (standing l k entry id stands same)

-- an entry that a command names
named_at : (songs : List Row) (entries : List Entry) (n id : ℕ) → HaveOwnIds entries → id_at (slice_get entries n) ≡ Ok id
    → option_and_then (entry_row songs) (slice_get entries n)
    ≡ option_and_then (entry_row songs) (find (λ entry. entry.id == id) entries)
named_at songs entries n id own is = of (slice_get entries n) refl is
  where
    of : (o : Option Entry) → slice_get entries n ≡ o → id_at o ≡ Ok id
        → option_and_then (entry_row songs) o ≡ option_and_then (entry_row songs) (find (λ entry. entry.id == id) entries)
    of None stands is = absurd (cc)
    of (Some entry) stands is =
        let same : entry.id ≡ id = cc in
        sym (song_row songs entries id entry.uri own (standing entries n entry id stands same))

pub named_row : (songs : List Row) (selector : Selector) (entries : List Entry) (id : ℕ) → HaveOwnIds entries
    → named selector entries ≡ Ok id
    → option_and_then (entry_row songs) (named_entry selector entries)
    ≡ option_and_then (entry_row songs) (find (λ entry. entry.id == id) entries)
named_row songs (Position n) entries id own is = named_at songs entries n id own is
named_row songs (Id other) entries id own is = of (list_any (λ entry. entry.id == other) entries) is
  where
    of : (b : Bool) → cond b (Ok other) (Err NoSuchSong) ≡ Ok id
        → option_and_then (entry_row songs) (find (λ entry. entry.id == other) entries)
        ≡ option_and_then (entry_row songs) (find (λ entry. entry.id == id) entries)
    of true is =
        let same : other ≡ id = cc in ap (λ n. option_and_then (entry_row songs) (find (λ entry. entry.id == n) entries)) same
    of false is = absurd (cc)

-- ---- frames

abbrev pub FrameWithin : Option Row → ℕ → Type 0
FrameWithin row frame = IfSome row (λ r. frame ≤ r.frames)

pub none_within : (row : Option Row) (frame : ℕ) → frame ≡ 0 → FrameWithin row frame
none_within None frame is = tt
none_within (Some row) frame is = omega (arith, is)

pub least_within : (row : Option Row) (frame most : ℕ) → FrameWithin row most → FrameWithin row (min frame most)
least_within None frame most h = tt
least_within (Some row) frame most h = omega (arith, h)
