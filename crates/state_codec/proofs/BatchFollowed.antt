-- What queue and stickers follow of a batch: the URIs that it drops, and those whose row is another one afterwards.
use Rattle.std.proofs.Common.{◌≡◌, ℕ, ◌+◌, Bool, true, false, cond, not, ◌||◌, ◌&&◌, List, [], ◌∷◌, ◌++◌, filter, map, Option, Some, None}
use Rattle.std.proofs.Common.{is_some, refl, sym, ap, ◌∙◌, arith}
use Rattle.std.specs.List.{All}
use Rattle.std.specs.List.Sorted.{IsPermutation}
use Rattle.std.specs.Option.{option_to_list}
use Rattle.std.specs.Str.{bytes_eq}
use Rattle.std.proofs.lemmas.Slice.Eq.{bytes_eq-Decides}
use Rattle.std.proofs.lemmas.List.Elements.{All-cons, All-head, All-tail}
use Rattle.std.proofs.lemmas.List.Sorted.{list_any-IsPermutation}
use Rattle.std.proofs.lemmas.Map.Keys.{sorted_head, sorted_tail}
use Rattle.play_queue.specs.declared.entry.Entry.{Entry}
use Rattle.play_queue.specs.Entries.{Uris, is_among, kept}
use Rattle.play_queue.specs.Queue.{QueueState, is_unchanged, with_stamp, stamped, ruled}
use Rattle.song_db.specs.Change.{IsDatabase, changed, has_uri, fits, after_change, after_batch, uri_of}
use Rattle.song_db.specs.Replaced.{by_text, IsRising}
use Rattle.song_db.specs.Row.{Row, row_uri, row_at}
use Rattle.song_db.specs.Same.{same_row}
use Rattle.song_db.specs.Scan.{drops_of}
use Rattle.song_db.specs.declared.change.RowChange.{RowChange}
use Rattle.song_db.specs.declared.change.RowChange.TheVariants.{Put, Drop}
use Rattle.song_db.proofs.Batches.{AreBehind}
use Rattle.song_db.proofs.SameRows.{same_exactly}
use Rattle.song_db.proofs.Turns.{none_behind, database_after}
use Rattle.state_codec.specs.OpsRows.{is_other, changed_uris, without_songs, with_batch}
use Rattle.state_codec.specs.RowSteps.{is_named, says_other, changed_first, changed_by}
use Rattle.state_codec.specs.SavedState.{SavedState, IsSavedState, IsSavedEntry}
use Rattle.state_codec.proofs.BatchRows.{replaced_row, same_or_not}
use Rattle.stickers.specs.Sticker.{Sticker}

same_bytes : (a b : List ℕ) → bytes_eq a b ≡ true → a ≡ b
same_bytes a b same = (bytes_eq-Decides a b).0 same

-- the row of a URI that has one, after a change of another URI
row_apart : (rows : List Row) (change : RowChange) (uri : List ℕ) → IsDatabase rows → bytes_eq uri (uri_of change) ≡ false
    → row_at (after_change rows change) uri ≡ row_at rows uri
row_apart rows change uri database apart = of (fits rows change)
  where
    of : (b : Bool) → row_at (cond b (changed change rows) rows) uri ≡ row_at rows uri
    of true = replaced_row change rows uri database.rising ∙ rw apart refl
    of false = refl

-- and after one that puts its row
row_here : (rows : List Row) (row : Row) (uri : List ℕ) → IsDatabase rows → has_uri rows uri ≡ true → bytes_eq uri row.uri ≡ true
    → row_at (after_change rows (Put row)) uri ≡ Some row
row_here rows row uri database there same = of (fits rows (Put row)) fit
  where
    fit : fits rows (Put row) ≡ true
    fit = rw (sym (same_bytes uri row.uri same), there) refl

    of : (b : Bool) → b ≡ true → row_at (cond b (changed (Put row) rows) rows) uri ≡ Some row
    of true is = replaced_row (Put row) rows uri database.rising ∙ rw same refl
    of false is = absurd (cc)

has_from : (o : Option Row) (row : Row) → o ≡ Some row → is_some o ≡ true
has_from o row is = ap is_some is

or_false : (a b : Bool) → (a || b) ≡ false → (a ≡ false) × (b ≡ false)
or_false true b none = absurd (cc)
or_false false b none = (refl, none)

-- a URI of which no change is keeps its row
unnamed : (rows : List Row) (changes : List RowChange) (uri : List ℕ) → IsDatabase rows → is_named changes uri ≡ false
    → row_at (after_batch rows changes) uri ≡ row_at rows uri
unnamed rows [] uri database none = refl
unnamed rows (change ∷ changes) uri database none =
    let parts = or_false (bytes_eq uri (uri_of change)) (is_named changes uri) none in
    unnamed (after_change rows change) changes uri (database_after rows change database) parts.1
    ∙ row_apart rows change uri database parts.0

-- whether the first change gives the URI, and then the others
first_among : (before : List Row) (row : Row) (more : List RowChange) (rest : Uris) (uri : List ℕ)
    → is_among (option_to_list (changed_first before (Put row) more) ++ rest) uri
    ≡ (cond (is_named more row.uri) false (says_other row (row_at before row.uri) && bytes_eq row.uri uri) || is_among rest uri)
first_among before row more rest uri = of (is_named more row.uri) (says_other row (row_at before row.uri))
  where
    of : (named other : Bool) → is_among (option_to_list (cond named None (cond other (Some row.uri) None)) ++ rest) uri
        ≡ (cond named false (other && bytes_eq row.uri uri) || is_among rest uri)
    of true other = refl
    of false true = refl
    of false false = refl

abbrev Told : List Row → List Row → List RowChange → List ℕ → Row → Type 0
Told before rows changes uri old = is_among (changed_by before changes) uri
    ≡ cond (is_named changes uri) (is_other old (row_at (after_batch rows changes) uri)) false

-- the code's list has a URI exactly where its row is another one at the end
named_among : (before rows : List Row) (changes : List RowChange) (uri : List ℕ) (old : Row) → row_at before uri ≡ Some old
    → IsDatabase rows → has_uri rows uri ≡ true → is_among (drops_of changes) uri ≡ false → Told before rows changes uri old
named_among before rows [] uri old was database there apart = refl
named_among before rows (Drop key ∷ more) uri old was database there apart =
    let parts = or_false (bytes_eq key uri) (is_among (drops_of more) uri) apart in
    let other : bytes_eq uri key ≡ false = same_or_not key uri false parts.0 in
    let stays : has_uri (after_change rows (Drop key)) uri ≡ true = ap is_some (row_apart rows (Drop key) uri database other) ∙ there in
    let rest = named_among before (after_change rows (Drop key)) more uri old was (database_after rows (Drop key) database) stays parts.1 in
    rest ∙ of (bytes_eq uri key) other
  where
    of : (b : Bool) → b ≡ false → cond (is_named more uri) (is_other old (row_at (after_batch (after_change rows (Drop key)) more) uri))
        false ≡ cond (b || is_named more uri) (is_other old (row_at (after_batch (after_change rows (Drop key)) more) uri)) false
    of true is = absurd (cc)
    of false is = refl
named_among before rows (Put row ∷ more) uri old was database there apart =
    by_uri (bytes_eq uri row.uri) refl
    (λ stays. named_among before (after_change rows (Put row)) more uri old was (database_after rows (Put row) database) stays apart)
  where
    after : List Row
    after = after_batch (after_change rows (Put row)) more

    here : (named other rest : Bool) → (named ≡ false → other ≡ is_other old (row_at (after_batch (after_change rows (Put row)) more) uri))
        → rest ≡ cond named (is_other old (row_at (after_batch (after_change rows (Put row)) more) uri)) false
        → (cond named false (other && true) || rest) ≡ is_other old (row_at (after_batch (after_change rows (Put row)) more) uri)
    here true other rest last is = is
    here false true rest last is = last refl
    here false false rest last is = is ∙ last refl

    by_uri : (b : Bool) → bytes_eq uri row.uri ≡ b
        → (has_uri (after_change rows (Put row)) uri ≡ true → Told before (after_change rows (Put row)) more uri old)
        → is_among (changed_by before (Put row ∷ more)) uri ≡ cond (b || is_named more uri)
        (is_other old (row_at (after_batch (after_change rows (Put row)) more) uri)) false
    by_uri true same rest =
        let put : row_at (after_change rows (Put row)) uri ≡ Some row = row_here rows row uri database there same in
        let key : row.uri ≡ uri = sym (same_bytes uri row.uri same) in
        let turned : bytes_eq row.uri uri ≡ true = same_or_not uri row.uri true same in
        let told = rest (has_from _ row put) in
        let last : is_named more uri ≡ false
        → says_other row (row_at before uri) ≡ is_other old (row_at (after_batch (after_change rows (Put row)) more) uri) =
        λ none. rw was (ap (is_other old)
        (sym (unnamed (after_change rows (Put row)) more uri (database_after rows (Put row) database) none ∙ put))) in
        first_among before row more (changed_by before more) uri
        ∙ ap (λ u. cond (is_named more u) false (says_other row (row_at before u) && bytes_eq row.uri uri)
        || is_among (changed_by before more) uri) key
        ∙ ap (λ b. cond (is_named more uri) false (says_other row (row_at before uri) && b) || is_among (changed_by before more) uri) turned
        ∙ here (is_named more uri) (says_other row (row_at before uri)) (is_among (changed_by before more) uri) last told
    by_uri false other rest =
        let turned : bytes_eq row.uri uri ≡ false = same_or_not uri row.uri false other in
        let stays : has_uri (after_change rows (Put row)) uri ≡ true = ap is_some (row_apart rows (Put row) uri database other) ∙ there in
        first_among before row more (changed_by before more) uri
        ∙ rw turned (none (is_named more row.uri) (says_other row (row_at before row.uri)) (is_among (changed_by before more) uri))
        ∙ rest stays
      where
        none : (named other rest : Bool) → (cond named false (other && false) || rest) ≡ rest
        none true other rest = refl
        none false true rest = refl
        none false false rest = refl

-- the definition's list has a URI exactly there too
none_among : (rows after : List Row) (uri : List ℕ) → row_at rows uri ≡ None → is_among (changed_uris rows after) uri ≡ false
none_among [] after uri none = refl
none_among (x ∷ xs) after uri none = of (bytes_eq uri x.uri) refl none (none_among xs after uri)
  where
    of : (b : Bool) → bytes_eq uri x.uri ≡ b → cond b (Some x) (row_at xs uri) ≡ None
        → (row_at xs uri ≡ None → is_among (changed_uris xs after) uri ≡ false) → is_among (changed_uris (x ∷ xs) after) uri ≡ false
    of true same none rest = absurd (cc)
    of false other none rest = by_row (is_other x (row_at after x.uri))
      where
        by_row : (b : Bool) → is_among
            (map row_uri (cond b (x ∷ filter (λ row. is_other row (row_at after row.uri)) xs)
            (filter (λ row. is_other row (row_at after row.uri)) xs))) uri ≡ false
        by_row true = rw (same_or_not uri x.uri false other) (rest none)
        by_row false = rest none

defined_among : (rows after : List Row) (uri : List ℕ) (old : Row) → IsRising row_uri rows → row_at rows uri ≡ Some old
    → is_among (changed_uris rows after) uri ≡ is_other old (row_at after uri)
defined_among [] after uri old rising was = absurd (cc)
defined_among (x ∷ xs) after uri old rising was =
    of (bytes_eq uri x.uri) refl was (defined_among xs after uri old (sorted_tail (by_text row_uri) x xs rising))
  where
    behind : AreBehind row_uri x.uri xs
    behind = sorted_head (by_text row_uri) x xs rising

    of : (b : Bool) → bytes_eq uri x.uri ≡ b → cond b (Some x) (row_at xs uri) ≡ Some old
        → (row_at xs uri ≡ Some old → is_among (changed_uris xs after) uri ≡ is_other old (row_at after uri))
        → is_among (changed_uris (x ∷ xs) after) uri ≡ is_other old (row_at after uri)
    of true same was rest =
        let is : x ≡ old = cc in
        let key : uri ≡ x.uri = same_bytes uri x.uri same in
        let none : row_at xs uri ≡ None = rw key (none_behind x.uri xs behind) in
        by_row (is_other x (row_at after x.uri)) refl (ap (λ u. is_other x (row_at after u)) (sym key)
        ∙ ap (λ r. is_other r (row_at after uri)) is) none
      where
        by_row : (b : Bool) → is_other x (row_at after x.uri) ≡ b → is_other x (row_at after x.uri) ≡ is_other old (row_at after uri)
            → row_at xs uri ≡ None
            → is_among (map row_uri (cond b (x ∷ filter (λ row. is_other row (row_at after row.uri)) xs)
            (filter (λ row. is_other row (row_at after row.uri)) xs))) uri ≡ is_other old (row_at after uri)
        by_row true is told none = rw (same_or_not uri x.uri true same) (sym is ∙ told)
        by_row false is told none = none_among xs after uri none ∙ sym is ∙ told
    of false other was rest = by_row (is_other x (row_at after x.uri))
      where
        by_row : (b : Bool) → is_among
            (map row_uri (cond b (x ∷ filter (λ row. is_other row (row_at after row.uri)) xs)
            (filter (λ row. is_other row (row_at after row.uri)) xs))) uri ≡ is_other old (row_at after uri)
        by_row true = rw (same_or_not uri x.uri false other) (rest was)
        by_row false = rest was

-- both lists have the same URIs among those that have a row and aren't dropped
pub changed_among : (rows : List Row) (changes : List RowChange) (uri : List ℕ) → IsDatabase rows → has_uri rows uri ≡ true
    → is_among (drops_of changes) uri ≡ false
    → is_among (changed_by rows changes) uri ≡ is_among (changed_uris rows (after_batch rows changes)) uri
changed_among rows changes uri database there apart = by_row (row_at rows uri) refl there
  where
    by_row : (o : Option Row) → row_at rows uri ≡ o → is_some o ≡ true
        → is_among (changed_by rows changes) uri ≡ is_among (changed_uris rows (after_batch rows changes)) uri
    by_row None was found = absurd (cc)
    by_row (Some old) was found =
        named_among rows rows changes uri old was database there apart
        ∙ by_name (is_named changes uri) refl
        ∙ sym (defined_among rows (after_batch rows changes) uri old database.rising was)
      where
        itself : same_row old old ≡ true
        itself = (same_exactly old old (same_row old old) refl).1 refl

        by_name : (b : Bool) → is_named changes uri ≡ b
            → cond b (is_other old (row_at (after_batch rows changes) uri)) false ≡ is_other old (row_at (after_batch rows changes) uri)
        by_name true named = refl
        by_name false none = sym (ap (is_other old) (unnamed rows changes uri database none ∙ was) ∙ ap not itself)

-- lists of the same URIs
kept_same : (a b : Uris) → ((uri : List ℕ) → is_among a uri ≡ is_among b uri) → (entries : List Entry) → kept entries a ≡ kept entries b
kept_same a b same [] = refl
kept_same a b same (entry ∷ entries) = rw (same entry.uri, kept_same a b same entries) refl

pub without_same : (a b : Uris) → ((uri : List ℕ) → is_among a uri ≡ is_among b uri) → (all : List Sticker)
    → without_songs all a ≡ without_songs all b
without_same a b same [] = refl
without_same a b same (sticker ∷ stickers) = rw (same sticker.uri, without_same a b same stickers) refl

abbrev AgreeOn : Uris → Uris → Entry → Type 0
AgreeOn a b entry = is_among a entry.uri ≡ is_among b entry.uri

unchanged_same : (a b : Uris) (befores afters : List Entry) → All (AgreeOn a b) afters
    → is_unchanged a befores afters ≡ is_unchanged b befores afters
unchanged_same a b [] [] agree = refl
unchanged_same a b [] (after ∷ afters) agree = refl
unchanged_same a b (before ∷ befores) [] agree = refl
unchanged_same a b (before ∷ befores) (after ∷ afters) agree =
    rw (All-head (AgreeOn a b) after afters agree, unchanged_same a b befores afters (All-tail (AgreeOn a b) after afters agree)) refl

stamped_same : (a b : Uris) (stamp : ℕ) (befores afters : List Entry) → All (AgreeOn a b) afters
    → stamped a stamp befores afters ≡ stamped b stamp befores afters
stamped_same a b stamp befores [] agree = refl
stamped_same a b stamp [] (after ∷ afters) agree =
    ap (λ rest. with_stamp stamp after ∷ rest) (stamped_same a b stamp [] afters (All-tail (AgreeOn a b) after afters agree))
stamped_same a b stamp (before ∷ befores) (after ∷ afters) agree =
    rw (All-head (AgreeOn a b) after afters agree, stamped_same a b stamp befores afters (All-tail (AgreeOn a b) after afters agree)) refl

ruled_same : (a b : Uris) (q : QueueState) (afters : List Entry) → All (AgreeOn a b) afters → ruled q afters a ≡ ruled q afters b
ruled_same a b q afters agree = rw (unchanged_same a b q.entries afters agree, stamped_same a b (q.version + 1) q.entries afters agree) refl

-- the entries that stay agree
kept_agree : (rows : List Row) (changes : List RowChange) (changed : Uris) → IsDatabase rows
    → ((uri : List ℕ) → is_among (changed_by rows changes) uri ≡ is_among changed uri) → (entries : List Entry)
    → All (IsSavedEntry rows) entries → All (AgreeOn changed (changed_uris rows (after_batch rows changes)))
    (kept entries (drops_of changes))
kept_agree rows changes changed database same [] saved = λ k d within. absurd (omega arith)
kept_agree rows changes changed database same (entry ∷ entries) saved =
    of (is_among (drops_of changes) entry.uri) refl
    (kept_agree rows changes changed database same entries (All-tail (IsSavedEntry rows) entry entries saved))
  where
    of : (b : Bool) → is_among (drops_of changes) entry.uri ≡ b
        → All (AgreeOn changed (changed_uris rows (after_batch rows changes))) (kept entries (drops_of changes))
        → All (AgreeOn changed (changed_uris rows (after_batch rows changes)))
        (cond (not b) (entry ∷ kept entries (drops_of changes)) (kept entries (drops_of changes)))
    of true gone rest = rest
    of false apart rest = All-cons (AgreeOn changed (changed_uris rows (after_batch rows changes))) entry (kept entries (drops_of changes))
        (sym (same entry.uri) ∙ changed_among rows changes entry.uri database (All-head (IsSavedEntry rows) entry entries saved).has_row
        apart) rest

permuted_among : (a b : Uris) → IsPermutation a b → (uri : List ℕ) → is_among a uri ≡ is_among b uri
permuted_among a b order uri = list_any-IsPermutation (λ other. bytes_eq other uri) a b order

pub stickers_followed : (dropped others : Uris) (all : List Sticker) → IsPermutation dropped others
    → without_songs all others ≡ without_songs all dropped
stickers_followed dropped others all order = without_same others dropped (λ uri. sym (permuted_among dropped others order uri)) all

pub queue_followed : (s : SavedState) (changes : List RowChange) (dropped changed : Uris) → IsSavedState s
    → IsPermutation (drops_of changes) dropped → IsPermutation (changed_by s.songs changes) changed
    → ruled s.queue (kept s.queue.entries dropped) changed ≡ with_batch s.queue (drops_of changes)
    (changed_uris s.songs (after_batch s.songs changes))
queue_followed s changes dropped changed saved drops others =
    ap (λ entries. ruled s.queue entries changed)
    (kept_same dropped (drops_of changes) (λ uri. sym (permuted_among (drops_of changes) dropped drops uri)) s.queue.entries)
    ∙ ruled_same changed (changed_uris s.songs (after_batch s.songs changes)) s.queue (kept s.queue.entries (drops_of changes))
    (kept_agree s.songs changes changed saved.songs.database (permuted_among (changed_by s.songs changes) changed others)
    s.queue.entries saved.queue.entries)
