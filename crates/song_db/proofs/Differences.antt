-- The answers of a scan together tell the difference.
use Rattle.std.proofs.Common.{◌≡◌, ℕ, ◌+◌, ◌≤◌, Bool, true, false, not, ◌&&◌, ◌||◌, List, [], ◌∷◌, ◌++◌, Option, Some, None, cond, length}
use Rattle.std.proofs.Common.{refl, sym, ap, subst, ◌∙◌, arith, append-nil, append_assoc}
use Rattle.std.specs.Prelude.{count_by, if◌then◌else◌}
use Rattle.std.specs.List.{All}
use Rattle.std.specs.Str.{bytes_eq}
use Rattle.std.proofs.lemmas.List.Elements.{All-append, All-head, All-tail, All-nil, All-same}
use Rattle.std.proofs.lemmas.List.Folds.{list_any-append}
use Rattle.song_db.specs.declared.change.RowChange.{RowChange}
use Rattle.song_db.specs.Difference.{begun, IsStep, IsScan, joined, ScansTellTheDifference, WithoutStampsAllIsRead}
use Rattle.song_db.specs.Music.{Music, is_unchanged, music_of, song_at, uris_of}
use Rattle.song_db.specs.Uri.{is_uri}
use Rattle.song_db.specs.Pending.{AreEntriesTold, AreTold, Listed, times_pending, own_pending}
use Rattle.song_db.specs.Place.{is_below}
use Rattle.song_db.specs.Row.{Row}
use Rattle.song_db.specs.Scan.{IsHonestAnswer, IsHonestRead, IsWholeAnswer, IsWholeRead}
use Rattle.song_db.specs.Scan.{Progress, ArePartOf, AreSongs, IsCareful, puts_of, drops_of, has_row, has_song, is_among, is_put, is_sought, is_there, times_put}
use Rattle.song_db.proofs.BatchSteps.{puts-append, drops-append}
use Rattle.song_db.proofs.Below.{below_short}
use Rattle.song_db.proofs.Counts.{there_parts, count-cons, count-append, same_bytes, both, among_filter}
use Rattle.song_db.proofs.HonestSteps.{put_there}
use Rattle.song_db.proofs.OwnSteps.{own_times, root_times}

pub record Sums (music : Music) (place : Option (List ℕ)) (before after : Progress) (changes : List RowChange) : Type 0 where
  pub less : (uri : List ℕ) → times_put changes uri + times_pending after.pending uri ≤ times_pending before.pending uri
  pub more : (uri : List ℕ) → is_put music place uri ≡ true
      → times_pending before.pending uri ≤ times_put changes uri + times_pending after.pending uri
  pub puts : All (λ (row : Row). is_put music place row.uri ≡ true) (puts_of changes)
  pub songs : AreSongs music changes
  pub parts : (uri : List ℕ) → is_among (drops_of changes ++ after.droppable) uri ≡ true → is_among before.droppable uri ≡ true
  pub none : All (λ uri. is_there music place uri ≡ false) (drops_of changes)
  pub gone : (uri : List ℕ) → is_there music place uri ≡ false → is_among before.droppable uri ≡ true
      → is_among (drops_of changes ++ after.droppable) uri ≡ true

among-append : (xs ys : List (List ℕ)) (uri : List ℕ) → is_among (xs ++ ys) uri ≡ (is_among xs uri || is_among ys uri)
among-append xs ys uri = list_any-append (bytes_eq uri) xs ys

either : {P : Type 0} (a b : Bool) → (a || b) ≡ true → (a ≡ true → P) → (b ≡ true → P) → P
either true b h left right = left refl
either false b h left right = right h

or_left : (a b : Bool) → a ≡ true → (a || b) ≡ true
or_left true b h = refl
or_left false b h = absurd (cc)

or_right : (a b : Bool) → b ≡ true → (a || b) ≡ true
or_right true b h = refl
or_right false b h = h

part_among : (part uris : List (List ℕ)) (uri : List ℕ) → ArePartOf part uris → is_among part uri ≡ true → is_among uris uri ≡ true
part_among part uris uri (test, is) among =
    (both (is_among uris uri) (test uri) (sym (ap (λ l. is_among l uri) is ∙ among_filter test uri uris) ∙ among)).0

put-append : (xs ys : List RowChange) (uri : List ℕ) → times_put (xs ++ ys) uri ≡ times_put xs uri + times_put ys uri
put-append xs ys uri = ap (count_by (λ (r : Row). bytes_eq uri r.uri)) (puts-append xs ys)
    ∙ count-append (λ (r : Row). bytes_eq uri r.uri) (puts_of xs) (puts_of ys)

-- the drops of two parts, and what is left
three : (xs ys : List RowChange) (left : List (List ℕ)) → drops_of (xs ++ ys) ++ left ≡ drops_of xs ++ (drops_of ys ++ left)
three xs ys left = ap (λ l. l ++ left) (drops-append xs ys) ∙ append_assoc (drops_of xs) (drops_of ys) left

no_answer : (music : Music) (place : Option (List ℕ)) (before : Progress) → Sums music place before before []
no_answer music place before =
    record {
      less = λ uri. omega arith;
      more = λ uri song. omega arith;
      puts = All-nil (λ (row : Row). is_put music place row.uri ≡ true);
      songs = All-nil (λ (row : Row). song_at music row.uri ≡ Some row);
      parts = λ uri among. among;
      none = All-nil (λ uri. is_there music place uri ≡ false);
      gone = λ uri none among. among;
    }

-- what is told of the files of an order is told of its music
honest_of : (music : Music) (place : Option (List ℕ)) (before next : Progress) (changes : List RowChange) → before.place ≡ place
    → music_of before.rules before.known music.files ≡ music → IsHonestAnswer music.files before next changes
    → AreTold music.files before.listed → IsHonestRead music place before.pending next.pending before.droppable next.droppable changes
honest_of music place before next changes same own read told =
    subst (λ m. IsHonestRead m place before.pending next.pending before.droppable next.droppable changes) own
    (subst (λ p. IsHonestRead (music_of before.rules before.known music.files) p before.pending next.pending before.droppable
    next.droppable changes) same (read told).1)

whole_of : (music : Music) (place : Option (List ℕ)) (before next : Progress) (changes : List RowChange) → before.place ≡ place
    → music_of before.rules before.known music.files ≡ music → IsWholeAnswer music.files before next changes
    → AreTold music.files before.listed → IsWholeRead music place before.pending next.pending before.droppable next.droppable changes
whole_of music place before next changes same own read told =
    subst (λ m. IsWholeRead m place before.pending next.pending before.droppable next.droppable changes) own
    (subst (λ p. IsWholeRead (music_of before.rules before.known music.files) p before.pending next.pending before.droppable
    next.droppable changes) same (read told))

one_answer : (music : Music) (place : Option (List ℕ)) (before next after : Progress) (changes more : List RowChange)
    → before.place ≡ place → music_of before.rules before.known music.files ≡ music
    → AreTold music.files before.listed → IsCareful music place before.pending before.droppable → IsStep music.files before next changes
    → Sums music place next after more
    → Sums music place before after (changes ++ more)
one_answer music place before next after changes more same own told careful step rest =
    let read : IsHonestRead music place before.pending next.pending before.droppable next.droppable changes
    = honest_of music place before next changes same own step.read told in
    let whole : IsWholeRead music place before.pending next.pending before.droppable next.droppable changes
    = whole_of music place before next changes same own step.whole told in
    let puts : All (λ (row : Row). is_put music place row.uri ≡ true) (puts_of changes) = read.puts in
    let drops : All (λ uri. is_there music place uri ≡ false) (drops_of changes) = read.drops careful in
    record {
      less = λ uri. omega (arith, read.read uri, rest.less uri, put-append changes more uri);
      more = λ uri song. omega (arith, whole.read uri song, rest.more uri song, put-append changes more uri);
      puts = All-same (λ (row : Row). is_put music place row.uri ≡ true) _ _ (puts-append changes more)
          (All-append (λ (row : Row). is_put music place row.uri ≡ true) (puts_of changes) (puts_of more) puts rest.puts);
      songs = All-same (λ (row : Row). song_at music row.uri ≡ Some row) _ _ (puts-append changes more)
          (All-append (λ (row : Row). song_at music row.uri ≡ Some row) (puts_of changes) (puts_of more) read.songs rest.songs);
      parts = λ uri among. part_among (drops_of changes ++ next.droppable) before.droppable uri step.drops
          (among-append (drops_of changes) next.droppable uri
          ∙ either (is_among (drops_of changes) uri) (is_among (drops_of more ++ after.droppable) uri)
          (sym (ap (λ l. is_among l uri) (three changes more after.droppable)
          ∙ among-append (drops_of changes) (drops_of more ++ after.droppable) uri) ∙ among)
          (λ left. or_left (is_among (drops_of changes) uri) (is_among next.droppable uri) left)
          (λ right. or_right (is_among (drops_of changes) uri) (is_among next.droppable uri) (rest.parts uri right)));
      none = All-same (λ uri. is_there music place uri ≡ false) _ _ (drops-append changes more)
          (All-append (λ uri. is_there music place uri ≡ false) (drops_of changes) (drops_of more) drops rest.none);
      gone = λ uri none among.
          ap (λ l. is_among l uri) (three changes more after.droppable)
          ∙ among-append (drops_of changes) (drops_of more ++ after.droppable) uri
          ∙ either (is_among (drops_of changes) uri) (is_among next.droppable uri)
          (sym (among-append (drops_of changes) next.droppable uri) ∙ whole.gone uri none among)
          (λ left. or_left (is_among (drops_of changes) uri) (is_among (drops_of more ++ after.droppable) uri) left)
          (λ right. or_right (is_among (drops_of changes) uri) (is_among (drops_of more ++ after.droppable) uri)
          (rest.gone uri none right));
    }

all_answers : (music : Music) (place : Option (List ℕ)) (before after : Progress) (answers : List (List RowChange))
    → before.place ≡ place → music_of before.rules before.known music.files ≡ music
    → AreTold music.files before.listed → IsCareful music place before.pending before.droppable → IsScan music.files before answers after
    → Sums music place before after (joined answers)
all_answers music place before after [] same own told careful scan = rw (← scan) (no_answer music place before)
all_answers music place before after (changes ∷ answers) same own told careful (next, step, rest) =
    one_answer music place before next after changes (joined answers) same own told careful step
    (all_answers music place next after answers (step.order.place ∙ same)
    (rw (step.order.rules, step.order.known) own) (step.read told).0
    ((honest_of music place before next changes same own step.read told).careful careful) rest)

-- the job's place has each of its songs once
one_time : (music : Music) (place : Option (List ℕ)) (uri : List ℕ) → is_there music place uri ≡ true
    → times_pending (own_pending place) uri ≡ 1
one_time music None uri song = root_times uri
one_time music (Some own) uri song =
    own_times own uri ∙ by_cases (bytes_eq uri own) refl (is_below own uri) refl (there_parts music (Some own) uri song).within
  where
    by_cases : (a : Bool) → bytes_eq uri own ≡ a → (b : Bool) → is_below own uri ≡ b → (a || b) ≡ true
        → ◌≡◌ {A = ℕ} (cond a 1 0 + cond b 1 0) 1
    by_cases true same true under h =
        let one : uri ≡ own = same_bytes uri own same in
        absurd (let k : is_below own uri ≡ false = below_short own uri (omega (arith, ap (λ (l : List ℕ). length l) one)) in
        let l : true ≡ false = sym under ∙ k in cc)
    by_cases true same false under h = refl
    by_cases false other true under h = refl
    by_cases false other false under h = absurd (cc)

none_put : (music : Music) (place : Option (List ℕ)) (uri : List ℕ) (rows : List Row) → is_put music place uri ≡ false
    → All (λ (row : Row). is_put music place row.uri ≡ true) rows
    → count_by (λ (row : Row). bytes_eq uri row.uri) rows ≡ 0
none_put music place uri [] none puts = refl
none_put music place uri (row ∷ rows) none puts =
    by_cases (bytes_eq uri row.uri) refl (All-head (λ (r : Row). is_put music place r.uri ≡ true) row rows puts)
    (none_put music place uri rows none (All-tail (λ (r : Row). is_put music place r.uri ≡ true) row rows puts))
  where
    by_cases : (b : Bool) → bytes_eq uri row.uri ≡ b → is_put music place row.uri ≡ true
        → count_by (λ (r : Row). bytes_eq uri r.uri) rows ≡ 0
        → count_by (λ (r : Row). bytes_eq uri r.uri) (row ∷ rows) ≡ 0
    by_cases true same song rest =
        absurd (let k : true ≡ false = sym song ∙ ap (is_put music place) (sym (same_bytes uri row.uri same)) ∙ none in cc)
    by_cases false other song rest =
        let n : ◌≡◌ {A = ℕ} (cond (bytes_eq uri row.uri) 1 0) 0 = rw other refl in
        omega (arith, count-cons (λ (r : Row). bytes_eq uri r.uri) row rows, n, rest)

none_among : (music : Music) (place : Option (List ℕ)) (uri : List ℕ) (drops : List (List ℕ)) → is_there music place uri ≡ true
    → All (λ u. is_there music place u ≡ false) drops → is_among drops uri ≡ false
none_among music place uri [] song none = refl
none_among music place uri (x ∷ xs) song none =
    by_cases (bytes_eq uri x) refl (All-head (λ u. is_there music place u ≡ false) x xs none)
    (none_among music place uri xs song (All-tail (λ u. is_there music place u ≡ false) x xs none))
  where
    by_cases : (b : Bool) → bytes_eq uri x ≡ b → is_there music place x ≡ false → is_among xs uri ≡ false
        → (bytes_eq uri x || is_among xs uri) ≡ false
    by_cases true same lacks rest =
        absurd (let k : true ≡ false = sym song ∙ ap (is_there music place) (same_bytes uri x same) ∙ lacks in cc)
    by_cases false other lacks rest = rw other rest

and_false : (b : Bool) → (b && false) ≡ false
and_false true = refl
and_false false = refl

and_true : (b : Bool) → (b && true) ≡ b
and_true true = refl
and_true false = refl

same_truth : (a b : Bool) → (a ≡ true → b ≡ true) → (b ≡ true → a ≡ true) → a ≡ b
same_truth true b to back = sym (to refl)
same_truth false true to back = back refl
same_truth false false to back = refl

pub scans_tell : ScansTellTheDifference
scans_tell files order answers end scan over =
    record {
      puts = λ uri. puts uri (is_put music order.uri uri) refl;
      songs = sums.songs;
      drops = λ uri. drops uri (is_there music order.uri uri) refl;
    }
  where
    music : Music
    music = music_of order.rules order.known files

    careful : IsCareful music order.uri (own_pending order.uri) (uris_of order.known)
    careful uri song among = omega (arith, one_time music order.uri uri song)

    sums : Sums music order.uri (begun order) end (joined answers)
    sums = all_answers music order.uri (begun order) end answers refl refl (All-nil (λ (l : Listed). AreEntriesTold files l.prefix l.entries)) careful scan

    left : (uri : List ℕ) → times_pending end.pending uri ≡ 0
    left uri = ap (λ ps. times_pending ps uri) over.pending

    puts : (uri : List ℕ) (b : Bool) → is_put music order.uri uri ≡ b → times_put (joined answers) uri ≡ (if b then 1 else 0)
    puts uri true song = omega (
      arith,
      sums.less uri,
      sums.more uri song,
      left uri,
      one_time music order.uri uri
          (put_there music order.uri uri song),
    )
    puts uri false none = none_put music order.uri uri (puts_of (joined answers)) none sums.puts

    whole : drops_of (joined answers) ++ end.droppable ≡ drops_of (joined answers)
    whole = ap (λ l. drops_of (joined answers) ++ l) over.droppable ∙ append-nil (drops_of (joined answers))

    drops : (uri : List ℕ) (b : Bool) → is_there music order.uri uri ≡ b
        → is_among (drops_of (joined answers)) uri ≡ (is_among (uris_of order.known) uri && not b)
    drops uri true song = none_among music order.uri uri (drops_of (joined answers)) song sums.none
        ∙ sym (and_false (is_among (uris_of order.known) uri))
    drops uri false none =
        same_truth (is_among (drops_of (joined answers)) uri) (is_among (uris_of order.known) uri)
        (λ among. sums.parts uri (ap (λ l. is_among l uri) whole ∙ among))
        (λ among. sym (ap (λ l. is_among l uri) whole) ∙ sums.gone uri none among)
        ∙ sym (and_true (is_among (uris_of order.known) uri))

-- where the rules keep no stamps, nothing is known to be unchanged
pub all_is_read : WithoutStampsAllIsRead
all_is_read music place uri none = (put_same, there_same)
  where
    changed : is_unchanged music uri ≡ false
    changed = rw none refl

    not_false : (a b c : Bool) → (a && (b && (c && true))) ≡ (a && (b && c))
    not_false a b c = ap (λ d. a && (b && d)) (and_true c)

    or_false : (a b c : Bool) → (a && (b && (c || false))) ≡ (a && (b && c))
    or_false a b true = refl
    or_false a b false = refl

    put_same : is_put music place uri ≡ has_song music place uri
    put_same = rw changed (not_false (is_uri uri) (is_sought music.rules place uri) (has_row (song_at music uri)))

    there_same : is_there music place uri ≡ has_song music place uri
    there_same = rw changed (or_false (is_uri uri) (is_sought music.rules place uri) (has_row (song_at music uri)))
