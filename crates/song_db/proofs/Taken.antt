-- The next visit of a walk is taken from what is still to be read.
use Rattle.std.proofs.Common.{◌≡◌, ℕ, ◌+◌, ◌≤◌, Bool, true, false, not, ◌&&◌, ◌||◌, List, [], ◌∷◌, ◌++◌, cond, take, get_or, length, nat_eq, suc}
use Rattle.std.proofs.Common.{refl, sym, ap, ◌∙◌, arith, length-append}
use Rattle.std.specs.Prelude.{Option, nat_le, nat_lt, if◌then◌else◌}
use Rattle.std.specs.List.{list_any, list_all, flat_map, sum_by}
use Rattle.std.specs.List.Sorted.{IsPermutation}
use Rattle.std.specs.Str.{bytes_eq, is_utf8, chars, IsUtf8}
use Rattle.std.specs.Char.{is_control}
use Rattle.std.proofs.Math.Dec.{eqb-suc-zero}
use Rattle.std.proofs.lemmas.Bool.Decides.{nat_tests}
use Rattle.std.proofs.lemmas.Grind.{flat_map-append}
use Rattle.std.proofs.lemmas.List.Concat.{flat_map-cons}
use Rattle.std.proofs.lemmas.List.Folds.{list_any-append}
use Rattle.std.proofs.lemmas.List.Sorted.{sum_by-IsPermutation}
use Rattle.std.proofs.lemmas.List.Sums.{sum_by-cons}
use Rattle.std.proofs.lemmas.Str.{IsUtf8-from_is_utf8, is_utf8-from_IsUtf8, IsUtf8-take, chars-append}
use Rattle.song_files.specs.Text.{has_control}
use Rattle.song_files.specs.declared.folder.FolderEntry.{FolderEntry}
use Rattle.song_db.specs.declared.rules.LibraryRules.{LibraryRules}
use Rattle.song_db.specs.declared.scan.visit.Visit.TheVariants.{File, Folder, Nothing}
use Rattle.song_db.specs.Scan.{is_in}
use Rattle.song_db.specs.Found.{IsTaken, IsVisitIn, visited, visit_of, visit_at}
use Rattle.song_db.specs.Limits.{MAX_FOLDERS, MAX_URI_BYTES}
use Rattle.song_db.specs.Name.{folders_over, is_song}
use Rattle.song_db.specs.Endings.{is_named}
use Rattle.song_db.specs.Pending.{Pending, file_at, below, covers, times_pending, path_pending, entry_pending, entries_pending}
use Rattle.song_db.specs.Place.{is_below}
use Rattle.song_db.specs.Uri.{is_uri, is_good_part, parts}
use Rattle.song_db.proofs.Below.{below-bytes}
use Rattle.song_db.proofs.Counts.{count-cons, count-append, times-cons, times-append, same_bytes, both}
use Rattle.song_db.proofs.ListedSteps.{below_splits, parts_slash, all_both}

-- what stands in front of a slash of a URI is one
take_front : (front rest : List ℕ) → take (length front) (front ++ rest) ≡ front
take_front [] rest = refl
take_front (x ∷ xs) rest = ap (λ l. x ∷ l) (take_front xs rest)

slash_at : (front rest : List ℕ) → get_or (front ++ 47 ∷ rest) (length front) 0 ≡ 47
slash_at [] rest = refl
slash_at (x ∷ xs) rest = slash_at xs rest

utf8_front : (front rest : List ℕ) → is_utf8 (front ++ 47 ∷ rest) ≡ true → IsUtf8 front
utf8_front front rest text =
    let path = front ++ 47 ∷ rest in
    let slash : get_or path (length front) 0 ≡ 47 = slash_at front rest in
    rw (take_front front (47 ∷ rest)) at (IsUtf8-take path (length front) (IsUtf8-from_is_utf8 path text)
    (omega (arith, length-append front (47 ∷ rest)), λ under high. omega (arith, slash)))

control_front : (front rest : List ℕ) → IsUtf8 front → has_control (front ++ 47 ∷ rest) ≡ false → has_control front ≡ false
control_front front rest text none =
    neither (has_control front) (list_any is_control (chars (47 ∷ rest)))
    (sym (ap (list_any is_control) (chars-append front (47 ∷ rest) text) ∙ list_any-append is_control (chars front) (chars (47 ∷ rest)))
    ∙ none)
  where
    neither : (a b : Bool) → (a || b) ≡ false → a ≡ false
    neither true b h = absurd (cc)
    neither false b h = refl

not_true : (b : Bool) → not b ≡ true → b ≡ false
not_true true h = absurd (cc)
not_true false h = refl

uri_front : (front rest : List ℕ) → is_uri (front ++ 47 ∷ rest) ≡ true → is_uri front ≡ true
uri_front front rest form =
    let path = front ++ 47 ∷ rest in
    let a = both (is_utf8 path) (nat_le (length path) MAX_URI_BYTES && (not (has_control path) && list_all is_good_part (parts path)))
    form in
    let b = both (nat_le (length path) MAX_URI_BYTES) (not (has_control path) && list_all is_good_part (parts path)) a.1 in
    let c = both (not (has_control path)) (list_all is_good_part (parts path)) b.1 in
    let text : IsUtf8 front = utf8_front front rest a.0 in
    let utf8 : is_utf8 front ≡ true = is_utf8-from_IsUtf8 front text in
    let short : nat_le (length front) MAX_URI_BYTES ≡ true =
    shorter (length front) (length path) b.0 (omega (arith, length-append front (47 ∷ rest))) in
    let plain : has_control front ≡ false = control_front front rest text (not_true (has_control path) c.0) in
    let good : list_all is_good_part (parts front) ≡ true =
    (all_both is_good_part (parts front) (parts rest) (rw (parts_slash front rest) at c.1)).0 in
    rw (utf8, short, plain, good) refl
  where
    shorter : (a b : ℕ) → nat_le b MAX_URI_BYTES ≡ true → a ≤ b → nat_le a MAX_URI_BYTES ≡ true
    shorter a b h le = grind (arith, nat_tests)

pub folder_is_uri : (folder uri : List ℕ) → is_uri uri ≡ true → is_below folder uri ≡ true → is_uri folder ≡ true
folder_is_uri folder uri form h =
    let split = below_splits folder uri (sym (below-bytes folder uri) ∙ h) in
    uri_front folder split.0 (rw split.1 at form)

-- below a folder that is too deep no song is sought
deeper : (folder uri : List ℕ) → is_below folder uri ≡ true → folders_over folder + 1 ≤ folders_over uri
deeper folder uri h =
    let split = below_splits folder uri (sym (below-bytes folder uri) ∙ h) in
    let whole : folders_over uri ≡ folders_over folder + folders_over (47 ∷ split.0) =
    ap folders_over split.1 ∙ count-append (λ b. nat_eq b 47) folder (47 ∷ split.0) in
    let one : folders_over (47 ∷ split.0) ≡ 1 + folders_over split.0 = count-cons (λ b. nat_eq b 47) 47 split.0 in
    omega (arith, whole, one)

too_deep : (rules : LibraryRules) (folder uri : List ℕ) → nat_lt (folders_over folder) MAX_FOLDERS ≡ false → is_song rules uri ≡ true → is_below folder uri ≡ true → ⊥
too_deep rules folder uri deep song h =
    let within : nat_le (folders_over uri) MAX_FOLDERS ≡ true = (both (is_named rules.endings uri) (nat_le (folders_over uri) MAX_FOLDERS) song).1 in
    numbers (folders_over folder) (folders_over uri) deep within (deeper folder uri h)
  where
    numbers : (a b : ℕ) → nat_lt a MAX_FOLDERS ≡ false → nat_le b MAX_FOLDERS ≡ true → a + 1 ≤ b → ⊥
    numbers a b deep within more = absurd (grind (arith, nat_tests))

-- what a visit reads is what stood there
visit_less : (rules : LibraryRules) (path uri : List ℕ) (k : Bool) → times_pending (visited (visit_at rules path k)) uri ≤ cond (covers uri (path_pending path k)) 1 0
visit_less rules path uri k = by_form (is_uri path) k
  where
    one : (p : Pending) → times_pending (p ∷ []) uri ≤ cond (covers uri p) 1 0
    one p = omega (arith, times-cons p [] uri)

    by_depth : (b : Bool) → times_pending (visited (if b then Folder path else Nothing)) uri ≤ cond (is_below path uri) 1 0
    by_depth true = one (below path)
    by_depth false = omega arith

    by_name : (b : Bool) → times_pending (visited (if b then File path else Nothing)) uri ≤ cond (bytes_eq uri path) 1 0
    by_name true = one (file_at path)
    by_name false = omega arith

    by_form : (b : Bool) (k : Bool) → times_pending (visited (if b then visit_of rules path k else Nothing)) uri
        ≤ cond (covers uri (path_pending path k)) 1 0
    by_form true true = by_depth (nat_lt (folders_over path) MAX_FOLDERS)
    by_form true false = by_name (is_song rules path)
    by_form false k = omega arith

visit_more : (rules : LibraryRules) (path uri : List ℕ) (k : Bool) → is_uri uri ≡ true → is_song rules uri ≡ true
    → cond (covers uri (path_pending path k)) 1 0 ≤ times_pending (visited (visit_at rules path k)) uri
visit_more rules path uri k form song = by_form (is_uri path) refl k
  where
    none : (c : Bool) (n : ℕ) → (c ≡ true → ⊥) → cond c 1 0 ≤ n
    none true n h = absurd (h refl)
    none false n h = omega arith

    one : (p : Pending) → cond (covers uri p) 1 0 ≤ times_pending (p ∷ []) uri
    one p = omega (arith, times-cons p [] uri)

    other : (b : Bool) → b ≡ false → b ≡ true → ⊥
    other true h k = absurd (cc)
    other false h k = absurd (cc)

    by_depth : (b : Bool) → nat_lt (folders_over path) MAX_FOLDERS ≡ b
        → cond (is_below path uri) 1 0 ≤ times_pending (visited (if b then Folder path else Nothing)) uri
    by_depth true h = one (below path)
    by_depth false h = none (is_below path uri) _ (λ under. too_deep rules path uri h song under)

    by_name : (b : Bool) → is_song rules path ≡ b → cond (bytes_eq uri path) 1 0 ≤ times_pending (visited (if b then File path else Nothing)) uri
    by_name true h = one (file_at path)
    by_name false h = none (bytes_eq uri path) _ (λ same. other (is_song rules path) h (ap (is_song rules) (sym (same_bytes uri path same)) ∙ song))

    by_form : (b : Bool) → is_uri path ≡ b → (k : Bool)
        → cond (covers uri (path_pending path k)) 1 0 ≤ times_pending (visited (if b then visit_of rules path k else Nothing)) uri
    by_form true h true = by_depth (nat_lt (folders_over path) MAX_FOLDERS) refl
    by_form true h false = by_name (is_song rules path) refl
    by_form false h true = none (is_below path uri) _ (λ under. other (is_uri path) h (folder_is_uri path uri form under))
    by_form false h false = none (bytes_eq uri path) _ (λ same. other (is_uri path) h (ap is_uri (sym (same_bytes uri path same)) ∙ form))

-- what is done at a path in the job's place is in it
pub visit_in : (rules : LibraryRules) (place : Option (List ℕ)) (path : List ℕ) (k : Bool) → is_in place path ≡ true
    → IsVisitIn rules place (visit_at rules path k)
visit_in rules place path k within = by_form (is_uri path) refl k
  where
    by_depth : (b : Bool) → IsVisitIn rules place (if b then Folder path else Nothing)
    by_depth true = within
    by_depth false = tt

    by_name : is_uri path ≡ true → (b : Bool) → is_song rules path ≡ b → IsVisitIn rules place (if b then File path else Nothing)
    by_name form true name = (rw (within, name) refl, form)
    by_name form false name = tt

    by_form : (b : Bool) → is_uri path ≡ b → (k : Bool) → IsVisitIn rules place (if b then visit_of rules path k else Nothing)
    by_form true form true = by_depth (nat_lt (folders_over path) MAX_FOLDERS)
    by_form true form false = by_name form (is_song rules path) refl
    by_form false form k = tt

-- the job's own path as a file's
pub own_visit_in : (rules : LibraryRules) (place : Option (List ℕ)) (uri : List ℕ) → is_in place uri ≡ true → is_uri uri ≡ true
    → IsVisitIn rules place (visit_of rules uri false)
own_visit_in rules place uri within form = by_name (is_song rules uri) refl
  where
    by_name : (b : Bool) → is_song rules uri ≡ b → IsVisitIn rules place (if b then File uri else Nothing)
    by_name true name = (rw (within, name) refl, form)
    by_name false name = tt

pub taken_entry : (rules : LibraryRules) (before after : List Pending) (path : List ℕ) (k : Bool)
    → ((uri : List ℕ) → times_pending before uri ≡ cond (covers uri (path_pending path k)) 1 0 + times_pending after uri)
    → IsTaken rules before (visit_at rules path k) after
taken_entry rules before after path k told =
    record {
      only = λ uri. omega (arith, told uri, visit_less rules path uri k);
      whole = λ uri form song. omega (arith, told uri, visit_more rules path uri k form song);
    }

-- the levels of a walk
pub last_level : {L : Type 0} (f : L → List Pending) (levels : List L) (level : L) (uri : List ℕ)
    → times_pending (flat_map f (levels ++ level ∷ [])) uri ≡ times_pending (flat_map f levels) uri + times_pending (f level) uri
last_level f levels level uri =
    ap (λ ps. times_pending ps uri) (flat_map-append f levels (level ∷ [])) ∙ times-append (flat_map f levels) (flat_map f (level ∷ [])) uri
    ∙ ap (λ n. times_pending (flat_map f levels) uri + n) (ap (λ ps. times_pending ps uri) (flat_map-cons f level [])
    ∙ times-append (f level) [] uri ∙ plus_none (times_pending (f level) uri))
  where
    plus_none : (n : ℕ) → n + times_pending [] uri ≡ n
    plus_none n = omega arith

pub mapped : (prefix : List ℕ) (entries : List FolderEntry) (uri : List ℕ)
    → times_pending (entries_pending prefix entries) uri ≡ sum_by (λ e. cond (covers uri (entry_pending prefix e)) 1 0) entries
mapped prefix [] uri = refl
mapped prefix (e ∷ es) uri =
    times-cons (entry_pending prefix e) (entries_pending prefix es) uri
    ∙ ap (λ n. cond (covers uri (entry_pending prefix e)) 1 0 + n) (mapped prefix es uri)
    ∙ sym (sum_by-cons (λ d. cond (covers uri (entry_pending prefix d)) 1 0) e es)

pub sorted_same : (prefix : List ℕ) (entries sorted : List FolderEntry) (uri : List ℕ) → IsPermutation entries sorted
    → times_pending (entries_pending prefix sorted) uri ≡ times_pending (entries_pending prefix entries) uri
sorted_same prefix entries sorted uri same =
    mapped prefix sorted uri ∙ sum_by-IsPermutation (λ e. cond (covers uri (entry_pending prefix e)) 1 0) entries sorted same
    ∙ sym (mapped prefix entries uri)

pub entered : {L : Type 0} (f : L → List Pending) (levels new : List L) (level : L) (prefix : List ℕ) (entries sorted : List FolderEntry)
    (uri : List ℕ)
    → new ≡ levels ++ level ∷ [] → f level ≡ entries_pending prefix sorted → IsPermutation entries sorted
    → times_pending (flat_map f new) uri ≡ times_pending (entries_pending prefix entries) uri + times_pending (flat_map f levels) uri
entered f levels new level prefix entries sorted uri is own same =
    let whole = ap (λ ls. times_pending (flat_map f ls) uri) is ∙ last_level f levels level uri in
    omega (arith, whole, ap (λ ps. times_pending ps uri) own, sorted_same prefix entries sorted uri same)

-- the last entry of the last level is taken
pub popped : {L : Type 0} (prefix : L → List ℕ) (entries : L → List FolderEntry) (before front after : List L) (level rest : L)
    (entry : FolderEntry) (pending : List Pending) (uri : List ℕ)
    → pending ≡ flat_map (λ l. entries_pending (prefix l) (entries l)) before → before ≡ front ++ level ∷ []
    → entries level ≡ entries rest ++ entry ∷ [] → after ≡ front ++ rest ∷ []
    → prefix rest ≡ prefix level
    → times_pending pending uri ≡ cond (covers uri (entry_pending (prefix level) entry)) 1 0
    + times_pending (flat_map (λ l. entries_pending (prefix l) (entries l)) after) uri
popped {L} prefix entries before front after level rest entry pending uri view is own now same =
    let f : L → List Pending = λ l. entries_pending (prefix l) (entries l) in
    let old : times_pending pending uri ≡ times_pending (flat_map f front) uri + times_pending (f level) uri =
    ap (λ ps. times_pending ps uri) view ∙ ap (λ ls. times_pending (flat_map f ls) uri) is ∙ last_level f front level uri in
    let new : times_pending (flat_map f after) uri ≡ times_pending (flat_map f front) uri + times_pending (f rest) uri =
    ap (λ ls. times_pending (flat_map f ls) uri) now ∙ last_level f front rest uri in
    let split : times_pending (f level) uri ≡ times_pending (entries_pending (prefix level) (entries rest)) uri
    + cond (covers uri (entry_pending (prefix level) entry)) 1 0 =
    ap (λ es. times_pending (entries_pending (prefix level) es) uri) own ∙ one_more (prefix level) (entries rest) in
    let kept : times_pending (f rest) uri ≡ times_pending (entries_pending (prefix level) (entries rest)) uri =
    ap (λ p. times_pending (entries_pending p (entries rest)) uri) same in
    omega (arith, old, new, split, kept)
  where
    one_more : (p : List ℕ) (es : List FolderEntry)
        → times_pending (entries_pending p (es ++ entry ∷ [])) uri ≡ times_pending (entries_pending p es) uri
        + cond (covers uri (entry_pending p entry)) 1 0
    one_more p [] = omega (arith, times-cons (entry_pending p entry) [] uri)
    one_more p (e ∷ es) = omega (
      arith,
      times-cons (entry_pending p e) (entries_pending p (es ++ entry ∷ [])) uri,
      times-cons (entry_pending p e) (entries_pending p es) uri,
      one_more p es,
    )

-- nothing is pending exactly where no level has an entry
pub none_left : {L : Type 0} (prefix : L → List ℕ) (entries : L → List FolderEntry) (levels : List L)
    → list_all (λ l. nat_eq (length (entries l)) 0) levels ≡ true → flat_map (λ l. entries_pending (prefix l) (entries l)) levels ≡ []
none_left prefix entries [] h = refl
none_left {L} prefix entries (level ∷ levels) h = by_entries (entries level) refl h (none_left prefix entries levels)
  where
    f : L → List Pending
    f l = entries_pending (prefix l) (entries l)

    not_both : (n : ℕ) (b : Bool) → (nat_eq (suc n) 0 && b) ≡ true → ⊥
    not_both n b h = let off : nat_eq (suc n) 0 ≡ false = eqb-suc-zero n in let no : false ≡ true = rw off at h in absurd (cc)

    by_entries : (es : List FolderEntry) → entries level ≡ es
        → (nat_eq (length es) 0 && list_all (λ l. nat_eq (length (entries l)) 0) levels) ≡ true
        → (list_all (λ l. nat_eq (length (entries l)) 0) levels ≡ true → flat_map f levels ≡ [])
        → entries_pending (prefix level) es ++ flat_map f levels ≡ []
    by_entries [] is h rest = rest h
    by_entries (e ∷ es) is h rest = absurd (not_both (length es) (list_all (λ l. nat_eq (length (entries l)) 0) levels) h)

pub no_entry : {L : Type 0} (prefix : L → List ℕ) (entries : L → List FolderEntry) (levels : List L)
    → flat_map (λ l. entries_pending (prefix l) (entries l)) levels ≡ [] → list_all (λ l. nat_eq (length (entries l)) 0) levels ≡ true
no_entry prefix entries [] h = refl
no_entry {L} prefix entries (level ∷ levels) h = by_entries (entries level) refl h (no_entry prefix entries levels)
  where
    f : L → List Pending
    f l = entries_pending (prefix l) (entries l)

    by_entries : (es : List FolderEntry) → entries level ≡ es
        → entries_pending (prefix level) es ++ flat_map f levels ≡ []
        → (flat_map f levels ≡ [] → list_all (λ l. nat_eq (length (entries l)) 0) levels ≡ true)
        → (nat_eq (length es) 0 && list_all (λ l. nat_eq (length (entries l)) 0) levels) ≡ true
    by_entries [] is h rest = rest h
    by_entries (e ∷ es) is h rest = absurd (cc)
