-- What a listing does to a batch that is read from an honest folder.
use Rattle.std.proofs.Common.{◌≡◌, ℕ, suc, ◌+◌, ◌≤◌, Bool, true, false, not, ◌&&◌, ◌||◌, List, [], ◌∷◌, ◌++◌, Option, Some, None, Ok, Err}
use Rattle.std.proofs.Common.{cond, take, length, nat_eq, refl, sym, ap, ◌∙◌, arith, append_assoc}
use Rattle.std.specs.Prelude.{Result, IfOk, IfErr, nat_le, count_by, is_some, ◌==◌, ◌≢◌}
use Rattle.std.specs.List.{All, list_any, list_all, prefix_len}
use Rattle.std.specs.Str.{bytes_eq, is_utf8}
use Rattle.std.specs.String.{string_bytes}
use Rattle.std.specs.declared.vec.Vec.{Vec}
use Rattle.std.proofs.lemmas.Bool.Decides.{nat_tests}
use Rattle.std.proofs.lemmas.List.Elements.{All-head, All-tail}
use Rattle.song_files.specs.Folder.{File, bytes_at}
use Rattle.song_files.specs.Listing.{behind_folder, behind, has_slash, is_name, first_part, same_kind, is_entry, begins_with, has_first}
use Rattle.song_files.specs.Listing.{IsListing, entries_of}
use Rattle.song_files.specs.Text.{has_control}
use Rattle.song_files.specs.declared.folder.FolderEntry.{FolderEntry}
use Rattle.song_files.specs.declared.folder.FolderFault.{FolderFault}
use Rattle.song_db.specs.declared.rules.LibraryRules.{LibraryRules}
use Rattle.song_db.specs.declared.change.RowChange.{RowChange}
use Rattle.song_db.specs.Batch.{IsHonestBatch, IsWholeBatch, after_listing}
use Rattle.song_db.specs.Found.{without_below}
use Rattle.song_db.specs.Pending.{Pending, below, covers, times_pending, entry_pending, path_pending, entries_pending, listed_pending}
use Rattle.song_db.specs.Place.{is_below}
use Rattle.song_db.specs.Music.{Music}
use Rattle.song_db.specs.Scan.{is_among}
use Rattle.song_db.specs.Uri.{is_uri, is_good_part, parts}
use Rattle.song_db.proofs.Below.{begins_below, below-bytes, HasFirst, has_first as first_of}
use Rattle.song_db.proofs.Counts.{count-cons, times-cons, same_bytes, bytes_self, both, among_filter, IsSongFile, put_file, there_file}
use Rattle.song_db.proofs.HonestSteps.{honest_step, whole_step}

one_more : (n : ℕ) → 1 + n ≡ suc n
one_more n = omega arith

first_slash : (b : ℕ) (rest : List ℕ) → nat_eq b 47 ≡ true → first_part (b ∷ rest) ≡ []
first_slash b rest h = ap (λ c. take (cond (not c) (1 + prefix_len (λ x. not (x == 47)) rest) 0) (b ∷ rest)) h

first_other : (b : ℕ) (rest : List ℕ) → nat_eq b 47 ≡ false → first_part (b ∷ rest) ≡ b ∷ first_part rest
first_other b rest h =
    ap (λ c. take (cond (not c) (1 + prefix_len (λ x. not (x == 47)) rest) 0) (b ∷ rest)) h
    ∙ ap (λ n. take n (b ∷ rest)) (one_more (prefix_len (λ x. not (x == 47)) rest))

and_assoc : (a b c : Bool) → ((a && b) && c) ≡ (a && (b && c))
and_assoc true b c = refl
and_assoc false b c = refl

nat_comm : (x y : ℕ) → nat_eq x y ≡ nat_eq y x
nat_comm x y = by_cases (nat_eq x y) refl (nat_eq y x) refl
  where
    by_cases : (a : Bool) → nat_eq x y ≡ a → (b : Bool) → nat_eq y x ≡ b → a ≡ b
    by_cases true h true k = refl
    by_cases true h false k = absurd (grind (arith, nat_tests))
    by_cases false h true k = absurd (grind (arith, nat_tests))
    by_cases false h false k = refl

nat_self : (x : ℕ) → nat_eq x x ≡ true
nat_self x = grind (arith, nat_tests)

neither : (a b : Bool) → (a || b) ≡ false → (a ≡ false) × (b ≡ false)
neither true b h = absurd (cc)
neither false b h = (refl, h)

not_slash : (n b : ℕ) → nat_eq n 47 ≡ false → nat_eq b 47 ≡ true → nat_eq n b ≡ false
not_slash n b other slash = by_cases (nat_eq n b) refl
  where
    by_cases : (c : Bool) → nat_eq n b ≡ c → c ≡ false
    by_cases true same = absurd (grind (arith, nat_tests))
    by_cases false h = refl

-- a name without a slash is a file's, or a folder's, exactly where the path begins so
entry_file : (name rest : List ℕ) → has_slash name ≡ false → bytes_eq rest name ≡ (bytes_eq name (first_part rest) && not (has_slash rest))
entry_file [] [] plain = refl
entry_file [] (b ∷ rest) plain = by_cases (nat_eq b 47) refl
  where
    by_cases : (c : Bool) → nat_eq b 47 ≡ c → false ≡ (bytes_eq [] (first_part (b ∷ rest)) && not (nat_eq b 47 || has_slash rest))
    by_cases true slash = rw (first_slash b rest slash, slash) refl
    by_cases false other = rw (first_other b rest other) refl
entry_file (n ∷ name) [] plain = refl
entry_file (n ∷ name) (b ∷ rest) plain = by_cases (nat_eq b 47) refl (entry_file name rest two.1)
  where
    two : (nat_eq n 47 ≡ false) × (has_slash name ≡ false)
    two = neither (nat_eq n 47) (has_slash name) plain

    by_cases : (c : Bool) → nat_eq b 47 ≡ c → bytes_eq rest name ≡ (bytes_eq name (first_part rest) && not (has_slash rest))
        → (nat_eq b n && bytes_eq rest name) ≡ (bytes_eq (n ∷ name) (first_part (b ∷ rest)) && not (nat_eq b 47 || has_slash rest))
    by_cases true slash more = rw (nat_comm b n, not_slash n b two.0 slash, first_slash b rest slash) refl
    by_cases false other more =
        rw (nat_comm b n, first_other b rest other, other, more)
        (sym (and_assoc (nat_eq n b) (bytes_eq name (first_part rest)) (not (has_slash rest))))

entry_folder : (name rest : List ℕ) → has_slash name ≡ false → begins_below name rest ≡ (bytes_eq name (first_part rest) && has_slash rest)
entry_folder [] [] plain = refl
entry_folder [] (b ∷ rest) plain = by_cases (nat_eq b 47) refl
  where
    by_cases : (c : Bool) → nat_eq b 47 ≡ c → nat_eq b 47 ≡ (bytes_eq [] (first_part (b ∷ rest)) && (nat_eq b 47 || has_slash rest))
    by_cases true slash = rw (first_slash b rest slash, slash) refl
    by_cases false other = rw (first_other b rest other, other) refl
entry_folder (n ∷ name) [] plain = refl
entry_folder (n ∷ name) (b ∷ rest) plain = by_cases (nat_eq b 47) refl (entry_folder name rest two.1)
  where
    two : (nat_eq n 47 ≡ false) × (has_slash name ≡ false)
    two = neither (nat_eq n 47) (has_slash name) plain

    by_cases : (c : Bool) → nat_eq b 47 ≡ c → begins_below name rest ≡ (bytes_eq name (first_part rest) && has_slash rest)
        → (nat_eq n b && begins_below name rest) ≡ (bytes_eq (n ∷ name) (first_part (b ∷ rest)) && (nat_eq b 47 || has_slash rest))
    by_cases true slash more = rw (not_slash n b two.0 slash, first_slash b rest slash) refl
    by_cases false other more = rw (first_other b rest other, other, more)
        (sym (and_assoc (nat_eq n b) (bytes_eq name (first_part rest)) (has_slash rest)))

bytes_prefix : (prefix a b : List ℕ) → bytes_eq (prefix ++ a) (prefix ++ b) ≡ bytes_eq a b
bytes_prefix [] a b = refl
bytes_prefix (x ∷ prefix) a b = rw (nat_self x) (bytes_prefix prefix a b)

begins_prefix : (prefix a b : List ℕ) → begins_below (prefix ++ a) (prefix ++ b) ≡ begins_below a b
begins_prefix [] a b = refl
begins_prefix (x ∷ prefix) a b = rw (nat_self x) (begins_prefix prefix a b)

plain_name : (name : List ℕ) → is_name name ≡ true → has_slash name ≡ false
plain_name name is = by_cases (has_slash name) refl (both (not (bytes_eq name [])) (not (has_slash name)) is).1
  where
    by_cases : (b : Bool) → has_slash name ≡ b → not b ≡ true → b ≡ false
    by_cases true told h = absurd (cc)
    by_cases false told h = refl

covers_entry : (prefix rest : List ℕ) (entry : FolderEntry) → is_name (string_bytes entry.name) ≡ true
    → covers (prefix ++ rest) (entry_pending prefix entry) ≡ is_entry (first_part rest) (has_slash rest) entry
covers_entry prefix rest entry is = by_kind entry.is_folder
  where
    name : List ℕ
    name = string_bytes entry.name

    by_kind : (k : Bool) → covers (prefix ++ rest) (path_pending (prefix ++ name) k)
        ≡ (bytes_eq name (first_part rest) && same_kind k (has_slash rest))
    by_kind true = below-bytes (prefix ++ name) (prefix ++ rest) ∙ begins_prefix prefix name rest
        ∙ entry_folder name rest (plain_name name is)
    by_kind false = bytes_prefix prefix rest name ∙ entry_file name rest (plain_name name is)

times_entries : (prefix rest : List ℕ) (entries : List FolderEntry)
    → All (λ (entry : FolderEntry). is_name (string_bytes entry.name) ≡ true) entries
    → times_pending (entries_pending prefix entries) (prefix ++ rest) ≡ count_by (is_entry (first_part rest) (has_slash rest)) entries
times_entries prefix rest [] names = refl
times_entries prefix rest (e ∷ es) names =
    times-cons (entry_pending prefix e) (entries_pending prefix es) (prefix ++ rest)
    ∙ rw (
      covers_entry prefix rest e (All-head (λ (entry : FolderEntry). is_name (string_bytes entry.name) ≡ true) e es names),
      times_entries prefix rest es (All-tail (λ (entry : FolderEntry). is_name (string_bytes entry.name) ≡ true) e es names),
    )
    (sym (count-cons (is_entry (first_part rest) (has_slash rest)) e es))

-- what stands in a folder is below it
begins_more : (folder name path : List ℕ) → begins_below (folder ++ 47 ∷ name) path ≡ true → begins_below folder path ≡ true
begins_more [] name [] h = absurd (cc)
begins_more [] name (y ∷ ys) h = nat_comm y 47 ∙ (both (nat_eq 47 y) (begins_below name ys) h).0
begins_more (x ∷ xs) name [] h = absurd (cc)
begins_more (x ∷ xs) name (y ∷ ys) h =
    let two = both (nat_eq x y) (begins_below (xs ++ 47 ∷ name) ys) h in
    rw (two.0) (begins_more xs name ys two.1)

begins_own : (folder name : List ℕ) → begins_below folder (folder ++ 47 ∷ name) ≡ true
begins_own [] name = refl
begins_own (x ∷ xs) name = rw (nat_self x) (begins_own xs name)

pub below_splits : (folder path : List ℕ) → begins_below folder path ≡ true → (rest : List ℕ) × (path ≡ folder ++ 47 ∷ rest)
below_splits [] [] h = absurd (cc)
below_splits [] (y ∷ ys) h = let same : y ≡ 47 = grind (arith, nat_tests) in (ys, ap (λ b. b ∷ ys) same)
below_splits (x ∷ xs) [] h = absurd (cc)
below_splits (x ∷ xs) (y ∷ ys) h =
    let two = both (nat_eq x y) (begins_below xs ys) h in
    let first : nat_eq x y ≡ true = two.0 in
    let same : y ≡ x = grind (arith, nat_tests) in
    let more = below_splits xs ys two.1 in
    (more.0, ap (λ b. b ∷ ys) same ∙ ap (λ l. x ∷ l) more.1)

prefixed : (folder name : List ℕ) → (folder ++ 47 ∷ []) ++ name ≡ folder ++ 47 ∷ name
prefixed folder name = append_assoc folder (47 ∷ []) name

covers_below : (folder uri : List ℕ) (entry : FolderEntry) → covers uri (entry_pending (folder ++ 47 ∷ []) entry) ≡ true
    → is_below folder uri ≡ true
covers_below folder uri entry h = by_kind entry.is_folder h
  where
    name : List ℕ
    name = string_bytes entry.name

    by_kind : (k : Bool) → covers uri (path_pending ((folder ++ 47 ∷ []) ++ name) k) ≡ true → is_below folder uri ≡ true
    by_kind true h = below-bytes folder uri
        ∙ begins_more folder name uri (rw (prefixed folder name) at (sym (below-bytes ((folder ++ 47 ∷ []) ++ name) uri) ∙ h))
    by_kind false h =
        let same : uri ≡ folder ++ 47 ∷ name = same_bytes uri ((folder ++ 47 ∷ []) ++ name) h ∙ prefixed folder name in
        ap (is_below folder) same ∙ below-bytes folder (folder ++ 47 ∷ name) ∙ begins_own folder name

none_outside : (folder uri : List ℕ) (entries : List FolderEntry) → is_below folder uri ≡ false
    → times_pending (entries_pending (folder ++ 47 ∷ []) entries) uri ≡ 0
none_outside folder uri [] outside = refl
none_outside folder uri (e ∷ es) outside =
    by_cases (covers uri (entry_pending (folder ++ 47 ∷ []) e)) refl (none_outside folder uri es outside)
  where
    by_cases : (b : Bool) → covers uri (entry_pending (folder ++ 47 ∷ []) e) ≡ b
        → times_pending (entries_pending (folder ++ 47 ∷ []) es) uri ≡ 0
        → times_pending (entries_pending (folder ++ 47 ∷ []) (e ∷ es)) uri ≡ 0
    by_cases true h rest = absurd (let k : true ≡ false = sym (covers_below folder uri e h) ∙ outside in cc)
    by_cases false h rest = times-cons (entry_pending (folder ++ 47 ∷ []) e) (entries_pending (folder ++ 47 ∷ []) es) uri
        ∙ rw (h, rest) refl

any_count : {X : Type 0} (p : X → Bool) (xs : List X) → list_any p xs ≡ true → 1 ≤ count_by p xs
any_count p [] h = absurd (cc)
any_count p (x ∷ xs) h = by_cases (p x) refl h (any_count p xs)
  where
    by_cases : (b : Bool) → p x ≡ b → (b || list_any p xs) ≡ true → (list_any p xs ≡ true → 1 ≤ count_by p xs) → 1 ≤ count_by p (x ∷ xs)
    by_cases true told h rest = let n : ◌≡◌ {A = ℕ} (cond (p x) 1 0) 1 = rw told refl in omega (arith, count-cons p x xs, n)
    by_cases false told h rest = omega (arith, count-cons p x xs, rest h)

-- a song's file is there
front : (file : File) (files : List File) (path : List ℕ)
    → bytes_at (file ∷ files) path ≡ cond (bytes_eq file.path path) (Some file.bytes) (bytes_at files path)
front file files path = by_cases (bytes_eq file.path path) refl
  where
    by_cases : (b : Bool) → bytes_eq file.path path ≡ b → bytes_at (file ∷ files) path ≡ cond b (Some file.bytes) (bytes_at files path)
    by_cases true h = rw h refl
    by_cases false h = rw h refl

kind_self : (k : Bool) → same_kind k k ≡ true
kind_self true = refl
kind_self false = refl

or_true : (b : Bool) → (b || true) ≡ true
or_true true = refl
or_true false = refl

has_first_of : (files : List File) (folder rest uri : List ℕ) → behind folder uri ≡ Some rest → is_some (bytes_at files uri) ≡ true
    → has_first files folder (first_part rest) (has_slash rest) ≡ true
has_first_of [] folder rest uri is there = absurd (cc)
has_first_of (file ∷ files) folder rest uri is there =
    by_cases (bytes_eq file.path uri) refl (rw (front file files uri) at there) (has_first_of files folder rest uri is)
  where
    by_cases : (b : Bool) → bytes_eq file.path uri ≡ b → is_some (cond b (Some file.bytes) (bytes_at files uri)) ≡ true
        → (is_some (bytes_at files uri) ≡ true → has_first files folder (first_part rest) (has_slash rest) ≡ true)
        → (begins_with (first_part rest) (has_slash rest) (behind folder file.path)
        || has_first files folder (first_part rest) (has_slash rest)) ≡ true
    by_cases true same there rest_of =
        let own : behind folder file.path ≡ Some rest = ap (behind folder) (same_bytes file.path uri same) ∙ is in
        rw (own, bytes_self (first_part rest), kind_self (has_slash rest)) refl
    by_cases false other there rest_of =
        rw (rest_of there) (or_true (begins_with (first_part rest) (has_slash rest) (behind folder file.path)))

-- the parts of a path on both sides of a slash
pub parts_slash : (front rest : List ℕ) → parts (front ++ 47 ∷ rest) ≡ parts front ++ parts rest
parts_slash [] rest = refl
parts_slash (x ∷ xs) rest = by_cases (nat_eq x 47) refl (first_of xs) (parts_slash xs rest)
  where
    by_cases : (b : Bool) → nat_eq x 47 ≡ b → HasFirst xs → parts (xs ++ 47 ∷ rest) ≡ parts xs ++ parts rest
        → parts (x ∷ (xs ++ 47 ∷ rest)) ≡ parts (x ∷ xs) ++ parts rest
    by_cases true slash first more = rw (slash, more) refl
    by_cases false other first more =
        let whole : parts (xs ++ 47 ∷ rest) ≡ first.first ∷ (first.others ++ parts rest) = more ∙ ap (λ l. l ++ parts rest) first.is in
        rw (other, whole, first.is) refl

pub all_both : {X : Type 0} (p : X → Bool) (xs ys : List X) → list_all p (xs ++ ys) ≡ true → (list_all p xs ≡ true) × (list_all p ys ≡ true)
all_both p [] ys h = (refl, h)
all_both p (x ∷ xs) ys h =
    let two = both (p x) (list_all p (xs ++ ys)) h in
    let more = all_both p xs ys two.1 in
    (rw (two.0) more.0, more.1)

pub good_parts : (uri : List ℕ) → is_uri uri ≡ true → list_all is_good_part (parts uri) ≡ true
good_parts uri form =
    let a = both (is_utf8 uri) (nat_le (length uri) 1024 && (not (has_control uri) && list_all is_good_part (parts uri))) form in
    let b = both (nat_le (length uri) 1024) (not (has_control uri) && list_all is_good_part (parts uri)) a.1 in
    (both (not (has_control uri)) (list_all is_good_part (parts uri)) b.1).1

first_plain : (path : List ℕ) → has_slash (first_part path) ≡ false
first_plain [] = refl
first_plain (b ∷ path) = by_cases (nat_eq b 47) refl (first_plain path)
  where
    by_cases : (c : Bool) → nat_eq b 47 ≡ c → has_slash (first_part path) ≡ false → has_slash (first_part (b ∷ path)) ≡ false
    by_cases true slash rest = rw (first_slash b path slash) refl
    by_cases false other rest = rw (first_other b path other, other) rest

good_first : (rest : List ℕ) → list_all is_good_part (parts rest) ≡ true → is_name (first_part rest) ≡ true
good_first [] good = absurd (cc)
good_first (b ∷ rest) good = by_cases (nat_eq b 47) refl
  where
    by_cases : (c : Bool) → nat_eq b 47 ≡ c → is_name (first_part (b ∷ rest)) ≡ true
    by_cases true slash =
        absurd (let k : list_all is_good_part (parts (b ∷ rest)) ≡ false = rw slash refl in let l : true ≡ false = sym good ∙ k in cc)
    by_cases false other = rw (first_plain (b ∷ rest)) (rw (first_other b rest other) refl)

pub not_empty : (uri : List ℕ) → is_uri uri ≡ true → uri ≢ []
not_empty uri form none = absurd (let k : list_all is_good_part (parts []) ≡ true = rw none at (good_parts uri form) in cc)

behind_own : (folder rest : List ℕ) → folder ≢ [] → behind folder (folder ++ 47 ∷ rest) ≡ Some rest
behind_own [] rest some = absurd (some refl)
behind_own (f ∷ folder) rest some = by_bytes (f ∷ folder)
  where
    by_bytes : (folder : List ℕ) → behind_folder folder (folder ++ 47 ∷ rest) ≡ Some rest
    by_bytes [] = refl
    by_bytes (x ∷ xs) = rw (nat_self x) (by_bytes xs)

-- a listing has each song behind its folder once, and nothing else
listed_under : (files : List File) (folder prefix rest : List ℕ) (entries : List FolderEntry) → IsListing files folder entries
    → times_pending (entries_pending prefix entries) (prefix ++ rest) ≤ 1
listed_under files folder prefix rest entries listing =
    omega (arith, times_entries prefix rest entries listing.names, listing.once (first_part rest) (has_slash rest))

listed_over : (files : List File) (folder prefix rest uri : List ℕ) (entries : List FolderEntry) → IsListing files folder entries
    → list_all is_good_part (parts rest) ≡ true → behind folder uri ≡ Some rest → is_some (bytes_at files uri) ≡ true
    → 1 ≤ times_pending (entries_pending prefix entries) (prefix ++ rest)
listed_over files folder prefix rest uri entries listing good is there =
    let any : list_any (is_entry (first_part rest) (has_slash rest)) entries ≡ true =
    listing.each (first_part rest) (good_first rest good) (has_slash rest) ∙ has_first_of files folder rest uri is there in
    omega (arith, times_entries prefix rest entries listing.names, any_count (is_entry (first_part rest) (has_slash rest)) entries any)

pub at_most : (files : List File) (folder uri : List ℕ) (entries : List FolderEntry) → IsListing files folder entries
    → times_pending (entries_pending (folder ++ 47 ∷ []) entries) uri ≤ cond (is_below folder uri) 1 0
at_most files folder uri entries listing = by_cases (is_below folder uri) refl
  where
    by_cases : (b : Bool) → is_below folder uri ≡ b → times_pending (entries_pending (folder ++ 47 ∷ []) entries) uri ≤ cond b 1 0
    by_cases true h =
        let split = below_splits folder uri (sym (below-bytes folder uri) ∙ h) in
        let is : uri ≡ (folder ++ 47 ∷ []) ++ split.0 = split.1 ∙ sym (prefixed folder split.0) in
        rw is (listed_under files folder (folder ++ 47 ∷ []) split.0 entries listing)
    by_cases false h = omega (arith, none_outside folder uri entries h)

pub at_least : (rules : LibraryRules) (files : List File) (folder uri : List ℕ) (entries : List FolderEntry)
    → IsListing files folder entries → folder ≢ []
    → IsSongFile rules files uri → cond (is_below folder uri) 1 0 ≤ times_pending (entries_pending (folder ++ 47 ∷ []) entries) uri
at_least rules files folder uri entries listing some song = by_cases (is_below folder uri) refl
  where
    ap_times : {rest : List ℕ} → uri ≡ rest → 1 ≤ times_pending (entries_pending (folder ++ 47 ∷ []) entries) rest
        → 1 ≤ times_pending (entries_pending (folder ++ 47 ∷ []) entries) uri
    ap_times is one = rw is one

    by_cases : (b : Bool) → is_below folder uri ≡ b → cond b 1 0 ≤ times_pending (entries_pending (folder ++ 47 ∷ []) entries) uri
    by_cases true h =
        let split = below_splits folder uri (sym (below-bytes folder uri) ∙ h) in
        let good = all_both is_good_part (parts folder) (parts split.0)
        (sym (ap (list_all is_good_part) (ap parts split.1 ∙ parts_slash folder split.0)) ∙ good_parts uri song.form) in
        let is : uri ≡ (folder ++ 47 ∷ []) ++ split.0 = split.1 ∙ sym (prefixed folder split.0) in
        ap_times is (listed_over files folder (folder ++ 47 ∷ []) split.0 uri entries listing good.1
        (ap (behind folder) split.1 ∙ behind_own folder split.0 some) song.there)
    by_cases false h = omega arith

pub root_most : (files : List File) (uri : List ℕ) (entries : List FolderEntry) → IsListing files [] entries
    → times_pending (entries_pending [] entries) uri ≤ 1
root_most files uri entries listing = listed_under files [] [] uri entries listing

pub root_least : (rules : LibraryRules) (files : List File) (uri : List ℕ) (entries : List FolderEntry) → IsListing files [] entries
    → IsSongFile rules files uri
    → 1 ≤ times_pending (entries_pending [] entries) uri
root_least rules files uri entries listing song =
    listed_over files [] [] uri uri entries listing (good_parts uri song.form) refl song.there

-- a folder whose entries are listed
entered_honest : (music : Music) (place : Option (List ℕ)) (start : List Pending) (known : List (List ℕ)) (pending after : List Pending)
    (d : List (List ℕ)) (changes : List RowChange) (folder : List ℕ) (entries : List FolderEntry)
    → IsListing music.files folder entries → folder ≢ []
    → ((uri : List ℕ) → times_pending after uri ≡ times_pending (entries_pending (folder ++ 47 ∷ []) entries) uri
    + times_pending pending uri)
    → IsHonestBatch music place start known (below folder ∷ pending) d changes → IsHonestBatch music place start known after d changes
entered_honest music place start known pending after d changes folder entries listing some told =
    honest_step music place start known (below folder ∷ pending) after d d changes
    (λ uri. omega (arith, told uri, times-cons (below folder) pending uri, at_most music.files folder uri entries listing))
    (λ uri song among. (
      among,
      omega (
        arith,
        told uri,
        times-cons (below folder) pending uri,
        at_least music.rules music.files folder uri entries listing some (there_file music place uri song),
      ),
    ))

entered_whole : (music : Music) (place : Option (List ℕ)) (start : List Pending) (known : List (List ℕ)) (pending after : List Pending)
    (d : List (List ℕ)) (changes : List RowChange) (folder : List ℕ) (entries : List FolderEntry)
    → IsListing music.files folder entries → folder ≢ []
    → ((uri : List ℕ) → times_pending after uri ≡ times_pending (entries_pending (folder ++ 47 ∷ []) entries) uri
    + times_pending pending uri)
    → IsWholeBatch music place start known (below folder ∷ pending) d changes → IsWholeBatch music place start known after d changes
entered_whole music place start known pending after d changes folder entries listing some told =
    whole_step music place start known (below folder ∷ pending) after d d changes
    (λ uri song. omega (arith, told uri, times-cons (below folder) pending uri, at_least music.rules music.files folder uri entries listing some (put_file music place uri song)))
    (λ uri none among. among)

pub honest_listed : {A : Type 0} (music : Music) (place : Option (List ℕ)) (start : List Pending) (known : List (List ℕ))
    (pending after : List Pending) (d : List (List ℕ)) (changes : List RowChange) (folder : List ℕ)
    (listing : Result (Option (Vec FolderEntry A)) FolderFault)
    → is_uri folder ≡ true → IfOk listing (λ entries. IsListing music.files folder (entries_of entries))
    → ((uri : List ℕ) → times_pending after uri ≡ times_pending (listed_pending (folder ++ 47 ∷ []) listing) uri
    + times_pending pending uri)
    → IsHonestBatch music place start known (below folder ∷ pending) d changes
    → IsHonestBatch music place start known after (after_listing folder listing d) changes
honest_listed music place start known pending after d changes folder (Ok None) form listed told batch =
    entered_honest music place start known pending after d changes folder [] listed (not_empty folder form) told batch
honest_listed music place start known pending after d changes folder (Ok (Some entries)) form listed told batch =
    entered_honest music place start known pending after d changes folder entries.items listed (not_empty folder form) told batch
honest_listed music place start known pending after d changes folder (Err fault) form listed told batch =
    honest_step music place start known (below folder ∷ pending) after d (without_below folder d) changes
    (λ uri. omega (arith, told uri, times-cons (below folder) pending uri))
    (λ uri song among.
    let two = both (is_among d uri) (not (is_below folder uri))
    (sym (among_filter (λ known. not (is_below folder known)) uri d) ∙ among) in (
      two.0,
      omega (
        arith,
        told uri,
        times-cons (below folder) pending uri
            ∙ ap (λ n. n + times_pending pending uri) (outside (is_below folder uri) two.1),
      ),
    ))
    batch
  where
    outside : (b : Bool) → not b ≡ true → ◌≡◌ {A = ℕ} (cond b 1 0) 0
    outside true h = absurd (cc)
    outside false h = refl

pub whole_listed : {A : Type 0} (music : Music) (place : Option (List ℕ)) (start : List Pending) (known : List (List ℕ))
    (pending after : List Pending) (d : List (List ℕ)) (changes : List RowChange) (folder : List ℕ)
    (listing : Result (Option (Vec FolderEntry A)) FolderFault)
    → is_uri folder ≡ true → IfErr listing (λ fault. ⊥) → IfOk listing (λ entries. IsListing music.files folder (entries_of entries))
    → ((uri : List ℕ) → times_pending after uri ≡ times_pending (listed_pending (folder ++ 47 ∷ []) listing) uri
    + times_pending pending uri)
    → IsWholeBatch music place start known (below folder ∷ pending) d changes
    → IsWholeBatch music place start known after (after_listing folder listing d) changes
whole_listed music place start known pending after d changes folder (Ok None) form sure listed told batch =
    entered_whole music place start known pending after d changes folder [] listed (not_empty folder form) told batch
whole_listed music place start known pending after d changes folder (Ok (Some entries)) form sure listed told batch =
    entered_whole music place start known pending after d changes folder entries.items listed (not_empty folder form) told batch
whole_listed music place start known pending after d changes folder (Err fault) form sure listed told batch = absurd sure
