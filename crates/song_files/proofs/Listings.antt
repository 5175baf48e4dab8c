-- Entries of a folder in memory, one file after the other.
use Rattle.std.proofs.Common.{◌≡◌, ℕ, suc, ◌+◌, ◌<◌, ◌≤◌, Bool, true, false, ◌&&◌, ◌||◌, cond, List, [], ◌∷◌, ◌++◌, length, take, drop}
use Rattle.std.proofs.Common.{get_or, nat_eq, Some, None, refl, sym, ap, ◌∙◌, arith}
use mathlib.Core.Bool.{beq}
use denote.Ref.{Bor}
use Rattle.std.specs.Prelude.{not, ◌==◌, Option, MatchOption, ◌≢◌, count_by, option_copied}
use Rattle.std.specs.List.{All, list_any, prefix_len, position_or_len}
use Rattle.std.specs.Str.{bytes_eq}
use Rattle.std.specs.Str.Pattern.{LacksTextAt}
use Rattle.std.specs.String.{string_bytes}
use Rattle.std.proofs.lemmas.Bool.Decides.{nat_tests}
use Rattle.std.proofs.lemmas.List.{take_more, take_all}
use Rattle.std.proofs.lemmas.List.Elements.{All-head, All-push}
use Rattle.std.proofs.lemmas.List.Folds.{list_any-append, list_any_at}
use Rattle.std.proofs.lemmas.List.Sums.{sum_by_push, sum_by-cons}
use Rattle.std.proofs.lemmas.Slice.Eq.{bytes_eq-Decides}
use Rattle.song_files.specs.Added.{IsAdded, IsStamped, told_of}
use Rattle.song_files.specs.Folder.{File, bytes_at, stamp_at}
use Rattle.song_files.specs.Listing.{behind_folder, behind, has_slash, is_name, first_part, same_kind, is_entry, begins_with, has_first}
use Rattle.song_files.specs.Listing.{is_over, path_in, IsListing, IsStampAt, AreApart}
use Rattle.song_files.specs.declared.folder.FileStamp.{FileStamp}
use Rattle.song_files.specs.declared.folder.FolderEntry.{FolderEntry}

-- what is left of a path behind its folder, without the slash
abbrev pub after_slash : List ℕ → Option (List ℕ)
after_slash [] = None
after_slash (p ∷ path) = cond (nat_eq p 47) (Some path) None

itself : (n : ℕ) → nat_eq n n ≡ true
itself n = grind (arith, nat_tests)

behind_append : (folder rest : List ℕ) → behind_folder folder (folder ++ rest) ≡ after_slash rest
behind_append [] [] = refl
behind_append [] (p ∷ path) = refl
behind_append (f ∷ folder) rest = rw (itself f) (behind_append folder rest)

behind_splits : (folder path rest : List ℕ) → behind_folder folder path ≡ Some rest → path ≡ folder ++ 47 ∷ rest
behind_splits [] [] rest h = absurd (cc)
behind_splits [] (p ∷ path) rest h = by_cases (nat_eq p 47) refl h
  where
    by_cases : (b : Bool) → nat_eq p 47 ≡ b → ◌≡◌ {A = Option (List ℕ)} (cond b (Some path) None) (Some rest) → p ∷ path ≡ 47 ∷ rest
    by_cases true same h =
        let slash : p ≡ 47 = grind (arith, nat_tests) in
        let behind : path ≡ rest = cc in
        cc
    by_cases false other h = absurd (cc)
behind_splits (f ∷ folder) [] rest h = absurd (cc)
behind_splits (f ∷ folder) (p ∷ path) rest h = by_cases (nat_eq f p) refl h (behind_splits folder path rest)
  where
    by_cases : (b : Bool) → nat_eq f p ≡ b → ◌≡◌ {A = Option (List ℕ)} (cond b (behind_folder folder path) None) (Some rest)
        → (behind_folder folder path ≡ Some rest → path ≡ folder ++ 47 ∷ rest) → p ∷ path ≡ f ∷ (folder ++ 47 ∷ rest)
    by_cases true same h more =
        let first : p ≡ f = grind (arith, nat_tests) in
        let others : path ≡ folder ++ 47 ∷ rest = more h in
        cc
    by_cases false other h more = absurd (cc)

-- below a folder, by its bytes
some_folder : (folder path : List ℕ) → nat_eq (length folder) 0 ≡ false → behind folder path ≡ behind_folder folder path
some_folder [] path some = absurd (cc)
some_folder (f ∷ folder) path some = refl

pub not_behind : (folder path : List ℕ) → nat_eq (length folder) 0 ≡ false → LacksTextAt folder path 0 → None ≡ behind folder path
not_behind folder path some lacks = by_result (behind_folder folder path) refl ∙ sym (some_folder folder path some)
  where
    by_result : (found : Option (List ℕ)) → behind_folder folder path ≡ found → None ≡ behind_folder folder path
    by_result None h = sym h
    by_result (Some rest) h = absurd (lacks (47 ∷ rest) (behind_splits folder path rest h))

pub slash_behind : (folder path rest : List ℕ) (found : Option (List ℕ)) → nat_eq (length folder) 0 ≡ false → path ≡ folder ++ rest
    → found ≡ after_slash rest → found ≡ behind folder path
slash_behind folder path rest found some is told = told ∙ sym (behind_append folder rest) ∙ ap (behind_folder folder) (sym is)
    ∙ sym (some_folder folder path some)

pub slash_none : (rest : List ℕ) → ((more : List ℕ) → rest ≢ 47 ∷ more) → None ≡ after_slash rest
slash_none [] lacks = refl
slash_none (p ∷ path) lacks = by_cases (nat_eq p 47) refl
  where
    by_cases : (b : Bool) → nat_eq p 47 ≡ b → ◌≡◌ {A = Option (List ℕ)} None (cond (nat_eq p 47) (Some path) None)
    by_cases true same = let slash : p ≡ 47 = grind (arith, nat_tests) in absurd (lacks path (ap (λ b. b ∷ path) slash))
    by_cases false other = rw other refl

pub slash_some : (rest more : List ℕ) → rest ≡ 47 ∷ more → Some more ≡ after_slash rest
slash_some rest more is = rw is refl

-- what the second strip gives
pub stripped : (B : Type 0) (folder path rest : List ℕ) (found : Option (Bor (List ℕ))) → nat_eq (length folder) 0 ≡ false
    → path ≡ folder ++ rest
    → MatchOption found ((more : List ℕ) → rest ≢ 47 ∷ more)
    (λ x. (k : ℕ) × ((k ≡ 1) × (rest ≡ 47 ∷ drop k rest) × B) × (x.now ≡ drop k rest) × (length x.now + k ≡ length rest))
    → option_copied found ≡ behind folder path
stripped B folder path rest None some is lacks = slash_behind folder path rest None some is (slash_none rest lacks)
stripped B folder path rest (Some x) some is (k, (one, slash, bound), more, len) =
    slash_behind folder path rest (Some x.now) some is (slash_some rest x.now (slash ∙ ap (λ l. 47 ∷ l) (sym more)))

-- an entry that wasn't there is put behind the others
count_none : (p : FolderEntry → Bool) (entries : List FolderEntry) → list_any p entries ≡ false → count_by p entries ≡ 0
count_none p [] none = refl
count_none p (e ∷ es) none = by_cases (p e) refl none (count_none p es)
  where
    by_cases : (b : Bool) → p e ≡ b → (b || list_any p es) ≡ false → (list_any p es ≡ false → count_by p es ≡ 0) → count_by p (e ∷ es) ≡ 0
    by_cases true told none more = absurd (cc)
    by_cases false told none more =
        let rest : count_by p es ≡ 0 = more none in
        let one : ◌≡◌ {A = ℕ} (cond (p e) 1 0) 0 = rw told refl in
        let step : count_by p (e ∷ es) ≡ cond (p e) 1 0 + count_by p es = sum_by-cons (λ x. cond (p x) 1 0) e es in
        step ∙ rw (one, rest) refl

kinds_same : (a b : Bool) → same_kind a b ≡ true → a ≡ b
kinds_same true true h = refl
kinds_same true false h = absurd (cc)
kinds_same false true h = absurd (cc)
kinds_same false false h = refl

both : (a b : Bool) → (a && b) ≡ true → (a ≡ true) × (b ≡ true)
both true b h = (refl, h)
both false b h = absurd (cc)

or_false : (b : Bool) → (b || false) ≡ b
or_false true = refl
or_false false = refl

or_same : (a b : Bool) → (b ≡ true → a ≡ true) → a ≡ (a || b)
or_same true b h = refl
or_same false true h = absurd (let k : false ≡ true = h refl in cc)
or_same false false h = refl

-- a first part has no slash
first_plain : (path : List ℕ) → has_slash (first_part path) ≡ false
first_plain [] = refl
first_plain (b ∷ path) = by_cases (nat_eq b 47) refl (first_plain path)
  where
    one_more : (n : ℕ) → 1 + n ≡ suc n
    one_more n = omega arith

    front : (n : ℕ) → nat_eq b 47 ≡ false → list_any (λ x. x == 47) (take n path) ≡ false
        → list_any (λ x. x == 47) (b ∷ take n path) ≡ false
    front n other rest = rw other rest

    by_cases : (c : Bool) → nat_eq b 47 ≡ c → has_slash (first_part path) ≡ false
        → list_any (λ x. x == 47) (take (cond (not c) (1 + prefix_len (λ x. not (x == 47)) path) 0) (b ∷ path)) ≡ false
    by_cases true slash rest = refl
    by_cases false other rest =
        let n = prefix_len (λ x. not (x == 47)) path in
        rw (one_more n) (front n other rest)

pub first_name : (path : List ℕ) → bytes_eq (first_part path) [] ≡ false → is_name (first_part path) ≡ true
first_name path some = rw (some, first_plain path) refl

-- what is there isn't added again
pub there_added : (entries : List FolderEntry) (name : List ℕ) (kind : Bool) → list_any (is_entry name kind) entries ≡ true
    → IsAdded entries entries name kind
there_added entries name kind there = record { names = λ names. names; each = each; once = λ few. few }
  where
    each : (n : List ℕ) → is_name n ≡ true → (k : Bool)
        → list_any (is_entry n k) entries ≡ (list_any (is_entry n k) entries || (bytes_eq name n && same_kind kind k))
    each n is k = or_same (list_any (is_entry n k) entries) (bytes_eq name n && same_kind kind k) (λ h.
        let parts = both (bytes_eq name n) (same_kind kind k) h in
        let this : name ≡ n = (bytes_eq-Decides name n).0 parts.0 in
        let own : kind ≡ k = kinds_same kind k parts.1 in
        rw (← this, ← own) there)

pub pushed : (old : List FolderEntry) (entry : FolderEntry) (name : List ℕ) (kind : Bool) → string_bytes entry.name ≡ name
    → entry.is_folder ≡ kind → is_name name ≡ true → list_any (is_entry name kind) old ≡ false → IsAdded old (old ++ entry ∷ []) name kind
pushed old entry name kind name_is kind_is is absent = record { names = names; each = each; once = once }
  where
    own : (n : List ℕ) (k : Bool) → is_entry n k entry ≡ (bytes_eq name n && same_kind kind k)
    own n k = rw (name_is, kind_is) refl

    names : All (λ (e : FolderEntry). is_name (string_bytes e.name) ≡ true) old
        → All (λ (e : FolderEntry). is_name (string_bytes e.name) ≡ true) (old ++ entry ∷ [])
    names before = All-push (λ (e : FolderEntry). is_name (string_bytes e.name) ≡ true) old entry before (ap is_name name_is ∙ is)

    each : (n : List ℕ) → is_name n ≡ true → (k : Bool)
        → list_any (is_entry n k) (old ++ entry ∷ []) ≡ (list_any (is_entry n k) old || (bytes_eq name n && same_kind kind k))
    each n named k = list_any-append (is_entry n k) old (entry ∷ [])
        ∙ ap (λ b. list_any (is_entry n k) old || b) (or_false (is_entry n k entry) ∙ own n k)

    once : ((n : List ℕ) (k : Bool) → count_by (is_entry n k) old ≤ 1) → (n : List ℕ) (k : Bool)
        → count_by (is_entry n k) (old ++ entry ∷ []) ≤ 1
    once few n k = by_cases (is_entry n k entry) refl
      where
        by_cases : (b : Bool) → is_entry n k entry ≡ b → count_by (is_entry n k) (old ++ entry ∷ []) ≤ 1
        by_cases false other =
            let nothing : ◌≡◌ {A = ℕ} (cond (is_entry n k entry) 1 0) 0 = rw other refl in
            let step : count_by (is_entry n k) (old ++ entry ∷ []) ≡ count_by (is_entry n k) old + cond (is_entry n k entry) 1 0 =
            sum_by_push (λ x. cond (is_entry n k x) 1 0) old entry in
            let before : count_by (is_entry n k) old ≤ 1 = few n k in
            rw (step, nothing) (omega arith)
        by_cases true same =
            let parts = both (bytes_eq name n) (same_kind kind k) (sym (own n k) ∙ same) in
            let name_same : name ≡ n = (bytes_eq-Decides name n).0 parts.0 in
            let kind_same : kind ≡ k = kinds_same kind k parts.1 in
            let none : list_any (is_entry n k) old ≡ false = rw (← name_same, ← kind_same) absent in
            let one : ◌≡◌ {A = ℕ} (cond (is_entry n k entry) 1 0) 1 = rw same refl in
            let step : count_by (is_entry n k) (old ++ entry ∷ []) ≡ count_by (is_entry n k) old + cond (is_entry n k entry) 1 0 =
            sum_by_push (λ x. cond (is_entry n k x) 1 0) old entry in
            rw (step, one, count_none (is_entry n k) old none) (omega arith)

-- one file more
first_more : (files : List File) (folder : List ℕ) (i : ℕ) (file : File) (n : List ℕ) (k : Bool) → i < length files
    → file ≡ get_or files i file
    → has_first (take (i + 1) files) folder n k ≡ (has_first (take i files) folder n k || begins_with n k (behind folder file.path))
first_more files folder i file n k within is =
    ap (list_any (λ (f : File). begins_with n k (behind folder f.path)))
    (take_more files i file within ∙ ap (λ (f : File). take i files ++ f ∷ []) (sym is))
    ∙ list_any-append (λ (f : File). begins_with n k (behind folder f.path)) (take i files) (file ∷ [])
    ∙ ap (λ b. has_first (take i files) folder n k || b) (or_false (begins_with n k (behind folder file.path)))

pub listed_more : (files : List File) (folder : List ℕ) (old new : List FolderEntry) (i : ℕ) (file : File) (rest : List ℕ)
    → i < length files → file ≡ get_or files i file → behind folder file.path ≡ Some rest
    → IsListing (take i files) folder old → IsAdded old new (first_part rest) (has_slash rest) → IsListing (take (i + 1) files) folder new
listed_more files folder old new i file rest within is below listing added =
    record { names = added.names listing.names; each = each; once = added.once listing.once }
  where
    each : (n : List ℕ) → is_name n ≡ true → (k : Bool) → list_any (is_entry n k) new ≡ has_first (take (i + 1) files) folder n k
    each n named k =
        added.each n named k ∙ ap (λ b. b || (bytes_eq (first_part rest) n && same_kind (has_slash rest) k)) (listing.each n named k)
        ∙ ap (λ b. has_first (take i files) folder n k || b) (sym (ap (begins_with n k) below))
        ∙ sym (first_more files folder i file n k within is)

pub passed_more : (files : List File) (folder : List ℕ) (entries : List FolderEntry) (i : ℕ) (file : File) → i < length files
    → file ≡ get_or files i file → behind folder file.path ≡ None → IsListing (take i files) folder entries
    → IsListing (take (i + 1) files) folder entries
passed_more files folder entries i file within is below listing = record { names = listing.names; each = each; once = listing.once }
  where
    each : (n : List ℕ) → is_name n ≡ true → (k : Bool) → list_any (is_entry n k) entries ≡ has_first (take (i + 1) files) folder n k
    each n named k =
        listing.each n named k ∙ sym (or_false (has_first (take i files) folder n k))
        ∙ ap (λ b. has_first (take i files) folder n k || b) (sym (ap (begins_with n k) below))
        ∙ sym (first_more files folder i file n k within is)

-- where something is listed, a file stands behind
over_first : (files : List File) (folder n : List ℕ) (k : Bool) → has_first files folder n k ≡ true → list_any (is_over folder) files ≡ true
over_first [] folder n k h = absurd (cc)
over_first (file ∷ files) folder n k h = by_cases (behind folder file.path) refl h (over_first files folder n k)
  where
    by_cases : (found : Option (List ℕ)) → behind folder file.path ≡ found → (begins_with n k found || has_first files folder n k) ≡ true
        → (has_first files folder n k ≡ true → list_any (is_over folder) files ≡ true) → list_any (is_over folder) (file ∷ files) ≡ true
    by_cases None told h rest = rw told (rest h)
    by_cases (Some more) told h rest = rw told refl

same_self : (xs : List ℕ) → bytes_eq xs xs ≡ true
same_self xs = (bytes_eq-Decides xs xs).1 refl

kind_self : (k : Bool) → same_kind k k ≡ true
kind_self true = refl
kind_self false = refl

pub no_file : (files : List File) (folder : List ℕ) (entry : FolderEntry) (entries : List FolderEntry) → AreApart files
    → IsListing files folder (entry ∷ entries) → bytes_at files folder ≡ None
no_file files folder entry entries apart listing =
    let name = string_bytes entry.name in
    let own : is_entry name entry.is_folder entry ≡ true = rw (same_self name, kind_self entry.is_folder) refl in
    let there : list_any (is_entry name entry.is_folder) (entry ∷ entries) ≡ true = rw own refl in
    apart folder (over_first files folder name entry.is_folder
    (sym (listing.each name (All-head (λ (e : FolderEntry). is_name (string_bytes e.name) ≡ true) entry entries listing.names)
    entry.is_folder) ∙ there))

-- a path without a slash has no more
pub no_slash : (path : List ℕ) → position_or_len (λ b. b == 47) path ≡ length path → has_slash path ≡ false
no_slash [] none = refl
no_slash (b ∷ path) none = by_cases (nat_eq b 47) refl none (no_slash path)
  where
    by_cases : (c : Bool) → nat_eq b 47 ≡ c → cond (not c) (1 + prefix_len (λ x. not (x == 47)) path) 0 ≡ suc (length path)
        → (position_or_len (λ b. b == 47) path ≡ length path → has_slash path ≡ false) → (c || has_slash path) ≡ false
    by_cases true slash none rest = absurd (omega arith)
    by_cases false other none rest = rest (omega arith)

-- the same of the listing of all files
pub no_file_of : (files all : List File) (folder : List ℕ) (entries : List FolderEntry) (i : ℕ) → length files ≤ i → files ≡ all
    → AreApart all
    → IsListing (take i files) folder entries → nat_eq (length entries) 0 ≡ false → bytes_at all folder ≡ None
no_file_of files all folder [] i whole same apart listing some = absurd (cc)
no_file_of files all folder (entry ∷ entries) i whole same apart listing some =
    no_file all folder entry entries apart (rw (take_all i files whole ∙ same) at listing)

-- an entry that has the name
pub found_at : (entries : List FolderEntry) (i : ℕ) (entry : FolderEntry) (own name : List ℕ) (kind : Bool) → i < length entries
    → entry ≡ get_or entries i entry
    → own ≡ string_bytes entry.name → true ≡ bytes_eq own name → beq entry.is_folder kind ≡ true
    → list_any (is_entry name kind) entries ≡ true
found_at entries i entry own name kind within is own_is same kinds =
    list_any_at (is_entry name kind) entries i entry within (rw (← is) told)
  where
    same_kinds : (a b : Bool) → beq a b ≡ true → same_kind a b ≡ true
    same_kinds true true h = refl
    same_kinds true false h = h
    same_kinds false true h = h
    same_kinds false false h = refl

    told : is_entry name kind entry ≡ true
    told = rw (← own_is, ← same) (same_kinds entry.is_folder kind kinds)

pub added_behind : (old new : List FolderEntry) (entry : FolderEntry) (path name : List ℕ) (kind more : Bool) (items : List FolderEntry)
    (i : ℕ) → new ≡ old ++ entry ∷ []
    → string_bytes entry.name ≡ name → entry.is_folder ≡ kind → name ≡ first_part path → kind ≡ more → false ≡ nat_eq (length name) 0
    → items ≡ old → length items ≤ i → list_any (is_entry name kind) (take i items) ≡ false → IsAdded old new (first_part path) more
added_behind old new entry path name kind more items i is name_is kind_is first mores some same whole none =
    rw is (pushed old entry (first_part path) more (name_is ∙ first) (kind_is ∙ mores)
    (first_name path (not_none name (first_part path) first some))
    (rw (first, mores, take_all i items whole ∙ same) at none))
  where
    not_none : (name first : List ℕ) → name ≡ first → false ≡ nat_eq (length name) 0 → bytes_eq first [] ≡ false
    not_none name [] is some = absurd (let k : false ≡ true = some ∙ ap (λ l. nat_eq (length l) 0) is in cc)
    not_none name (b ∷ first) is some = refl

-- ---- what is told of the file under a name

first_whole : (path : List ℕ) → has_slash path ≡ false → first_part path ≡ path
first_whole [] none = refl
first_whole (b ∷ path) none = by_cases (nat_eq b 47) refl none (first_whole path)
  where
    one_more : (n : ℕ) → 1 + n ≡ suc n
    one_more n = omega arith

    by_cases : (c : Bool) → nat_eq b 47 ≡ c → (c || has_slash path) ≡ false → (has_slash path ≡ false → first_part path ≡ path)
        → take (cond (not c) (1 + prefix_len (λ x. not (x == 47)) path) 0) (b ∷ path) ≡ b ∷ path
    by_cases true slash none rest = absurd (cc)
    by_cases false other none rest =
        rw (one_more (prefix_len (λ x. not (x == 47)) path)) (ap (λ l. b ∷ l) (rest none))

path_back : (folder path rest : List ℕ) → behind folder path ≡ Some rest → has_slash rest ≡ false → path_in folder (first_part rest) ≡ path
path_back [] path rest below plain =
    let same : path ≡ rest = cc in
    first_whole rest plain ∙ sym same
path_back (f ∷ folder) path rest below plain =
    ap (λ name. (f ∷ folder) ++ 47 ∷ name) (first_whole rest plain) ∙ sym (behind_splits (f ∷ folder) path rest below)

pub told_there : (files : List File) (folder path rest : List ℕ) (told : Option FileStamp) → behind folder path ≡ Some rest
    → told ≡ stamp_at files path → IsStampAt files (path_in folder (first_part rest)) (told_of (has_slash rest) told)
told_there files folder path rest told below is = by_cases (has_slash rest) refl
  where
    by_cases : (b : Bool) → has_slash rest ≡ b → IsStampAt files (path_in folder (first_part rest)) (told_of b told)
    by_cases true slash = λ known here. absurd (cc)
    by_cases false plain = λ known here. ap (stamp_at files) (path_back folder path rest below plain) ∙ sym is ∙ here

pub stamps_pushed : (old new : List FolderEntry) (entry : FolderEntry) (path name : List ℕ) (kind more : Bool) (told : Option FileStamp)
    → new ≡ old ++ entry ∷ [] → string_bytes entry.name ≡ name → name ≡ first_part path → entry.stamp ≡ told_of kind told → kind ≡ more
    → IsStamped old new (first_part path) more told
stamps_pushed old new entry path name kind more told is named first stamp mores = λ files folder one all.
    let own : IsStampAt files (path_in folder (string_bytes entry.name)) entry.stamp
    = rw (named ∙ first, stamp ∙ ap (λ k. told_of k told) mores) one in
    rw is (All-push (λ (e : FolderEntry). IsStampAt files (path_in folder (string_bytes e.name)) e.stamp) old entry all own)
