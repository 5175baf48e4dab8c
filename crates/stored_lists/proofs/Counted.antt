-- How each change counts its playlists and entries.
use Rattle.std.proofs.Common.{◌≡◌, ℕ, ◌+◌, ◌-◌, ◌<◌, ◌≤◌, Bool, true, false, cond, List, [], ◌∷◌, ◌++◌, length, Option, Some, None, is_some}
use Rattle.std.proofs.Common.{IsTrue, take, drop, slice_index_or, suc, refl, ap, subst, arith}
use Rattle.std.specs.declared.cmp.Ordering.{Ordering}
use Rattle.std.specs.declared.cmp.Ordering.TheVariants.{Less, Equal, Greater}
use Rattle.std.specs.Ordering.{nat_cmp, match_ordering, is_eq}
use Rattle.std.specs.Cmp.Lexicographic.{slice_cmp}
use Rattle.std.specs.List.{AllByRecursion}
use Rattle.std.specs.Str.{bytes_eq}
use Rattle.std.specs.Map.{lookup}
use Rattle.std.proofs.lemmas.Map.Text.{is_eq-slice_cmp}
use Rattle.std.proofs.lemmas.List.{length-take, length-drop, length-append}
use Rattle.std.proofs.lemmas.List.Sums.{sum_by-cons}
use Rattle.std.proofs.lemmas.List.Edits.{length-insert, length-remove}
use Rattle.std.proofs.lemmas.List.Elements.{All-append, All-cons, All-take, All-drop}
use Rattle.std.specs.List.{remove}
use Rattle.song_db.specs.Uri.{is_uri}
use Rattle.stored_lists.specs.Limits.{MAX_LISTS, MAX_ENTRIES}
use Rattle.stored_lists.specs.Name.{is_good_name}
use Rattle.stored_lists.specs.Songs.{Uris, AreUris, without_range, moved}
use Rattle.stored_lists.specs.Lists.{Stored, songs_of, total, IsCounted, songs_or_none, renamed, with_list, without_list, with_songs}
use Rattle.stored_lists.proofs.Absent.{songs_or_none_present}

-- names and songs that playlists may have
abbrev AreGood : Stored → Type 0
AreGood lists = AllByRecursion (λ list. IsTrue (is_good_name list.0) × AreUris list.1) lists

total-cons : (list : List ℕ × Uris) (lists : Stored) → total (list ∷ lists) ≡ length list.1 + total lists
total-cons list lists = sum_by-cons (λ l. length l.1) list lists

-- a playlist taken out takes its entries along
counts_without : (lists : Stored) (name : List ℕ) (songs : Uris) → AreGood lists → songs_of lists name ≡ Some songs
    → record {
      long : length (without_list lists name) + 1 ≡ length lists;
      sum : total (without_list lists name) + length songs ≡ total lists;
      good : AreGood (without_list lists name);
    }
counts_without [] name songs good found = absurd (cc)
counts_without (list ∷ lists) name songs good found = by_cases (bytes_eq name list.0) found (counts_without lists name songs good.1)
  where
    by_cases : (b : Bool) → cond b (Some list.1) (lookup (bytes_eq name) lists) ≡ Some songs
        → (songs_of lists name ≡ Some songs
        → record {
          long : length (without_list lists name) + 1 ≡ length lists;
          sum : total (without_list lists name) + length songs ≡ total lists;
          good : AreGood (without_list lists name);
        })
        → record {
          long : length (cond b lists (list ∷ without_list lists name)) + 1 ≡ length (list ∷ lists);
          sum : total (cond b lists (list ∷ without_list lists name)) + length songs ≡ total (list ∷ lists);
          good : AreGood (cond b lists (list ∷ without_list lists name));
        }
    by_cases true found rest =
        let same : list.1 ≡ songs = cc in
        let sum : total lists + length songs ≡ total (list ∷ lists) = omega (arith, total-cons list lists, ap length same) in
        record { long = omega arith; sum = sum; good = good.1 }
    by_cases false found rest =
        let tail = rest found in
        let sum : total (list ∷ without_list lists name) + length songs ≡ total (list ∷ lists) =
        omega (arith, tail.sum, total-cons list lists, total-cons list (without_list lists name)) in
        record { long = omega (arith, tail.long); sum = sum; good = (good.0, tail.good) }

-- other songs under a name
counts_with_songs : (lists : Stored) (name : List ℕ) (songs new : Uris) → AreGood lists → AreUris new → songs_of lists name ≡ Some songs
    → record {
      long : length (with_songs lists name new) ≡ length lists;
      sum : total (with_songs lists name new) + length songs ≡ total lists + length new;
      good : AreGood (with_songs lists name new);
    }
counts_with_songs [] name songs new good uris found = absurd (cc)
counts_with_songs (list ∷ lists) name songs new good uris found =
    by_cases (bytes_eq name list.0) found (counts_with_songs lists name songs new good.1 uris)
  where
    by_cases : (b : Bool) → cond b (Some list.1) (lookup (bytes_eq name) lists) ≡ Some songs
        → (songs_of lists name ≡ Some songs
        → record {
          long : length (with_songs lists name new) ≡ length lists;
          sum : total (with_songs lists name new) + length songs ≡ total lists + length new;
          good : AreGood (with_songs lists name new);
        })
        → record {
          long : length (cond b ((list.0, new) ∷ lists) (list ∷ with_songs lists name new)) ≡ length (list ∷ lists);
          sum : total (cond b ((list.0, new) ∷ lists) (list ∷ with_songs lists name new)) + length songs
              ≡ total (list ∷ lists) + length new;
          good : AreGood (cond b ((list.0, new) ∷ lists) (list ∷ with_songs lists name new));
        }
    by_cases true found rest =
        let same : list.1 ≡ songs = cc in
        let sum : total ((list.0, new) ∷ lists) + length songs ≡ total (list ∷ lists) + length new =
        omega (arith, total-cons list lists, total-cons (list.0, new) lists, ap length same) in
        record { long = refl; sum = sum; good = ((good.0.0, uris), good.1) }
    by_cases false found rest =
        let tail = rest found in
        let sum : total (list ∷ with_songs lists name new) + length songs ≡ total (list ∷ lists) + length new =
        omega (arith, tail.sum, total-cons list lists, total-cons list (with_songs lists name new)) in
        record { long = omega (arith, tail.long); sum = sum; good = (good.0, tail.good) }

-- a new name with songs
counts_with_list : (lists : Stored) (name : List ℕ) (songs : Uris) → AreGood lists → IsTrue (is_good_name name) → AreUris songs
    → songs_of lists name ≡ None → record {
      long : length (with_list lists name songs) ≡ length lists + 1;
      sum : total (with_list lists name songs) ≡ total lists + length songs;
      good : AreGood (with_list lists name songs);
    }
counts_with_list [] name songs good good_name uris free = record { long = refl; sum = omega arith; good = ((good_name, uris), tt) }
counts_with_list (list ∷ lists) name songs good good_name uris free =
    by_cases (slice_cmp nat_cmp name list.0) (rw (← is_eq-slice_cmp name list.0) at free)
    (counts_with_list lists name songs good.1 good_name uris)
  where
    by_cases : (o : Ordering) → cond (is_eq o) (Some list.1) (lookup (bytes_eq name) lists) ≡ None
        → (songs_of lists name ≡ None → record {
          long : length (with_list lists name songs) ≡ length lists + 1;
          sum : total (with_list lists name songs) ≡ total lists + length songs;
          good : AreGood (with_list lists name songs);
        })
        → record {
          long : length (match_ordering o ((name, songs) ∷ list ∷ lists) ((list.0, songs) ∷ lists)
              (list ∷ with_list lists name songs)) ≡ length (list ∷ lists) + 1;
          sum : total (match_ordering o ((name, songs) ∷ list ∷ lists) ((list.0, songs) ∷ lists) (list ∷ with_list lists name songs))
              ≡ total (list ∷ lists) + length songs;
          good : AreGood (match_ordering o ((name, songs) ∷ list ∷ lists) ((list.0, songs) ∷ lists) (list ∷ with_list lists name songs));
        }
    by_cases Less free rest =
        let sum : total ((name, songs) ∷ list ∷ lists) ≡ total (list ∷ lists) + length songs =
        omega (arith, total-cons (name, songs) (list ∷ lists)) in
        record { long = omega arith; sum = sum; good = ((good_name, uris), good) }
    by_cases Equal free rest = absurd (cc)
    by_cases Greater free rest =
        let tail = rest free in
        let sum : total (list ∷ with_list lists name songs) ≡ total (list ∷ lists) + length songs =
        omega (arith, tail.sum, total-cons list lists, total-cons list (with_list lists name songs)) in
        record { long = omega (arith, tail.long); sum = sum; good = (good.0, tail.good) }

pub counted_without : (lists : Stored) (n : ℕ) (name : List ℕ) (songs : Uris) → IsCounted lists n → songs_of lists name ≡ Some songs
    → record { fits : length songs ≤ n; counted : IsCounted (without_list lists name) (n - length songs) }
counted_without lists n name songs counted found =
    let after = counts_without lists name songs counted.within.good_lists found in
    record {
      fits = omega (arith, after.sum, counted.counted);
      counted = record {
        counted = omega (arith, after.sum, counted.counted);
        within = record {
          few_lists = omega (arith, after.long, counted.within.few_lists);
          few_entries =
              omega (arith, after.sum, counted.within.few_entries);
          good_lists = after.good;
        };
      };
    }

-- the entries of the other playlists
pub total_without : (lists : Stored) (n : ℕ) (name : List ℕ) (songs : Uris) → IsCounted lists n → songs_of lists name ≡ Some songs
    → total (without_list lists name) + length songs ≡ n
total_without lists n name songs counted found =
    omega (arith, (counts_without lists name songs counted.within.good_lists found).sum, counted.counted)

pub counted_with_songs : (lists : Stored) (n m : ℕ) (name : List ℕ) (songs new : Uris) → IsCounted lists n → AreUris new
    → songs_of lists name ≡ Some songs → m + length songs ≡ n + length new → m ≤ MAX_ENTRIES → IsCounted (with_songs lists name new) m
counted_with_songs lists n m name songs new counted uris found same few =
    let after = counts_with_songs lists name songs new counted.within.good_lists uris found in
    record {
      counted = omega (arith, after.sum, counted.counted);
      within = record {
        few_lists = omega (arith, after.long, counted.within.few_lists);
        few_entries =
            omega (arith, after.sum, counted.counted);
        good_lists = after.good;
      };
    }

pub counted_fits : (lists : Stored) (n : ℕ) (name : List ℕ) (songs : Uris) → IsCounted lists n → songs_of lists name ≡ Some songs
    → length songs ≤ n
counted_fits lists n name songs counted found = (counted_without lists n name songs counted found).fits

pub counted_with_list : (lists : Stored) (n m : ℕ) (name : List ℕ) (songs : Uris) → IsCounted lists n → IsTrue (is_good_name name)
    → AreUris songs → songs_of lists name ≡ None → length lists < MAX_LISTS → m ≡ n + length songs → m ≤ MAX_ENTRIES
    → IsCounted (with_list lists name songs) m
counted_with_list lists n m name songs counted good uris free few_lists same few_entries =
    let after = counts_with_list lists name songs counted.within.good_lists good uris free in
    record {
      counted = omega (arith, after.sum, counted.counted);
      within = record {
        few_lists = omega (arith, after.long);
        few_entries = omega (arith, after.sum, counted.counted);
        good_lists =
            after.good;
      };
    }

pub length-without_range : (songs : Uris) (start end : ℕ) → start ≤ end → end ≤ length songs
    → length (without_range songs start end) + (end - start) ≡ length songs
length-without_range songs start end le in_range =
    omega (arith, length-append (take start songs) (drop end songs), length-take start songs, length-drop end songs)

pub length-moved : (songs : Uris) (from to : ℕ) → from < length songs → to < length songs → length (moved songs from to) ≡ length songs
length-moved songs from to from_in_range to_in_range =
    let without = length-remove songs from from_in_range in
    omega (arith, without, length-insert (remove songs from) to (slice_index_or songs from []) (omega (arith, without)))

-- the songs of a playlist have the form of URIs
uris_of : (lists : Stored) (name : List ℕ) (songs : Uris) → AreGood lists → songs_of lists name ≡ Some songs → AreUris songs
uris_of [] name songs good found = absurd (cc)
uris_of (list ∷ lists) name songs good found = by_cases (bytes_eq name list.0) found (uris_of lists name songs good.1)
  where
    by_cases : (b : Bool) → cond b (Some list.1) (lookup (bytes_eq name) lists) ≡ Some songs
        → (songs_of lists name ≡ Some songs → AreUris songs) → AreUris songs
    by_cases true found rest = let same : list.1 ≡ songs = cc in subst AreUris same good.0.1
    by_cases false found rest = rest found

pub counted_uris : (lists : Stored) (n : ℕ) (name : List ℕ) (songs : Uris) → IsCounted lists n → songs_of lists name ≡ Some songs
    → AreUris songs
counted_uris lists n name songs counted found = uris_of lists name songs counted.within.good_lists found

pub uris-none : AreUris []
uris-none = λ k d within. absurd (omega arith)

pub uris-without_range : (songs : Uris) (start end : ℕ) → AreUris songs → AreUris (without_range songs start end)
uris-without_range songs start end uris =
    All-append (λ uri. IsTrue (is_uri uri)) (take start songs) (drop end songs) (All-take (λ uri. IsTrue (is_uri uri)) start songs uris)
    (All-drop (λ uri. IsTrue (is_uri uri)) end songs uris)

pub uris-moved : (songs : Uris) (from to : ℕ) → AreUris songs → from < length songs → AreUris (moved songs from to)
uris-moved songs from to uris within =
    let form : List ℕ → Type 0 = λ uri. IsTrue (is_uri uri) in
    let rest : AreUris (remove songs from) =
    All-append form (take from songs) (drop (suc from) songs) (All-take form from songs uris)
    (All-drop form (suc from) songs uris) in
    All-append form (take to (remove songs from)) (slice_index_or songs from [] ∷ drop to (remove songs from))
    (All-take form to (remove songs from) rest)
    (All-cons form (slice_index_or songs from []) (drop to (remove songs from)) (uris from [] within)
    (All-drop form to (remove songs from) rest))

pub counted_append : (lists : Stored) (n m : ℕ) (name : List ℕ) (new : Uris) → IsCounted lists n → AreUris new
    → is_some (songs_of lists name) ≡ true → m ≡ n + length new → m ≤ MAX_ENTRIES
    → IsCounted (with_songs lists name (songs_or_none lists name ++ new)) m
counted_append lists n m name new counted uris present same few = by_cases (songs_of lists name) refl present
  where
    by_cases : (o : Option Uris) → songs_of lists name ≡ o → is_some o ≡ true
        → IsCounted (with_songs lists name (songs_or_none lists name ++ new)) m
    by_cases None found present = absurd (cc)
    by_cases (Some old) found present =
        rw (songs_or_none_present lists name old found)
        (counted_with_songs lists n m name old (old ++ new) counted
        (All-append (λ uri. IsTrue (is_uri uri)) old new (counted_uris lists n name old counted found) uris) found
        (omega (arith, length-append old new)) few)

cond_none : {X : Type 0} (b : Bool) (x : X) (rest : Option X) → cond b (Some x) rest ≡ None → (b ≡ false) × (rest ≡ None)
cond_none true x rest none = absurd (cc)
cond_none false x rest none = (refl, none)

-- a name that is free stays free
lookup-remove_none : (lists : Stored) (name other : List ℕ) → songs_of lists name ≡ None → songs_of (without_list lists other) name ≡ None
lookup-remove_none [] name other none = refl
lookup-remove_none (list ∷ lists) name other none =
    let parts = cond_none (bytes_eq name list.0) list.1 (songs_of lists name) none in
    by_cases (bytes_eq other list.0) parts.0 parts.1 (lookup-remove_none lists name other parts.1)
  where
    by_cases : (b : Bool) → bytes_eq name list.0 ≡ false → songs_of lists name ≡ None → songs_of (without_list lists other) name ≡ None
        → lookup (bytes_eq name) (cond b lists (list ∷ without_list lists other)) ≡ None
    by_cases true apart none rest = none
    by_cases false apart none rest = rw apart rest

pub counted_renamed : (lists : Stored) (n : ℕ) (from to : List ℕ) → IsCounted lists n → is_some (songs_of lists from) ≡ true
    → songs_of lists to ≡ None → IsTrue (is_good_name to) → IsCounted (renamed lists from to) n
counted_renamed lists n from to counted present free good = by_cases (songs_of lists from) refl present
  where
    by_cases : (o : Option Uris) → songs_of lists from ≡ o → is_some o ≡ true → IsCounted (renamed lists from to) n
    by_cases None found present = absurd (cc)
    by_cases (Some songs) found present =
        let without = counted_without lists n from songs counted found in
        let long = (counts_without lists from songs counted.within.good_lists found).long in
        rw (songs_or_none_present lists from songs found)
        (counted_with_list (without_list lists from) (n - length songs) n to songs without.counted good
        (counted_uris lists n from songs counted found) (lookup-remove_none lists to from free)
        (omega (arith, long, counted.within.few_lists)) (omega (arith, without.fits))
        (omega (arith, counted.counted, counted.within.few_entries)))
