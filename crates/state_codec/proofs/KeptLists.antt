-- The playlists of a saved state stay so through each edit.
use Rattle.std.proofs.Common.{◌≡◌, ℕ, ◌+◌, ◌<◌, ◌≤◌, Bool, true, false, cond, List, [], ◌∷◌, length, Some, None, is_some, IsTrue, refl, sym}
use Rattle.std.proofs.Common.{ap, ◌∙◌, subst}
use Rattle.std.specs.declared.cmp.Ordering.{Ordering}
use Rattle.std.specs.declared.cmp.Ordering.TheVariants.{Less, Equal, Greater}
use Rattle.std.specs.Cmp.Lexicographic.{slice_cmp, nat_list_cmp_total}
use Rattle.std.specs.List.{AllByRecursion}
use Rattle.std.specs.List.Sorted.{IsStrictlySortedBy}
use Rattle.std.specs.Ordering.{nat_cmp, match_ordering, ordering_reverse}
use Rattle.std.specs.Str.{bytes_eq, is_utf8}
use Rattle.std.proofs.lemmas.Map.{keys-set_value}
use Rattle.std.proofs.lemmas.Map.Keys.{sorted_head, sorted_tail}
use Rattle.stored_lists.specs.Limits.{MAX_LISTS, MAX_ENTRIES}
use Rattle.stored_lists.specs.Lists.{Stored, names_of, songs_of, total, IsRising, IsCounted, with_list, without_list, with_songs}
use Rattle.stored_lists.specs.Lists.{songs_or_none, renamed}
use Rattle.stored_lists.specs.Name.{is_good_name}
use Rattle.stored_lists.specs.Songs.{Uris, AreUris}
use Rattle.stored_lists.proofs.Counted.{counted_with_list, counted_with_songs, counted_without, counted_renamed}
use Rattle.state_codec.specs.SavedState.{IsSavedList, AreSavedLists}

abbrev AreBelow : List ℕ → List (List ℕ) → Type 0
AreBelow low names = AllByRecursion (λ name. slice_cmp nat_cmp low name ≡ Less) names

below_all : (low key : List ℕ) (names : List (List ℕ)) → slice_cmp nat_cmp low key ≡ Less → AreBelow key names → AreBelow low names
below_all low key [] less behind = tt
below_all low key (name ∷ names) less behind = (nat_list_cmp_total.trans low key name less behind.0, below_all low key names less behind.1)

below_with : (low name : List ℕ) (lists : Stored) (songs : Uris) → slice_cmp nat_cmp low name ≡ Less → AreBelow low (names_of lists)
    → AreBelow low (names_of (with_list lists name songs))
below_with low name [] songs less behind = (less, tt)
below_with low name (list ∷ lists) songs less behind = of (slice_cmp nat_cmp name list.0) (below_with low name lists songs less behind.1)
  where
    of : (o : Ordering) → AreBelow low (names_of (with_list lists name songs))
        → AreBelow low (names_of (match_ordering o ((name, songs) ∷ list ∷ lists) ((list.0, songs) ∷ lists)
        (list ∷ with_list lists name songs)))
    of Less rest = (less, behind)
    of Equal rest = behind
    of Greater rest = (behind.0, rest)

below_without : (low name : List ℕ) (lists : Stored) → AreBelow low (names_of lists) → AreBelow low (names_of (without_list lists name))
below_without low name [] behind = tt
below_without low name (list ∷ lists) behind = of (bytes_eq name list.0) (below_without low name lists behind.1)
  where
    of : (b : Bool) → AreBelow low (names_of (without_list lists name))
        → AreBelow low (names_of (cond b lists (list ∷ without_list lists name)))
    of true rest = behind.1
    of false rest = (behind.0, rest)

rising_cons : (name : List ℕ) (names : List (List ℕ)) → AreBelow name names → IsStrictlySortedBy (slice_cmp nat_cmp) names
    → IsStrictlySortedBy (slice_cmp nat_cmp) (name ∷ names)
unfolding IsStrictlySortedBy
rising_cons name names first rest = (first, rest)

rising_none : IsStrictlySortedBy (slice_cmp nat_cmp) []
unfolding IsStrictlySortedBy
rising_none = tt

pub rising_with : (lists : Stored) (name : List ℕ) (songs : Uris) → IsRising lists → IsRising (with_list lists name songs)
rising_with [] name songs rising = rising_cons name [] tt rising_none
rising_with (list ∷ lists) name songs rising = of (slice_cmp nat_cmp name list.0) refl (rising_with lists name songs rest)
  where
    rest : IsRising lists
    rest = sorted_tail (slice_cmp nat_cmp) list.0 (names_of lists) rising

    behind : AreBelow list.0 (names_of lists)
    behind = sorted_head (slice_cmp nat_cmp) list.0 (names_of lists) rising

    of : (o : Ordering) → slice_cmp nat_cmp name list.0 ≡ o → IsRising (with_list lists name songs)
        → IsRising (match_ordering o ((name, songs) ∷ list ∷ lists) ((list.0, songs) ∷ lists) (list ∷ with_list lists name songs))
    of Less is tail = rising_cons name (list.0 ∷ names_of lists) (is, below_all name list.0 (names_of lists) is behind) rising
    of Equal is tail = rising
    of Greater is tail = rising_cons list.0 (names_of (with_list lists name songs))
        (below_with list.0 name lists songs (nat_list_cmp_total.antisymm list.0 name ∙ ap ordering_reverse is) behind) tail

pub rising_without : (lists : Stored) (name : List ℕ) → IsRising lists → IsRising (without_list lists name)
rising_without [] name rising = rising_none
rising_without (list ∷ lists) name rising = of (bytes_eq name list.0) (rising_without lists name rest)
  where
    rest : IsRising lists
    rest = sorted_tail (slice_cmp nat_cmp) list.0 (names_of lists) rising

    of : (b : Bool) → IsRising (without_list lists name) → IsRising (cond b lists (list ∷ without_list lists name))
    of true tail = rest
    of false tail = rising_cons list.0 (names_of (without_list lists name))
        (below_without list.0 name lists (sorted_head (slice_cmp nat_cmp) list.0 (names_of lists) rising)) tail

pub texts_with : (lists : Stored) (name : List ℕ) (songs : Uris) → IsTrue (is_utf8 name) → AllByRecursion IsSavedList lists
    → AllByRecursion IsSavedList (with_list lists name songs)
texts_with [] name songs text texts = (text, tt)
texts_with (list ∷ lists) name songs text texts = of (slice_cmp nat_cmp name list.0) (texts_with lists name songs text texts.1)
  where
    of : (o : Ordering) → AllByRecursion IsSavedList (with_list lists name songs)
        → AllByRecursion IsSavedList (match_ordering o ((name, songs) ∷ list ∷ lists) ((list.0, songs) ∷ lists)
        (list ∷ with_list lists name songs))
    of Less rest = (text, texts)
    of Equal rest = texts
    of Greater rest = (texts.0, rest)

pub texts_without : (lists : Stored) (name : List ℕ) → AllByRecursion IsSavedList lists
    → AllByRecursion IsSavedList (without_list lists name)
texts_without [] name texts = tt
texts_without (list ∷ lists) name texts = of (bytes_eq name list.0) (texts_without lists name texts.1)
  where
    of : (b : Bool) → AllByRecursion IsSavedList (without_list lists name)
        → AllByRecursion IsSavedList (cond b lists (list ∷ without_list lists name))
    of true rest = texts.1
    of false rest = (texts.0, rest)

texts_songs : (lists : Stored) (name : List ℕ) (songs : Uris) → AllByRecursion IsSavedList lists
    → AllByRecursion IsSavedList (with_songs lists name songs)
texts_songs [] name songs texts = tt
texts_songs (list ∷ lists) name songs texts = of (bytes_eq name list.0) (texts_songs lists name songs texts.1)
  where
    of : (b : Bool) → AllByRecursion IsSavedList (with_songs lists name songs)
        → AllByRecursion IsSavedList (cond b ((list.0, songs) ∷ lists) (list ∷ with_songs lists name songs))
    of true rest = texts
    of false rest = (texts.0, rest)

counted : (lists : Stored) → AreSavedLists lists → IsCounted lists (total lists)
counted lists saved = record { counted = refl; within = saved.within }

pub kept_with_list : (lists : Stored) (name : List ℕ) (songs : Uris) → AreSavedLists lists → IsTrue (is_good_name name)
    → IsTrue (is_utf8 name) → AreUris songs → songs_of lists name ≡ None → length lists < MAX_LISTS
    → total lists + length songs ≤ MAX_ENTRIES → AreSavedLists (with_list lists name songs)
kept_with_list lists name songs saved good text uris free few_lists few_entries = record {
  rising = rising_with lists name songs saved.rising;
  within = (counted_with_list lists (total lists) (total lists + length songs) name songs (counted lists saved) good uris free few_lists
      refl few_entries).within;
  texts = texts_with lists name songs text saved.texts;
}

pub kept_with_songs : (lists : Stored) (name : List ℕ) (old new : Uris) (m : ℕ) → AreSavedLists lists → AreUris new
    → songs_of lists name ≡ Some old → m + length old ≡ total lists + length new → m ≤ MAX_ENTRIES
    → AreSavedLists (with_songs lists name new)
kept_with_songs lists name old new m saved uris found same few = record {
  rising = subst (IsStrictlySortedBy (slice_cmp nat_cmp)) (sym (keys-set_value (bytes_eq name) lists new)) saved.rising;
  within = (counted_with_songs lists (total lists) m name old new (counted lists saved) uris found same few).within;
  texts = texts_songs lists name new saved.texts;
}

pub kept_without_list : (lists : Stored) (name : List ℕ) (old : Uris) → AreSavedLists lists → songs_of lists name ≡ Some old
    → AreSavedLists (without_list lists name)
kept_without_list lists name old saved found = record {
  rising = rising_without lists name saved.rising;
  within = (counted_without lists (total lists) name old (counted lists saved) found).counted.within;
  texts = texts_without lists name saved.texts;
}

pub kept_renamed : (lists : Stored) (from to : List ℕ) → AreSavedLists lists → is_some (songs_of lists from) ≡ true
    → songs_of lists to ≡ None → IsTrue (is_good_name to) → IsTrue (is_utf8 to) → AreSavedLists (renamed lists from to)
kept_renamed lists from to saved present free good text = record {
  rising = rising_with (without_list lists from) to (songs_or_none lists from) (rising_without lists from saved.rising);
  within = (counted_renamed lists (total lists) from to (counted lists saved) present free good).within;
  texts = texts_with (without_list lists from) to (songs_or_none lists from) text (texts_without lists from saved.texts);
}
