-- A playlist that is stored under its new name and then taken from its old one.
use Rattle.std.proofs.Common.{◌≡◌, ℕ, Bool, true, false, cond, List, [], ◌∷◌, Some, None, IsSome, is_some, refl, sym, ap, ◌∙◌}
use Rattle.std.specs.declared.cmp.Ordering.{Ordering}
use Rattle.std.specs.declared.cmp.Ordering.TheVariants.{Less, Equal, Greater}
use Rattle.std.specs.Ordering.{nat_cmp, match_ordering, is_eq}
use Rattle.std.specs.Cmp.Lexicographic.{slice_cmp, nat_list_cmp_total}
use Rattle.std.specs.List.{AllByRecursion}
use Rattle.std.specs.Str.{bytes_eq}
use Rattle.std.specs.Map.{keys_of}
use Rattle.std.proofs.lemmas.Map.Text.{is_eq-slice_cmp}
use Rattle.std.proofs.lemmas.Map.Keys.{sorted_head, sorted_tail}
use Rattle.std.proofs.lemmas.Slice.Eq.{bytes_eq-Decides}
use Rattle.stored_lists.specs.Songs.{Uris}
use Rattle.stored_lists.specs.Lists.{Stored, IsRising, songs_of, renamed, with_list, without_list, with_songs}
use Rattle.stored_lists.proofs.Absent.{songs_or_none_present}

same_bytes : (name : List ℕ) → bytes_eq name name ≡ true
same_bytes name = (bytes_eq-Decides name name).1 refl

-- the name is below all of them
abbrev pub IsBefore : List ℕ → Stored → Type 0
IsBefore name lists = AllByRecursion (λ other. slice_cmp nat_cmp name other ≡ Less) (keys_of lists)

pub before_front : (lists : Stored) (name : List ℕ) (songs : Uris) → IsBefore name lists → with_list lists name songs ≡ (name, songs) ∷ lists
before_front [] name songs before = refl
before_front (list ∷ lists) name songs before = rw before.0 refl

before_without : (lists : Stored) (name other : List ℕ) → IsBefore name lists → IsBefore name (without_list lists other)
before_without [] name other before = tt
before_without (list ∷ lists) name other before = by_cases (bytes_eq other list.0) (before_without lists name other before.1)
  where
    by_cases : (b : Bool) → IsBefore name (without_list lists other) → IsBefore name (cond b lists (list ∷ without_list lists other))
    by_cases true rest = before.1
    by_cases false rest = (before.0, rest)

-- a name that is below another is below all that this is below
pub before_trans : (lists : Stored) (name other : List ℕ) → slice_cmp nat_cmp name other ≡ Less → IsBefore other lists → IsBefore name lists
before_trans [] name other less before = tt
before_trans (list ∷ lists) name other less before =
    (nat_list_cmp_total.trans name other list.0 less before.0, before_trans lists name other less before.1)

-- songs put under a new name, and then others
songs_of_new : (lists : Stored) (name : List ℕ) (first songs : Uris) → songs_of lists name ≡ None
    → with_songs (with_list lists name first) name songs ≡ with_list lists name songs
songs_of_new [] name first songs free = rw (same_bytes name) refl
songs_of_new (list ∷ lists) name first songs free =
    by_cases (slice_cmp nat_cmp name list.0) refl (rw (← is_eq-slice_cmp name list.0) at free) (songs_of_new lists name first songs)
  where
    by_cases : (o : Ordering) → slice_cmp nat_cmp name list.0 ≡ o → cond (is_eq o) (Some list.1) (songs_of lists name) ≡ None
        → (songs_of lists name ≡ None → with_songs (with_list lists name first) name songs ≡ with_list lists name songs)
        → with_songs (match_ordering o ((name, first) ∷ list ∷ lists) ((list.0, first) ∷ lists) (list ∷ with_list lists name first)) name
        songs ≡ match_ordering o ((name, songs) ∷ list ∷ lists) ((list.0, songs) ∷ lists) (list ∷ with_list lists name songs)
    by_cases Less is free rest = rw (same_bytes name) refl
    by_cases Equal is free rest = absurd (cc)
    by_cases Greater is free rest = rw (← is_eq-slice_cmp name list.0, is) (ap (λ l. list ∷ l) (rest free))

-- the new name first, then the old one away, and then the songs
pub renamed_by_steps : (lists : Stored) (from to : List ℕ) (songs : Uris) → IsRising lists → songs_of lists to ≡ None
    → bytes_eq from to ≡ false → with_songs (without_list (with_list lists to []) from) to songs
    ≡ with_list (without_list lists from) to songs
renamed_by_steps [] from to songs rising free apart = rw apart (rw (same_bytes to) refl)
renamed_by_steps (list ∷ lists) from to songs rising free apart =
    by_cases (slice_cmp nat_cmp to list.0) refl (rw (← is_eq-slice_cmp to list.0) at free)
    (renamed_by_steps lists from to songs (sorted_tail (slice_cmp nat_cmp) list.0 (keys_of lists) rising))
  where
    by_cases : (o : Ordering) → slice_cmp nat_cmp to list.0 ≡ o → cond (is_eq o) (Some list.1) (songs_of lists to) ≡ None
        → (songs_of lists to ≡ None → bytes_eq from to ≡ false
        → with_songs (without_list (with_list lists to []) from) to songs ≡ with_list (without_list lists from) to songs)
        → with_songs (without_list (match_ordering o ((to, []) ∷ list ∷ lists) ((list.0, []) ∷ lists) (list ∷ with_list lists to [])) from)
        to songs ≡ with_list (without_list (list ∷ lists) from) to songs
    by_cases Less is free rest =
        let before : IsBefore to (list ∷ lists) =
        (is, before_trans lists to list.0 is (sorted_head (slice_cmp nat_cmp) list.0 (keys_of lists) rising)) in
        rw (apart, before_front (without_list (list ∷ lists) from) to songs (before_without (list ∷ lists) to from before))
        (rw (same_bytes to) refl)
    by_cases Equal is free rest = absurd (cc)
    by_cases Greater is free rest = by_name (bytes_eq from list.0)
      where
        by_name : (b : Bool) → with_songs (cond b (with_list lists to []) (list ∷ without_list (with_list lists to []) from)) to songs
            ≡ with_list (cond b lists (list ∷ without_list lists from)) to songs
        by_name true = songs_of_new lists to [] songs free
        by_name false = rw (← is_eq-slice_cmp to list.0, is) (ap (λ l. list ∷ l) (rest free apart))

-- another name finds the same
lookup-with_list_other : (lists : Stored) (from to : List ℕ) (songs : Uris) → bytes_eq from to ≡ false → songs_of lists to ≡ None
    → songs_of (with_list lists to songs) from ≡ songs_of lists from
lookup-with_list_other [] from to songs apart free = rw apart refl
lookup-with_list_other (list ∷ lists) from to songs apart free =
    by_cases (slice_cmp nat_cmp to list.0) (rw (← is_eq-slice_cmp to list.0) at free) (lookup-with_list_other lists from to songs apart)
  where
    by_cases : (o : Ordering) → cond (is_eq o) (Some list.1) (songs_of lists to) ≡ None
        → (songs_of lists to ≡ None → songs_of (with_list lists to songs) from ≡ songs_of lists from)
        → songs_of (match_ordering o ((to, songs) ∷ list ∷ lists) ((list.0, songs) ∷ lists) (list ∷ with_list lists to songs)) from
        ≡ songs_of (list ∷ lists) from
    by_cases Less free rest = rw apart refl
    by_cases Equal free rest = absurd (cc)
    by_cases Greater free rest = ap (λ o. cond (bytes_eq from list.0) (Some list.1) o) (rest free)

-- a name that is taken is not one that is free
apart_names : (lists : Stored) (from to : List ℕ) → IsSome (songs_of lists from) → songs_of lists to ≡ None → bytes_eq from to ≡ false
apart_names lists from to found free = by_cases (bytes_eq from to) refl
  where
    by_cases : (b : Bool) → bytes_eq from to ≡ b → b ≡ false
    by_cases true same =
        let equal : from ≡ to = (bytes_eq-Decides from to).0 same in
        let none : is_some (songs_of lists from) ≡ false = rw (equal, free) refl in
        absurd (cc)
    by_cases false same = refl

-- what the steps of a renaming find and leave
pub renamed_found : (lists : Stored) (from to : List ℕ) → IsSome (songs_of lists from) → songs_of lists to ≡ None
    → songs_of (with_list lists to []) from ≡ songs_of lists from
renamed_found lists from to found free = lookup-with_list_other lists from to [] (apart_names lists from to found free) free

pub renamed_is : (lists : Stored) (from to : List ℕ) (songs : Uris) → IsRising lists → IsSome (songs_of lists from)
    → songs_of lists to ≡ None → Some songs ≡ songs_of (with_list lists to []) from
    → with_songs (without_list (with_list lists to []) from) to songs ≡ renamed lists from to
renamed_is lists from to songs rising found free taken =
    let present : songs_of lists from ≡ Some songs = sym (taken ∙ renamed_found lists from to found free) in
    rw (songs_or_none_present lists from songs present)
    (renamed_by_steps lists from to songs rising free (apart_names lists from to found free))
