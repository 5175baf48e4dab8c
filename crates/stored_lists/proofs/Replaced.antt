-- A playlist that is taken out and stored anew stands where it stood.
use Rattle.std.proofs.Common.{◌≡◌, ℕ, not, Bool, true, false, List, [], ◌∷◌, Option, Some, None, Result, Ok, is_some, cond, refl, sym, ap, ◌∙◌}
use Rattle.std.specs.declared.cmp.Ordering.{Ordering}
use Rattle.std.specs.declared.cmp.Ordering.TheVariants.{Less, Equal, Greater}
use Rattle.std.specs.Ordering.{nat_cmp, is_eq}
use Rattle.std.specs.Cmp.Lexicographic.{slice_cmp}
use Rattle.std.specs.Str.{bytes_eq}
use Rattle.std.specs.Map.{keys_of}
use Rattle.std.proofs.lemmas.Map.Text.{is_eq-slice_cmp}
use Rattle.std.proofs.lemmas.Map.Keys.{sorted_head, sorted_tail}
use Rattle.std.proofs.lemmas.Slice.Eq.{bytes_eq-Decides}
use Rattle.stored_lists.specs.declared.refusal.ListsError.{ListsError}
use Rattle.stored_lists.specs.declared.refusal.ListsError.TheVariants.{BadName, NoSuchList, ListsFull}
use Rattle.stored_lists.specs.Name.{is_good_name}
use Rattle.stored_lists.specs.Refusal.{Answers}
use Rattle.stored_lists.specs.Songs.{Uris}
use Rattle.stored_lists.specs.Lists.{Stored, IsRising, songs_of, with_list, without_list, with_songs, is_full_for, name_refusal, replace_refusal}
use Rattle.stored_lists.proofs.Renamed.{IsBefore, before_front, before_trans}

-- a name that is below all is none of them
before_none : (lists : Stored) (name : List ℕ) → IsBefore name lists → songs_of lists name ≡ None
before_none [] name before = refl
before_none (list ∷ lists) name before = rw (← is_eq-slice_cmp name list.0, before.0) (before_none lists name before.1)

pub replaced_is : (lists : Stored) (name : List ℕ) (songs : Uris) → IsRising lists → is_some (songs_of lists name) ≡ true
    → with_songs lists name songs ≡ with_list (without_list lists name) name songs
replaced_is [] name songs rising found = absurd (cc)
replaced_is (list ∷ lists) name songs rising found =
    by_cases (slice_cmp nat_cmp name list.0) refl (rw (← is_eq-slice_cmp name list.0) at found)
    (replaced_is lists name songs (sorted_tail (slice_cmp nat_cmp) list.0 (keys_of lists) rising))
  where
    by_cases : (o : Ordering) → slice_cmp nat_cmp name list.0 ≡ o → is_some (cond (is_eq o) (Some list.1) (songs_of lists name)) ≡ true
        → (is_some (songs_of lists name) ≡ true → with_songs lists name songs ≡ with_list (without_list lists name) name songs)
        → with_songs (list ∷ lists) name songs ≡ with_list (without_list (list ∷ lists) name) name songs
    by_cases Less is found rest =
        let before : IsBefore name lists =
        before_trans lists name list.0 is (sorted_head (slice_cmp nat_cmp) list.0 (keys_of lists) rising) in
        let none : is_some (songs_of lists name) ≡ true = found in
        let absent = rw (before_none lists name before) at none in
        absurd (cc)
    by_cases Equal is found rest =
        let same : name ≡ list.0 = (bytes_eq-Decides name list.0).0 (sym (is_eq-slice_cmp name list.0) ∙ ap is_eq is) in
        let before : IsBefore name lists = rw same (sorted_head (slice_cmp nat_cmp) list.0 (keys_of lists) rising) in
        rw (← is_eq-slice_cmp name list.0, is)
        (sym (before_front lists name songs before ∙ ap (λ k. (k, songs) ∷ lists) same))
    by_cases Greater is found rest =
        let apart : bytes_eq name list.0 ≡ false = sym (is_eq-slice_cmp name list.0) ∙ ap is_eq is in
        let left : with_songs (list ∷ lists) name songs ≡ list ∷ with_songs lists name songs = rw apart refl in
        let taken : without_list (list ∷ lists) name ≡ list ∷ without_list lists name = rw apart refl in
        let right : with_list (list ∷ without_list lists name) name songs ≡ list ∷ with_list (without_list lists name) name songs =
        rw is refl in
        left ∙ ap (λ l. list ∷ l) (rest found) ∙ sym (ap (λ l. with_list l name songs) taken ∙ right)

-- a name that was taken out is free
pub without_free : (lists : Stored) (name : List ℕ) → IsRising lists → songs_of (without_list lists name) name ≡ None
without_free [] name rising = refl
without_free (list ∷ lists) name rising =
    by_cases (bytes_eq name list.0) refl (without_free lists name (sorted_tail (slice_cmp nat_cmp) list.0 (keys_of lists) rising))
  where
    by_cases : (b : Bool) → bytes_eq name list.0 ≡ b → songs_of (without_list lists name) name ≡ None
        → songs_of (cond b lists (list ∷ without_list lists name)) name ≡ None
    by_cases true is rest =
        let same : name ≡ list.0 = (bytes_eq-Decides name list.0).0 is in
        before_none lists name (rw same (sorted_head (slice_cmp nat_cmp) list.0 (keys_of lists) rising))
    by_cases false is rest = rw is rest

-- ---- refusals

pub answered_none : {T : Type 0} (o : Option ListsError) (x : T) → Answers o (Ok x) → o ≡ None
answered_none None x answer = refl
answered_none (Some e) x answer = absurd (cc)

two_tests : (a b : Bool) (x y : ListsError) (rest : Option ListsError) → cond a (Some x) (cond b (Some y) None) ≡ None
    → cond a (Some x) (cond b (Some y) rest) ≡ rest
two_tests true b x y rest none = absurd (cc)
two_tests false true x y rest none = absurd (cc)
two_tests false false x y rest none = refl

-- of a playlist that is there, the limit alone refuses it
pub replace_refused : (lists : Stored) (name : List ℕ) (n : ℕ) → name_refusal lists name ≡ None
    → replace_refusal lists name n ≡ cond (is_full_for (without_list lists name) n) (Some ListsFull) None
replace_refused lists name n none =
    two_tests (not (is_good_name name)) (not (is_some (songs_of lists name))) BadName NoSuchList
    (cond (is_full_for (without_list lists name) n) (Some ListsFull) None) none
