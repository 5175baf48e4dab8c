-- Which ops of the playlists leave a state as it is.
use Rattle.std.proofs.Common.{◌≡◌, ℕ, ◌+◌, ◌≤◌, Bool, true, false, cond, not, ◌==◌, ◌&&◌, List, [], ◌∷◌, ◌++◌, length}
use Rattle.std.proofs.Common.{Option, Some, None, is_some, append-nil, refl, sym, ap, ◌∙◌, arith}
use Rattle.std.specs.declared.cmp.Ordering.{Ordering}
use Rattle.std.specs.declared.cmp.Ordering.TheVariants.{Less, Equal, Greater}
use Rattle.std.specs.Ordering.{nat_cmp, match_ordering, is_eq}
use Rattle.std.specs.Cmp.Lexicographic.{slice_cmp}
use Rattle.std.specs.Map.{lookup}
use Rattle.std.specs.Str.{bytes_eq}
use Rattle.std.proofs.lemmas.Bool.{eqb-true, eq-eqb}
use Rattle.std.proofs.lemmas.List.{length-append, take-append-drop}
use Rattle.std.proofs.lemmas.Map.Text.{is_eq-slice_cmp}
use Rattle.std.proofs.lemmas.Slice.Eq.{bytes_eq-Decides}
use Rattle.stored_lists.specs.Lists.{Stored, songs_of, songs_or_none, with_list, without_list, with_songs, added_to}
use Rattle.stored_lists.specs.Songs.{Uris, without_range, moved}
use Rattle.stored_lists.specs.declared.refusal.ListsError.TheVariants.{NoSuchList, ListExists}
use Rattle.stored_lists.proofs.Absent.{with_songs_same}
use Rattle.stored_lists.proofs.Counted.{length-without_range}
use Rattle.state_codec.specs.OpsLists.{list_refusal, lists_after, leaves_lists, same_uris, uris_of}
use Rattle.state_codec.specs.OpsSongs.{have_rows, uris_at}
use Rattle.state_codec.specs.SavedState.{SavedState}
use Rattle.state_codec.specs.declared.op.list_op.ListOp.{ListOp}
use Rattle.state_codec.specs.declared.op.list_op.ListOp.TheVariants.{Save, Add, Remove, Move, Clear, Rename, Drop}
use Rattle.state_codec.proofs.Edits.{length-uris_at}
use Rattle.state_codec.proofs.KeptOps.{map_none, named_none, cond_none, or_false, and_true, not_less, not_none, is_none, found_songs}
use Rattle.state_codec.proofs.KeptOps.{there_from}

same_bytes : (a b : List ℕ) → bytes_eq a b ≡ true → a ≡ b
same_bytes a b same = (bytes_eq-Decides a b).0 same

itself : (a : List ℕ) → bytes_eq a a ≡ true
itself a = (bytes_eq-Decides a a).1 refl

-- the same URIs
pub uris_same : (a b : Uris) → same_uris a b ≡ true → a ≡ b
uris_same [] [] same = refl
uris_same [] (other ∷ others) same = absurd (cc)
uris_same (uri ∷ uris) [] same = absurd (cc)
uris_same (uri ∷ uris) (other ∷ others) same =
    let parts = and_true (bytes_eq uri other) (same_uris uris others) same in
    ap (λ u. u ∷ uris) (same_bytes uri other parts.0) ∙ ap (λ l. other ∷ l) (uris_same uris others parts.1)

pub uris_itself : (a : Uris) → same_uris a a ≡ true
uris_itself [] = refl
uris_itself (uri ∷ uris) = rw (itself uri) (uris_itself uris)

-- what stands under a name afterwards
found_with_songs : (lists : Stored) (name : List ℕ) (old new : Uris) → songs_of lists name ≡ Some old
    → songs_of (with_songs lists name new) name ≡ Some new
found_with_songs [] name old new found = absurd (cc)
found_with_songs (list ∷ lists) name old new found = of (bytes_eq name list.0) refl found (found_with_songs lists name old new)
  where
    of : (b : Bool) → bytes_eq name list.0 ≡ b → cond b (Some list.1) (lookup (bytes_eq name) lists) ≡ Some old
        → (songs_of lists name ≡ Some old → songs_of (with_songs lists name new) name ≡ Some new)
        → lookup (bytes_eq name) (cond b ((list.0, new) ∷ lists) (list ∷ with_songs lists name new)) ≡ Some new
    of true is found rest = rw is refl
    of false is found rest = rw is (rest found)

found_with_list : (lists : Stored) (name : List ℕ) (songs : Uris) → songs_of (with_list lists name songs) name ≡ Some songs
found_with_list [] name songs = rw (itself name) refl
found_with_list (list ∷ lists) name songs = of (slice_cmp nat_cmp name list.0) refl (found_with_list lists name songs)
  where
    of : (o : Ordering) → slice_cmp nat_cmp name list.0 ≡ o → songs_of (with_list lists name songs) name ≡ Some songs
        → songs_of (match_ordering o ((name, songs) ∷ list ∷ lists) ((list.0, songs) ∷ lists) (list ∷ with_list lists name songs)) name
        ≡ Some songs
    of Less is rest = rw (itself name) refl
    of Equal is rest =
        let same : bytes_eq name list.0 ≡ true = sym (is_eq-slice_cmp name list.0) ∙ ap is_eq is in
        rw same refl
    of Greater is rest =
        let apart : bytes_eq name list.0 ≡ false = sym (is_eq-slice_cmp name list.0) ∙ ap is_eq is in
        rw apart rest

-- without a playlist that is there
pub length-without_list : (lists : Stored) (name : List ℕ) (songs : Uris) → songs_of lists name ≡ Some songs
    → length (without_list lists name) + 1 ≡ length lists
length-without_list [] name songs found = absurd (cc)
length-without_list (list ∷ lists) name songs found = of (bytes_eq name list.0) found (length-without_list lists name songs)
  where
    of : (b : Bool) → cond b (Some list.1) (lookup (bytes_eq name) lists) ≡ Some songs
        → (songs_of lists name ≡ Some songs → length (without_list lists name) + 1 ≡ length lists)
        → length (cond b lists (list ∷ without_list lists name)) + 1 ≡ length (list ∷ lists)
    of true found rest = omega arith
    of false found rest = let shorter : length (without_list lists name) + 1 ≡ length lists = rest found in omega arith

-- other songs under a name that is there
pub songs_stay : (lists : Stored) (name : List ℕ) (old new : Uris) → songs_of lists name ≡ Some old → with_songs lists name new ≡ lists
    → new ≡ old
songs_stay lists name old new found same =
    let is : Some new ≡ Some old = sym (found_with_songs lists name old new found) ∙ ap (λ l. songs_of l name) same ∙ found in
    cc

-- a new name
new_list : (lists others : Stored) (name : List ℕ) (songs : Uris) → songs_of lists name ≡ None → with_list others name songs ≡ lists → ⊥
new_list lists others name songs free same =
    let is : Some songs ≡ None = sym (found_with_list others name songs) ∙ ap (λ l. songs_of l name) same ∙ free in
    absurd (cc)

no_length : (uris : Uris) → (length uris == 0) ≡ true → uris ≡ []
no_length [] none = refl
no_length (uri ∷ uris) none = let long : length (uri ∷ uris) ≡ 0 = eqb-true (length (uri ∷ uris)) 0 none in absurd (omega arith)

no_rows : (rows : List ℕ) → (length rows == 0) ≡ true → rows ≡ []
no_rows [] none = refl
no_rows (n ∷ rows) none = let long : length (n ∷ rows) ≡ 0 = eqb-true (length (n ∷ rows)) 0 none in absurd (omega arith)

extended_stays : (lists : Stored) (name : List ℕ) → is_some (songs_of lists name) ≡ true
    → added_to (songs_of lists name) lists name [] ≡ lists
extended_stays lists name there = of (songs_of lists name) refl there
  where
    of : (o : Option Uris) → songs_of lists name ≡ o → is_some o ≡ true → added_to o lists name [] ≡ lists
    of None found there = absurd (cc)
    of (Some old) found there = with_songs_same lists name (old ++ []) (found ∙ ap Some (sym (append-nil old)))

-- a playlist that is there, and a range or two places of it that aren't refused
pub range_there : (s : SavedState) (name : List ℕ) (start end : ℕ) → list_refusal (Remove name start end) s ≡ None
    → record {
      found : songs_of s.lists name ≡ Some (songs_or_none s.lists name);
      forward : start ≤ end;
      within : end ≤ length (songs_or_none s.lists name);
    }
range_there s name start end none =
    let named = cond_none _ _ _ (map_none _ _ none) in
    let there = cond_none _ _ _ named.1 in
    let range = or_false _ _ (cond_none _ _ _ there.1).0 in
    record {
      found = found_songs s.lists name (not_none _ there.0);
      forward = not_less end start range.0;
      within = not_less (length (songs_or_none s.lists name)) end range.1;
    }

pub move_there : (s : SavedState) (name : List ℕ) (from to : ℕ) → list_refusal (Move name from to) s ≡ None
    → songs_of s.lists name ≡ Some (songs_or_none s.lists name)
move_there s name from to none =
    let named = cond_none _ _ _ (map_none _ _ none) in
    found_songs s.lists name (not_none _ (cond_none _ _ _ named.1).0)

pub lists_stay : (op : ListOp) (s : SavedState) → list_refusal op s ≡ None → leaves_lists op s ≡ true → lists_after op s ≡ s.lists
lists_stay (Save name) s none same = absurd (cc)
lists_stay (Add name rows) s none same =
    let parts = and_true (is_some (songs_of s.lists name)) (length rows == 0) same in
    ap (λ (r : List ℕ). added_to (songs_of s.lists name) s.lists name (uris_at s.songs r)) (no_rows rows parts.1)
    ∙ extended_stays s.lists name parts.0
lists_stay (Remove name start end) s none same =
    let there = range_there s name start end none in
    let songs : Uris = songs_or_none s.lists name in
    let whole : without_range songs start end ≡ songs = rw (eqb-true start end same) (take-append-drop end songs) in
    with_songs_same s.lists name (without_range songs start end) (there.found ∙ ap Some (sym whole))
lists_stay (Move name from to) s none same =
    let songs : Uris = songs_or_none s.lists name in
    let is : moved songs from to ≡ songs = uris_same (moved songs from to) songs same in
    with_songs_same s.lists name (moved songs from to) (move_there s name from to none ∙ ap Some (sym is))
lists_stay (Clear name) s none same =
    let found = there_from s.lists name (map_none _ _ none) in
    with_songs_same s.lists name [] (found ∙ ap Some (no_length (songs_or_none s.lists name) same))
lists_stay (Rename from to) s none same = absurd (cc)
lists_stay (Drop name) s none same = absurd (cc)

extended_only : (lists : Stored) (name : List ℕ) (songs : Uris) → added_to (songs_of lists name) lists name songs ≡ lists
    → (is_some (songs_of lists name) && length songs == 0) ≡ true
extended_only lists name songs same = of (songs_of lists name) refl same
  where
    of : (o : Option Uris) → songs_of lists name ≡ o → added_to o lists name songs ≡ lists → (is_some o && length songs == 0) ≡ true
    of None free same = absurd (new_list lists lists name songs free same)
    of (Some old) found same =
        let longer : length (old ++ songs) ≡ length old = ap length (songs_stay lists name old (old ++ songs) found same) in
        eq-eqb (length songs) 0 (omega (arith, length-append old songs))

pub lists_only : (op : ListOp) (s : SavedState) → list_refusal op s ≡ None → lists_after op s ≡ s.lists → leaves_lists op s ≡ true
lists_only (Save name) s none same =
    let named = cond_none _ _ _ (map_none _ _ none) in
    absurd (new_list s.lists s.lists name (uris_of s.queue.entries) (is_none _ (cond_none _ _ _ named.1).0) same)
lists_only (Add name rows) s none same =
    let named : have_rows s.songs rows ≡ true = (named_none (have_rows s.songs rows) _ none).0 in
    ap (λ (n : ℕ). is_some (songs_of s.lists name) && n == 0) (sym (length-uris_at s.songs rows named))
    ∙ extended_only s.lists name (uris_at s.songs rows) same
lists_only (Remove name start end) s none same =
    let there = range_there s name start end none in
    let songs : Uris = songs_or_none s.lists name in
    let whole : length (without_range songs start end) ≡ length songs =
    ap length (songs_stay s.lists name songs (without_range songs start end) there.found same) in
    eq-eqb start end (omega (arith, length-without_range songs start end there.forward there.within, there.forward))
lists_only (Move name from to) s none same =
    let songs : Uris = songs_or_none s.lists name in
    let is : moved songs from to ≡ songs = songs_stay s.lists name songs (moved songs from to) (move_there s name from to none) same in
    ap (λ (l : Uris). same_uris l songs) is ∙ uris_itself songs
lists_only (Clear name) s none same =
    let found = there_from s.lists name (map_none _ _ none) in
    let is : [] ≡ songs_or_none s.lists name = songs_stay s.lists name (songs_or_none s.lists name) [] found same in
    ap (λ (l : Uris). length l == 0) (sym is)
lists_only (Rename from to) s none same =
    let named = cond_none _ _ _ (map_none _ _ none) in
    let there = cond_none (not (is_some (songs_of s.lists from))) NoSuchList _ named.1 in
    let free = is_none (songs_of s.lists to) (cond_none (is_some (songs_of s.lists to)) ListExists None there.1).0 in
    absurd (new_list s.lists (without_list s.lists from) to (songs_or_none s.lists from) free same)
lists_only (Drop name) s none same =
    let found = there_from s.lists name (map_none _ _ none) in
    let shorter = length-without_list s.lists name (songs_or_none s.lists name) found in
    let long : length (without_list s.lists name) ≡ length s.lists = ap length same in
    absurd (omega arith)
