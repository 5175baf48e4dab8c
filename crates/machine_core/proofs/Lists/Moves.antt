-- Songs of a playlist that move one after the other: none of their ops is refused, and what they make of the playlist.
use Rattle.std.proofs.Common.{◌≡◌, ℕ, zero, suc, ◌+◌, ◌<◌, ◌≤◌, Bool, true, false, cond, List, [], ◌∷◌, length, nat_le, Option, Some, None}
use Rattle.std.proofs.Common.{refl, sym, ap, ◌∙◌, arith}
use Rattle.std.proofs.lemmas.Bool.Decides.{nat_tests}
use Rattle.std.specs.Option.{option_or}
use Rattle.std.specs.Str.{bytes_eq}
use Rattle.state_codec.specs.Applied.{after, after_all, refusal_of}
use Rattle.state_codec.specs.SavedState.{SavedState}
use Rattle.state_codec.specs.declared.op.Op.TheVariants.{List as Lists}
use Rattle.state_codec.specs.declared.op.list_op.ListOp.{ListOp}
use Rattle.state_codec.specs.declared.op.list_op.ListOp.TheVariants.{Move}
use Rattle.stored_lists.proofs.Absent.{songs_or_none_present, with_songs_same}
use Rattle.stored_lists.proofs.Counted.{length-moved}
use Rattle.stored_lists.specs.Lists.{Stored, songs_of, with_songs}
use Rattle.stored_lists.specs.Name.{is_good_name}
use Rattle.stored_lists.specs.Songs.{Uris, moved}
use Rattle.machine_core.specs.ListMoves.{of_lists, song_moves}
use Rattle.machine_core.specs.Meaning.{refusal_of_all}

-- other songs under a name that is there
pub found_with : (lists : Stored) (name : List ℕ) (old new : Uris) → songs_of lists name ≡ Some old
    → songs_of (with_songs lists name new) name ≡ Some new
found_with [] name old new found = absurd (cc)
found_with (list ∷ lists) name old new found = of (bytes_eq name list.0) refl found (found_with lists name old new)
  where
    of : (b : Bool) → bytes_eq name list.0 ≡ b → cond b (Some list.1) (songs_of lists name) ≡ Some old
        → (songs_of lists name ≡ Some old → songs_of (with_songs lists name new) name ≡ Some new)
        → songs_of (cond b ((list.0, new) ∷ lists) (list ∷ with_songs lists name new)) name ≡ Some new
    of true is found rest = rw is refl
    of false is found rest = rw is (rest found)

-- and others in place of those
pub with_again : (lists : Stored) (name : List ℕ) (one other : Uris) → with_songs (with_songs lists name one) name other
    ≡ with_songs lists name other
with_again [] name one other = refl
with_again (list ∷ lists) name one other = of (bytes_eq name list.0) refl (with_again lists name one other)
  where
    of : (b : Bool) → bytes_eq name list.0 ≡ b → with_songs (with_songs lists name one) name other ≡ with_songs lists name other
        → with_songs (cond b ((list.0, one) ∷ lists) (list ∷ with_songs lists name one)) name other
        ≡ cond b ((list.0, other) ∷ lists) (list ∷ with_songs lists name other)
    of true is rest = rw is refl
    of false is rest = rw is (ap (λ l. list ∷ l) rest)

-- the songs behind all moves
abbrev pub moved_all : Bool → Uris → ℕ → ℕ → ℕ → Uris
moved_all last_first songs from to zero = songs
moved_all true songs from to (suc n) = moved_all true (moved songs (from + n) (to + n)) from to n
moved_all false songs from to (suc n) = moved_all false (moved songs from to) (from + 1) (to + 1) n

pub length-moved_all : (last_first : Bool) (songs : Uris) (from to n : ℕ) → from + n ≤ length songs → to + n ≤ length songs
    → length (moved_all last_first songs from to n) ≡ length songs
length-moved_all last_first songs from to zero in_from in_to = refl
length-moved_all true songs from to (suc n) in_from in_to =
    let same : length (moved songs (from + n) (to + n)) ≡ length songs =
    length-moved songs (from + n) (to + n) (omega (arith, in_from)) (omega (arith, in_to)) in
    length-moved_all true (moved songs (from + n) (to + n)) from to n (omega (arith, same, in_from)) (omega (arith, same, in_to)) ∙ same
length-moved_all false songs from to (suc n) in_from in_to =
    let same : length (moved songs from to) ≡ length songs =
    length-moved songs from to (omega (arith, in_from)) (omega (arith, in_to)) in
    length-moved_all false (moved songs from to) (from + 1) (to + 1) n (omega (arith, same, in_from)) (omega (arith, same, in_to)) ∙ same

-- ops that bring a playlist to other songs
pub record Brings (ops : List ListOp) (name : List ℕ) (s : SavedState) (songs : Uris) : Type 0 where
  pub free : refusal_of_all (of_lists ops) s ≡ None
  pub lists : (after_all (of_lists ops) s).lists ≡ with_songs s.lists name songs

one_free : (name : List ℕ) (from to : ℕ) (s : SavedState) (songs : Uris) → is_good_name name ≡ true → songs_of s.lists name ≡ Some songs
    → from < length songs → to < length songs → refusal_of (Lists (Move name from to)) s ≡ None
one_free name from to s songs good found in_from in_to =
    let behind_from : nat_le (length songs) from ≡ false = grind (arith, nat_tests, in_from) in
    let behind_to : nat_le (length songs) to ≡ false = grind (arith, nat_tests, in_to) in
    rw (good, found, behind_from, behind_to) refl

-- one move, and ops behind it
one_first : (name : List ℕ) (from to : ℕ) (ops : List ListOp) (s : SavedState) (songs result : Uris) → is_good_name name ≡ true
    → songs_of s.lists name ≡ Some songs → from < length songs → to < length songs
    → ((t : SavedState) → songs_of t.lists name ≡ Some (moved songs from to) → Brings ops name t result)
    → Brings (Move name from to ∷ ops) name s result
one_first name from to ops s songs result good found in_from in_to rest =
    let t : SavedState = after (Lists (Move name from to)) s in
    let there : t.lists ≡ with_songs s.lists name (moved songs from to) =
    ap (λ old. with_songs s.lists name (moved old from to)) (songs_or_none_present s.lists name songs found) in
    let behind : Brings ops name t result =
    rest t (ap (λ l. songs_of l name) there ∙ found_with s.lists name songs (moved songs from to) found) in
    record {
      free = ap (λ o. option_or o (refusal_of_all (of_lists ops) t)) (one_free name from to s songs good found in_from in_to) ∙ behind.free;
      lists = behind.lists ∙ ap (λ l. with_songs l name result) there ∙ with_again s.lists name (moved songs from to) result;
    }

pub moves_bring : (last_first : Bool) (name : List ℕ) (from to n : ℕ) (s : SavedState) (songs : Uris) → is_good_name name ≡ true
    → songs_of s.lists name ≡ Some songs → from + n ≤ length songs → to + n ≤ length songs
    → Brings (song_moves last_first name from to n) name s (moved_all last_first songs from to n)
moves_bring last_first name from to zero s songs good found in_from in_to =
    record { free = refl; lists = sym (with_songs_same s.lists name songs found) }
moves_bring true name from to (suc n) s songs good found in_from in_to =
    let same : length (moved songs (from + n) (to + n)) ≡ length songs =
    length-moved songs (from + n) (to + n) (omega (arith, in_from)) (omega (arith, in_to)) in
    one_first name (from + n) (to + n) (song_moves true name from to n) s songs
    (moved_all true (moved songs (from + n) (to + n)) from to n) good found (omega (arith, in_from)) (omega (arith, in_to))
    (λ t there. moves_bring true name from to n t (moved songs (from + n) (to + n)) good there (omega (arith, same, in_from))
    (omega (arith, same, in_to)))
moves_bring false name from to (suc n) s songs good found in_from in_to =
    let same : length (moved songs from to) ≡ length songs =
    length-moved songs from to (omega (arith, in_from)) (omega (arith, in_to)) in
    one_first name from to (song_moves false name (from + 1) (to + 1) n) s songs
    (moved_all false (moved songs from to) (from + 1) (to + 1) n) good found (omega (arith, in_from)) (omega (arith, in_to))
    (λ t there. moves_bring false name (from + 1) (to + 1) n t (moved songs from to) good there (omega (arith, same, in_from))
    (omega (arith, same, in_to)))
