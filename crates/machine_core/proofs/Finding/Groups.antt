-- The songs that tell the values of a tag: gathered in runs, which are put together under their texts.
use Rattle.std.proofs.Common.{◌≡◌, ℕ, zero, suc, ◌+◌, ◌-◌, ◌<◌, ◌≤◌, ◌==◌, Bool, true, false, ◌||◌, cond, List, [], ◌∷◌, ◌++◌, length, drop}
use Rattle.std.proofs.Common.{map}
use Rattle.std.proofs.Common.{filter, get_or, slice_index_or, slice_set, add-one, Option, Some, None, slice_get, refl, sym, ap, ◌∙◌, append_assoc, length-append}
use Rattle.std.proofs.Common.{arith}
use denote.Ref.{Bor}
use Rattle.std.proofs.Math.Seq.{drop-cons}
use Rattle.std.proofs.lemmas.Bool.{eq-eqb, eqb-true, ne_eqb, false≢true, or_left, or_right}
use Rattle.std.proofs.lemmas.List.{append-nil}
use Rattle.std.proofs.lemmas.List.Sums.{sum_by-cons}
use Rattle.std.proofs.lemmas.Slice.Eq.{bytes_eq-Decides}
use Rattle.std.specs.Global.{Vec}
use Rattle.std.specs.List.{AllByRecursion, cons_option, flat_map, last_or, list_any, range_with_len}
use Rattle.std.specs.Option.{option_copied, option_map}
use Rattle.std.specs.Str.{bytes_eq}
use Rattle.command_text.specs.AnswerNames.{count_lines, value_line}
use Rattle.profile.specs.declared.profile.Profile.{Profile}
use Rattle.song_db.specs.Duration.{milliseconds, total_of}
use Rattle.song_db.specs.Row.{Row}
use Rattle.song_db.specs.Valued.{numbers_from}
use Rattle.song_files.specs.Tag.{is_tag}
use Rattle.song_files.specs.Tags.{TagText, texts_of}
use Rattle.song_files.specs.declared.tag.Tag.{Tag}
use Rattle.machine_core.specs.Finding.{group_counts, group_lines, rows_counted, rows_telling, told_texts, told_values}
use Rattle.machine_core.specs.Grouped.{AreFrom, AreRising, Group, ends_with, group_of, groups_of, has_text, is_last, rows_at, run_of}
use Rattle.machine_core.specs.Grouped.{runs_told, tells, texts_at, to_last, with_number, with_numbers, with_song, with_told}
use Rattle.machine_core.specs.declared.commands.finding.groups.Run.{Run}
use Rattle.song_db.proofs.TextSteps.{no_texts_left, texts_next}

-- ---- numbers behind others

itself : (n : ℕ) → (n == n) ≡ true
itself n = eq-eqb n n refl

last_added : {X : Type 0} (o : Option X) (xs : List X) (x : X) → last_or o (xs ++ x ∷ []) ≡ Some x
last_added o [] x = refl
last_added o (y ∷ xs) x = last_added (Some y) xs x

-- the number that was added is the last
last_number : (ms : List ℕ) (n : ℕ) → last_or None (with_number ms n) ≡ Some n
last_number ms n = by_cases (last_or None ms) refl
  where
    by_eq : (m : ℕ) → last_or None ms ≡ Some m → (b : Bool) → (m == n) ≡ b → last_or None (cond b ms (ms ++ n ∷ [])) ≡ Some n
    by_eq m is true same = is ∙ ap Some (eqb-true m n same)
    by_eq m is false other = last_added None ms n

    by_cases : (o : Option ℕ) → last_or None ms ≡ o → last_or None (cond (is_last o n) ms (ms ++ n ∷ [])) ≡ Some n
    by_cases None is = last_added None ms n
    by_cases (Some m) is = by_eq m is (m == n) refl

-- behind numbers whose last it is, it is not added
added_again : (ms : List ℕ) (n : ℕ) → last_or None ms ≡ Some n → with_number ms n ≡ ms
added_again ms n is =
    ap (λ o. cond (is_last o n) ms (ms ++ n ∷ [])) is ∙ ap (λ b. cond b ms (ms ++ n ∷ [])) (itself n)

number_again : (ms : List ℕ) (n : ℕ) → with_number (with_number ms n) n ≡ with_number ms n
number_again ms n = added_again (with_number ms n) n (last_number ms n)

pub with_numbers-append : (ms front back : List ℕ) → with_numbers ms (front ++ back) ≡ with_numbers (with_numbers ms front) back
with_numbers-append ms [] back = refl
with_numbers-append ms (n ∷ front) back = with_numbers-append (with_number ms n) front back

last_numbers : (ms ns : List ℕ) → last_or None (with_numbers ms ns) ≡ last_or (last_or None ms) ns
last_numbers ms [] = refl
last_numbers ms (n ∷ ns) = last_numbers (with_number ms n) ns ∙ ap (λ o. last_or o ns) (last_number ms n)

last_anyway : (o : Option ℕ) (ns : List ℕ) (n : ℕ) → last_or None ns ≡ Some n → last_or o ns ≡ Some n
last_anyway o [] n is = absurd (cc)
last_anyway o (m ∷ ns) n is = is

-- a number behind those that are added is one that is added
one_more : (ms ns : List ℕ) (n : ℕ) → with_numbers ms (with_number ns n) ≡ with_number (with_numbers ms ns) n
one_more ms ns n = by_cases (last_or None ns) refl
  where
    added : with_numbers ms (ns ++ n ∷ []) ≡ with_number (with_numbers ms ns) n
    added = with_numbers-append ms ns (n ∷ [])

    by_eq : (m : ℕ) → last_or None ns ≡ Some m → (b : Bool) → (m == n) ≡ b
        → with_numbers ms (cond b ns (ns ++ n ∷ [])) ≡ with_number (with_numbers ms ns) n
    by_eq m is false other = added
    by_eq m is true same =
        sym (added_again (with_numbers ms ns) n (last_numbers ms ns
        ∙ last_anyway (last_or None ms) ns n (is ∙ ap Some (eqb-true m n same))))

    by_cases : (o : Option ℕ) → last_or None ns ≡ o
        → with_numbers ms (cond (is_last o n) ns (ns ++ n ∷ [])) ≡ with_number (with_numbers ms ns) n
    by_cases None is = added
    by_cases (Some m) is = by_eq m is (m == n) refl

-- numbers that rise are all added
numbers_kept : (ms ns : List ℕ) (least : ℕ) → ((k : ℕ) → least ≤ k → is_last (last_or None ms) k ≡ false) → AreFrom least ns
    → with_numbers ms ns ≡ ms ++ ns
numbers_kept ms [] least below from = sym (append-nil ms)
numbers_kept ms (n ∷ ns) least below from =
    let added : with_number ms n ≡ ms ++ n ∷ [] = ap (λ b. cond b ms (ms ++ n ∷ [])) (below n from.0) in
    let behind : (k : ℕ) → suc n ≤ k → is_last (last_or None (ms ++ n ∷ [])) k ≡ false =
    λ k h. ap (λ o. is_last o k) (last_added None ms n) ∙ ne_eqb n k (λ e. omega (arith, e, h)) in
    ap (λ l. with_numbers l ns) added ∙ numbers_kept (ms ++ n ∷ []) ns (suc n) behind from.1 ∙ append_assoc ms (n ∷ []) ns

from_less : (low least : ℕ) (ns : List ℕ) → low ≤ least → AreFrom least ns → AreFrom low ns
from_less low least [] h from = tt
from_less low least (n ∷ ns) h from = (omega (arith, h, from.0), from.1)

pub from_filtered : (p : ℕ → Bool) (least : ℕ) (ns : List ℕ) → AreFrom least ns → AreFrom least (filter p ns)
from_filtered p least [] from = tt
from_filtered p least (n ∷ ns) from = by_cases (p n) refl (from_filtered p (suc n) ns from.1)
  where
    by_cases : (b : Bool) → p n ≡ b → AreFrom (suc n) (filter p ns) → AreFrom least (filter p (n ∷ ns))
    by_cases true is rest = rw is (from.0, rest)
    by_cases false is rest = rw is (from_less least (suc n) (filter p ns) (omega (arith, from.0)) rest)

-- ---- the numbers of a text among runs

abbrev pub nums : List ℕ → List Group → List ℕ
nums q gs = flat_map (λ g. cond (bytes_eq g.text q) g.numbers []) gs

pub nums-append : (q : List ℕ) (gs hs : List Group) → nums q (gs ++ hs) ≡ nums q gs ++ nums q hs
nums-append q [] hs = refl
nums-append q (g ∷ gs) hs =
    let own : List ℕ = cond (bytes_eq g.text q) g.numbers [] in
    ap (λ l. own ++ l) (nums-append q gs hs) ∙ sym (append_assoc own (nums q gs) (nums q hs))

nums_last : (ms q : List ℕ) (gs : List Group) (n : ℕ) → with_numbers ms (nums q (to_last gs n))
    ≡ cond (ends_with gs q) (with_number (with_numbers ms (nums q gs)) n) (with_numbers ms (nums q gs))
nums_last ms q [] n = refl
nums_last ms q (g ∷ []) n = by_cases (bytes_eq g.text q)
  where
    by_cases : (b : Bool) → with_numbers ms (cond b (with_number g.numbers n) [] ++ [])
        ≡ cond b (with_number (with_numbers ms (cond b g.numbers [] ++ [])) n) (with_numbers ms (cond b g.numbers [] ++ []))
    by_cases true =
        ap (with_numbers ms) (append-nil (with_number g.numbers n)) ∙ one_more ms g.numbers n
        ∙ ap (λ l. with_number (with_numbers ms l) n) (sym (append-nil g.numbers))
    by_cases false = refl
nums_last ms q (g ∷ h ∷ gs) n =
    let own : List ℕ = cond (bytes_eq g.text q) g.numbers [] in
    with_numbers-append ms own (nums q (to_last (h ∷ gs) n)) ∙ nums_last (with_numbers ms own) q (h ∷ gs) n
    ∙ ap (λ l. cond (ends_with (h ∷ gs) q) (with_number l n) l) (sym (with_numbers-append ms own (nums q (h ∷ gs))))

-- what ends with one text ends with no other
ends_so : (gs : List Group) (t q : List ℕ) → ends_with gs t ≡ true → ends_with gs q ≡ bytes_eq t q
ends_so gs t q ends = by_cases (last_or None gs) ends
  where
    by_cases : (o : Option Group) → has_text o t ≡ true → has_text o q ≡ bytes_eq t q
    by_cases None h = absurd (false≢true h)
    by_cases (Some g) h = ap (λ x. bytes_eq x q) ((bytes_eq-Decides g.text t).0 h)

nums_told : (ms q : List ℕ) (gs : List Group) (t : List ℕ) (n : ℕ) → with_numbers ms (nums q (with_told gs t n))
    ≡ cond (bytes_eq t q) (with_number (with_numbers ms (nums q gs)) n) (with_numbers ms (nums q gs))
nums_told ms q gs t n = by_cases (ends_with gs t) refl
  where
    so_far : List ℕ
    so_far = with_numbers ms (nums q gs)

    by_text : (b : Bool) → with_numbers so_far (cond b (n ∷ []) [] ++ []) ≡ cond b (with_number so_far n) so_far
    by_text true = refl
    by_text false = refl

    by_cases : (b : Bool) → ends_with gs t ≡ b
        → with_numbers ms (nums q (cond b (to_last gs n) (gs ++ record { text = t; numbers = n ∷ [] } ∷ [])))
        ≡ cond (bytes_eq t q) (with_number so_far n) so_far
    by_cases true ends = nums_last ms q gs n ∙ ap (λ b. cond b (with_number so_far n) so_far) (ends_so gs t q ends)
    by_cases false other =
        ap (with_numbers ms) (nums-append q gs (record { text = t; numbers = n ∷ [] } ∷ []))
        ∙ with_numbers-append ms (nums q gs) (cond (bytes_eq t q) (n ∷ []) [] ++ []) ∙ by_text (bytes_eq t q)

turn : (a b : List ℕ) → bytes_eq a b ≡ bytes_eq b a
turn a b = by_cases (bytes_eq a b) refl (bytes_eq b a) refl
  where
    by_cases : (x : Bool) → bytes_eq a b ≡ x → (y : Bool) → bytes_eq b a ≡ y → x ≡ y
    by_cases true one true other = refl
    by_cases true one false other =
        absurd (false≢true (sym other ∙ (bytes_eq-Decides b a).1 (sym ((bytes_eq-Decides a b).0 one))))
    by_cases false one true other =
        absurd (false≢true (sym one ∙ (bytes_eq-Decides a b).1 (sym ((bytes_eq-Decides b a).0 other))))
    by_cases false one false other = refl

nums_song : (ms q : List ℕ) (ts : List (List ℕ)) (n : ℕ) (gs : List Group) → with_numbers ms (nums q (with_song ts n gs))
    ≡ cond (list_any (bytes_eq q) ts) (with_number (with_numbers ms (nums q gs)) n) (with_numbers ms (nums q gs))
nums_song ms q [] n gs = refl
nums_song ms q (t ∷ ts) n gs =
    nums_song ms q ts n (with_told gs t n)
    ∙ ap (λ l. cond (list_any (bytes_eq q) ts) (with_number l n) l)
    (nums_told ms q gs t n ∙ ap (λ b. cond b (with_number so_far n) so_far) (turn t q))
    ∙ by_cases (bytes_eq q t) (list_any (bytes_eq q) ts)
  where
    so_far : List ℕ
    so_far = with_numbers ms (nums q gs)

    by_cases : (b c : Bool) → cond c (with_number (cond b (with_number so_far n) so_far) n) (cond b (with_number so_far n) so_far)
        ≡ cond (b || c) (with_number so_far n) so_far
    by_cases true true = number_again so_far n
    by_cases true false = refl
    by_cases false true = refl
    by_cases false false = refl

-- ---- which texts have runs

abbrev pub has_run : List ℕ → List Group → Bool
has_run q gs = list_any (λ g. bytes_eq g.text q) gs

or_swap : (a b c : Bool) → (a || (b || c)) ≡ (b || (a || c))
or_swap true true c = refl
or_swap true false c = refl
or_swap false b c = refl

or_none : (a : Bool) → (a || false) ≡ a
or_none true = refl
or_none false = refl

pub has_run-append : (q : List ℕ) (gs : List Group) (g : Group) → has_run q (gs ++ g ∷ []) ≡ (bytes_eq g.text q || has_run q gs)
has_run-append q [] g = refl
has_run-append q (h ∷ gs) g =
    ap (λ b. bytes_eq h.text q || b) (has_run-append q gs g) ∙ or_swap (bytes_eq h.text q) (bytes_eq g.text q) (has_run q gs)

has_last : (q : List ℕ) (gs : List Group) (n : ℕ) → has_run q (to_last gs n) ≡ has_run q gs
has_last q [] n = refl
has_last q (g ∷ []) n = refl
has_last q (g ∷ h ∷ gs) n = ap (λ b. bytes_eq g.text q || b) (has_last q (h ∷ gs) n)

last_there : (o : Option Group) (gs : List Group) (t : List ℕ) → has_text (last_or o gs) t ≡ true → (has_text o t || has_run t gs) ≡ true
last_there o [] t h = or_left (has_text o t) false h
last_there o (g ∷ gs) t h = or_right (has_text o t) (has_run t (g ∷ gs)) (last_there (Some g) gs t h)

has_told : (q : List ℕ) (gs : List Group) (t : List ℕ) (n : ℕ) → has_run q (with_told gs t n) ≡ (bytes_eq t q || has_run q gs)
has_told q gs t n = by_cases (ends_with gs t) refl
  where
    there : ends_with gs t ≡ true → (b : Bool) → bytes_eq t q ≡ b → has_run q gs ≡ (b || has_run q gs)
    there ends true same = ap (λ x. has_run x gs) (sym ((bytes_eq-Decides t q).0 same)) ∙ last_there None gs t ends
    there ends false other = refl

    by_cases : (b : Bool) → ends_with gs t ≡ b
        → has_run q (cond b (to_last gs n) (gs ++ record { text = t; numbers = n ∷ [] } ∷ [])) ≡ (bytes_eq t q || has_run q gs)
    by_cases true ends = has_last q gs n ∙ there ends (bytes_eq t q) refl
    by_cases false other = has_run-append q gs (record { text = t; numbers = n ∷ [] })

has_song : (q : List ℕ) (ts : List (List ℕ)) (n : ℕ) (gs : List Group)
    → has_run q (with_song ts n gs) ≡ (list_any (bytes_eq q) ts || has_run q gs)
has_song q [] n gs = refl
has_song q (t ∷ ts) n gs =
    has_song q ts n (with_told gs t n)
    ∙ ap (λ b. list_any (bytes_eq q) ts || b) (has_told q gs t n ∙ ap (λ b. b || has_run q gs) (turn t q))
    ∙ moved (list_any (bytes_eq q) ts) (bytes_eq q t) (has_run q gs)
  where
    moved : (a b c : Bool) → (a || (b || c)) ≡ ((b || a) || c)
    moved true true c = refl
    moved true false c = refl
    moved false true c = refl
    moved false false c = refl

-- ---- a song's texts, one after the other

-- one is added, or passed by
pub song_taken : (tags : List TagText) (at : ℕ) (t : TagText) (tag : Tag) (n : ℕ) (known more all : List Group) → slice_get tags at ≡ Some t
    → is_tag t.tag tag ≡ true → more ≡ with_told known t.text n → with_song (texts_of (drop at tags) tag) n known ≡ all
    → with_song (texts_of (drop (at + 1) tags) tag) n more ≡ all
song_taken tags at t tag n known more all here own is so_far =
    let rest : texts_of (drop at tags) tag ≡ t.text ∷ texts_of (drop (at + 1) tags) tag = texts_next tags at t tag here ∙ rw own refl in
    rw is (sym (ap (λ ts. with_song ts n known) rest) ∙ so_far)

pub song_left : (tags : List TagText) (at : ℕ) (t : TagText) (tag : Tag) (n : ℕ) (known all : List Group) → slice_get tags at ≡ Some t
    → is_tag t.tag tag ≡ false → with_song (texts_of (drop at tags) tag) n known ≡ all
    → with_song (texts_of (drop (at + 1) tags) tag) n known ≡ all
song_left tags at t tag n known all here other so_far =
    let rest : texts_of (drop at tags) tag ≡ texts_of (drop (at + 1) tags) tag = texts_next tags at t tag here ∙ rw other refl in
    sym (ap (λ ts. with_song ts n known) rest) ∙ so_far

pub song_done : (tags : List TagText) (at : ℕ) (tag : Tag) (n : ℕ) (known all : List Group) → length tags ≤ at
    → with_song (texts_of (drop at tags) tag) n known ≡ all → known ≡ all
song_done tags at tag n known all past so_far =
    let none : with_song (texts_of (drop at tags) tag) n known ≡ known =
    ap (λ (ts : List (List ℕ)). with_song ts n known) (no_texts_left tags at tag past) in
    sym none ∙ so_far

module _ (profile : Profile) (tag : Tag) (rows : List Row) where
  nums_runs : (ms q : List ℕ) (gs : List Group) (ns : List ℕ) → with_numbers ms (nums q (runs_told profile tag rows gs ns))
      ≡ with_numbers (with_numbers ms (nums q gs)) (filter (tells profile tag rows q) ns)
  nums_runs ms q gs [] = refl
  nums_runs ms q gs (n ∷ ns) =
      nums_runs ms q (with_song own n gs) ns ∙ ap (λ l. with_numbers l (filter p ns)) (nums_song ms q own n gs) ∙ by_cases (p n)
    where
      own : List (List ℕ)
      own = texts_at profile tag (slice_get rows n)

      p : ℕ → Bool
      p = tells profile tag rows q

      so_far : List ℕ
      so_far = with_numbers ms (nums q gs)

      by_cases : (b : Bool) → with_numbers (cond b (with_number so_far n) so_far) (filter p ns)
          ≡ with_numbers so_far (cond b (n ∷ filter p ns) (filter p ns))
      by_cases true = refl
      by_cases false = refl

  -- the numbers of a text are those of the songs that tell it
  pub nums_told_by : (q : List ℕ) (ns : List ℕ) → AreRising ns
      → with_numbers [] (nums q (runs_told profile tag rows [] ns)) ≡ filter (tells profile tag rows q) ns
  nums_told_by q ns rising =
      nums_runs [] q [] ns
      ∙ numbers_kept [] (filter (tells profile tag rows q) ns) 0 (λ k h. refl) (from_filtered (tells profile tag rows q) 0 ns rising)

  has_runs : (q : List ℕ) (gs : List Group) (ns : List ℕ)
      → has_run q (runs_told profile tag rows gs ns) ≡ (list_any (tells profile tag rows q) ns || has_run q gs)
  has_runs q gs [] = refl
  has_runs q gs (n ∷ ns) =
      has_runs q (with_song own n gs) ns ∙ ap (λ b. list_any p ns || b) (has_song q own n gs) ∙ moved (list_any p ns) (p n) (has_run q gs)
    where
      own : List (List ℕ)
      own = texts_at profile tag (slice_get rows n)

      p : ℕ → Bool
      p = tells profile tag rows q

      moved : (a b c : Bool) → (a || (b || c)) ≡ ((b || a) || c)
      moved true true c = refl
      moved true false c = refl
      moved false true c = refl
      moved false false c = refl

  -- there are runs of the texts that songs tell
  pub has_told_by : (q : List ℕ) (ns : List ℕ) → has_run q (runs_told profile tag rows [] ns) ≡ list_any (tells profile tag rows q) ns
  has_told_by q ns = has_runs q [] ns ∙ or_none (list_any (tells profile tag rows q) ns)

  -- ---- the songs that tell a value

  -- their rows are those of the rows that tell it
  pub rows_of_value : (q : List ℕ) (ns : List ℕ)
      → rows_at rows (filter (tells profile tag rows q) ns) ≡ rows_telling profile tag q (rows_at rows ns)
  rows_of_value q [] = refl
  rows_of_value q (n ∷ ns) = by_row (slice_get rows n) refl (rows_of_value q ns)
    where
      p : ℕ → Bool
      p = tells profile tag rows q

      by_cases : (row : Row) → slice_get rows n ≡ Some row → (b : Bool) → list_any (bytes_eq q) (told_texts profile tag row) ≡ b
          → rows_at rows (filter p ns) ≡ rows_telling profile tag q (rows_at rows ns)
          → rows_at rows (filter p (n ∷ ns)) ≡ rows_telling profile tag q (rows_at rows (n ∷ ns))
      by_cases row is true told rest = rw (is, told, is) (ap (λ l. row ∷ l) rest)
      by_cases row is false told rest = rw (is, told) rest

      by_row : (o : Option Row) → slice_get rows n ≡ o
          → rows_at rows (filter p ns) ≡ rows_telling profile tag q (rows_at rows ns)
          → rows_at rows (filter p (n ∷ ns)) ≡ rows_telling profile tag q (rows_at rows (n ∷ ns))
      by_row None is rest = rw is rest
      by_row (Some row) is rest = by_cases row is (list_any (bytes_eq q) (told_texts profile tag row)) refl rest

  -- and there are as many
  pub as_many : (q : List ℕ) (ns : List ℕ)
      → length (rows_at rows (filter (tells profile tag rows q) ns)) ≡ length (filter (tells profile tag rows q) ns)
  as_many q [] = refl
  as_many q (n ∷ ns) = by_row (slice_get rows n) refl (as_many q ns)
    where
      p : ℕ → Bool
      p = tells profile tag rows q

      by_cases : (row : Row) → slice_get rows n ≡ Some row → (b : Bool) → list_any (bytes_eq q) (told_texts profile tag row) ≡ b
          → length (rows_at rows (filter p ns)) ≡ length (filter p ns)
          → length (rows_at rows (filter p (n ∷ ns))) ≡ length (filter p (n ∷ ns))
      by_cases row is true told rest = rw (is, told, is) (ap suc rest)
      by_cases row is false told rest = rw (is, told) rest

      by_row : (o : Option Row) → slice_get rows n ≡ o → length (rows_at rows (filter p ns)) ≡ length (filter p ns)
          → length (rows_at rows (filter p (n ∷ ns))) ≡ length (filter p (n ∷ ns))
      by_row None is rest = rw is rest
      by_row (Some row) is rest = by_cases row is (list_any (bytes_eq q) (told_texts profile tag row)) refl rest

  list_any-append : (q : List ℕ) (xs ys : List (List ℕ))
      → list_any (bytes_eq q) (xs ++ ys) ≡ (list_any (bytes_eq q) xs || list_any (bytes_eq q) ys)
  list_any-append q [] ys = refl
  list_any-append q (x ∷ xs) ys = ap (λ b. bytes_eq q x || b) (list_any-append q xs ys) ∙ grouped (bytes_eq q x) _ _
    where
      grouped : (a b c : Bool) → (a || (b || c)) ≡ ((a || b) || c)
      grouped true b c = refl
      grouped false b c = refl

  -- the texts that are told
  pub has_told_at : (q : List ℕ) (ns : List ℕ)
      → list_any (tells profile tag rows q) ns ≡ list_any (bytes_eq q) (flat_map (told_texts profile tag) (rows_at rows ns))
  has_told_at q [] = refl
  has_told_at q (n ∷ ns) = by_row (slice_get rows n) (has_told_at q ns)
    where
      by_row : (o : Option Row)
          → list_any (tells profile tag rows q) ns ≡ list_any (bytes_eq q) (flat_map (told_texts profile tag) (rows_at rows ns))
          → (list_any (bytes_eq q) (texts_at profile tag o) || list_any (tells profile tag rows q) ns)
          ≡ list_any (bytes_eq q) (flat_map (told_texts profile tag) (cons_option o (rows_at rows ns)))
      by_row None rest = rest
      by_row (Some row) rest =
          ap (λ b. list_any (bytes_eq q) (told_texts profile tag row) || b) rest
          ∙ sym (list_any-append q (told_texts profile tag row) (flat_map (told_texts profile tag) (rows_at rows ns)))

  -- ---- the lines of groups

  abbrev pub lines_in : List Tag → Group → List ℕ
  lines_in tags g = value_line tag g.text ++ group_lines profile tags (rows_at rows g.numbers)

  lines_of_values : (tags : List Tag) (ns : List ℕ) (values : List (List ℕ))
      → flat_map (λ value. value_line tag value ++ group_lines profile tags (rows_telling profile tag value (rows_at rows ns))) values
      ≡ flat_map (lines_in tags) (map (group_of profile tag rows ns) values)
  lines_of_values tags ns [] = refl
  lines_of_values tags ns (value ∷ values) =
      (λ i. (value_line tag value ++ group_lines profile tags (sym (rows_of_value value ns) i)) ++ lines_of_values tags ns values i)

  pub lines_of_groups : (tags : List Tag) (ns : List ℕ)
      → group_lines profile (tag ∷ tags) (rows_at rows ns) ≡ flat_map (lines_in tags) (groups_of profile tag rows ns)
  lines_of_groups tags ns = lines_of_values tags ns (told_values profile (rows_at rows ns) tag)

  abbrev pub counts_in : Group → List ℕ
  counts_in g = value_line tag g.text ++ count_lines (length g.numbers) (total_of (rows_at rows g.numbers))

  counts_of_values : (ns : List ℕ) (values : List (List ℕ))
      → flat_map (λ value. value_line tag value ++ rows_counted (rows_telling profile tag value (rows_at rows ns))) values
      ≡ flat_map counts_in (map (group_of profile tag rows ns) values)
  counts_of_values ns [] = refl
  counts_of_values ns (value ∷ values) =
      let own = rows_of_value value ns in
      let many = ap length (sym own) ∙ as_many value ns in
      (λ i. (value_line tag value ++ count_lines (many i) (total_of (sym own i))) ++ counts_of_values ns values i)

  pub counts_of_groups : (ns : List ℕ)
      → group_counts profile tag (rows_at rows ns) ≡ flat_map counts_in (groups_of profile tag rows ns)
  counts_of_groups ns = counts_of_values ns (told_values profile (rows_at rows ns) tag)

  -- in each of them the numbers rise
  pub rising_in_each : (ns : List ℕ) (values : List (List ℕ)) → AreRising ns
      → AllByRecursion (λ g. AreRising g.numbers) (map (group_of profile tag rows ns) values)
  rising_in_each ns [] rising = tt
  rising_in_each ns (value ∷ values) rising =
      (from_filtered (tells profile tag rows value) 0 ns rising, rising_in_each ns values rising)

-- ---- the last of a list

pub last_at : {X : Type 0} (xs : List X) → last_or None xs ≡ slice_get xs (length xs - 1)
last_at [] = refl
last_at (x ∷ []) = refl
last_at (x ∷ y ∷ xs) =
    let one_less : suc (suc (length xs)) - 1 ≡ suc (suc (length xs) - 1) = omega arith in
    last_at (y ∷ xs) ∙ sym (ap (slice_get (x ∷ y ∷ xs)) one_less)

last_mapped : {X Y : Type 0} (f : X → Y) (o : Option X) (xs : List X) → last_or (option_map f o) (map f xs) ≡ option_map f (last_or o xs)
last_mapped f o [] = refl
last_mapped f o (x ∷ xs) = last_mapped f (Some x) xs

-- whether the last run has a text
pub ends_at : (runs : List Run) (text : List ℕ) (last : Option (Bor Run)) → option_copied last ≡ slice_get runs (length runs - 1)
    → ends_with (map run_of runs) text ≡ has_text (option_map run_of (option_copied last)) text
ends_at runs text last is =
    ap (λ o. has_text o text) (last_mapped run_of None runs ∙ ap (option_map run_of) (last_at runs ∙ sym is))

-- whether the last number is a number
pub last_is : (ns : List ℕ) (n : ℕ) (last : Option (Bor ℕ)) → option_copied last ≡ slice_get ns (length ns - 1)
    → is_last (last_or None ns) n ≡ is_last (option_copied last) n
last_is ns n last is = ap (λ o. is_last o n) (last_at ns ∙ sym is)

-- the last run has one number more
pub last_set : (runs : List Run) (at : ℕ) (run : Run) (numbers : Vec ℕ) (n : ℕ) → at + 1 ≡ length runs
    → numbers.items ≡ with_number (slice_index_or runs at run).numbers.items n
    → map run_of (slice_set runs at (record { text = (slice_index_or runs at run).text; numbers = numbers }))
    ≡ to_last (map run_of runs) n
last_set [] at run numbers n is more = absurd (omega (arith, is))
last_set (r ∷ []) zero run numbers n is more = ap (λ (ns : List ℕ). record { text = r.text.now; numbers = ns } ∷ []) more
last_set (r ∷ []) (suc at) run numbers n is more = absurd (omega (arith, is))
last_set (r ∷ s ∷ runs) zero run numbers n is more = absurd (omega (arith, is))
last_set (r ∷ s ∷ runs) (suc at) run numbers n is more =
    ap (λ (gs : List Group). run_of r ∷ gs) (last_set (s ∷ runs) at run numbers n (omega (arith, is)) more)

-- ---- one song after the other

pub next_number : (ns : List ℕ) (i : ℕ) → i < length ns → drop i ns ≡ get_or ns i 0 ∷ drop (i + 1) ns
next_number ns i h = rw add-one (drop-cons ns i 0 h)

pub runs_more : (profile : Profile) (tag : Tag) (rows : List Row) (ns : List ℕ) (i : ℕ) (known more all : List Group) → i < length ns
    → more ≡ with_song (texts_at profile tag (slice_get rows (get_or ns i 0))) (get_or ns i 0) known
    → runs_told profile tag rows known (drop i ns) ≡ all → runs_told profile tag rows more (drop (i + 1) ns) ≡ all
runs_more profile tag rows ns i known more all h is so_far =
    ap (λ gs. runs_told profile tag rows gs (drop (i + 1) ns)) is
    ∙ sym (ap (runs_told profile tag rows known) (next_number ns i h)) ∙ so_far

pub numbers_more : (ns : List ℕ) (i : ℕ) (known more all : List ℕ) → i < length ns → more ≡ with_number known (get_or ns i 0)
    → with_numbers known (drop i ns) ≡ all → with_numbers more (drop (i + 1) ns) ≡ all
numbers_more ns i known more all h is so_far =
    ap (λ ms. with_numbers ms (drop (i + 1) ns)) is ∙ sym (ap (with_numbers known) (next_number ns i h)) ∙ so_far

drop_past : (ns : List ℕ) (i : ℕ) → length ns ≤ i → drop i ns ≡ []
drop_past [] zero past = refl
drop_past [] (suc i) past = refl
drop_past (n ∷ ns) zero past = absurd (omega arith)
drop_past (n ∷ ns) (suc i) past = drop_past ns i (omega arith)

pub runs_done : (profile : Profile) (tag : Tag) (rows : List Row) (ns : List ℕ) (i : ℕ) (known all : List Group) → length ns ≤ i
    → runs_told profile tag rows known (drop i ns) ≡ all → known ≡ all
runs_done profile tag rows ns i known all past so_far =
    sym (ap (runs_told profile tag rows known) (drop_past ns i past)) ∙ so_far

pub numbers_done : (ns : List ℕ) (i : ℕ) (known all : List ℕ) → length ns ≤ i → with_numbers known (drop i ns) ≡ all → known ≡ all
numbers_done ns i known all past so_far = sym (ap (with_numbers known) (drop_past ns i past)) ∙ so_far

-- ---- the numbers of the songs

-- those of all songs are all
pub all_from : (ms ns : List Row) → rows_at (ms ++ ns) (range_with_len (length ms) (length ns)) ≡ ns
all_from ms [] = refl
all_from ms (row ∷ ns) =
    rw (at_seam ms row ns) (ap (λ l. row ∷ l) (
    (λ i. rows_at (sym (append_assoc ms (row ∷ []) ns) i) (range_with_len (one_longer i) (length ns))) ∙ all_from (ms ++ row ∷ []) ns))
  where
    at_seam : (ms : List Row) (row : Row) (ns : List Row) → slice_get (ms ++ row ∷ ns) (length ms) ≡ Some row
    at_seam [] row ns = refl
    at_seam (m ∷ ms) row ns = at_seam ms row ns

    one_longer : length ms + 1 ≡ length (ms ++ row ∷ [])
    one_longer = sym (length-append ms (row ∷ []))

pub all_rows : (rows : List Row) → rows_at rows (range_with_len 0 (length rows)) ≡ rows
all_rows rows = all_from [] rows

-- and they rise
pub range_rises : (start n : ℕ) → AreFrom start (range_with_len start n)
range_rises start zero = tt
range_rises start (suc n) = (omega arith, rw add-one (range_rises (suc start) n))

pub found_rise : (passes : Row → Bool) (least : ℕ) (rows : List Row) → AreFrom least (numbers_from least passes rows)
found_rise passes least [] = tt
found_rise passes least (row ∷ rows) = by_cases (passes row) refl (found_rise passes (suc least) rows)
  where
    by_cases : (b : Bool) → passes row ≡ b → AreFrom (suc least) (numbers_from (suc least) passes rows)
        → AreFrom least (numbers_from least passes (row ∷ rows))
    by_cases true is rest = rw is (omega arith, rest)
    by_cases false is rest = rw is (from_less least (suc least) _ (omega arith) rest)

-- one more of the numbers below a count
pub range_more : (ns more : List ℕ) (i count : ℕ) → i < count → more ≡ ns ++ i ∷ []
    → more ++ range_with_len (i + 1) (count - (i + 1)) ≡ ns ++ range_with_len i (count - i)
range_more ns more i count h is =
    let left : count - i ≡ suc (count - (i + 1)) = omega (arith, h) in
    ap (λ l. l ++ range_with_len (i + 1) (count - (i + 1))) is
    ∙ append_assoc ns (i ∷ []) (range_with_len (i + 1) (count - (i + 1))) ∙ sym (ap (λ k. ns ++ range_with_len i k) left)

-- ---- how long the songs play

pub time_more : (rows : List Row) (ns : List ℕ) (i : ℕ) (row : Row) → i < length ns → slice_get rows (get_or ns i 0) ≡ Some row
    → total_of (rows_at rows (drop i ns)) ≡ milliseconds row + total_of (rows_at rows (drop (i + 1) ns))
time_more rows ns i row h is =
    ap (λ l. total_of (rows_at rows l)) (next_number ns i h)
    ∙ ap (λ o. total_of (cons_option o (rows_at rows (drop (i + 1) ns)))) is
    ∙ sum_by-cons milliseconds row (rows_at rows (drop (i + 1) ns))

pub time_same : (rows : List Row) (ns : List ℕ) (i : ℕ) → i < length ns → slice_get rows (get_or ns i 0) ≡ None
    → total_of (rows_at rows (drop i ns)) ≡ total_of (rows_at rows (drop (i + 1) ns))
time_same rows ns i h is =
    ap (λ l. total_of (rows_at rows l)) (next_number ns i h)
    ∙ ap (λ o. total_of (cons_option o (rows_at rows (drop (i + 1) ns)))) is

-- one more song is counted
pub time_counted : (so_far more one left rest all : ℕ) → more ≡ one → left ≡ one + rest → so_far + left ≡ all → (so_far + more) + rest ≡ all
time_counted so_far more one left rest all same first total = omega (arith, same, first, total)

pub time_over : (rows : List Row) (ns : List ℕ) (i : ℕ) → length ns ≤ i → total_of (rows_at rows (drop i ns)) ≡ 0
time_over rows ns i past = ap (λ l. total_of (rows_at rows l)) (drop_past ns i past)

-- those that tell a value are no more than all
pub fewer_tell : (p : ℕ → Bool) (ns : List ℕ) → length (filter p ns) ≤ length ns
fewer_tell p [] = omega arith
fewer_tell p (n ∷ ns) = by_cases (p n) refl (fewer_tell p ns)
  where
    by_cases : (b : Bool) → p n ≡ b → length (filter p ns) ≤ length ns → length (filter p (n ∷ ns)) ≤ length (n ∷ ns)
    by_cases true is rest = rw is (omega (arith, rest))
    by_cases false is rest = rw is (omega (arith, rest))

pub few_in_each : (profile : Profile) (tag : Tag) (rows : List Row) (ns : List ℕ) (values : List (List ℕ)) (most : ℕ) → length ns ≤ most
    → AllByRecursion (λ (g : Group). length g.numbers ≤ most) (map (group_of profile tag rows ns) values)
few_in_each profile tag rows ns [] most few = tt
few_in_each profile tag rows ns (value ∷ values) most few =
    (omega (arith, few, fewer_tell (tells profile tag rows value) ns), few_in_each profile tag rows ns values most few)
