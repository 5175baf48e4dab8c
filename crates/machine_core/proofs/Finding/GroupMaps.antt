-- Runs that are put together under their texts: the entries of the map are the groups.
use Rattle.std.proofs.Common.{◌≡◌, ℕ, zero, suc, ◌+◌, ◌<◌, ◌≤◌, Bool, true, false, ◌||◌, cond, List, [], ◌∷◌, ◌++◌, length, take, get_or}
use Rattle.std.proofs.Common.{map, filter, Option, Some, None, slice_get}
use Rattle.std.proofs.Common.{add-one, refl, sym, ap, ◌∙◌, arith}
use denote.Ref.{Bor}
use Rattle.std.specs.declared.cmp.Ordering.{Ordering}
use Rattle.std.specs.declared.cmp.Ordering.TheVariants.{Less}
use Rattle.std.specs.BTreeMap.{IsOrdered, UpdatesBy, is_at}
use Rattle.std.specs.Cmp.{IsTotalOrder}
use Rattle.std.specs.Cmp.Lexicographic.{nat_list_cmp_total, slice_cmp}
use Rattle.std.specs.Global.{Vec}
use Rattle.std.specs.List.{AllByRecursion, flat_map, list_any}
use Rattle.std.specs.List.Sorted.{IsStrictlySortedBy}
use Rattle.std.specs.Map.{keys_of, lookup}
use Rattle.std.specs.Option.{UnwrapsOrElse, is_some}
use Rattle.std.specs.Vec.{vec_len}
use Rattle.std.specs.Ordering.{is_eq, nat_cmp}
use Rattle.std.specs.Str.{bytes_eq}
use Rattle.std.proofs.lemmas.Map.Entries.{btree_map_get_place}
use Rattle.std.proofs.lemmas.Map.Text.{btree_map_updates_str, is_eq-slice_cmp}
use Rattle.std.proofs.lemmas.Slice.Eq.{bytes_eq-Decides}
use Rattle.profile.specs.declared.profile.Profile.{Profile}
use Rattle.song_db.specs.Replaced.{IsRising}
use Rattle.song_db.specs.Row.{Row}
use Rattle.song_files.specs.declared.tag.Tag.{Tag}
use Rattle.machine_core.specs.Finding.{told_texts, told_values}
use Rattle.machine_core.specs.Grouped.{AreRising, Group, Groups, entry_group, found_under, group_of, groups_of, is_under, numbers_or_none}
use Rattle.machine_core.specs.Grouped.{numbers_under, rows_at, run_of, runs_told, tells, with_numbers}
use Rattle.machine_core.specs.declared.commands.finding.groups.Run.{Run}
use Rattle.song_db.proofs.Gathered.{distinct_is, has}
use Rattle.machine_core.proofs.Finding.Groups.{has_run, has_run-append, has_told_at, has_told_by, nums, nums-append, nums_told_by}
use Rattle.machine_core.proofs.Finding.Groups.{with_numbers-append}

abbrev Entry : Type 0
Entry = Bor (List ℕ) × Vec ℕ

abbrev by_now : Bor (List ℕ) → Bor (List ℕ) → Ordering
by_now a b = slice_cmp nat_cmp a.now b.now

by_now_total : IsTotalOrder by_now
by_now_total = record {
  antisymm = λ a b. nat_list_cmp_total.antisymm a.now b.now;
  trans = λ a b c. nat_list_cmp_total.trans a.now b.now c.now;
  congr = λ a b c. nat_list_cmp_total.congr a.now b.now c.now;
}

-- ---- a run is put under its text

module _ (groups after : Groups) (text : List ℕ) (numbers : Vec ℕ)
    (updates : UpdatesBy by_now (λ key. slice_cmp nat_cmp text key.now) groups after (Some numbers)) where
  pub numbers_more : (more : List ℕ) → numbers.items ≡ with_numbers (numbers_under groups text) more → (q : List ℕ)
      → numbers_under after q ≡ cond (bytes_eq text q) (with_numbers (numbers_under groups q) more) (numbers_under groups q)
  numbers_more more is q =
      ap numbers_or_none (btree_map_updates_str text groups after (Some numbers) updates q) ∙ by_cases (bytes_eq text q) refl
    where
      by_cases : (b : Bool) → bytes_eq text q ≡ b → numbers_or_none (cond b (Some numbers) (found_under groups q))
          ≡ cond b (with_numbers (numbers_under groups q) more) (numbers_under groups q)
      by_cases true same = is ∙ ap (λ t. with_numbers (numbers_under groups t) more) ((bytes_eq-Decides text q).0 same)
      by_cases false other = refl

  pub texts_more : (q : List ℕ) → is_under after q ≡ (bytes_eq text q || is_under groups q)
  texts_more q = ap is_some (btree_map_updates_str text groups after (Some numbers) updates q) ∙ by_cases (bytes_eq text q)
    where
      by_cases : (b : Bool) → is_some (cond b (Some numbers) (found_under groups q)) ≡ (b || is_some (found_under groups q))
      by_cases true = refl
      by_cases false = refl

-- the numbers that a run is put behind, none where its text is new
pub numbers_behind : (found : Option (Vec ℕ)) (made : Vec ℕ) → UnwrapsOrElse found (λ made. (made.items ≡ []) × (vec_len made ≡ 0)) made
    → made.items ≡ numbers_or_none found
numbers_behind None made is = is.0
numbers_behind (Some numbers) made is = ap (λ (v : Vec ℕ). v.items) is

-- what a map has of runs
pub record Gathers (groups : Groups) (runs : List Group) : Type 0 where
  pub numbers : (q : List ℕ) → numbers_under groups q ≡ with_numbers [] (nums q runs)
  pub texts : (q : List ℕ) → is_under groups q ≡ has_run q runs

pub none_gathered : (groups : Groups) → groups.entries ≡ [] → Gathers groups []
none_gathered groups none = record {
  numbers = λ q. ap (λ (es : List Entry). numbers_or_none (lookup (is_at (λ (key : Bor (List ℕ)). slice_cmp nat_cmp q key.now)) es)) none;
  texts = λ q. ap (λ (es : List Entry). is_some (lookup (is_at (λ (key : Bor (List ℕ)). slice_cmp nat_cmp q key.now)) es)) none;
}

pub gathers_more : (groups after : Groups) (runs : List Group) (run : Group) → Gathers groups runs
    → ((q : List ℕ) → numbers_under after q
    ≡ cond (bytes_eq run.text q) (with_numbers (numbers_under groups q) run.numbers) (numbers_under groups q))
    → ((q : List ℕ) → is_under after q ≡ (bytes_eq run.text q || is_under groups q)) → Gathers after (runs ++ run ∷ [])
gathers_more groups after runs run so_far numbers texts = record {
  numbers = λ q. numbers q ∙ by_text q (bytes_eq run.text q)
      ∙ sym (ap (with_numbers []) (nums-append q runs (run ∷ []))
      ∙ with_numbers-append [] (nums q runs) (cond (bytes_eq run.text q) run.numbers [] ++ []));
  texts = λ q. texts q ∙ ap (λ b. bytes_eq run.text q || b) (so_far.texts q) ∙ sym (has_run-append q runs run);
}
  where
    append_none : (ns : List ℕ) → ns ≡ ns ++ []
    append_none [] = refl
    append_none (n ∷ ns) = ap (λ l. n ∷ l) (append_none ns)

    by_text : (q : List ℕ) (b : Bool) → cond b (with_numbers (numbers_under groups q) run.numbers) (numbers_under groups q)
        ≡ with_numbers (with_numbers [] (nums q runs)) (cond b run.numbers [] ++ [])
    by_text q true = (λ i. with_numbers (so_far.numbers q i) (append_none run.numbers i))
    by_text q false = so_far.numbers q

-- one more run is taken, and all are
runs_suc : (runs : List Run) (i : ℕ) (run : Run) → i < length runs → run ≡ get_or runs i run
    → map run_of (take (suc i) runs) ≡ map run_of (take i runs) ++ run_of run ∷ []
runs_suc [] i run h is = absurd (omega arith)
runs_suc (r ∷ runs) zero run h is = ap (λ (x : Run). run_of x ∷ []) (sym is)
runs_suc (r ∷ runs) (suc i) run h is = ap (λ l. run_of r ∷ l) (runs_suc runs i run (omega arith) is)

pub runs_next : (runs : List Run) (i : ℕ) (run : Run) → i < length runs → run ≡ get_or runs i run
    → map run_of (take (i + 1) runs) ≡ map run_of (take i runs) ++ run_of run ∷ []
runs_next runs i run h is = rw add-one (runs_suc runs i run h is)

pub whole_taken : (runs : List Run) (i : ℕ) → length runs ≤ i → take i runs ≡ runs
whole_taken [] zero past = refl
whole_taken [] (suc i) past = refl
whole_taken (r ∷ runs) zero past = absurd (omega arith)
whole_taken (r ∷ runs) (suc i) past = ap (λ l. r ∷ l) (whole_taken runs i (omega arith))

-- ---- the entries

abbrev texts_of_entries : List Entry → List (List ℕ)
texts_of_entries es = map (λ (e : Entry). e.0.now) es

all_behind : (k : Bor (List ℕ)) (es : List Entry) → AllByRecursion (λ q. by_now k q ≡ Less) (keys_of es)
    → AllByRecursion (λ t. slice_cmp nat_cmp k.now t ≡ Less) (texts_of_entries es)
all_behind k [] all = tt
all_behind k (e ∷ es) all = (all.0, all_behind k es all.1)

texts_rise : (es : List Entry) → IsStrictlySortedBy by_now (keys_of es) → IsRising (λ t. t) (texts_of_entries es)
unfolding IsStrictlySortedBy
texts_rise [] sorted = tt
texts_rise (e ∷ es) sorted = (all_behind e.0 es sorted.0, texts_rise es sorted.1)

has_entries : (es : List Entry) (q : List ℕ)
    → has (texts_of_entries es) q ≡ is_some (lookup (is_at (λ (key : Bor (List ℕ)). slice_cmp nat_cmp q key.now)) es)
has_entries [] q = refl
has_entries (e ∷ es) q = by_cases (is_eq (slice_cmp nat_cmp q e.0.now)) (has_entries es q)
  where
    there : Bool
    there = is_some (lookup (is_at (λ (key : Bor (List ℕ)). slice_cmp nat_cmp q key.now)) es)

    by_cases : (b : Bool) → has (texts_of_entries es) q ≡ there → (b || has (texts_of_entries es) q)
        ≡ is_some (cond b (Some e.1) (lookup (is_at (λ (key : Bor (List ℕ)). slice_cmp nat_cmp q key.now)) es))
    by_cases true rest = refl
    by_cases false rest = rest

has_bytes : (ts : List (List ℕ)) (q : List ℕ) → has ts q ≡ list_any (bytes_eq q) ts
has_bytes [] q = refl
has_bytes (t ∷ ts) q = (λ i. is_eq-slice_cmp q t i || has_bytes ts q i)

module _ (profile : Profile) (tag : Tag) (rows : List Row) (ns : List ℕ) (rising : AreRising ns) (groups : Groups)
    (ordered : IsOrdered by_now groups) (gathers : Gathers groups (runs_told profile tag rows [] ns)) where
  at_place : (i : ℕ) (k : Bor (List ℕ)) (v : Vec ℕ) → slice_get groups.entries i ≡ Some (k, v)
      → v.items ≡ filter (tells profile tag rows k.now) ns
  at_place i k v is =
      sym (ap numbers_or_none (btree_map_get_place by_now_total groups i k v ordered is)) ∙ gathers.numbers k.now
      ∙ nums_told_by profile tag rows k.now ns rising

  each_group : (es : List Entry)
      → ((i : ℕ) (k : Bor (List ℕ)) (v : Vec ℕ) → slice_get es i ≡ Some (k, v) → v.items ≡ filter (tells profile tag rows k.now) ns)
      → map entry_group es ≡ map (group_of profile tag rows ns) (texts_of_entries es)
  each_group [] at = refl
  each_group (e ∷ es) at =
      (λ i. record { text = e.0.now; numbers = at 0 e.0 e.1 refl i } ∷ each_group es (λ j k v is. at (suc j) k v is) i)

  texts_made : texts_of_entries groups.entries ≡ told_values profile (rows_at rows ns) tag
  texts_made =
      distinct_is (texts_of_entries groups.entries) (flat_map (told_texts profile tag) (rows_at rows ns))
      (texts_rise groups.entries ordered)
      (λ q. has_entries groups.entries q ∙ gathers.texts q ∙ has_told_by profile tag rows q ns ∙ has_told_at profile tag rows q ns
      ∙ sym (has_bytes (flat_map (told_texts profile tag) (rows_at rows ns)) q))

  pub groups_made : map entry_group groups.entries ≡ groups_of profile tag rows ns
  groups_made = each_group groups.entries at_place ∙ ap (map (group_of profile tag rows ns)) texts_made
