-- How many rows have each tag, through a change.
use Rattle.std.proofs.Common.{◌≡◌, ◌⊎◌, inl, inr, ℕ, ◌+◌, ◌-◌, ◌<◌, ◌≤◌, Bool, true, false, cond, List, [], ◌∷◌, ◌++◌, length, Option, Some, None}
use Rattle.std.proofs.Common.{refl, sym, ap, ◌∙◌, arith}
use Rattle.std.specs.Prelude.{slice_index_or}
use Rattle.std.proofs.Math.ListN.{set}
use Rattle.std.proofs.lemmas.Bool.{cases_lt}
use Rattle.std.proofs.lemmas.List.{get_or-set_other, get_or-set_same}
use Rattle.std.proofs.lemmas.List.Sums.{sum_by-cons, sum_by_push}
use Rattle.song_files.specs.Tag.{number_of}
use Rattle.song_files.specs.declared.tag.Tag.{Tag}
use Rattle.song_files.proofs.TagNumbers.{number_same}
use Rattle.song_db.specs.declared.change.RowChange.{RowChange}
use Rattle.song_db.specs.declared.effect.Effect.{Effect}
use Rattle.song_db.specs.declared.effect.Effect.TheVariants.{Nothing, Came, Replaced, Went, LeftOut}
use Rattle.song_db.specs.Change.{IsDatabase, after_change}
use Rattle.song_db.specs.Effect.{effect_of}
use Rattle.song_db.specs.Replaced.{replaced}
use Rattle.song_db.specs.Row.{Row, row_at, row_uri}
use Rattle.song_db.specs.Tagged.{AreCounted, AreFew, count_tagged, has_tag, kept_count, ones_of}
use Rattle.song_db.specs.ValueIndex.{coming}
use Rattle.song_db.proofs.Follows.{came_row, going_row, replacing_row}
use Rattle.song_db.proofs.Timing.{old_of, sum_replaced}
use Rattle.song_db.proofs.ToldFollows.{left_out_changes, nothing_changes}

abbrev pub one_if : Tag → Row → ℕ
one_if tag row = cond (has_tag tag row) 1 0

one_at_most : (tag : Tag) (row : Row) → one_if tag row ≤ 1
one_at_most tag row = by_cases (has_tag tag row)
  where
    by_cases : (b : Bool) → cond b 1 0 ≤ 1
    by_cases true = omega arith
    by_cases false = omega arith

pub count_bound : (tag : Tag) (rows : List Row) → count_tagged tag rows ≤ length rows
count_bound tag [] = omega arith
count_bound tag (x ∷ xs) =
    let whole : count_tagged tag (x ∷ xs) ≡ one_if tag x + count_tagged tag xs = sum_by-cons (one_if tag) x xs in
    omega (arith, whole, one_at_most tag x, count_bound tag xs)

pub counts_few : (rows : List Row) (counts : List ℕ) → IsDatabase rows → AreCounted rows counts → AreFew counts
counts_few rows counts database counted tag = omega (arith, counted tag, count_bound tag rows, database.few)

-- what an exchange of one row for another does
abbrev pub Exchanges : Option Row → Option Row → List ℕ → List ℕ → Type 0
Exchanges goes comes before after = (tag : Tag) → kept_count after tag ≡ kept_count before tag - ones_of tag goes + ones_of tag comes

replaced_count : (tag : Tag) (key : List ℕ) (new rows : List Row) → IsDatabase rows
    → count_tagged tag (replaced row_uri key new rows) + old_of (one_if tag) (row_at rows key) ≡ count_tagged tag rows + count_tagged tag new
replaced_count tag key new rows database = sum_replaced (one_if tag) key new rows database.rising

one_count : (tag : Tag) (row : Row) → count_tagged tag (row ∷ []) ≡ one_if tag row
one_count tag row = let whole : count_tagged tag (row ∷ []) ≡ one_if tag row + 0 = sum_by-cons (one_if tag) row [] in omega (arith, whole)

pub stays_counted : (effect : Effect) (rows : List Row) (change : RowChange) (counts : List ℕ)
    → (effect ≡ Nothing) ⊎ ((left : Row) × (effect ≡ LeftOut left)) → IsDatabase rows → effect ≡ effect_of rows change
    → AreCounted rows counts → AreCounted (after_change rows change) counts
stays_counted effect rows change counts (inl none) database is counted =
    rw (nothing_changes rows change database.rising (sym none ∙ is)) counted
stays_counted effect rows change counts (inr left) database is counted =
    rw (left_out_changes rows change left.0 (sym left.1 ∙ is)) counted

pub came_counted : (row : Option Row) (rows : List Row) (change : RowChange) (before after : List ℕ) → Exchanges None row before after
    → IsDatabase rows → row ≡ coming change → Came ≡ effect_of rows change → AreCounted rows before → AreCounted (after_change rows change) after
came_counted row rows change before after made database is effect counted tag =
    let found = came_row rows change row is effect in
    let ones : ones_of tag row ≡ one_if tag found.0 = ap (ones_of tag) found.1 in
    let sum : count_tagged tag (replaced row_uri found.0.uri (found.0 ∷ []) rows) + 0 ≡ count_tagged tag rows + count_tagged tag (found.0 ∷ [])
    = rw found.2.none at (replaced_count tag found.0.uri (found.0 ∷ []) rows database) in
    let none : ones_of tag None ≡ 0 = refl in
    let whole : kept_count after tag ≡ count_tagged tag (replaced row_uri found.0.uri (found.0 ∷ []) rows)
    = omega (arith, made tag, counted tag, none, ones, sum, one_count tag found.0) in
    whole ∙ ap (count_tagged tag) (sym found.2.after)

pub went_counted : (old : Row) (rows : List Row) (change : RowChange) (before after : List ℕ) → Exchanges (Some old) None before after
    → IsDatabase rows → Went old ≡ effect_of rows change → AreCounted rows before → AreCounted (after_change rows change) after
went_counted old rows change before after made database effect counted tag =
    let going = going_row rows change old effect in
    let sum : count_tagged tag (replaced row_uri old.uri [] rows) + one_if tag old ≡ count_tagged tag rows + 0
    = rw going.found at (replaced_count tag old.uri [] rows database) in
    let none : ones_of tag None ≡ 0 = refl in
    let one : ones_of tag (Some old) ≡ one_if tag old = refl in
    let whole : kept_count after tag ≡ count_tagged tag (replaced row_uri old.uri [] rows)
    = omega (arith, made tag, counted tag, none, one, sum) in
    whole ∙ ap (count_tagged tag) (sym going.after)

pub replaced_counted : (row : Option Row) (old : Row) (rows : List Row) (change : RowChange) (before after : List ℕ)
    → Exchanges (Some old) row before after → IsDatabase rows → row ≡ coming change → Replaced old ≡ effect_of rows change
    → AreCounted rows before → AreCounted (after_change rows change) after
replaced_counted row old rows change before after made database is effect counted tag =
    let found = replacing_row rows change row old is effect in
    let ones : ones_of tag row ≡ one_if tag found.0 = ap (ones_of tag) found.1 in
    let sum : count_tagged tag (replaced row_uri found.0.uri (found.0 ∷ []) rows) + one_if tag old
    ≡ count_tagged tag rows + count_tagged tag (found.0 ∷ [])
    = rw found.2.found at (replaced_count tag found.0.uri (found.0 ∷ []) rows database) in
    let without : count_tagged tag (replaced row_uri found.0.uri [] rows) + one_if tag old ≡ count_tagged tag rows + 0
    = rw found.2.found at (replaced_count tag found.0.uri [] rows database) in
    let one : ones_of tag (Some old) ≡ one_if tag old = refl in
    let whole : kept_count after tag ≡ count_tagged tag (replaced row_uri found.0.uri (found.0 ∷ []) rows)
    = omega (arith, made tag, counted tag, one, ones, sum, without, one_count tag found.0) in
    whole ∙ ap (count_tagged tag) (sym found.2.after)

-- a row behind the last one
pub last_counted : (rows : List Row) (row : Row) (before after : List ℕ) → Exchanges None (Some row) before after → AreCounted rows before
    → AreCounted (rows ++ row ∷ []) after
last_counted rows row before after made counted tag =
    let whole : count_tagged tag (rows ++ row ∷ []) ≡ count_tagged tag rows + one_if tag row = sum_by_push (one_if tag) rows row in
    let none : ones_of tag None ≡ 0 = refl in
    let one : ones_of tag (Some row) ≡ one_if tag row = refl in
    omega (arith, made tag, counted tag, none, one, whole)

-- ---- tag after tag

-- those with lower numbers than this are done
abbrev pub AreDone : Option Row → Option Row → List ℕ → List ℕ → ℕ → Type 0
AreDone goes comes before counts n = (tag : Tag) → number_of tag < n
    → kept_count counts tag ≡ kept_count before tag - ones_of tag goes + ones_of tag comes

abbrev pub AreLeft : List ℕ → List ℕ → ℕ → Type 0
AreLeft before counts n = (k : ℕ) → n ≤ k → slice_index_or counts k 0 ≡ slice_index_or before k 0

pub done_more : (goes comes : Option Row) (before counts : List ℕ) (n v : ℕ) (tag : Tag) → number_of tag ≡ n → n < length counts
    → v ≡ slice_index_or counts n 0 - ones_of tag goes + ones_of tag comes → AreDone goes comes before counts n → AreLeft before counts n
    → AreDone goes comes before (set counts n v) (n + 1)
done_more goes comes before counts n v tag own within is done left other lower = by_cases (cases_lt (number_of other) n)
  where
    by_cases : (number_of other < n) ⊎ (n ≤ number_of other)
        → kept_count (set counts n v) other ≡ kept_count before other - ones_of other goes + ones_of other comes
    by_cases (inl less) = get_or-set_other counts n (number_of other) v 0 (λ same. absurd (omega (arith, same))) ∙ done other less
    by_cases (inr not_less) =
        let number : number_of other ≡ n = omega arith in
        let same : tag ≡ other = number_same tag other (own ∙ sym number) in
        ap (λ k. slice_index_or (set counts n v) k 0) number ∙ get_or-set_same counts n v 0 within ∙ is
        ∙ ap (λ c. c - ones_of tag goes + ones_of tag comes) (left n (omega arith) ∙ ap (λ k. slice_index_or before k 0) (sym own))
        ∙ ap (λ (t : Tag). kept_count before t - ones_of t goes + ones_of t comes) same

pub left_more : (before counts : List ℕ) (n v : ℕ) → AreLeft before counts n → AreLeft before (set counts n v) (n + 1)
left_more before counts n v left k past =
    get_or-set_other counts n k v 0 (λ same. absurd (omega (arith, same))) ∙ left k (omega arith)

-- the count that stands at a tag's number
pub counted_at : (tag : Tag) (rows : List Row) (counts : List ℕ) (n : ℕ) → n ≡ number_of tag → AreCounted rows counts
    → slice_index_or counts n 0 ≡ count_tagged tag rows
counted_at tag rows counts n own counted = ap (λ k. slice_index_or counts k 0) own ∙ counted tag
