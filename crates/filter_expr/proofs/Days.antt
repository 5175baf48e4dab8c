-- How days are counted by years and months.
use Rattle.std.proofs.Common.{◌≡◌, ℕ, zero, suc, ◌+◌, ◌-◌, ◌*◌, ◌/◌, ◌%◌, ◌<◌, ◌≤◌, Bool, true, false, cond, not, ◌&&◌, ◌||◌, nat_eq, nat_le, nat_lt}
use Rattle.std.proofs.Common.{List, [], ◌∷◌, length, take, drop, get_or, sum, refl, sym, ap, ◌∙◌, arith, rules}
use Rattle.std.proofs.lemmas.List.Sums.{sum_by-cons, sum_by-take-drop}
use Rattle.std.proofs.lemmas.Bool.{eqb-true, eqb-false, leb-true, leb-false, ltb-true, ltb-false, lt-ltb, le-ltb}
use Rattle.filter_expr.proofs.Texts.{drop_at}
use Rattle.filter_expr.specs.Calendar.{is_leap, year_length, months, days_before, latest_begun, year_of, month_and_day, date_in, date_of}

pub next_year : (year : ℕ) → days_before (suc year) ≡ days_before year + year_length year
unfolding days_before
next_year year = refl

first_year : days_before 0 ≡ 0
unfolding days_before
first_year = refl

shortest : (year : ℕ) → 365 ≤ year_length year
shortest year = by_cases (is_leap year)
  where
    by_cases : (leap : Bool) → 365 ≤ cond leap 366 365
    by_cases true = omega arith
    by_cases false = omega arith

longest : (year : ℕ) → year_length year ≤ 366
longest year = by_cases (is_leap year)
  where
    by_cases : (leap : Bool) → cond leap 366 365 ≤ 366
    by_cases true = omega arith
    by_cases false = omega arith

-- ---- in one step

-- the multiples of so much below a year
lifted : (n : ℕ) (b : Bool) → nat_eq (n % 4) 0 ≡ b → (n + 4) / 4 ≡ (n + 3) / 4 + cond b 1 0
lifted n true e = let f : n % 4 ≡ 0 = eqb-true (n % 4) 0 e in omega (arith, f)
lifted n false e = let f : n % 4 ≡ 0 → ⊥ = eqb-false (n % 4) 0 e in omega (arith, f)

lifted_100 : (n : ℕ) (b : Bool) → nat_eq (n % 100) 0 ≡ b → (n + 100) / 100 ≡ (n + 99) / 100 + cond b 1 0
lifted_100 n true e = let f : n % 100 ≡ 0 = eqb-true (n % 100) 0 e in omega (arith, f)
lifted_100 n false e = let f : n % 100 ≡ 0 → ⊥ = eqb-false (n % 100) 0 e in omega (arith, f)

lifted_400 : (n : ℕ) (b : Bool) → nat_eq (n % 400) 0 ≡ b → (n + 400) / 400 ≡ (n + 399) / 400 + cond b 1 0
lifted_400 n true e = let f : n % 400 ≡ 0 = eqb-true (n % 400) 0 e in omega (arith, f)
lifted_400 n false e = let f : n % 400 ≡ 0 → ⊥ = eqb-false (n % 400) 0 e in omega (arith, f)

century : (n : ℕ) → nat_eq (n % 100) 0 ≡ true → nat_eq (n % 4) 0 ≡ false → ⊥
century n e f =
    let g : n % 100 ≡ 0 = eqb-true (n % 100) 0 e in
    let h : n % 4 ≡ 0 → ⊥ = eqb-false (n % 4) 0 f in
    omega (arith, g, h)

fourth : (n : ℕ) → nat_eq (n % 400) 0 ≡ true → nat_eq (n % 100) 0 ≡ false → ⊥
fourth n e f =
    let g : n % 400 ≡ 0 = eqb-true (n % 400) 0 e in
    let h : n % 100 ≡ 0 → ⊥ = eqb-false (n % 100) 0 f in
    omega (arith, g, h)

-- the years that are leap years, of three counts
counted : (n : ℕ) (a b c : Bool) → nat_eq (n % 4) 0 ≡ a → nat_eq (n % 100) 0 ≡ b → nat_eq (n % 400) 0 ≡ c
    → cond (a && (not b || c)) 366 365 + cond b 1 0 ≡ 365 + cond a 1 0 + cond c 1 0
counted n true true true ea eb ec = refl
counted n true true false ea eb ec = refl
counted n true false true ea eb ec = absurd (fourth n ec eb)
counted n true false false ea eb ec = refl
counted n false true c ea eb ec = absurd (century n eb ea)
counted n false false true ea eb ec = absurd (fourth n ec eb)
counted n false false false ea eb ec = refl

-- every century has a fourth year
fewer : (n : ℕ) → (n + 99) / 100 ≤ (n + 3) / 4
fewer n = omega arith

-- without truncation
abbrev Sum : ℕ → Type 0
Sum n = days_before n + (n + 99) / 100 ≡ n * 365 + (n + 3) / 4 + (n + 399) / 400

summed : (n : ℕ) → Sum n
summed zero = ap (λ d. d + 0) first_year
summed (suc n) =
    let a = lifted n (nat_eq (n % 4) 0) refl in
    let b = lifted_100 n (nat_eq (n % 100) 0) refl in
    let c = lifted_400 n (nat_eq (n % 400) 0) refl in
    let all = counted n (nat_eq (n % 4) 0) (nat_eq (n % 100) 0) (nat_eq (n % 400) 0) refl refl refl in
    let e4 : suc n + 3 ≡ n + 4 = omega arith in
    let e100 : suc n + 99 ≡ n + 100 = omega arith in
    let e400 : suc n + 399 ≡ n + 400 = omega arith in
    let before = summed n in
    let next = next_year n in
    rw (e4, e100, e400, a, b, c, next) (omega (arith, all, before))

pub days_closed : (n : ℕ) → n * 365 + (n + 3) / 4 - (n + 99) / 100 + (n + 399) / 400 ≡ days_before n
days_closed n = omega (arith, summed n, fewer n)

-- ---- bounds

pub days_most : (n : ℕ) → days_before n ≤ 366 * n
days_most zero = omega (arith, first_year)
days_most (suc n) = omega (arith, days_most n, next_year n, longest n)

pub days_least : (n : ℕ) → 365 * n ≤ days_before n
days_least zero = omega arith
days_least (suc n) = omega (arith, days_least n, next_year n, shortest n)

rising_by : (n k : ℕ) → days_before n ≤ days_before (k + n)
rising_by n zero = let e : 0 + n ≡ n = omega arith in rw e (omega arith)
rising_by n (suc k) =
    let e : suc k + n ≡ suc (k + n) = omega arith in
    rw e (omega (arith, rising_by n k, next_year (k + n)))

rising : (m n : ℕ) → m ≤ n → days_before m ≤ days_before n
rising m n le = let e : n - m + m ≡ n = omega arith in rw (sym e) (rising_by m (n - m))

-- 400 years more
cycle : (c r : ℕ) → days_before (c * 400 + r) ≡ c * 146097 + days_before r
cycle c r =
    let d4 : (c * 400 + r + 3) / 4 ≡ c * 100 + (r + 3) / 4 = omega arith in
    let d100 : (c * 400 + r + 99) / 100 ≡ c * 4 + (r + 99) / 100 = omega arith in
    let d400 : (c * 400 + r + 399) / 400 ≡ c + (r + 399) / 400 = omega arith in
    omega (arith, summed (c * 400 + r), summed r, d4, d100, d400)

pub starts_before : (day : ℕ) → days_before (day / 146097 * 400 + day % 146097 / 366) ≤ day
starts_before day = omega (arith, cycle (day / 146097) (day % 146097 / 366), days_most (day % 146097 / 366))

-- ---- the year of a day

-- at the latest year
at_latest : (n year day : ℕ) → year ≤ suc n → days_before (suc n) ≤ day → day < days_before (suc year) → suc n ≡ year
at_latest n year day le has lasts = by_cases (nat_lt year (suc n)) refl
  where
    by_cases : (c : Bool) → nat_lt year (suc n) ≡ c → suc n ≡ year
    by_cases true f = absurd (omega (arith, has, lasts, rising (suc year) (suc n) (omega (arith, ltb-true year (suc n) f))))
    by_cases false f = omega (arith, ltb-false year (suc n) f, le)

-- a later one has not begun
before_latest : (n year day : ℕ) → year ≤ suc n → days_before year ≤ day → day < days_before (suc n) → year ≤ n
before_latest n year day le begun later = by_cases (nat_lt year (suc n)) refl
  where
    by_cases : (c : Bool) → nat_lt year (suc n) ≡ c → year ≤ n
    by_cases true f = omega (arith, ltb-true year (suc n) f)
    by_cases false f =
        let is : year ≡ suc n = omega (arith, ltb-false year (suc n) f, le) in
        absurd (omega (arith, later, begun, ap days_before is))

latest_is : (n year day : ℕ) → year ≤ n → days_before year ≤ day → day < days_before (suc year) → latest_begun n day ≡ year
latest_is zero year day le begun lasts = omega arith
latest_is (suc n) year day le begun lasts =
    by_cases (nat_le (days_before (suc n)) day) refl (λ below. latest_is n year day below begun lasts)
  where
    by_cases : (b : Bool) → nat_le (days_before (suc n)) day ≡ b → (year ≤ n → latest_begun n day ≡ year)
        → cond b (suc n) (latest_begun n day) ≡ year
    by_cases true e again = at_latest n year day le (leb-true (days_before (suc n)) day e) lasts
    by_cases false e again = again (before_latest n year day le begun (leb-false (days_before (suc n)) day e))

pub year_is : (year day : ℕ) → days_before year ≤ day → day < days_before (suc year) → year ≡ year_of day
unfolding year_of
year_is year day begun lasts = sym (latest_is day year day (omega (arith, begun, days_least year)) begun lasts)

-- ---- months

pub months_sum : (year : ℕ) → sum (months year) ≡ year_length year
months_sum year = by_cases (is_leap year) refl
  where
    by_cases : (leap : Bool) → is_leap year ≡ leap → sum (months year) ≡ year_length year
    by_cases true e = rw e refl
    by_cases false e = rw e refl

abbrev AreShort : List ℕ → Type 0
AreShort [] = Unit {0}
AreShort (days ∷ more) = (days ≤ 31) × AreShort more

short_at : (lengths : List ℕ) (at : ℕ) → AreShort lengths → get_or lengths at 0 ≤ 31
short_at [] at are = omega arith
short_at (days ∷ more) zero are = are.0
short_at (days ∷ more) (suc at) are = short_at more at are.1

pub month_most : (year at : ℕ) → get_or (months year) at 0 ≤ 31
month_most year at =
    short_at (months year) at (all_short (is_leap year))
  where
    all_short : (leap : Bool) → AreShort (31 ∷ cond leap 29 28 ∷ 31 ∷ 30 ∷ 31 ∷ 30 ∷ 31 ∷ 31 ∷ 30 ∷ 31 ∷ 30 ∷ 31 ∷ [])
    all_short true = search rules
    all_short false = search rules

-- ---- one month after the other

pub month_here : (lengths : List ℕ) (at month left : ℕ) → at < length lengths → left < get_or lengths at 0
    → month_and_day month (drop at lengths) left ≡ (month, left + 1)
month_here lengths at month left within low =
    let here : nat_lt left (get_or lengths at 0) ≡ true = lt-ltb left (get_or lengths at 0) low in
    rw (drop_at lengths at within, here) refl

pub month_later : (lengths : List ℕ) (at month left : ℕ) → at < length lengths → get_or lengths at 0 ≤ left
    → month_and_day (month + 1) (drop (at + 1) lengths) (left - get_or lengths at 0) ≡ month_and_day month (drop at lengths) left
month_later lengths at month left within high =
    let here : nat_lt left (get_or lengths at 0) ≡ false = le-ltb left (get_or lengths at 0) high in
    rw (drop_at lengths at within, here) refl

pub sum_later : (lengths : List ℕ) (at : ℕ) → at < length lengths
    → sum (drop at lengths) ≡ get_or lengths at 0 + sum (drop (at + 1) lengths)
sum_later lengths at within =
    ap sum (drop_at lengths at within) ∙ sum_by-cons (λ x. x) (get_or lengths at 0) (drop (at + 1) lengths)

pub sum_more : (lengths : List ℕ) (at : ℕ) → at < length lengths
    → sum (take (at + 1) lengths) ≡ sum (take at lengths) + get_or lengths at 0
sum_more lengths at within =
    omega (
      arith,
      sum_by-take-drop (λ x. x) lengths at,
      sum_by-take-drop (λ x. x) lengths (at + 1),
      sum_later lengths at within,
    )

pub date_is : (year day : ℕ) (found : ℕ × ℕ) → year ≡ year_of day → found ≡ month_and_day 1 (months year) (day - days_before year)
    → date_in year found ≡ date_of day
unfolding date_of
date_is year day found is e =
    ap (date_in year) e ∙ ap (λ y. date_in y (month_and_day 1 (months y) (day - days_before y))) is

-- a day of a year, counted from its first
pub day_within : (year day : ℕ) → days_before year ≤ day → day < days_before (suc year) → day - days_before year < sum (months year)
day_within year day begun lasts = omega (arith, begun, lasts, next_year year, months_sum year)
