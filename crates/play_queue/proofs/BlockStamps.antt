-- The latest stamps of blocks of positions.
use Rattle.std.proofs.Common.{◌≡◌, ℕ, suc, ◌+◌, ◌-◌, ◌*◌, ◌/◌, ◌<◌, ◌≤◌, min, Bool, true, false, cond, ◌||◌, ◌⊎◌, inl, inr, nat_lt, List, [], ◌∷◌}
use Rattle.std.proofs.Common.{◌++◌, length, get_or, map, filter, take, drop, slice_range, refl, sym, ap, ◌∙◌, arith}
use Rattle.std.specs.List.{enumerate_from}
use Rattle.std.proofs.lemmas.Bool.{cases_lt, le-ltb, lt-ltb}
use Rattle.std.proofs.lemmas.Bool.Decides.{nat_tests}
use Rattle.std.proofs.lemmas.List.{append_assoc, map-append}
use Rattle.std.proofs.lemmas.List.{append-nil, take_min, take-take, take-append-drop, length-take-le}
use Rattle.std.proofs.lemmas.List.Edits.{between_more, length-between, get_or-between}
use Rattle.std.proofs.lemmas.Nat.{div-mul-add}
use Rattle.std.proofs.lemmas.Slice.{between_is}
use Rattle.std.proofs.lemmas.List.Elements.{filter-append}
use Rattle.play_queue.specs.declared.entry.Entry.{Entry}
use Rattle.play_queue.specs.Limits.{BLOCKS, SPAN}
use Rattle.play_queue.specs.Latest.{latest_at, AreLatest, later_than}
use Rattle.play_queue.specs.Queue.{QueueState, IsQueue, changed_since}

-- blocks that have come to a stamp, from a position on up to a block
pub record RaisedTo (first latest : List ℕ) (start block stamp : ℕ) : Type 0 where
  pub long : length latest ≡ BLOCKS
  pub grown : (k : ℕ) → latest_at first k ≤ latest_at latest k
  pub raised : (k : ℕ) → start ≤ k → k / SPAN < block → stamp ≤ latest_at latest k

-- the positions of two parts
pub later-append : (version first : ℕ) (front back : List Entry)
    → later_than version first (front ++ back) ≡ later_than version first front ++ later_than version (first + length front) back
later-append version first front back =
    ap (λ l. map (λ (at : ℕ × Entry). at.0) (filter (λ at. nat_lt version at.1.stamp) l)) (enumerated first front back)
    ∙ ap (map (λ (at : ℕ × Entry). at.0))
    (filter-append (λ at. nat_lt version at.1.stamp) (enumerate_from first front) (enumerate_from (first + length front) back))
    ∙ map-append (λ (at : ℕ × Entry). at.0) _ _
  where
    enumerated : (n : ℕ) (front back : List Entry)
        → enumerate_from n (front ++ back) ≡ enumerate_from n front ++ enumerate_from (n + length front) back
    enumerated n [] back = ap (λ m. enumerate_from m back) (omega arith)
    enumerated n (entry ∷ front) back =
        ap (λ l. (n, entry) ∷ l) (enumerated (n + 1) front back
        ∙ ap (λ m. enumerate_from (n + 1) front ++ enumerate_from m back) (omega arith))

pub later-one : (version at : ℕ) (entry : Entry) → later_than version at (entry ∷ []) ≡ cond (nat_lt version entry.stamp) (at ∷ []) []
later-one version at entry = of (nat_lt version entry.stamp) refl
  where
    of : (b : Bool) → nat_lt version entry.stamp ≡ b → later_than version at (entry ∷ []) ≡ cond b (at ∷ []) []
    of true is = rw is refl
    of false is = rw is refl

-- where no stamp is later
pub later-none : (version first : ℕ) (entries : List Entry) → ((k : ℕ) (d : Entry) → k < length entries
    → (get_or entries k d).stamp ≤ version) → later_than version first entries ≡ []
later-none version first [] low = refl
later-none version first (entry ∷ entries) low =
    let here : nat_lt version entry.stamp ≡ false = le-ltb version entry.stamp (low 0 entry (omega arith)) in
    rw here (later-none version (first + 1) entries (λ k d within. low (suc k) d (omega arith)))

-- the code's step: one more entry of a range
pub later-step : (version start at : ℕ) (entries : List Entry) (before now : List ℕ) (entry : Entry) → start ≤ at → at < length entries
    → entry ≡ get_or entries at entry → now ≡ before ++ later_than version start (slice_range entries start at)
    → cond (nat_lt version entry.stamp) (now ++ at ∷ []) now
    ≡ before ++ later_than version start (slice_range entries start (at + 1))
later-step version start at entries before now entry from within is so_far =
    let part : List Entry = slice_range entries start at in
    let more : slice_range entries start (at + 1) ≡ part ++ entry ∷ [] =
    between_more entries start at entry from within ∙ ap (λ e. part ++ e ∷ []) (sym is) in
    let place : start + length part ≡ at = omega (arith, length-between entries start at (omega arith)) in
    let positions : later_than version start (slice_range entries start (at + 1))
    ≡ later_than version start part ++ cond (nat_lt version entry.stamp) (at ∷ []) [] =
    ap (later_than version start) more ∙ later-append version start part (entry ∷ [])
    ∙ ap (λ n. later_than version start part ++ later_than version n (entry ∷ [])) place
    ∙ ap (λ l. later_than version start part ++ l) (later-one version at entry) in
    of (nat_lt version entry.stamp) refl positions
  where
    of : (b : Bool) → nat_lt version entry.stamp ≡ b → later_than version start (slice_range entries start (at + 1))
        ≡ later_than version start (slice_range entries start at) ++ cond b (at ∷ []) [] → cond b (now ++ at ∷ []) now
        ≡ before ++ later_than version start (slice_range entries start (at + 1))
    of true told positions = ap (λ l. l ++ at ∷ []) so_far
        ∙ append_assoc before (later_than version start (slice_range entries start at)) (at ∷ []) ∙ ap (λ l. before ++ l) (sym positions)
    of false told positions = so_far
        ∙ ap (λ l. before ++ l) (sym (positions ∙ append-nil (later_than version start (slice_range entries start at))))

-- one more block
pub later-block : (version block end : ℕ) (entries : List Entry) → block * SPAN < length entries
    → end ≡ min (block * SPAN + SPAN) (length entries) → later_than version 0 (take ((block + 1) * SPAN) entries)
    ≡ later_than version 0 (take (block * SPAN) entries) ++ later_than version (block * SPAN) (slice_range entries (block * SPAN) end)
later-block version block end entries within is =
    let start : ℕ = block * SPAN in
    let front : List Entry = take start entries in
    let long : length front ≡ start = length-take-le start entries (omega arith) in
    let place : 0 + length front ≡ start = omega (arith, long) in
    let cut : take ((block + 1) * SPAN) entries ≡ take end entries =
    ap (λ n. take n entries) (omega arith) ∙ sym (take_min (start + SPAN) entries) ∙ ap (λ n. take n entries) (sym is) in
    let parts : take end entries ≡ front ++ slice_range entries start end =
    sym (take-append-drop start (take end entries)) ∙ ap (λ l. l ++ drop start (take end entries)) (take-take start end entries (omega arith))
    ∙ ap (λ l. front ++ l) (sym (between_is entries start end)) in
    ap (later_than version 0) (cut ∙ parts) ∙ later-append version 0 front (slice_range entries start end)
    ∙ ap (λ n. later_than version 0 front ++ later_than version n (slice_range entries start end)) place

-- a block without a later stamp
pub later-skipped : (version block end : ℕ) (entries : List Entry) (latest : List ℕ) → AreLatest latest entries → end ≤ length entries
    → block * SPAN ≤ end → end ≤ block * SPAN + SPAN → get_or latest block 0 ≤ version
    → later_than version (block * SPAN) (slice_range entries (block * SPAN) end) ≡ []
later-skipped version block end entries latest bounds within from to low =
    later-none version (block * SPAN) (slice_range entries (block * SPAN) end)
    (λ k d inside.
    let long : length (slice_range entries (block * SPAN) end) ≡ end - block * SPAN = length-between entries (block * SPAN) end within in
    let read : get_or (slice_range entries (block * SPAN) end) k d ≡ get_or entries (block * SPAN + k) d =
    get_or-between entries (block * SPAN) end k d (omega arith) in
    let number : (block * SPAN + k) / SPAN ≡ block = div-mul-add block SPAN k (omega arith) in
    let bound : (get_or entries (block * SPAN + k) d).stamp ≤ get_or latest block 0 =
    rw number at (bounds (block * SPAN + k) d (omega arith)) in
    rw read (omega arith))

-- all positions, where each stamp is at least 1
all_later : (n : ℕ) (test : ℕ × Entry → Bool) (entries : List Entry) → ((at : ℕ × Entry) → test at ≡ true)
    → ((k : ℕ) (d : Entry) → k < length entries → 1 ≤ (get_or entries k d).stamp)
    → later_than 0 n entries ≡ map (λ at. at.0) (filter test (enumerate_from n entries))
all_later n test [] all low = refl
all_later n test (entry ∷ entries) all low =
    rw (lt-ltb 0 entry.stamp (low 0 entry (omega arith)), all (n, entry))
    (ap (λ l. n ∷ l) (all_later (n + 1) test entries all (λ k d within. low (suc k) d (omega arith))))

-- what has changed since a version
pub changed-later : (q : QueueState) (version from : ℕ) → IsQueue q → (q.version < version → from ≡ 0)
    → (version ≤ q.version → from ≡ version) → later_than from 0 q.entries ≡ changed_since q version
changed-later q version from sound ahead behind = of (nat_lt q.version version) refl (cases_lt q.version version)
  where
    of : (b : Bool) → nat_lt q.version version ≡ b → (q.version < version) ⊎ (version ≤ q.version)
        → later_than from 0 q.entries ≡ map (λ at. at.0) (filter (λ at. b || nat_lt version at.1.stamp) (enumerate_from 0 q.entries))
    of true is (inl before) = rw (ahead before) (all_later 0 (λ at. true) q.entries (λ at. refl)
        (λ k d within. (sound.entry k d within).stamp_low))
    of true is (inr not_before) = absurd (grind (arith, nat_tests))
    of false is (inl before) = absurd (grind (arith, nat_tests))
    of false is (inr not_before) = rw (behind not_before) refl
