-- What passes a test and stays is there where a block has been deleted, and where the entries of dropped songs have gone.
use Rattle.std.proofs.Common.{◌≡◌, ℕ, zero, suc, ◌+◌, ◌-◌, ◌<◌, ◌≤◌, Bool, true, false, cond, not, ◌||◌, ◌&&◌, List, [], ◌∷◌, ◌++◌}
use Rattle.std.proofs.Common.{take, drop, refl, subst, arith, ◌⊎◌, inl, inr}
use Rattle.std.proofs.lemmas.Bool.{le-leb, lt-ltb, cases_lt}
use Rattle.std.specs.List.{list_any}
use Rattle.std.specs.Prelude.{nat_le, nat_lt}
use Rattle.play_queue.specs.declared.entry.Entry.{Entry}
use Rattle.play_queue.specs.Entries.{Uris, deleted, kept, is_among}
use Rattle.player_core.specs.Staying.{takes, staying, all_staying}
use Rattle.machine_core.specs.Followed.{no_block}
use Rattle.machine_core.proofs.Sound.Ids.{Has, Carries, has_here, has_later, has_more, has_front, has_back, has_either}

-- ---- a block

abbrev rest_of : ℕ → ℕ → ℕ → List Entry → List Entry
rest_of start end at entries = take (start - at) entries ++ drop (end - at) entries

back_grows : (test : Entry → Bool) (n : ℕ) (entry : Entry) (entries : List Entry)
    → Carries test (drop (n - 1) entries) (drop n (entry ∷ entries))
back_grows test zero entry entries h = has_later test entry entries h
back_grows test (suc n) entry entries h =
    subst (λ (m : ℕ). Has test (drop m entries)) (let same : suc n - 1 ≡ n = omega arith in same) h

front_grows : (test : Entry → Bool) (n : ℕ) (entry : Entry) (entries : List Entry)
    → Carries test (take (n - 1) entries) (take n (entry ∷ entries))
front_grows test zero entry entries h = h
front_grows test (suc n) entry entries h =
    has_later test entry (take n entries)
    (subst (λ (m : ℕ). Has test (take m entries)) (let same : suc n - 1 ≡ n = omega arith in same) h)

-- one entry more in front of the rest
rest_grows : (test : Entry → Bool) (start end at : ℕ) (entry : Entry) (entries : List Entry)
    → Carries test (rest_of start end (at + 1) entries) (rest_of start end at (entry ∷ entries))
rest_grows test start end at entry entries h =
    of (has_either test (take (start - (at + 1)) entries) (drop (end - (at + 1)) entries) h)
  where
    less : (n : ℕ) → n - (at + 1) ≡ n - at - 1
    less n = omega arith

    of : (Has test (take (start - (at + 1)) entries)) ⊎ (Has test (drop (end - (at + 1)) entries))
        → Has test (rest_of start end at (entry ∷ entries))
    of (inl h) =
        has_front test (take (start - at) (entry ∷ entries)) (drop (end - at) (entry ∷ entries))
        (front_grows test (start - at) entry entries (subst (λ (n : ℕ). Has test (take n entries)) (less start) h))
    of (inr h) =
        has_back test (take (start - at) (entry ∷ entries)) (drop (end - at) (entry ∷ entries))
        (back_grows test (end - at) entry entries (subst (λ (n : ℕ). Has test (drop n entries)) (less end) h))

-- an entry outside the block is in the rest
rest_has : (test : Entry → Bool) (start end at : ℕ) (entry : Entry) (entries : List Entry) → test entry ≡ true
    → ((nat_le start at && nat_lt at end) || false) ≡ false → Has test (rest_of start end at (entry ∷ entries))
rest_has test start end at entry entries passes outside = of (cases_lt at start) (cases_lt at end)
  where
    of : (at < start) ⊎ (start ≤ at) → (at < end) ⊎ (end ≤ at) → Has test (rest_of start end at (entry ∷ entries))
    of (inl before) other =
        let more : start - at ≡ suc (start - at - 1) = omega arith in
        has_front test (take (start - at) (entry ∷ entries)) (drop (end - at) (entry ∷ entries))
        (rw more (has_here test entry (take (start - at - 1) entries) passes))
    of (inr from) (inr past) =
        let none : end - at ≡ 0 = omega arith in
        has_back test (take (start - at) (entry ∷ entries)) (drop (end - at) (entry ∷ entries))
        (rw none (has_here test entry entries passes))
    of (inr from) (inl within) = absurd (cc (le-leb start at from, lt-ltb at end within))

stays_in_rest : (test : Entry → Bool) (start end at : ℕ) (entries : List Entry)
    → Carries test (staying (record { start = start; end = end }) [] at entries) (rest_of start end at entries)
stays_in_rest test start end at [] h = absurd (cc)
stays_in_rest test start end at (entry ∷ entries) h =
    of (takes (record { start = start; end = end }) [] at entry) refl h
    (λ g. rest_grows test start end at entry entries (stays_in_rest test start end (at + 1) entries g))
  where
    stays : List Entry
    stays = staying (record { start = start; end = end }) [] (at + 1) entries

    of : (b : Bool) → takes (record { start = start; end = end }) [] at entry ≡ b → Has test (cond b stays (entry ∷ stays))
        → (Has test stays → Has test (rest_of start end at (entry ∷ entries))) → Has test (rest_of start end at (entry ∷ entries))
    of true leaves h rest = rest h
    of false outside h rest = which (test entry) refl h
      where
        which : (here : Bool) → test entry ≡ here → (here || list_any test stays) ≡ true
            → Has test (rest_of start end at (entry ∷ entries))
        which true passes h = rest_has test start end at entry entries passes outside
        which false other h = rest h

pub stays_deleted : (test : Entry → Bool) (start end : ℕ) (entries : List Entry)
    → Carries test (all_staying (record { start = start; end = end }) [] entries) (deleted entries start end)
stays_deleted test start end entries h =
    let first : start - 0 ≡ start = omega arith in
    let last : end - 0 ≡ end = omega arith in
    subst (Has test) (λ i. take (first i) entries ++ drop (last i) entries) (stays_in_rest test start end 0 entries h)

-- ---- a batch

or_last : (a b : Bool) → b ≡ true → (a || b) ≡ true
or_last true b h = refl
or_last false b h = h

pub stays_kept : (test : Entry → Bool) (dropped : Uris) (at : ℕ) (entries : List Entry)
    → Carries test (staying no_block dropped at entries) (kept entries dropped)
stays_kept test dropped at [] h = h
stays_kept test dropped at (entry ∷ entries) h =
    of (is_among dropped entry.uri) refl (takes no_block dropped at entry) refl (stays_kept test dropped (at + 1) entries) h
  where
    stays : List Entry
    stays = staying no_block dropped (at + 1) entries

    of : (goes : Bool) → is_among dropped entry.uri ≡ goes → (taken : Bool) → takes no_block dropped at entry ≡ taken
        → Carries test stays (kept entries dropped) → Has test (cond taken stays (entry ∷ stays))
        → Has test (cond (not goes) (entry ∷ kept entries dropped) (kept entries dropped))
    of true is false taken rest h = absurd (cc (or_last (nat_le 0 at && nat_lt at 0) (is_among dropped entry.uri) is))
    of true is true taken rest h = rest h
    of false is true taken rest h = has_later test entry (kept entries dropped) (rest h)
    of false is false taken rest h = has_more (test entry) (list_any test stays) (list_any test (kept entries dropped)) rest h
