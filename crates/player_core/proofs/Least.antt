-- The least of the entries that are drawn, found from the last one on.
use Rattle.std.proofs.Common.{◌≡◌, ℕ, suc, ◌+◌, ◌<◌, Bool, true, false, cond, not, ◌&&◌, List, [], ◌∷◌, length}
use Rattle.std.proofs.Common.{get_or, map, filter, drop, Option, Some, None, option_map, refl, sym, ap, subst, ◌∙◌, arith}
use Rattle.std.proofs.Math.Seq.{drop-cons}
use Rattle.play_queue.specs.declared.entry.Entry.{Entry}
use Rattle.play_queue.specs.Entries.{Uris}
use Rattle.player_core.specs.declared.block.Block.{Block}
use Rattle.player_core.specs.RandomOrder.{Drawn, goes_before, put_in, in_order, first_of}
use Rattle.player_core.specs.Staying.{takes, staying}
use Rattle.player_core.specs.Choice.{drawn_by}
use Rattle.player_core.specs.Candidates.{is_first}

abbrev pub first_drawn : List Drawn → Option Drawn
first_drawn [] = None
first_drawn (drawn ∷ others) = Some drawn

-- the one that goes first of a new one and the best so far
abbrev pub better : Drawn → Option Drawn → Option Drawn
better drawn best = cond (is_first drawn best) (Some drawn) best

pub first_drawn-put_in : (drawn : Drawn) (others : List Drawn) → first_drawn (put_in drawn others) ≡ better drawn (first_drawn others)
first_drawn-put_in drawn [] = refl
first_drawn-put_in drawn (other ∷ others) = of (goes_before drawn other)
  where
    of : (b : Bool) → first_drawn (cond b (drawn ∷ (other ∷ others)) (other ∷ put_in drawn others)) ≡ cond b (Some drawn) (Some other)
    of true = refl
    of false = refl

pub first_of-drawn : (drawn : List Drawn) → first_of (map (λ (one : Drawn). one.0) drawn)
    ≡ option_map (λ (one : Drawn). one.0) (first_drawn drawn)
first_of-drawn [] = refl
first_of-drawn (one ∷ others) = refl

-- the best of the entries from a position on
abbrev pub best_from : List ℕ → ℕ → (Entry → Bool) → Block → Uris → ℕ → List Entry → Option Drawn
best_from key order test block dropped at entries = first_drawn (in_order (map (drawn_by key order) (filter test
    (staying block dropped at entries))))

pub best_from-cons : (key : List ℕ) (order : ℕ) (test : Entry → Bool) (block : Block) (dropped : Uris) (at : ℕ) (entry : Entry)
    (entries : List Entry) → best_from key order test block dropped at (entry ∷ entries)
    ≡ cond (not (takes block dropped at entry) && test entry) (better (drawn_by key order entry)
    (best_from key order test block dropped (at + 1) entries)) (best_from key order test block dropped (at + 1) entries)
best_from-cons key order test block dropped at entry entries = of (takes block dropped at entry) (test entry) refl
  where
    rest : List Entry
    rest = staying block dropped (at + 1) entries

    of : (taken counted : Bool) → test entry ≡ counted → first_drawn (in_order (map (drawn_by key order) (filter test (cond taken rest
        (entry ∷ rest))))) ≡ cond (not taken && counted) (better (drawn_by key order entry)
        (best_from key order test block dropped (at + 1) entries)) (best_from key order test block dropped (at + 1) entries)
    of true counted is = refl
    of false true is = rw is (first_drawn-put_in (drawn_by key order entry) (in_order (map (drawn_by key order) (filter test rest))))
    of false false is = rw is refl

module _ (key : List ℕ) (order : ℕ) (test : Entry → Bool) (block : Block) (dropped : Uris) (k at : ℕ) (entry : Entry)
    (entries : List Entry) (next : k + 1 ≡ at) (within : k < length entries) (is : entry ≡ get_or entries k entry) where
  abbrev pub drawn : Drawn
  drawn = drawn_by key order entry

  abbrev pub behind : Option Drawn
  behind = best_from key order test block dropped at (drop at entries)

  after : suc k ≡ k + 1
  after = omega arith

  cut : drop k entries ≡ entry ∷ drop (k + 1) entries
  cut = subst (λ e. drop k entries ≡ e ∷ drop (suc k) entries) (sym is) (drop-cons entries k entry within)
      ∙ ap (λ n. entry ∷ drop n entries) after

  -- one entry more in front
  one_more : best_from key order test block dropped k (drop k entries)
      ≡ cond (not (takes block dropped k entry) && test entry) (better drawn behind) behind
  one_more = ap (λ l. best_from key order test block dropped k l) cut
      ∙ best_from-cons key order test block dropped k entry (drop (k + 1) entries)
      ∙ ap (λ n. cond (not (takes block dropped k entry) && test entry) (better drawn (best_from key order test block dropped n
      (drop n entries))) (best_from key order test block dropped n (drop n entries))) next

  -- it stays, counts, and goes before the best behind it
  pub best_from-first : (best : Option Drawn) → best ≡ behind → is_first drawn best ≡ true → takes block dropped k entry ≡ false
      → test entry ≡ true → Some drawn ≡ best_from key order test block dropped k (drop k entries)
  best_from-first best so_far first stays counts =
      sym (one_more ∙ rw (stays, counts, sym so_far, first) refl)

  -- the best stays: the entry goes behind it, leaves, or does not count
  pub best_from-behind : (best : Option Drawn) → best ≡ behind → is_first drawn best ≡ false
      → best ≡ best_from key order test block dropped k (drop k entries)
  best_from-behind best so_far last =
      sym (one_more ∙ rw (sym so_far, last) (of (not (takes block dropped k entry) && test entry)))
    where
      of : (b : Bool) → cond b best best ≡ best
      of true = refl
      of false = refl

  pub best_from-leaves : (best : Option Drawn) → best ≡ behind → takes block dropped k entry ≡ true
      → best ≡ best_from key order test block dropped k (drop k entries)
  best_from-leaves best so_far leaves = so_far ∙ sym (one_more ∙ rw leaves refl)

  pub best_from-uncounted : (best : Option Drawn) → best ≡ behind → takes block dropped k entry ≡ false → test entry ≡ false
      → best ≡ best_from key order test block dropped k (drop k entries)
  best_from-uncounted best so_far stays uncounted = so_far ∙ sym (one_more ∙ rw (stays, uncounted) refl)
