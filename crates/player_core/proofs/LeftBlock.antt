-- Of a block alone, the entries at its positions leave the played list, and no others.
use Rattle.std.proofs.Common.{◌≡◌, ℕ, zero, suc, ◌+◌, ◌<◌, ◌≤◌, Bool, true, false, cond, ◌&&◌, ◌||◌, ◌⊎◌, inl, inr, nat_le}
use Rattle.std.proofs.Common.{List, [], ◌∷◌, length, get_or, drop, refl, sym, ap, ◌∙◌, arith, length-drop}
use Rattle.std.proofs.lemmas.Bool.{cases_lt, lt-leb, le-ltb}
use Rattle.std.proofs.lemmas.List.{drop_more, drop_all}
use Rattle.play_queue.specs.declared.entry.Entry.{Entry}
use Rattle.player_core.specs.declared.block.Block.{Block}
use Rattle.player_core.specs.Staying.{takes}
use Rattle.player_core.specs.Player.{left_by, without}

pub takes-before : (block : Block) (at : ℕ) (entry : Entry) → at < block.start → takes block [] at entry ≡ false
takes-before block at entry low = rw (lt-leb block.start at low) refl

pub takes-after : (block : Block) (at : ℕ) (entry : Entry) → block.end ≤ at → takes block [] at entry ≡ false
takes-after block at entry high = rw (le-ltb at block.end high) (of (nat_le block.start at))
  where
    of : (b : Bool) → ((b && false) || false) ≡ false
    of true = refl
    of false = refl

first-left : (block : Block) (at : ℕ) (entry : Entry) (entries : List Entry) (played : List ℕ) (b : Bool)
    → takes block [] at entry ≡ b → left_by block [] at (entry ∷ entries) played
    ≡ left_by block [] (at + 1) entries (cond b (without entry.id played) played)
first-left block at entry entries played b is = ap (λ t. left_by block [] (at + 1) entries (cond t (without entry.id played) played)) is

left_by-before : (block : Block) (at : ℕ) (entries : List Entry) (played : List ℕ) → at < block.start
    → left_by block [] at (drop at entries) played ≡ left_by block [] (at + 1) (drop (at + 1) entries) played
left_by-before block at entries played low = of (drop at entries) refl (cases_lt at (length entries))
  where
    of : (l : List Entry) → drop at entries ≡ l → (at < length entries) ⊎ (length entries ≤ at)
        → left_by block [] at (drop at entries) played ≡ left_by block [] (at + 1) (drop (at + 1) entries) played
    of l is (inr past) = rw (drop_all at entries past, drop_all (at + 1) entries (omega arith)) refl
    of [] is (inl within) = absurd (omega (arith, ap length is, length-drop at entries))
    of (entry ∷ rest) is (inl within) =
        let cut : drop at entries ≡ get_or entries at entry ∷ drop (at + 1) entries = drop_more entries at entry within in
        ap (λ m. left_by block [] at m played) cut ∙ first-left block at (get_or entries at entry) (drop
        (at + 1) entries) played false (takes-before block at (get_or entries at entry) low)

-- nothing leaves in front of the block
pub left_by-front : (block : Block) (n : ℕ) (entries : List Entry) (played : List ℕ) → n ≤ block.start
    → left_by block [] n (drop n entries) played ≡ left_by block [] 0 entries played
left_by-front block zero entries played low = refl
left_by-front block (suc n) entries played low =
    ap (λ m. left_by block [] m (drop m entries) played) (next n) ∙ sym (left_by-before block n entries played (omega arith))
    ∙ left_by-front block n entries played (omega arith)
  where
    next : (m : ℕ) → suc m ≡ m + 1
    next m = omega arith

left_by-past : (block : Block) (at : ℕ) (entries : List Entry) (played : List ℕ) → block.end ≤ at
    → left_by block [] at entries played ≡ played
left_by-past block at [] played high = refl
left_by-past block at (entry ∷ entries) played high = first-left block at entry entries played false
    (takes-after block at entry high) ∙ left_by-past block (at + 1) entries played (omega arith)

-- nothing leaves behind it
pub left_by-back : (block : Block) (at : ℕ) (entries : List Entry) (played : List ℕ) → (block.end ≤ at) ⊎ (length entries ≤ at)
    → left_by block [] at (drop at entries) played ≡ played
left_by-back block at entries played (inl high) = left_by-past block at (drop at entries) played high
left_by-back block at entries played (inr past) = rw (drop_all at entries past) refl

-- nothing leaves an empty list
pub left_by-empty : (block : Block) (dropped : List (List ℕ)) (at : ℕ) (entries : List Entry) → left_by block dropped at entries [] ≡ []
left_by-empty block dropped at [] = refl
left_by-empty block dropped at (entry ∷ entries) = of (takes block dropped at entry) ∙ left_by-empty block dropped (at + 1) entries
  where
    of : (b : Bool) → left_by block dropped (at + 1) entries (cond b (without entry.id []) []) ≡ left_by block dropped (at + 1) entries []
    of true = refl
    of false = refl

pub left_by-none : (block : Block) (dropped : List (List ℕ)) (entries : List Entry) (played : List ℕ) → length played ≡ 0
    → played ≡ left_by block dropped 0 entries played
left_by-none block dropped entries [] none = sym (left_by-empty block dropped 0 entries)
left_by-none block dropped entries (id ∷ played) none = absurd (omega arith)
