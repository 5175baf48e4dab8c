-- What stays where nothing leaves.
use Rattle.std.proofs.Common.{◌≡◌, ℕ, suc, ◌+◌, ◌<◌, Bool, true, false, cond, ◌&&◌, ◌||◌, nat_le, List, [], ◌∷◌, length}
use Rattle.std.proofs.Common.{get_or, drop, filter, Some, refl, sym, ap, subst, ◌∙◌, arith}
use Rattle.std.proofs.lemmas.Bool.{le-ltb}
use Rattle.std.proofs.Math.Seq.{drop-cons}
use Rattle.play_queue.specs.declared.entry.Entry.{Entry}
use Rattle.play_queue.specs.Entries.{Uris}
use Rattle.player_core.specs.declared.block.Block.{Block}
use Rattle.player_core.specs.Staying.{takes, staying, first_id}
use Rattle.player_core.specs.Candidates.{is_counted}

pub staying-all : (at : ℕ) (entries : List Entry) → staying (record { start = 0; end = 0 }) [] at entries ≡ entries
staying-all at [] = refl
staying-all at (entry ∷ entries) = rw (le-ltb at 0 (omega arith)) (of (nat_le 0 at)) ∙ ap (λ l. entry ∷ l) (staying-all (at + 1) entries)
  where
    rest : List Entry
    rest = staying (record { start = 0; end = 0 }) [] (at + 1) entries

    of : (b : Bool) → cond ((b && false) || false) rest (entry ∷ rest) ≡ entry ∷ rest
    of true = refl
    of false = refl

cut : (at : ℕ) (entry : Entry) (entries : List Entry) → at < length entries → entry ≡ get_or entries at entry
    → drop at entries ≡ entry ∷ drop (at + 1) entries
cut at entry entries within is = subst (λ e. drop at entries ≡ e ∷ drop (suc at) entries) (sym is)
    (drop-cons entries at entry within) ∙ ap (λ n. entry ∷ drop n entries) (after at)
  where
    after : (n : ℕ) → suc n ≡ n + 1
    after n = omega arith

-- the first that stays
pub staying-stays : (block : Block) (dropped : Uris) (at : ℕ) (entry : Entry) (entries : List Entry) → at < length entries
    → entry ≡ get_or entries at entry → takes block dropped at entry ≡ false
    → Some entry.id ≡ first_id (staying block dropped at (drop at entries))
staying-stays block dropped at entry entries within is stays =
    sym (ap (λ l. first_id (staying block dropped at l)) (cut at entry entries within is) ∙ rw stays refl)

-- the first that stays stands behind one that leaves
pub staying-leaves : (block : Block) (dropped : Uris) (at : ℕ) (entry : Entry) (entries : List Entry) → at < length entries
    → entry ≡ get_or entries at entry → takes block dropped at entry ≡ true
    → first_id (staying block dropped (at + 1) (drop (at + 1) entries)) ≡ first_id (staying block dropped at (drop at entries))
staying-leaves block dropped at entry entries within is leaves =
    sym (ap (λ l. first_id (staying block dropped at l)) (cut at entry entries within is) ∙ rw leaves refl)

-- all count in a new round
pub counted-all : (current : ℕ) (played : List ℕ) (entries : List Entry) → filter (is_counted true current played) entries ≡ entries
counted-all current played [] = refl
counted-all current played (entry ∷ entries) = ap (λ l. entry ∷ l) (counted-all current played entries)
