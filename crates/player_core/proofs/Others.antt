-- Ids that leave a list one by one, or all at once.
use Rattle.std.proofs.Common.{◌≡◌, ℕ, ◌+◌, ◌<◌, ◌≤◌, min, ◌⊎◌, inl, inr, Bool, true, false, true≢false, cond, not, ◌&&◌, ◌||◌, eqb, arith}
use Rattle.std.proofs.Common.{List, [], ◌∷◌, length, get_or, drop, filter, refl, sym, ap, ◌∙◌}
use Rattle.std.specs.Prelude.{nat_eq}
use Rattle.std.specs.List.{list_any, IsDistinct, AllByRecursion}
use Rattle.std.proofs.lemmas.Bool.{cases_lt, eqb-true}
use Rattle.std.proofs.lemmas.List.{drop_more}
use Rattle.std.proofs.lemmas.Map.Keys.{IsDistinct-head, IsDistinct-tail}
use Rattle.play_queue.specs.declared.entry.Entry.{Entry}
use Rattle.play_queue.specs.Entries.{Uris}
use Rattle.player_core.specs.declared.block.Block.{Block}
use Rattle.player_core.specs.Staying.{takes}
use Rattle.player_core.specs.Player.{left_by, without}
use Rattle.player_core.specs.Removal.{Reaches, others}
use Rattle.player_core.proofs.LeftBlock.{left_by-front, left_by-back}

pub others_none : (played : List ℕ) → others [] played ≡ played
others_none [] = refl
others_none (id ∷ played) = ap (λ l. id ∷ l) (others_none played)

filter_alike : (p q : ℕ → Bool) (ids : List ℕ) → ((id : ℕ) → p id ≡ q id) → filter p ids ≡ filter q ids
filter_alike p q [] same = refl
filter_alike p q (id ∷ ids) same =
    let rest : filter p ids ≡ filter q ids = filter_alike p q ids same in
    λ i. cond (same id i) (id ∷ rest i) (rest i)

none_is : (id : ℕ) (ids : List ℕ) → AllByRecursion (λ other. eqb id other ≡ false) ids → list_any (eqb id) ids ≡ false
none_is id [] apart = refl
none_is id (other ∷ ids) apart = rw apart.0 (none_is id ids apart.1)

-- what is not in the list does not leave it
pub without-absent : (id : ℕ) (p : ℕ → Bool) (ids : List ℕ) → list_any (eqb id) ids ≡ false → without id (filter p ids) ≡ filter p ids
without-absent id p [] none = refl
without-absent id p (other ∷ ids) none = of (λ n. without-absent id p ids n) (p other) (eqb id other) refl none
  where
    rest : List ℕ
    rest = filter p ids

    of : (list_any (eqb id) ids ≡ false → without id rest ≡ rest) → (b e : Bool) → eqb id other ≡ e
        → (e || list_any (eqb id) ids) ≡ false → without id (cond b (other ∷ rest) rest) ≡ cond b (other ∷ rest) rest
    of shorter b true is none = absurd (true≢false none)
    of shorter true false is none = ap (λ e. cond e rest (other ∷ without id rest)) is ∙ ap (λ l. other ∷ l) (shorter none)
    of shorter false false is none = shorter none

-- where no id stands twice, to take one out is to leave it out
pub without-filter : (id : ℕ) (p : ℕ → Bool) (ids : List ℕ) → IsDistinct nat_eq ids
    → without id (filter p ids) ≡ filter (λ other. p other && not (eqb id other)) ids
without-filter id p [] apart = refl
without-filter id p (other ∷ ids) apart =
    of (without-filter id p ids (IsDistinct-tail nat_eq other ids apart)) (p other) (eqb id other) refl
  where
    rest : List ℕ
    rest = filter p ids

    less : List ℕ
    less = filter (λ other. p other && not (eqb id other)) ids

    alone : eqb id other ≡ true → list_any (eqb id) ids ≡ false
    alone is = ap (λ n. list_any (eqb n) ids) (eqb-true id other is) ∙ none_is other ids (IsDistinct-head nat_eq other ids apart)

    of : without id rest ≡ less → (b e : Bool) → eqb id other ≡ e
        → without id (cond b (other ∷ rest) rest) ≡ cond (b && not e) (other ∷ less) less
    of shorter false e is = shorter
    of shorter true true is = ap (λ e. cond e rest (other ∷ without id rest)) is ∙ sym (without-absent id p ids (alone is)) ∙ shorter
    of shorter true false is = ap (λ e. cond e rest (other ∷ without id rest)) is ∙ ap (λ l. other ∷ l) shorter

-- one id more is left out
pub others-more : (id : ℕ) (old new played : List ℕ) → IsDistinct nat_eq played
    → ((other : ℕ) → list_any (eqb other) new ≡ cond (eqb id other) true (list_any (eqb other) old))
    → others new played ≡ without id (others old played)
others-more id old new played apart told =
    filter_alike (λ other. not (list_any (eqb other) new)) (λ other. not (list_any (eqb other) old) && not (eqb id other)) played alike
    ∙ sym (without-filter id (λ other. not (list_any (eqb other) old)) played apart)
  where
    of : (e o : Bool) → not (cond e true o) ≡ (not o && not e)
    of true true = refl
    of true false = refl
    of false true = refl
    of false false = refl

    alike : (other : ℕ) → not (list_any (eqb other) new) ≡ (not (list_any (eqb other) old) && not (eqb id other))
    alike other = ap not (told other) ∙ of (eqb id other) (list_any (eqb other) old)

-- the entry at a position leaves, or stays
pub left_by-one : (block : Block) (dropped : Uris) (at : ℕ) (entry : Entry) (entries : List Entry) (played : List ℕ) (leaves : Bool)
    → at < length entries → entry ≡ get_or entries at entry → takes block dropped at entry ≡ leaves
    → left_by block dropped at (drop at entries) played
    ≡ left_by block dropped (at + 1) (drop (at + 1) entries) (cond leaves (without entry.id played) played)
left_by-one block dropped at entry entries played leaves within is taken =
    ap (λ l. left_by block dropped at l played) (drop_more entries at entry within ∙ ap (λ e. e ∷ drop (at + 1) entries) (sym is))
    ∙ ap (λ b. left_by block dropped (at + 1) (drop (at + 1) entries) (cond b (without entry.id played) played)) taken

-- an entry that leaves: its id is left out from now on
pub left_by-gathered : (block : Block) (dropped : Uris) (at : ℕ) (entry : Entry) (entries : List Entry) (old new played : List ℕ)
    → at < length entries → entry ≡ get_or entries at entry → takes block dropped at entry ≡ true → IsDistinct nat_eq played
    → ((other : ℕ) → list_any (eqb other) new ≡ cond (eqb entry.id other) true (list_any (eqb other) old))
    → left_by block dropped (at + 1) (drop (at + 1) entries) (others new played)
    ≡ left_by block dropped at (drop at entries) (others old played)
left_by-gathered block dropped at entry entries old new played within is taken apart told =
    ap (λ l. left_by block dropped (at + 1) (drop (at + 1) entries) l) (others-more entry.id old new played apart told)
    ∙ sym (left_by-one block dropped at entry entries (others old played) true within is taken)

-- an entry that stays
pub left_by-kept : (block : Block) (dropped : Uris) (at : ℕ) (entry : Entry) (entries : List Entry) (played : List ℕ)
    → at < length entries → entry ≡ get_or entries at entry → takes block dropped at entry ≡ false
    → left_by block dropped (at + 1) (drop (at + 1) entries) played ≡ left_by block dropped at (drop at entries) played
left_by-kept block dropped at entry entries played within is kept =
    sym (left_by-one block dropped at entry entries played false within is kept)

-- an entry whose id is not in the list
pub left_by-absent : (block : Block) (dropped : Uris) (at : ℕ) (entry : Entry) (entries : List Entry) (ids played : List ℕ)
    → at < length entries → entry ≡ get_or entries at entry → list_any (eqb entry.id) played ≡ false
    → left_by block dropped (at + 1) (drop (at + 1) entries) (others ids played)
    ≡ left_by block dropped at (drop at entries) (others ids played)
left_by-absent block dropped at entry entries ids played within is none =
    of (takes block dropped at entry)
    ∙ sym (left_by-one block dropped at entry entries (others ids played) (takes block dropped at entry) within is refl)
  where
    of : (b : Bool) → left_by block dropped (at + 1) (drop (at + 1) entries) (others ids played)
        ≡ left_by block dropped (at + 1) (drop (at + 1) entries) (cond b (without entry.id (others ids played)) (others ids played))
    of true = ap (λ l. left_by block dropped (at + 1) (drop (at + 1) entries) l)
        (sym (without-absent entry.id (λ id. not (list_any (eqb id) ids)) played none))
    of false = refl

-- of a block alone, entries leave between its positions
pub reaches-block : (block : Block) (dropped : Uris) (entries : List Entry) (start end : ℕ) → length dropped ≡ 0
    → start ≡ min block.start end → end ≡ min block.end (length entries)
    → Reaches block dropped entries (record { start = start; end = end })
reaches-block block (uri ∷ dropped) entries start end none low high = absurd (omega arith)
reaches-block block [] entries start end none low high = record {
  rises = omega (arith, low);
  stands = omega (arith, high);
  front = λ played. left_by-front block start entries played (omega (arith, low));
  back = λ played. left_by-back block end entries played (past (cases_lt block.end (length entries)));
}
  where
    past : (block.end < length entries) ⊎ (length entries ≤ block.end) → (block.end ≤ end) ⊎ (length entries ≤ end)
    past (inl under) = inl (omega (arith, high))
    past (inr over) = inr (omega (arith, high))
