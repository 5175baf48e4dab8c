-- The ids that a removal takes out of a played list, entry by entry, are those of the entries that leave, each looked for by itself.
use Rattle.std.proofs.Common.{◌≡◌, ◌≢◌, ℕ, suc, ◌+◌, ◌<◌, Bool, true, false, cond, not, ◌==◌, List, [], ◌∷◌, length, filter, get_or}
use Rattle.std.proofs.Common.{refl, sym, ap, ◌∙◌, arith}
use Rattle.std.specs.List.{AllByRecursion}
use Rattle.std.proofs.lemmas.Bool.{eqb-true, false≢true, ne_eqb}
use Rattle.play_queue.specs.declared.entry.Entry.{Entry}
use Rattle.play_queue.specs.Entries.{Uris}
use Rattle.play_queue.specs.Queue.{AllDiffer, ids_of}
use Rattle.player_core.specs.Place.{id_leaves, without_id}
use Rattle.player_core.specs.Player.{left_by, without}
use Rattle.player_core.specs.Staying.{takes}
use Rattle.player_core.specs.declared.block.Block.{Block}
use Rattle.player_core.proofs.LeftIds.{filter_same, goes_from, id_goes}
use Rattle.machine_core.specs.Sound.{AreOwn}
use Rattle.machine_core.proofs.Rounds.Following.{without_is}
use Rattle.machine_core.proofs.Sound.Ids.{own_without}

-- the ids of a queue stand once
apart_from : (id : ℕ) (ids : List ℕ) → ((k : ℕ) → k < length ids → id ≢ get_or ids k 0) → AllByRecursion (λ other. (id == other) ≡ false) ids
apart_from id [] apart = tt
apart_from id (other ∷ ids) apart =
    (ne_eqb id other (apart 0 (omega arith)), apart_from id ids (λ k within. apart (suc k) (omega (arith, within))))

pub own_ids : (ids : List ℕ) → AllDiffer ids → AreOwn ids
own_ids [] own = tt
own_ids (id ∷ ids) own = (
  apart_from id ids (λ k within. own 0 (suc k) 0 (omega arith) (omega (arith, within))),
  own_ids ids (λ i j d below within. own (suc i) (suc j) d (omega (arith, below)) (omega (arith, within))),
)

-- ---- a filter in two steps

filter_true : (xs : List ℕ) → filter (λ x. true) xs ≡ xs
filter_true [] = refl
filter_true (x ∷ xs) = ap (λ l. x ∷ l) (filter_true xs)

filter_twice : (first : ℕ) (test : ℕ → Bool) (xs : List ℕ)
    → filter (λ id. not (test id)) (without_id first xs) ≡ filter (λ id. not (cond (first == id) true (test id))) xs
filter_twice first test [] = refl
filter_twice first test (x ∷ xs) = of (first == x) (filter_twice first test xs)
  where
    of : (b : Bool) → filter (λ id. not (test id)) (without_id first xs) ≡ filter (λ id. not (cond (first == id) true (test id))) xs
        → filter (λ id. not (test id)) (cond (not b) (x ∷ without_id first xs) (without_id first xs))
        ≡ cond (not (cond b true (test x))) (x ∷ filter (λ id. not (cond (first == id) true (test id))) xs)
        (filter (λ id. not (cond (first == id) true (test id))) xs)
    of true rest = rest
    of false rest =
        ap (λ l. cond (not (test x)) (x ∷ l) l) rest

-- no later entry has the id
none_later : (block : Block) (dropped : Uris) (at : ℕ) (entries : List Entry) (id : ℕ)
    → AllByRecursion (λ other. (id == other) ≡ false) (ids_of entries) → goes_from block dropped at entries id ≡ false
none_later block dropped at [] id apart = refl
none_later block dropped at (entry ∷ entries) id apart = of (entry.id == id) refl (none_later block dropped (at + 1) entries id apart.1)
  where
    of : (b : Bool) → (entry.id == id) ≡ b → goes_from block dropped (at + 1) entries id ≡ false
        → cond b (takes block dropped at entry) (goes_from block dropped (at + 1) entries id) ≡ false
    of true same rest =
        let equal : entry.id ≡ id = eqb-true entry.id id same in
        absurd (false≢true (sym apart.0 ∙ ap (λ n. n == entry.id) (sym equal) ∙ ap (λ n. entry.id == n) equal ∙ same))
    of false other rest = rest

left_from : (block : Block) (dropped : Uris) (at : ℕ) (entries : List Entry) (played : List ℕ) → AreOwn (ids_of entries) → AreOwn played
    → left_by block dropped at entries played ≡ filter (λ id. not (goes_from block dropped at entries id)) played
left_from block dropped at [] played own once = sym (filter_true played)
left_from block dropped at (entry ∷ entries) played own once =
    of (takes block dropped at entry) (left_from block dropped (at + 1) entries (without entry.id played) own.1
    (own_without entry.id played once)) (left_from block dropped (at + 1) entries played own.1 once)
  where
    goes : ℕ → Bool
    goes id = goes_from block dropped (at + 1) entries id

    keeps : (id : ℕ) → not (goes id) ≡ not (cond (entry.id == id) false (goes id))
    keeps id = by (entry.id == id) refl
      where
        by : (b : Bool) → (entry.id == id) ≡ b → not (goes id) ≡ not (cond b false (goes id))
        by true same =
            ap not (ap goes (sym (eqb-true entry.id id same)) ∙ none_later block dropped (at + 1) entries entry.id own.0)
        by false other = refl

    of : (b : Bool)
        → left_by block dropped (at + 1) entries (without entry.id played) ≡ filter (λ id. not (goes id)) (without entry.id played)
        → left_by block dropped (at + 1) entries played ≡ filter (λ id. not (goes id)) played
        → left_by block dropped (at + 1) entries (cond b (without entry.id played) played)
        ≡ filter (λ id. not (cond (entry.id == id) b (goes id))) played
    of true leaves stays =
        leaves ∙ ap (filter (λ id. not (goes id))) (without_is entry.id played once) ∙ filter_twice entry.id goes played
    of false leaves stays =
        stays ∙ filter_same (λ id. not (goes id)) (λ id. not (cond (entry.id == id) false (goes id))) played keeps

-- so the kept round is filtered as the player's
pub left_is : (block : Block) (dropped : Uris) (entries : List Entry) (played : List ℕ) → AreOwn (ids_of entries) → AreOwn played
    → left_by block dropped 0 entries played ≡ filter (λ id. not (id_leaves block dropped entries id)) played
left_is block dropped entries played own once =
    left_from block dropped 0 entries played own once
    ∙ filter_same (λ id. not (goes_from block dropped 0 entries id)) (λ id. not (id_leaves block dropped entries id)) played
    (λ id. ap not (sym (id_goes block dropped entries id)))
