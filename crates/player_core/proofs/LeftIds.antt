-- The ids of the entries that leave the queue, each looked for by itself, and those of a block, which leave one after the other.
use Rattle.std.proofs.Common.{◌≡◌, ◌≢◌, ℕ, zero, suc, ◌+◌, ◌-◌, ◌<◌, ◌≤◌, Bool, true, false, cond, not, ◌==◌, ◌||◌, List, [], ◌∷◌, length}
use Rattle.std.proofs.Common.{filter, get_or, slice_get, slice_range, take, drop, Some, refl, sym, ap, ◌∙◌, arith}
use Rattle.std.specs.List.{list_any, position_from}
use Rattle.std.specs.Option.{option_map_or}
use Rattle.std.proofs.lemmas.Bool.{eqb-true, le-leb, lt-ltb}
use Rattle.std.proofs.lemmas.Iterator.Adapters.{position_from-zero}
use Rattle.play_queue.specs.declared.entry.Entry.{Entry}
use Rattle.play_queue.specs.Entries.{Uris}
use Rattle.play_queue.specs.Queue.{AllDiffer, HaveOwnIds, ids_of}
use Rattle.player_core.specs.declared.block.Block.{Block}
use Rattle.player_core.specs.Place.{id_leaves, without_id}
use Rattle.player_core.specs.Removal.{IsFew, without_ids}
use Rattle.player_core.specs.Reports.{takes_at}
use Rattle.player_core.specs.Staying.{takes}
use Rattle.player_core.proofs.LeftBlock.{takes-after, takes-before}

-- ---- the entry of an id leaves

-- of entries whose first one stands at a position
abbrev pub goes_from : Block → Uris → ℕ → List Entry → ℕ → Bool
goes_from block dropped at [] id = false
goes_from block dropped at (entry ∷ entries) id =
    cond (entry.id == id) (takes block dropped at entry) (goes_from block dropped (at + 1) entries id)

looked_for : (block : Block) (dropped : Uris) (all entries : List Entry) (at id : ℕ) → ((k : ℕ) → slice_get all (at + k) ≡ slice_get entries k)
    → option_map_or (takes_at block dropped all) (position_from (λ entry. entry.id == id) at entries) false
    ≡ goes_from block dropped at entries id
looked_for block dropped all [] at id stands = refl
looked_for block dropped all (entry ∷ entries) at id stands =
    of (entry.id == id) (looked_for block dropped all entries (at + 1) id (λ k. ap (slice_get all) (later k) ∙ stands (suc k)))
  where
    later : (k : ℕ) → at + 1 + k ≡ at + suc k
    later k = omega arith

    here : slice_get all at ≡ Some entry
    here = let same : at ≡ at + 0 = omega arith in ap (slice_get all) same ∙ stands 0

    of : (b : Bool)
        → option_map_or (takes_at block dropped all) (position_from (λ e. e.id == id) (at + 1) entries) false
        ≡ goes_from block dropped (at + 1) entries id
        → option_map_or (takes_at block dropped all) (cond b (Some at) (position_from (λ e. e.id == id) (at + 1) entries)) false
        ≡ cond b (takes block dropped at entry) (goes_from block dropped (at + 1) entries id)
    of true rest = ap (λ found. option_map_or (takes block dropped at) found false) here
    of false rest = rest

pub id_goes : (block : Block) (dropped : Uris) (entries : List Entry) (id : ℕ)
    → id_leaves block dropped entries id ≡ goes_from block dropped 0 entries id
id_goes block dropped entries id =
    ap (λ at. option_map_or (takes_at block dropped entries) at false) (position_from-zero (λ (entry : Entry). entry.id == id) entries)
    ∙ looked_for block dropped entries entries 0 id (λ k. let same : 0 + k ≡ k = omega arith in ap (slice_get entries) same)

-- ---- the ids of a block

abbrev has : List ℕ → ℕ → Bool
has ids id = list_any (λ other. other == id) ids

-- no entry has an id that is none of theirs
none_has : (block : Block) (at : ℕ) (entries : List Entry) (id : ℕ)
    → ((k : ℕ) → k < length (ids_of entries) → id ≢ get_or (ids_of entries) k 0) → goes_from block [] at entries id ≡ false
none_has block at [] id apart = refl
none_has block at (entry ∷ entries) id apart =
    of (entry.id == id) refl (none_has block (at + 1) entries id (λ k within. apart (suc k) (omega (arith, within))))
  where
    of : (b : Bool) → (entry.id == id) ≡ b → goes_from block [] (at + 1) entries id ≡ false
        → cond b (takes block [] at entry) (goes_from block [] (at + 1) entries id) ≡ false
    of true same rest = absurd (apart 0 (omega arith) (sym (eqb-true entry.id id same)))
    of false other rest = rest

own_rest : (id : ℕ) (ids : List ℕ) → AllDiffer (id ∷ ids) → AllDiffer ids
own_rest id ids own = λ i j d below within. own (suc i) (suc j) d (omega (arith, below)) (omega (arith, within))

-- an entry that stays leaves it to the others whether an id goes
passed_by : (block : Block) (at : ℕ) (entry : Entry) (entries : List Entry) (id : ℕ) → AllDiffer (ids_of (entry ∷ entries))
    → takes block [] at entry ≡ false → goes_from block [] at (entry ∷ entries) id ≡ goes_from block [] (at + 1) entries id
passed_by block at entry entries id own stays = of (entry.id == id) refl
  where
    of : (b : Bool) → (entry.id == id) ≡ b
        → cond b (takes block [] at entry) (goes_from block [] (at + 1) entries id) ≡ goes_from block [] (at + 1) entries id
    of true same =
        let equal : entry.id ≡ id = eqb-true entry.id id same in
        stays ∙ sym (none_has block (at + 1) entries id (λ k within is. own 0 (suc k) 0 (omega arith) (omega (arith, within)) (equal ∙ is)))
    of false other = refl

-- behind the block none goes
goes_past : (block : Block) (at : ℕ) (entries : List Entry) (id : ℕ) → AllDiffer (ids_of entries) → block.end ≤ at
    → goes_from block [] at entries id ≡ false
goes_past block at [] id own past = refl
goes_past block at (entry ∷ entries) id own past =
    passed_by block at entry entries id own (takes-after block at entry past)
    ∙ goes_past block (at + 1) entries id (own_rest entry.id (ids_of entries) own) (omega (arith, past))

takes_in : (block : Block) (at : ℕ) (entry : Entry) → block.start ≤ at → at < block.end → takes block [] at entry ≡ true
takes_in block at entry begun under = rw (le-leb block.start at begun, lt-ltb at block.end under) refl

goes_in : (block : Block) (at m : ℕ) (entries : List Entry) (id : ℕ) → AllDiffer (ids_of entries) → block.start ≤ at → block.end ≡ at + m
    → goes_from block [] at entries id ≡ has (take m (ids_of entries)) id
goes_in block at zero [] id own begun ends = refl
goes_in block at (suc m) [] id own begun ends = refl
goes_in block at zero (entry ∷ entries) id own begun ends = goes_past block at (entry ∷ entries) id own (omega (arith, ends))
goes_in block at (suc m) (entry ∷ entries) id own begun ends =
    of (entry.id == id)
    (goes_in block (at + 1) m entries id (own_rest entry.id (ids_of entries) own) (omega (arith, begun)) (omega (arith, ends)))
  where
    of : (b : Bool) → goes_from block [] (at + 1) entries id ≡ has (take m (ids_of entries)) id
        → cond b (takes block [] at entry) (goes_from block [] (at + 1) entries id) ≡ (b || has (take m (ids_of entries)) id)
    of true rest = takes_in block at entry begun (omega (arith, ends))
    of false rest = rest

goes_to : (block : Block) (at n m : ℕ) (entries : List Entry) (id : ℕ) → AllDiffer (ids_of entries) → block.start ≡ at + n
    → block.end ≡ at + n + m → goes_from block [] at entries id ≡ has (take m (drop n (ids_of entries))) id
goes_to block at zero m entries id own begins ends =
    goes_in block at m entries id own (omega (arith, begins)) (omega (arith, ends))
goes_to block at (suc n) zero [] id own begins ends = refl
goes_to block at (suc n) (suc m) [] id own begins ends = refl
goes_to block at (suc n) m (entry ∷ entries) id own begins ends =
    passed_by block at entry entries id own (takes-before block at entry (omega (arith, begins)))
    ∙ goes_to block (at + 1) n m entries id (own_rest entry.id (ids_of entries) own) (omega (arith, begins)) (omega (arith, ends))

-- ---- ids leave one after the other

pub filter_same : (one other : ℕ → Bool) (xs : List ℕ) → ((x : ℕ) → one x ≡ other x) → filter one xs ≡ filter other xs
filter_same one other [] same = refl
filter_same one other (x ∷ xs) same =
    (λ i. cond (same x i) (x ∷ filter_same one other xs same i) (filter_same one other xs same i))

filter_none : (xs : List ℕ) → xs ≡ filter (λ id. not (has [] id)) xs
filter_none [] = refl
filter_none (x ∷ xs) = ap (λ l. x ∷ l) (filter_none xs)

filter_twice : (first : ℕ) (test : ℕ → Bool) (xs : List ℕ)
    → filter (λ id. not (test id)) (without_id first xs) ≡ filter (λ id. not (first == id || test id)) xs
filter_twice first test [] = refl
filter_twice first test (x ∷ xs) = of (first == x) (filter_twice first test xs)
  where
    of : (b : Bool) → filter (λ id. not (test id)) (without_id first xs) ≡ filter (λ id. not (first == id || test id)) xs
        → filter (λ id. not (test id)) (cond (not b) (x ∷ without_id first xs) (without_id first xs))
        ≡ cond (not (b || test x)) (x ∷ filter (λ id. not (first == id || test id)) xs)
        (filter (λ id. not (first == id || test id)) xs)
    of true rest = rest
    of false rest = ap (λ l. cond (not (test x)) (x ∷ l) l) rest

without_is : (ids played : List ℕ) → without_ids ids played ≡ filter (λ id. not (has ids id)) played
without_is [] played = filter_none played
without_is (id ∷ ids) played = without_is ids (without_id id played) ∙ filter_twice id (has ids) played

-- so the ids of a block leave, where it leaves alone
pub few_leave : (block : Block) (dropped : Uris) (entries : List Entry) (played : List ℕ) → IsFew block dropped entries → HaveOwnIds entries
    → without_ids (slice_range (ids_of entries) block.start block.end) played
    ≡ filter (λ id. not (id_leaves block dropped entries id)) played
few_leave block [] entries played few own =
    without_is (slice_range (ids_of entries) block.start block.end) played
    ∙ filter_same _ _ played (λ id. ap not (sym (id_goes block [] entries id
    ∙ goes_to block 0 block.start (block.end - block.start) entries id own (omega arith) (omega (arith, few.rises)))))
few_leave block (uri ∷ dropped) entries played few own = let no : ⊥ = omega (arith, few.alone) in absurd no
