-- Ids that are sorted by the words which were drawn for them are those of the entries sorted by these words.
use Rattle.std.proofs.Common.{◌≡◌, ◌≢◌, ℕ, ◌+◌, ◌<◌, false, ◌≤◌, List, [], ◌∷◌, ◌++◌, length, get_or, map, take, drop, slice_range, refl, sym, ap, ◌∙◌, subst, arith}
use Rattle.std.specs.List.{zip}
use Rattle.std.specs.List.Sorted.{IsPermutation}
use Rattle.std.specs.Ordering.{nat_cmp, is_lt, ordering_then}
use Rattle.std.proofs.lemmas.List.{length-map, get_or-map, map-append, take-map, drop-map}
use Rattle.std.proofs.lemmas.List.Edits.{split_between}
use Rattle.std.proofs.lemmas.List.Sorted.{IsPermutation-map, IsPermutation-append_left, IsPermutation-append_right}
use Rattle.play_queue.specs.declared.drawn.Drawn.{Drawn as Row}
use Rattle.play_queue.specs.Queue.{AllDiffer}
use Rattle.play_queue.specs.Shuffle.{goes_first, in_word_order, shuffled, sorted_by_words}
use Rattle.play_queue.specs.Songs.{Songs, song_of, entry_of, in_order}
use Rattle.play_queue.proofs.InOrder.{id-unstamped}
use Rattle.play_queue.proofs.OwnIds.{differ_at, all_differ-permutation, all_differ-front, all_differ-back}
use Rattle.play_queue.proofs.WordOrder.{Drawn, Before, drawn_ids, goes_first-cmp, before_or_after, rises_from_neighbours, word_order_is}

abbrev pub ids_drawn : List Row → List ℕ
ids_drawn rows = map (λ row. row.id) rows

abbrev pub words_drawn : List Row → List ℕ
words_drawn rows = map (λ row. row.word) rows

-- an entry behind its word
abbrev pair : Songs → Row → Drawn
pair songs row = (row.word, entry_of songs row.id)

pairs-zip : (songs : Songs) (rows : List Row) → map (pair songs) rows ≡ zip (words_drawn rows) (in_order songs (ids_drawn rows))
pairs-zip songs [] = refl
pairs-zip songs (row ∷ rows) = ap (λ rest. pair songs row ∷ rest) (pairs-zip songs rows)

entries-pairs : (songs : Songs) (rows : List Row)
    → map (λ (drawn : Drawn). drawn.1) (map (pair songs) rows) ≡ in_order songs (ids_drawn rows)
entries-pairs songs [] = refl
entries-pairs songs (row ∷ rows) = ap (λ rest. entry_of songs row.id ∷ rest) (entries-pairs songs rows)

ids-pairs : (songs : Songs) (rows : List Row) → drawn_ids (map (pair songs) rows) ≡ ids_drawn rows
ids-pairs songs [] = refl
ids-pairs songs (row ∷ rows) =
    ap (λ id. id ∷ drawn_ids (map (pair songs) rows)) (id-unstamped row.id (song_of songs row.id))
    ∙ ap (λ rest. row.id ∷ rest) (ids-pairs songs rows)

pub sorted_rows : (songs : Songs) (rows others : List Row) → AllDiffer (ids_drawn rows) → IsPermutation rows others
    → ((k : ℕ) (d : Row) → k + 1 < length others
    → is_lt (ordering_then (nat_cmp (get_or others (k + 1) d).word (get_or others k d).word)
    (nat_cmp (get_or others (k + 1) d).id (get_or others k d).id)) ≡ false)
    → in_order songs (ids_drawn others) ≡ sorted_by_words (words_drawn rows) (in_order songs (ids_drawn rows))
sorted_rows songs rows others own moved up =
    let pairs : List Drawn = map (pair songs) rows in
    let others_own : AllDiffer (ids_drawn others) =
    all_differ-permutation (ids_drawn rows) (ids_drawn others) (IsPermutation-map (λ (row : Row). row.id) rows others moved) own in
    let order : map (pair songs) others ≡ in_word_order pairs =
    word_order_is pairs (map (pair songs) others) (rw (ids-pairs songs rows) own)
    (IsPermutation-map (pair songs) rows others moved)
    (rises_from_neighbours (map (pair songs) others) (neighbours others_own)) in
    sym (entries-pairs songs others)
    ∙ ap (map (λ (drawn : Drawn). drawn.1)) (order ∙ ap in_word_order (pairs-zip songs rows))
  where
    neighbours : AllDiffer (ids_drawn others) → (k : ℕ) (d : Drawn) → k + 1 < length (map (pair songs) others)
        → Before (get_or (map (pair songs) others) k d) (get_or (map (pair songs) others) (k + 1) d)
    neighbours others_own k d within =
        let none : Row = record { word = 0; id = 0; near = 0 } in
        let same : length (map (pair songs) others) ≡ length others = length-map others (pair songs) in
        let one : Row = get_or others k none in
        let two : Row = get_or others (k + 1) none in
        let first : get_or (map (pair songs) others) k d ≡ pair songs one = get_or-map (pair songs) others k none d (omega arith) in
        let second : get_or (map (pair songs) others) (k + 1) d ≡ pair songs two =
        get_or-map (pair songs) others (k + 1) none d (omega arith) in
        let id_one : get_or (ids_drawn others) k 0 ≡ one.id = get_or-map (λ (row : Row). row.id) others k none 0 (omega arith) in
        let id_two : get_or (ids_drawn others) (k + 1) 0 ≡ two.id =
        get_or-map (λ (row : Row). row.id) others (k + 1) none 0 (omega arith) in
        let ids : length (ids_drawn others) ≡ length others = length-map others (λ (row : Row). row.id) in
        let shown_one : (entry_of songs one.id).id ≡ one.id = id-unstamped one.id (song_of songs one.id) in
        let shown_two : (entry_of songs two.id).id ≡ two.id = id-unstamped two.id (song_of songs two.id) in
        let apart : (entry_of songs two.id).id ≢ (entry_of songs one.id).id =
        rw (shown_one, shown_two, ← id_one, ← id_two)
        (differ_at (ids_drawn others) (k + 1) k others_own (omega arith) (omega arith) (omega arith)) in
        let not_less : goes_first (pair songs two) (pair songs one) ≡ false =
        rw (shown_one, shown_two) (sym (goes_first-cmp two.word one.word two.id one.id) ∙ up k none (omega arith)) in
        rw (first, second) (before_or_after (pair songs two) (pair songs one) apart not_less)

-- a block of ids is sorted
pub block_sorted : (songs : Songs) (order sorted words : List ℕ) (start end : ℕ)
    → in_order songs sorted ≡ sorted_by_words words (in_order songs (slice_range order start end))
    → in_order songs (take start order ++ (sorted ++ drop end order)) ≡ shuffled (in_order songs order) start end words
block_sorted songs order sorted words start end made =
    map-append (entry_of songs) (take start order) (sorted ++ drop end order)
    ∙ ap (λ l. in_order songs (take start order) ++ l) (map-append (entry_of songs) sorted (drop end order)
    ∙ ap (λ l. l ++ in_order songs (drop end order)) made)
    ∙ sym (simp (take-map, drop-map))

pub block_moved : (order sorted : List ℕ) (start end : ℕ) → start ≤ end → IsPermutation (slice_range order start end) sorted
    → IsPermutation order (take start order ++ (sorted ++ drop end order))
block_moved order sorted start end forward moved =
    let whole : IsPermutation (take start order ++ (slice_range order start end ++ drop end order))
    (take start order ++ (sorted ++ drop end order)) =
    IsPermutation-append_right (take start order) _ _ (IsPermutation-append_left (drop end order) _ _ moved) in
    rw (← split_between order start end forward) at whole

pub own-block : (order : List ℕ) (start end : ℕ) → start ≤ end → AllDiffer order → AllDiffer (slice_range order start end)
own-block order start end forward own =
    let split : order ≡ take start order ++ (slice_range order start end ++ drop end order) = split_between order start end forward in
    all_differ-front (slice_range order start end) (drop end order)
    (all_differ-back (take start order) (slice_range order start end ++ drop end order) (subst AllDiffer split own))
