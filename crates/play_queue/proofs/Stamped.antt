-- Entries with the stamps of their positions.
use Rattle.std.proofs.Common.{◌≡◌, ◌≢◌, ℕ, zero, suc, ◌+◌, ◌-◌, ◌<◌, ◌≤◌, Bool, true, false, cond, not, ◌==◌, ◌||◌, ◌⊎◌, inl, inr, List, [], ◌∷◌, ◌++◌, length, get_or}
use Rattle.std.proofs.Common.{set, map, take, drop, replicate, slice_range, length-drop, refl, sym, ap, ◌∙◌, arith}
use Rattle.std.specs.List.{list_any, swap}
use Rattle.std.proofs.lemmas.Bool.{cases_eq, eq-eqb}
use Rattle.std.proofs.lemmas.List.{length-append, length-map, length-take-le, length-replicate, get_or-map, map-append}
use Rattle.std.proofs.lemmas.List.{take-map, drop-map, take_at, drop_at, take_all, drop_all, append_assoc, append-nil}
use Rattle.play_queue.specs.declared.entry.Entry.{Entry}
use Rattle.play_queue.specs.Entries.{Uris, is_among, deleted, added, kept, with_priority}
use Rattle.std.specs.List.{zip}
use Rattle.std.proofs.lemmas.List.Edits.{length-swap, length-between, split_between, between_more, between_none, swapped_from_swap}
use Rattle.std.proofs.lemmas.List.{drop_more, get_or_at, set_at, same_lists, take-append-drop}
use Rattle.std.proofs.lemmas.List.{take-append-le, drop-append-le}
use Rattle.std.proofs.lemmas.List.Sorted.{length_permutation}
use Rattle.play_queue.specs.Limits.{MAX_VERSION}
use Rattle.play_queue.specs.Queue.{ids_of, with_stamp}
use Rattle.play_queue.specs.Restamp.{exchanged, raised, restamped, restamped_batch, restamped_pair, marked, stamped_where}
use Rattle.play_queue.specs.Shuffle.{goes_first, put_in, in_word_order, sorted_by_words, shuffled, stamps_of, stamped_moved, with_stamps}
use Rattle.play_queue.specs.Songs.{unstamped, stamps_anew}
use Rattle.play_queue.proofs.InOrder.{swap-map, exchanged-permutes}
use Rattle.play_queue.proofs.Where.{not_eq, get_or-stamped_where, length-stamped_where}
use Rattle.play_queue.proofs.WordOrder.{Drawn}

-- what the stamps leave as it was
pub unstamped-with_stamps : (stamps : List ℕ) (entries : List Entry) → unstamped (with_stamps stamps entries) ≡ unstamped entries
unstamped-with_stamps [] entries = refl
unstamped-with_stamps (stamp ∷ stamps) [] = refl
unstamped-with_stamps (stamp ∷ stamps) (entry ∷ entries) =
    ap (λ rest. with_stamp 0 entry ∷ rest) (unstamped-with_stamps stamps entries)

pub stamps-with_stamps : (stamps : List ℕ) (entries : List Entry) → length stamps ≡ length entries
    → stamps_of (with_stamps stamps entries) ≡ stamps
stamps-with_stamps [] [] long = refl
stamps-with_stamps [] (entry ∷ entries) long = absurd (omega arith)
stamps-with_stamps (stamp ∷ stamps) [] long = absurd (omega arith)
stamps-with_stamps (stamp ∷ stamps) (entry ∷ entries) long = ap (λ rest. stamp ∷ rest) (stamps-with_stamps stamps entries (omega arith))

pub ids-with_stamps : (stamps : List ℕ) (entries : List Entry) → ids_of (with_stamps stamps entries) ≡ ids_of entries
ids-with_stamps [] entries = refl
ids-with_stamps (stamp ∷ stamps) [] = refl
ids-with_stamps (stamp ∷ stamps) (entry ∷ entries) = ap (λ rest. entry.id ∷ rest) (ids-with_stamps stamps entries)

pub length-with_stamps : (stamps : List ℕ) (entries : List Entry) → length (with_stamps stamps entries) ≡ length entries
length-with_stamps [] entries = refl
length-with_stamps (stamp ∷ stamps) [] = refl
length-with_stamps (stamp ∷ stamps) (entry ∷ entries) = ap suc (length-with_stamps stamps entries)

pub has-with_stamps : (stamps : List ℕ) (entries : List Entry) (id : ℕ)
    → list_any (λ (entry : Entry). entry.id == id) (with_stamps stamps entries) ≡ list_any (λ (entry : Entry). entry.id == id) entries
has-with_stamps [] entries id = refl
has-with_stamps (stamp ∷ stamps) [] id = refl
has-with_stamps (stamp ∷ stamps) (entry ∷ entries) id = rw (has-with_stamps stamps entries id) refl

pub get_or-with_stamps : (stamps : List ℕ) (entries : List Entry) (k : ℕ) (d : Entry) → k < length entries → length stamps ≡ length entries
    → get_or (with_stamps stamps entries) k d ≡ with_stamp (get_or stamps k 0) (get_or entries k d)
get_or-with_stamps stamps [] k d within long = absurd (omega arith)
get_or-with_stamps [] (entry ∷ entries) k d within long = absurd (omega arith)
get_or-with_stamps (stamp ∷ stamps) (entry ∷ entries) zero d within long = refl
get_or-with_stamps (stamp ∷ stamps) (entry ∷ entries) (suc k) d within long = get_or-with_stamps stamps entries k d (omega arith) (omega arith)

-- parts
pub take-with_stamps : (n : ℕ) (stamps : List ℕ) (entries : List Entry)
    → take n (with_stamps stamps entries) ≡ with_stamps (take n stamps) (take n entries)
take-with_stamps zero stamps entries = refl
take-with_stamps (suc n) [] entries = refl
take-with_stamps (suc n) (stamp ∷ stamps) [] = refl
take-with_stamps (suc n) (stamp ∷ stamps) (entry ∷ entries) = ap (λ l. with_stamp stamp entry ∷ l) (take-with_stamps n stamps entries)

pub drop-with_stamps : (n : ℕ) (stamps : List ℕ) (entries : List Entry)
    → drop n (with_stamps stamps entries) ≡ with_stamps (drop n stamps) (drop n entries)
drop-with_stamps zero stamps entries = refl
drop-with_stamps (suc n) [] entries = refl
drop-with_stamps (suc n) (stamp ∷ stamps) [] = none (drop n stamps)
  where
    none : (l : List ℕ) → [] ≡ with_stamps l []
    none [] = refl
    none (one ∷ l) = refl
drop-with_stamps (suc n) (stamp ∷ stamps) (entry ∷ entries) = drop-with_stamps n stamps entries

pub with_stamps-append : (front back : List ℕ) (ones others : List Entry) → length front ≡ length ones
    → with_stamps (front ++ back) (ones ++ others) ≡ with_stamps front ones ++ with_stamps back others
with_stamps-append [] back [] others long = refl
with_stamps-append [] back (one ∷ ones) others long = absurd (omega arith)
with_stamps-append (stamp ∷ front) back [] others long = absurd (omega arith)
with_stamps-append (stamp ∷ front) back (one ∷ ones) others long =
    ap (λ l. with_stamp stamp one ∷ l) (with_stamps-append front back ones others (omega arith))

-- the same stamps on entries that differ in stamps alone
pub with_stamps-same : (stamps : List ℕ) (ones others : List Entry) → unstamped ones ≡ unstamped others → length ones ≤ length stamps
    → with_stamps stamps ones ≡ with_stamps stamps others
with_stamps-same stamps [] [] same long = refl
with_stamps-same stamps [] (other ∷ others) same long = absurd (omega (arith, ap length same))
with_stamps-same stamps (one ∷ ones) [] same long = absurd (omega (arith, ap length same))
with_stamps-same [] (one ∷ ones) (other ∷ others) same long = absurd (omega arith)
with_stamps-same (stamp ∷ stamps) (one ∷ ones) (other ∷ others) same long =
    let first : with_stamp 0 one ≡ with_stamp 0 other = ap (λ l. get_or l 0 one) same in
    let behind : unstamped ones ≡ unstamped others = ap (λ l. drop 1 l) same in
    ap (λ (e : Entry). with_stamp stamp e ∷ with_stamps stamps ones) first
    ∙ ap (λ l. with_stamp stamp other ∷ l) (with_stamps-same stamps ones others behind (omega arith))

-- one stamp for all
pub with_one_stamp : (stamp : ℕ) (stamps : List ℕ) (entries : List Entry) → length stamps ≡ length entries
    → with_stamps (map (λ _. stamp) stamps) entries ≡ map (with_stamp stamp) (with_stamps stamps entries)
with_one_stamp stamp [] [] long = refl
with_one_stamp stamp [] (entry ∷ entries) long = absurd (omega arith)
with_one_stamp stamp (one ∷ stamps) [] long = absurd (omega arith)
with_one_stamp stamp (one ∷ stamps) (entry ∷ entries) long =
    ap (λ l. with_stamp stamp entry ∷ l) (with_one_stamp stamp stamps entries (omega arith))

-- a stamp at a position
pub with_stamps-set : (stamps : List ℕ) (entries : List Entry) (at stamp : ℕ) (d : Entry) → at < length entries
    → length stamps ≡ length entries
    → with_stamps (set stamps at stamp) entries
    ≡ set (with_stamps stamps entries) at (with_stamp stamp (get_or (with_stamps stamps entries) at d))
with_stamps-set stamps [] at stamp d within long = absurd (omega arith)
with_stamps-set [] (entry ∷ entries) at stamp d within long = absurd (omega arith)
with_stamps-set (one ∷ stamps) (entry ∷ entries) zero stamp d within long = refl
with_stamps-set (one ∷ stamps) (entry ∷ entries) (suc at) stamp d within long =
    ap (λ l. with_stamp one entry ∷ l) (with_stamps-set stamps entries at stamp d (omega arith) (omega arith))

-- a priority at a position
pub with_stamps-priority : (stamps : List ℕ) (entries : List Entry) (at priority : ℕ) (d : Entry) → at < length entries
    → length stamps ≡ length entries
    → with_stamps stamps (set entries at (with_priority priority (get_or entries at d)))
    ≡ set (with_stamps stamps entries) at (with_priority priority (get_or (with_stamps stamps entries) at d))
with_stamps-priority stamps [] at priority d within long = absurd (omega arith)
with_stamps-priority [] (entry ∷ entries) at priority d within long = absurd (omega arith)
with_stamps-priority (one ∷ stamps) (entry ∷ entries) zero priority d within long = refl
with_stamps-priority (one ∷ stamps) (entry ∷ entries) (suc at) priority d within long =
    ap (λ l. with_stamp one entry ∷ l) (with_stamps-priority stamps entries at priority d (omega arith) (omega arith))

-- edits of the order look at no stamp
pub deleted-unstamped : (entries : List Entry) (start end : ℕ)
    → unstamped (deleted entries start end) ≡ deleted (unstamped entries) start end
deleted-unstamped entries start end = simp (map-append, take-map, drop-map)

pub exchanged-unstamped : (entries : List Entry) (low middle high : ℕ)
    → unstamped (exchanged entries low middle high) ≡ exchanged (unstamped entries) low middle high
exchanged-unstamped entries low middle high = simp (map-append, take-map, drop-map)

pub added-unstamped : (entries new : List Entry) (at : ℕ)
    → unstamped (added entries at new) ≡ added (unstamped entries) at (unstamped new)
added-unstamped entries new at = simp (map-append, take-map, drop-map)

pub kept-unstamped : (entries : List Entry) (uris : Uris) → unstamped (kept entries uris) ≡ kept (unstamped entries) uris
kept-unstamped [] uris = refl
kept-unstamped (entry ∷ entries) uris = of (kept-unstamped entries uris) (is_among uris entry.uri)
  where
    of : unstamped (kept entries uris) ≡ kept (unstamped entries) uris → (b : Bool) → unstamped (cond (not b) (entry ∷ kept entries uris) (kept entries uris))
        ≡ cond (not b) (with_stamp 0 entry ∷ kept (unstamped entries) uris) (kept (unstamped entries) uris)
    of rest true = rest
    of rest false = ap (λ l. with_stamp 0 entry ∷ l) rest

pub swap-unstamped : (entries : List Entry) (i j : ℕ) → i < length entries → j < length entries
    → unstamped (swap entries i j) ≡ swap (unstamped entries) i j
swap-unstamped entries i j in_i in_j = sym (swap-map (with_stamp 0) entries i j in_i in_j)

unstamped-unstamped : (entries : List Entry) → unstamped (unstamped entries) ≡ unstamped entries
unstamped-unstamped [] = refl
unstamped-unstamped (entry ∷ entries) = ap (λ l. with_stamp 0 entry ∷ l) (unstamped-unstamped entries)

-- stamps of which some are new
pub stamp_others-is : (stamps ids : List ℕ) (entries : List Entry) (stamp : ℕ) → length stamps ≡ length entries
    → length ids ≡ length entries
    → with_stamps (stamps_anew (ids_of entries) ids stamp stamps) entries ≡ stamped_moved ids stamp (with_stamps stamps entries)
stamp_others-is [] ids [] stamp long also = none ids
  where
    none : (l : List ℕ) → [] ≡ stamped_moved l stamp []
    none [] = refl
    none (one ∷ l) = refl
stamp_others-is (own ∷ stamps) ids [] stamp long also = absurd (omega arith)
stamp_others-is [] ids (entry ∷ entries) stamp long also = absurd (omega arith)
stamp_others-is (own ∷ stamps) [] (entry ∷ entries) stamp long also = absurd (omega arith)
stamp_others-is (own ∷ stamps) (id ∷ ids) (entry ∷ entries) stamp long also =
    of (stamp_others-is stamps ids entries stamp (omega arith) (omega arith)) (entry.id == id)
  where
    of : with_stamps (stamps_anew (ids_of entries) ids stamp stamps) entries ≡ stamped_moved ids stamp (with_stamps stamps entries)
        → (b : Bool) → with_stamp (cond b own stamp) entry ∷ with_stamps (stamps_anew (ids_of entries) ids stamp stamps) entries
        ≡ cond b (with_stamp own entry) (with_stamp stamp entry) ∷ stamped_moved ids stamp (with_stamps stamps entries)
    of rest true = ap (λ l. with_stamp own entry ∷ l) rest
    of rest false = ap (λ l. with_stamp stamp entry ∷ l) rest

-- no sort by words looks at stamps
abbrev strip : Drawn → Drawn
strip drawn = (drawn.0, with_stamp 0 drawn.1)

zip-strip : (words : List ℕ) (entries : List Entry) → zip words (unstamped entries) ≡ map strip (zip words entries)
zip-strip [] entries = refl
zip-strip (word ∷ words) [] = refl
zip-strip (word ∷ words) (entry ∷ entries) = ap (λ rest. (word, with_stamp 0 entry) ∷ rest) (zip-strip words entries)

put_in-strip : (drawn : Drawn) (others : List Drawn) → put_in (strip drawn) (map strip others) ≡ map strip (put_in drawn others)
put_in-strip drawn [] = refl
put_in-strip drawn (other ∷ others) = of (put_in-strip drawn others) (goes_first drawn other)
  where
    of : put_in (strip drawn) (map strip others) ≡ map strip (put_in drawn others) → (b : Bool)
        → cond b (strip drawn ∷ (strip other ∷ map strip others)) (strip other ∷ put_in (strip drawn) (map strip others))
        ≡ map strip (cond b (drawn ∷ (other ∷ others)) (other ∷ put_in drawn others))
    of rest true = refl
    of rest false = ap (λ l. strip other ∷ l) rest

in_order-strip : (drawn : List Drawn) → in_word_order (map strip drawn) ≡ map strip (in_word_order drawn)
in_order-strip [] = refl
in_order-strip (one ∷ others) = ap (put_in (strip one)) (in_order-strip others) ∙ put_in-strip one (in_word_order others)

seconds-strip : (drawn : List Drawn) → map (λ (d : Drawn). d.1) (map strip drawn) ≡ unstamped (map (λ (d : Drawn). d.1) drawn)
seconds-strip [] = refl
seconds-strip (one ∷ others) = ap (λ rest. with_stamp 0 one.1 ∷ rest) (seconds-strip others)

pub sorted-unstamped : (words : List ℕ) (entries : List Entry)
    → unstamped (sorted_by_words words entries) ≡ sorted_by_words words (unstamped entries)
sorted-unstamped words entries =
    sym (seconds-strip (in_word_order (zip words entries)))
    ∙ ap (map (λ (d : Drawn). d.1))
    (sym (in_order-strip (zip words entries)) ∙ ap in_word_order (sym (zip-strip words entries)))

pub shuffled-unstamped : (entries : List Entry) (start end : ℕ) (words : List ℕ)
    → unstamped (shuffled entries start end words) ≡ shuffled (unstamped entries) start end words
shuffled-unstamped entries start end words =
    map-append (with_stamp 0) (take start entries) _
    ∙ ap (λ l. unstamped (take start entries) ++ l)
    (map-append (with_stamp 0) (sorted_by_words words (slice_range entries start end)) (drop end entries)
    ∙ ap (λ l. l ++ unstamped (drop end entries)) (sorted-unstamped words (slice_range entries start end)))
    ∙ sym (simp (take-map, drop-map))

-- fewer entries than stamps
pub with_stamps-enough : (n : ℕ) (stamps : List ℕ) (entries : List Entry) → length entries ≤ n
    → with_stamps (take n stamps) entries ≡ with_stamps stamps entries
with_stamps-enough zero stamps [] long = none stamps
  where
    none : (l : List ℕ) → [] ≡ with_stamps l []
    none [] = refl
    none (one ∷ l) = refl
with_stamps-enough zero stamps (entry ∷ entries) long = absurd (omega arith)
with_stamps-enough (suc n) [] entries long = refl
with_stamps-enough (suc n) (stamp ∷ stamps) [] long = refl
with_stamps-enough (suc n) (stamp ∷ stamps) (entry ∷ entries) long =
    ap (λ l. with_stamp stamp entry ∷ l) (with_stamps-enough n stamps entries (omega arith))

-- an edit of the order under the stamps of the positions
same-order : (stamps : List ℕ) (songs one other : List Entry) → length stamps ≡ length songs → unstamped one ≡ unstamped other
    → length one ≤ length stamps → with_stamps stamps one ≡ with_stamps (stamps_of (with_stamps stamps songs)) other
same-order stamps songs one other long same short =
    with_stamps-same stamps one other same short ∙ ap (λ l. with_stamps l other) (sym (stamps-with_stamps stamps songs long))

pub order-exchanged : (stamps : List ℕ) (songs : List Entry) (low middle high : ℕ) → length stamps ≡ length songs → low ≤ middle
    → middle ≤ high → with_stamps stamps (exchanged songs low middle high)
    ≡ with_stamps (stamps_of (with_stamps stamps songs)) (exchanged (with_stamps stamps songs) low middle high)
order-exchanged stamps songs low middle high long below above =
    same-order stamps songs _ _ long
    (exchanged-unstamped songs low middle high
    ∙ ap (λ l. exchanged l low middle high) (sym (unstamped-with_stamps stamps songs))
    ∙ sym (exchanged-unstamped (with_stamps stamps songs) low middle high))
    (omega (arith, long, length_permutation songs (exchanged songs low middle high) (exchanged-permutes songs low middle high below above)))

pub order-deleted : (stamps : List ℕ) (songs : List Entry) (start end n : ℕ) → length stamps ≡ length songs → start ≤ end
    → end ≤ length songs → n ≡ length (deleted songs start end) → with_stamps (take n stamps) (deleted songs start end)
    ≡ with_stamps (stamps_of (with_stamps stamps songs)) (deleted (with_stamps stamps songs) start end)
order-deleted stamps songs start end n long forward within left =
    with_stamps-enough n stamps (deleted songs start end) (omega arith)
    ∙ same-order stamps songs _ _ long
    (deleted-unstamped songs start end ∙ ap (λ l. deleted l start end) (sym (unstamped-with_stamps stamps songs))
    ∙ sym (deleted-unstamped (with_stamps stamps songs) start end))
    (omega (arith, length-append (take start songs) (drop end songs), length-take-le start songs (omega arith), length-drop end songs))

pub order-swapped : (stamps : List ℕ) (songs : List Entry) (i j : ℕ) → length stamps ≡ length songs → i < length songs
    → j < length songs → with_stamps stamps (swap songs i j)
    ≡ with_stamps (stamps_of (with_stamps stamps songs)) (swap (with_stamps stamps songs) i j)
order-swapped stamps songs i j long in_i in_j =
    let same = length-with_stamps stamps songs in
    same-order stamps songs _ _ long
    (swap-unstamped songs i j in_i in_j ∙ ap (λ l. swap l i j) (sym (unstamped-with_stamps stamps songs))
    ∙ sym (swap-unstamped (with_stamps stamps songs) i j (omega arith) (omega arith)))
    (omega (arith, length-swap songs i j))

pub order-shuffled : (stamps : List ℕ) (songs : List Entry) (start end : ℕ) (words : List ℕ) → length stamps ≡ length songs
    → length (shuffled songs start end words) ≡ length songs → with_stamps stamps (shuffled songs start end words)
    ≡ with_stamps (stamps_of (with_stamps stamps songs)) (shuffled (with_stamps stamps songs) start end words)
order-shuffled stamps songs start end words long as_many =
    same-order stamps songs _ _ long
    (shuffled-unstamped songs start end words
    ∙ ap (λ l. shuffled l start end words) (sym (unstamped-with_stamps stamps songs))
    ∙ sym (shuffled-unstamped (with_stamps stamps songs) start end words))
    (omega arith)

abbrev pub kept_from : ℕ → Uris → List Entry → List Entry
kept_from first uris entries = take first entries ++ kept (drop first entries) uris

kept_from-unstamped : (first : ℕ) (uris : Uris) (entries : List Entry)
    → unstamped (kept_from first uris entries) ≡ kept_from first uris (unstamped entries)
kept_from-unstamped first uris entries =
    map-append (with_stamp 0) (take first entries) (kept (drop first entries) uris)
    ∙ ap (λ l. unstamped (take first entries) ++ l) (kept-unstamped (drop first entries) uris)
    ∙ sym (simp (take-map, drop-map))

pub order-kept : (stamps : List ℕ) (songs : List Entry) (first n : ℕ) (uris : Uris) → length stamps ≡ length songs
    → n ≡ length (kept_from first uris songs) → n ≤ length songs → with_stamps (take n stamps) (kept_from first uris songs)
    ≡ with_stamps (stamps_of (with_stamps stamps songs)) (kept_from first uris (with_stamps stamps songs))
order-kept stamps songs first n uris long left fewer =
    with_stamps-enough n stamps (kept_from first uris songs) (omega arith)
    ∙ same-order stamps songs _ _ long
    (kept_from-unstamped first uris songs ∙ ap (kept_from first uris) (sym (unstamped-with_stamps stamps songs))
    ∙ sym (kept_from-unstamped first uris (with_stamps stamps songs)))
    (omega arith)

-- an addition at the end, which is then brought to its place
pub exchanged-append : (xs ys : List Entry) (at : ℕ) → at ≤ length xs
    → exchanged (xs ++ ys) at (length xs) (length xs + length ys) ≡ added xs at ys
exchanged-append xs ys at within =
    let long : length (xs ++ ys) ≡ length xs + length ys = length-append xs ys in
    let front : take at (xs ++ ys) ≡ take at xs = take-append-le at xs ys within in
    let count : length xs + length ys - length xs ≡ length ys = omega arith in
    let new : slice_range (xs ++ ys) (length xs) (length xs + length ys) ≡ ys =
    ap (λ n. take n (drop (length xs) (xs ++ ys))) count
    ∙ ap (take (length ys)) (drop_at xs ys (length xs) refl) ∙ take_all (length ys) ys (omega arith) in
    let back : slice_range (xs ++ ys) at (length xs) ≡ drop at xs =
    ap (take (length xs - at)) (drop-append-le at xs ys within)
    ∙ take_at (drop at xs) ys (length xs - at) (length-drop at xs) in
    let rest : drop (length xs + length ys) (xs ++ ys) ≡ [] = drop_all (length xs + length ys) (xs ++ ys) (omega arith) in
    rw (front, new, back, rest) (ap (λ l. take at xs ++ l) (append-nil (ys ++ drop at xs)))

pub order-added : (stamps : List ℕ) (songs new : List Entry) (at count : ℕ) → length stamps ≡ length songs → at ≤ length songs
    → count ≡ length new
    → with_stamps (stamps ++ replicate count 1) (exchanged (songs ++ unstamped new) at (length songs) (length songs + count))
    ≡ with_stamps (stamps_of (with_stamps stamps songs) ++ replicate count 1) (added (with_stamps stamps songs) at new)
order-added stamps songs new at count long within as_many =
    let plain : length (unstamped new) ≡ length new = length-map new (with_stamp 0) in
    let made : exchanged (songs ++ unstamped new) at (length songs) (length songs + count) ≡ added songs at (unstamped new) =
    ap (λ n. exchanged (songs ++ unstamped new) at (length songs) (length songs + n)) (omega arith)
    ∙ exchanged-append songs (unstamped new) at within in
    let same : unstamped (added songs at (unstamped new)) ≡ unstamped (added (with_stamps stamps songs) at new) =
    added-unstamped songs (unstamped new) at
    ∙ ap (λ l. added (unstamped songs) at l) (unstamped-unstamped new)
    ∙ ap (λ l. added l at (unstamped new)) (sym (unstamped-with_stamps stamps songs))
    ∙ sym (added-unstamped (with_stamps stamps songs) new at) in
    let room : length (added songs at (unstamped new)) ≤ length (stamps ++ replicate count 1) =
    omega (
      arith,
      length-append (take at songs) (unstamped new ++ drop at songs),
      length-append (unstamped new) (drop at songs),
      length-take-le at songs within,
      length-drop at songs,
      length-append stamps (replicate count 1),
      length-replicate {A = ℕ} count 1,
      plain,
    ) in
    ap (with_stamps (stamps ++ replicate count 1)) made
    ∙ with_stamps-same (stamps ++ replicate count 1) _ _ same room
    ∙ ap (λ l. with_stamps (l ++ replicate count 1) (added (with_stamps stamps songs) at new)) (sym (stamps-with_stamps stamps songs long))

-- a part of the stamps
pub with_stamps-part : (stamps middle : List ℕ) (songs : List Entry) (start end : ℕ) → length stamps ≡ length songs → start ≤ end
    → end ≤ length songs → length middle ≡ end - start
    → with_stamps (take start stamps ++ (middle ++ drop end stamps)) songs
    ≡ take start (with_stamps stamps songs) ++ (with_stamps middle (slice_range songs start end) ++ drop end (with_stamps stamps songs))
with_stamps-part stamps middle songs start end long forward within as_many =
    let split : songs ≡ take start songs ++ (slice_range songs start end ++ drop end songs) = split_between songs start end forward in
    let front : length (take start stamps) ≡ length (take start songs) =
    length-take-le start stamps (omega arith) ∙ sym (length-take-le start songs (omega arith)) in
    let block : length middle ≡ length (slice_range songs start end) = as_many ∙ sym (length-between songs start end within) in
    ap (with_stamps (take start stamps ++ (middle ++ drop end stamps))) split
    ∙ with_stamps-append (take start stamps) (middle ++ drop end stamps) (take start songs) _ front
    ∙ ap (λ l. with_stamps (take start stamps) (take start songs) ++ l)
    (with_stamps-append middle (drop end stamps) (slice_range songs start end) (drop end songs) block)
    ∙ rw (take-with_stamps start stamps songs, drop-with_stamps end stamps songs) refl

pub slice-with_stamps : (stamps : List ℕ) (songs : List Entry) (start end : ℕ)
    → slice_range (with_stamps stamps songs) start end ≡ with_stamps (slice_range stamps start end) (slice_range songs start end)
slice-with_stamps stamps songs start end =
    ap (take (end - start)) (drop-with_stamps start stamps songs) ∙ take-with_stamps (end - start) (drop start stamps) (drop start songs)

pub with_stamps-range : (stamps : List ℕ) (songs : List Entry) (start end stamp : ℕ) → length stamps ≡ length songs → start ≤ end
    → end ≤ length songs
    → with_stamps (take start stamps ++ (map (λ _. stamp) (slice_range stamps start end) ++ drop end stamps)) songs
    ≡ take start (with_stamps stamps songs)
    ++ (map (with_stamp stamp) (slice_range (with_stamps stamps songs) start end) ++ drop end (with_stamps stamps songs))
with_stamps-range stamps songs start end stamp long forward within =
    let block : length (slice_range stamps start end) ≡ end - start = length-between stamps start end (omega arith) in
    let also : length (slice_range songs start end) ≡ end - start = length-between songs start end within in
    with_stamps-part stamps (map (λ _. stamp) (slice_range stamps start end)) songs start end long forward within
    (length-map (slice_range stamps start end) (λ _. stamp) ∙ block)
    ∙ ap (λ l. take start (with_stamps stamps songs) ++ (l ++ drop end (with_stamps stamps songs)))
    (with_one_stamp stamp (slice_range stamps start end) (slice_range songs start end) (block ∙ sym also)
    ∙ ap (map (with_stamp stamp)) (sym (slice-with_stamps stamps songs start end)))

pub with_stamps-moved : (stamps ids : List ℕ) (songs : List Entry) (start end stamp : ℕ) → length stamps ≡ length songs → start ≤ end
    → end ≤ length songs → length ids ≡ end - start → (anew : List ℕ)
    → anew ≡ stamps_anew (slice_range (ids_of songs) start end) ids stamp (slice_range stamps start end) → length anew ≡ end - start
    → with_stamps (take start stamps ++ (anew ++ drop end stamps)) songs
    ≡ take start (with_stamps stamps songs)
    ++ (stamped_moved ids stamp (slice_range (with_stamps stamps songs) start end) ++ drop end (with_stamps stamps songs))
with_stamps-moved stamps ids songs start end stamp long forward within as_many anew is long_anew =
    let block : length (slice_range stamps start end) ≡ end - start = length-between stamps start end (omega arith) in
    let also : length (slice_range songs start end) ≡ end - start = length-between songs start end within in
    let ids_there : slice_range (ids_of songs) start end ≡ ids_of (slice_range songs start end) = simp (take-map, drop-map) in
    with_stamps-part stamps anew songs start end long forward within long_anew
    ∙ ap (λ l. take start (with_stamps stamps songs) ++ (l ++ drop end (with_stamps stamps songs)))
    (ap (λ l. with_stamps l (slice_range songs start end)) (is ∙ ap (λ l. stamps_anew l ids stamp (slice_range stamps start end)) ids_there)
    ∙ stamp_others-is (slice_range stamps start end) ids (slice_range songs start end) stamp (block ∙ sym also) (as_many ∙ sym also)
    ∙ ap (stamped_moved ids stamp) (sym (slice-with_stamps stamps songs start end)))

-- a priority, with a stamp where it is another one
pub raised-with_stamps : (stamps : List ℕ) (songs : List Entry) (at priority stamp : ℕ) (d : Entry) → at < length songs
    → length stamps ≡ length songs → ((get_or songs at d).priority == priority) ≡ false
    → with_stamps (set stamps at stamp) (set songs at (with_priority priority (get_or songs at d)))
    ≡ set (with_stamps stamps songs) at (raised priority stamp (get_or (with_stamps stamps songs) at d))
raised-with_stamps stamps [] at priority stamp d within long other = absurd (omega arith)
raised-with_stamps [] (song ∷ songs) at priority stamp d within long other = absurd (omega arith)
raised-with_stamps (one ∷ stamps) (song ∷ songs) zero priority stamp d within long other = rw other refl
raised-with_stamps (one ∷ stamps) (song ∷ songs) (suc at) priority stamp d within long other =
    ap (λ l. with_stamp one song ∷ l) (raised-with_stamps stamps songs at priority stamp d (omega arith) (omega arith) other)

pub unraised-with_stamps : (stamps : List ℕ) (songs : List Entry) (at priority stamp : ℕ) (d : Entry) → at < length songs
    → length stamps ≡ length songs → ((get_or songs at d).priority == priority) ≡ true
    → with_stamps stamps songs
    ≡ set (with_stamps stamps songs) at (raised priority stamp (get_or (with_stamps stamps songs) at d))
unraised-with_stamps stamps [] at priority stamp d within long same = absurd (omega arith)
unraised-with_stamps [] (song ∷ songs) at priority stamp d within long same = absurd (omega arith)
unraised-with_stamps (one ∷ stamps) (song ∷ songs) zero priority stamp d within long same = rw same refl
unraised-with_stamps (one ∷ stamps) (song ∷ songs) (suc at) priority stamp d within long same =
    ap (λ l. with_stamp one song ∷ l) (unraised-with_stamps stamps songs at priority stamp d (omega arith) (omega arith) same)

-- stamps and the rule: entries that differ in stamps alone, and in none of those outside a range
pub restamped-same : (version start end : ℕ) (ones others : List Entry) → unstamped ones ≡ unstamped others
    → take start ones ≡ take start others → drop end ones ≡ drop end others
    → restamped version start end ones ≡ restamped version start end others
restamped-same version start end ones others same front back = of (version == MAX_VERSION)
  where
    any : (stamp : ℕ) (entries : List Entry) → map (with_stamp stamp) (unstamped entries) ≡ map (with_stamp stamp) entries
    any stamp [] = refl
    any stamp (entry ∷ entries) = ap (λ l. with_stamp stamp entry ∷ l) (any stamp entries)

    slice : (entries : List Entry) → unstamped (slice_range entries start end) ≡ slice_range (unstamped entries) start end
    slice entries = sym (simp (take-map, drop-map))

    middle : (stamp : ℕ) → map (with_stamp stamp) (slice_range ones start end) ≡ map (with_stamp stamp) (slice_range others start end)
    middle stamp =
        sym (any stamp (slice_range ones start end))
        ∙ ap (map (with_stamp stamp)) (slice ones ∙ ap (λ l. slice_range l start end) same ∙ sym (slice others))
        ∙ any stamp (slice_range others start end)

    of : (b : Bool)
        → cond b (map (with_stamp 1) ones)
        (take start ones ++ (map (with_stamp (version + 1)) (slice_range ones start end) ++ drop end ones))
        ≡ cond b (map (with_stamp 1) others)
        (take start others ++ (map (with_stamp (version + 1)) (slice_range others start end) ++ drop end others))
    of true = sym (any 1 ones) ∙ ap (map (with_stamp 1)) same ∙ any 1 others
    of false = rw (front, back, middle (version + 1)) refl

pub own-stamps : (entries : List Entry) → with_stamps (stamps_of entries) entries ≡ entries
own-stamps [] = refl
own-stamps (entry ∷ entries) = ap (λ l. entry ∷ l) (own-stamps entries)

-- a deletion, an exchange and an addition under the stamps of the positions, where the rule then stamps what has moved
pub restamped-deleted : (version start end left : ℕ) (entries : List Entry) → start ≤ end → end ≤ length entries
    → left ≡ length (deleted entries start end)
    → restamped version start left (with_stamps (stamps_of entries) (deleted entries start end))
    ≡ restamped version start left (deleted entries start end)
restamped-deleted version start end left entries forward within is =
    let afters : List Entry = deleted entries start end in
    let stamps : List ℕ = stamps_of entries in
    let long_front : length (take start entries) ≡ start = length-take-le start entries (omega arith) in
    let front : take start afters ≡ take start entries = take_at (take start entries) (drop end entries) start long_front in
    restamped-same version start left (with_stamps stamps afters) afters (unstamped-with_stamps stamps afters)
    (take-with_stamps start stamps afters ∙ ap (with_stamps (take start stamps)) front
    ∙ sym (take-with_stamps start stamps entries) ∙ ap (take start) (own-stamps entries) ∙ sym front)
    (drop_all left (with_stamps stamps afters) (omega (arith, length-with_stamps stamps afters)) ∙ sym (drop_all left afters (omega arith)))

pub restamped-exchanged : (version low middle high : ℕ) (entries : List Entry) → low ≤ middle → middle ≤ high → high ≤ length entries
    → restamped version low high (with_stamps (stamps_of entries) (exchanged entries low middle high))
    ≡ restamped version low high (exchanged entries low middle high)
restamped-exchanged version low middle high entries below above within =
    let afters : List Entry = exchanged entries low middle high in
    let turned : List Entry = slice_range entries middle high ++ slice_range entries low middle in
    let stamps : List ℕ = stamps_of entries in
    let long_front : length (take low entries) ≡ low = length-take-le low entries (omega arith) in
    let long_turned : length turned ≡ high - low =
    omega (
      arith,
      length-append (slice_range entries middle high) (slice_range entries low middle),
      length-between entries middle high within,
      length-between entries low middle (omega arith),
    ) in
    let front : take low afters ≡ take low entries = take_at (take low entries) (turned ++ drop high entries) low long_front in
    let back : drop high afters ≡ drop high entries =
    ap (λ l. drop high l) (sym (append_assoc (take low entries) turned (drop high entries)))
    ∙ drop_at (take low entries ++ turned) (drop high entries) high
    (length-append (take low entries) turned ∙ omega (arith, long_front, long_turned)) in
    restamped-same version low high (with_stamps stamps afters) afters (unstamped-with_stamps stamps afters)
    (take-with_stamps low stamps afters ∙ ap (with_stamps (take low stamps)) front
    ∙ sym (take-with_stamps low stamps entries) ∙ ap (take low) (own-stamps entries) ∙ sym front)
    (drop-with_stamps high stamps afters ∙ ap (with_stamps (drop high stamps)) back
    ∙ sym (drop-with_stamps high stamps entries) ∙ ap (λ l. drop high l) (own-stamps entries) ∙ sym back)

pub restamped-added : (version at left : ℕ) (more : List ℕ) (entries new : List Entry) → at ≤ length entries
    → left ≡ length (added entries at new)
    → restamped version at left (with_stamps (stamps_of entries ++ more) (added entries at new))
    ≡ restamped version at left (added entries at new)
restamped-added version at left more entries new within is =
    let afters : List Entry = added entries at new in
    let stamps : List ℕ = stamps_of entries ++ more in
    let long_front : length (take at entries) ≡ at = length-take-le at entries within in
    let long : length (stamps_of entries) ≡ length entries = length-map entries (λ (entry : Entry). entry.stamp) in
    let front : take at afters ≡ take at entries = take_at (take at entries) (new ++ drop at entries) at long_front in
    let own : take at stamps ≡ take at (stamps_of entries) = take-append-le at (stamps_of entries) more (omega arith) in
    restamped-same version at left (with_stamps stamps afters) afters (unstamped-with_stamps stamps afters)
    (take-with_stamps at stamps afters ∙ ap (λ l. with_stamps l (take at afters)) own
    ∙ ap (with_stamps (take at (stamps_of entries))) front
    ∙ sym (take-with_stamps at (stamps_of entries) entries) ∙ ap (take at) (own-stamps entries) ∙ sym front)
    (drop_all left (with_stamps stamps afters) (omega (arith, length-with_stamps stamps afters)) ∙ sym (drop_all left afters (omega arith)))

one_stamp : (stamp : ℕ) (entries : List Entry) → map (with_stamp stamp) (unstamped entries) ≡ map (with_stamp stamp) entries
one_stamp stamp [] = refl
one_stamp stamp (entry ∷ entries) = ap (λ l. with_stamp stamp entry ∷ l) (one_stamp stamp entries)

pub one_stamp-same : (stamp : ℕ) (ones others : List Entry) → unstamped ones ≡ unstamped others
    → map (with_stamp stamp) ones ≡ map (with_stamp stamp) others
one_stamp-same stamp ones others same = sym (one_stamp stamp ones) ∙ ap (map (with_stamp stamp)) same ∙ one_stamp stamp others

-- two entries that have changed places
pub restamped-swapped : (version i j : ℕ) (entries : List Entry) → i < length entries → j < length entries
    → restamped_pair version i j (with_stamps (stamps_of entries) (swap entries i j)) ≡ restamped_pair version i j (swap entries i j)
restamped-swapped version i j entries in_i in_j = of (version == MAX_VERSION)
  where
    afters : List Entry
    afters = swap entries i j

    ones : List Entry
    ones = with_stamps (stamps_of entries) (swap entries i j)

    test : ℕ → Bool
    test at = at == i || at == j

    long : length ones ≡ length afters
    long = length-with_stamps (stamps_of entries) (swap entries i j)

    as_many : length (stamps_of entries) ≡ length (swap entries i j)
    as_many = length-map entries (λ (entry : Entry). entry.stamp) ∙ sym (length-swap entries i j)

    at_other : (k : ℕ) (d : Entry) → k < length afters → k ≢ i → k ≢ j → get_or ones k d ≡ get_or afters k d
    at_other k d within apart_i apart_j =
        let moved = swapped_from_swap entries (swap entries i j) i j d in_i in_j refl in
        let here : get_or (swap entries i j) k d ≡ get_or entries k d = moved.2 k apart_i apart_j in
        let stamp : get_or (stamps_of entries) k 0 ≡ (get_or entries k d).stamp =
        get_or-map (λ (entry : Entry). entry.stamp) entries k d 0 (omega (arith, within, length-swap entries i j)) in
        get_or-with_stamps (stamps_of entries) (swap entries i j) k d within as_many
        ∙ rw (stamp, here) refl

    at_any : (k : ℕ) (d : Entry) → k < length afters
        → with_stamp (version + 1) (get_or ones k d) ≡ with_stamp (version + 1) (get_or afters k d)
    at_any k d within =
        ap (with_stamp (version + 1)) (get_or-with_stamps (stamps_of entries) (swap entries i j) k d within as_many)

    place : (k : ℕ) (d : Entry) → k < length afters → (k ≡ i) ⊎ (k ≢ i) → (k ≡ j) ⊎ (k ≢ j)
        → cond (k == i || k == j) (with_stamp (version + 1) (get_or ones k d)) (get_or ones k d)
        ≡ cond (k == i || k == j) (with_stamp (version + 1) (get_or afters k d)) (get_or afters k d)
    place k d within (inl is) other = rw (eq-eqb k i is) (at_any k d within)
    place k d within (inr apart) (inl is) = rw (not_eq k i apart, eq-eqb k j is) (at_any k d within)
    place k d within (inr apart) (inr also) = rw (not_eq k i apart, not_eq k j also) (at_other k d within apart also)

    cut : stamped_where test (version + 1) ones ≡ stamped_where test (version + 1) afters
    cut =
        same_lists _ _
        (length-stamped_where test (version + 1) ones ∙ long ∙ sym (length-stamped_where test (version + 1) afters))
        (λ k d within.
        let inside : k < length ones = omega (arith, within, length-stamped_where test (version + 1) ones) in
        get_or-stamped_where test (version + 1) ones k d inside
        ∙ place k d (omega (arith, inside, long)) (cases_eq k i) (cases_eq k j)
        ∙ sym (get_or-stamped_where test (version + 1) afters k d (omega (arith, inside, long))))

    of : (b : Bool) → cond b (map (with_stamp 1) ones) (stamped_where test (version + 1) ones)
        ≡ cond b (map (with_stamp 1) afters) (stamped_where test (version + 1) afters)
    of true = one_stamp-same 1 ones afters (unstamped-with_stamps (stamps_of entries) (swap entries i j))
    of false = cut

-- entries of dropped URIs are taken out
pub restamped-kept : (version first : ℕ) (dropped changed : Uris) (entries : List Entry) → first ≤ length entries
    → restamped_batch version first changed (with_stamps (stamps_of entries) (kept_from first dropped entries))
    ≡ restamped_batch version first changed (kept_from first dropped entries)
restamped-kept version first dropped changed entries within = of (version == MAX_VERSION)
  where
    afters : List Entry
    afters = kept_from first dropped entries

    ones : List Entry
    ones = with_stamps (stamps_of entries) (kept_from first dropped entries)

    same : unstamped ones ≡ unstamped afters
    same = unstamped-with_stamps (stamps_of entries) (kept_from first dropped entries)

    in_front : take first afters ≡ take first entries
    in_front = take_at (take first entries) (kept (drop first entries) dropped) first (length-take-le first entries within)

    front : take first ones ≡ take first afters
    front =
        take-with_stamps first (stamps_of entries) (kept_from first dropped entries)
        ∙ ap (with_stamps (take first (stamps_of entries))) in_front
        ∙ sym (take-with_stamps first (stamps_of entries) entries) ∙ ap (take first) (own-stamps entries) ∙ sym in_front

    back : map (with_stamp (version + 1)) (drop first ones) ≡ map (with_stamp (version + 1)) (drop first afters)
    back =
        sym (drop-map (with_stamp (version + 1)) first ones)
        ∙ ap (λ l. drop first l) (one_stamp-same (version + 1) ones afters same)
        ∙ drop-map (with_stamp (version + 1)) first afters

    of : (b : Bool)
        → cond b (map (with_stamp 1) ones) (marked changed (version + 1) (take first ones) ++ map (with_stamp (version + 1)) (drop first ones))
        ≡ cond b (map (with_stamp 1) afters)
        (marked changed (version + 1) (take first afters) ++ map (with_stamp (version + 1)) (drop first afters))
    of true = one_stamp-same 1 ones afters same
    of false = rw (front, back) refl

-- the entries of a range are changed
pub map_range-none : (f : Entry → Entry) (xs : List Entry) (start : ℕ)
    → take start xs ++ (map f (slice_range xs start start) ++ drop start xs) ≡ xs
map_range-none f xs start = rw (between_none xs start) (take-append-drop start xs)

pub length-map_range : (f : Entry → Entry) (xs : List Entry) (start at : ℕ) → start ≤ at → at ≤ length xs
    → length (take start xs ++ (map f (slice_range xs start at) ++ drop at xs)) ≡ length xs
length-map_range f xs start at from within =
    omega (
      arith,
      length-append (take start xs) (map f (slice_range xs start at) ++ drop at xs),
      length-append (map f (slice_range xs start at)) (drop at xs),
      length-map (slice_range xs start at) f,
      length-between xs start at within,
      length-take-le start xs (omega arith),
      length-drop at xs,
    )

pub map_range-more : (f : Entry → Entry) (xs ys : List Entry) (start at : ℕ) (d : Entry) → start ≤ at → at < length xs
    → ys ≡ take start xs ++ (map f (slice_range xs start at) ++ drop at xs)
    → set ys at (f (get_or ys at d)) ≡ take start xs ++ (map f (slice_range xs start (at + 1)) ++ drop (at + 1) xs)
map_range-more f xs ys start at d from within is =
    let front : List Entry = take start xs ++ map f (slice_range xs start at) in
    let one : Entry = get_or xs at d in
    let long : length front ≡ at =
    omega (
      arith,
      length-append (take start xs) (map f (slice_range xs start at)),
      length-map (slice_range xs start at) f,
      length-between xs start at (omega arith),
      length-take-le start xs (omega arith),
    ) in
    let rest : drop at xs ≡ one ∷ drop (at + 1) xs = drop_more xs at d within in
    let whole : ys ≡ front ++ (one ∷ drop (at + 1) xs) =
    is ∙ sym (append_assoc (take start xs) (map f (slice_range xs start at)) (drop at xs)) ∙ ap (λ l. front ++ l) rest in
    let read : get_or ys at d ≡ one = ap (λ l. get_or l at d) whole ∙ get_or_at front one (drop (at + 1) xs) d at long in
    let more : map f (slice_range xs start (at + 1)) ≡ map f (slice_range xs start at) ++ f one ∷ [] =
    ap (map f) (between_more xs start at d from within) ∙ map-append f (slice_range xs start at) (one ∷ []) in
    rw read (ap (λ l. set l at (f one)) whole ∙ set_at front one (drop (at + 1) xs) (f one) at long)
    ∙ append_assoc (take start xs) (map f (slice_range xs start at)) (f one ∷ drop (at + 1) xs)
    ∙ ap (λ l. take start xs ++ l) (sym (ap (λ l. l ++ drop (at + 1) xs) more
    ∙ append_assoc (map f (slice_range xs start at)) (f one ∷ []) (drop (at + 1) xs)))

-- lengths
pub length-part : (stamps middle : List ℕ) (start end : ℕ) → start ≤ end → end ≤ length stamps → length middle ≡ end - start
    → length (take start stamps ++ (middle ++ drop end stamps)) ≡ length stamps
length-part stamps middle start end forward within as_many =
    omega (
      arith,
      length-append (take start stamps) (middle ++ drop end stamps),
      length-append middle (drop end stamps),
      length-take-le start stamps (omega arith),
      length-drop end stamps,
    )

pub length-anew_stamps : (ids befores : List ℕ) (stamp : ℕ) (stamps : List ℕ) → length (stamps_anew ids befores stamp stamps) ≡ length stamps
length-anew_stamps [] befores stamp stamps = refl
length-anew_stamps (id ∷ ids) [] stamp stamps = refl
length-anew_stamps (id ∷ ids) (before ∷ befores) stamp [] = refl
length-anew_stamps (id ∷ ids) (before ∷ befores) stamp (own ∷ owns) = ap suc (length-anew_stamps ids befores stamp owns)

-- the ids of a range
pub ids-between : (entries : List Entry) (start end : ℕ)
    → slice_range (ids_of entries) start end ≡ ids_of (slice_range entries start end)
ids-between entries start end = simp (take-map, drop-map)

-- the code's steps: one more position
one_more : (k : ℕ) → suc (k + 1) ≡ suc k + 1
one_more k = omega arith

pub anew-kept : (ids befores : List ℕ) (stamp : ℕ) (stamps : List ℕ) (i : ℕ) → i < length ids → length befores ≡ length ids
    → length ids ≡ length stamps → get_or ids i 0 ≡ get_or befores i 0
    → stamps_anew (take i ids) (take i befores) stamp stamps ≡ stamps_anew (take (i + 1) ids) (take (i + 1) befores) stamp stamps
anew-kept [] befores stamp stamps i within long also same = absurd (omega arith)
anew-kept (id ∷ ids) [] stamp stamps i within long also same = absurd (omega arith)
anew-kept (id ∷ ids) (before ∷ befores) stamp [] i within long also same = absurd (omega arith)
anew-kept (id ∷ ids) (before ∷ befores) stamp (own ∷ owns) zero within long also same = rw (eq-eqb id before same) refl
anew-kept (id ∷ ids) (before ∷ befores) stamp (own ∷ owns) (suc i) within long also same =
    ap (λ l. cond (id == before) own stamp ∷ l)
    (anew-kept ids befores stamp owns i (omega arith) (omega arith) (omega arith) same)
    ∙ ap (λ n. stamps_anew (take n (id ∷ ids)) (take n (before ∷ befores)) stamp (own ∷ owns)) (one_more i)

pub anew-new : (ids befores : List ℕ) (stamp : ℕ) (stamps : List ℕ) (i : ℕ) → i < length ids → length befores ≡ length ids
    → length ids ≡ length stamps → get_or ids i 0 ≢ get_or befores i 0
    → set (stamps_anew (take i ids) (take i befores) stamp stamps) i stamp
    ≡ stamps_anew (take (i + 1) ids) (take (i + 1) befores) stamp stamps
anew-new [] befores stamp stamps i within long also apart = absurd (omega arith)
anew-new (id ∷ ids) [] stamp stamps i within long also apart = absurd (omega arith)
anew-new (id ∷ ids) (before ∷ befores) stamp [] i within long also apart = absurd (omega arith)
anew-new (id ∷ ids) (before ∷ befores) stamp (own ∷ owns) zero within long also apart = rw (not_eq id before apart) refl
anew-new (id ∷ ids) (before ∷ befores) stamp (own ∷ owns) (suc i) within long also apart =
    ap (λ l. cond (id == before) own stamp ∷ l)
    (anew-new ids befores stamp owns i (omega arith) (omega arith) (omega arith) apart)
    ∙ ap (λ n. stamps_anew (take n (id ∷ ids)) (take n (before ∷ befores)) stamp (own ∷ owns)) (one_more i)
