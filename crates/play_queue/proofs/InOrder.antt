-- Entries in the order of their ids, each with the song that its id has.
use Rattle.std.proofs.Common.{◌≡◌, ◌≢◌, ℕ, ◌+◌, ◌-◌, ◌<◌, ◌≤◌, Bool, true, false, cond, ◌==◌, ◌||◌, nat_eq, List, [], ◌∷◌, ◌++◌}
use Rattle.std.proofs.Common.{◌⊎◌, inl, inr, length, get_or, set, map, take, drop, slice_range, Option, Some, None, is_some, refl, sym, ap, ◌∙◌, arith}
use Rattle.std.proofs.Common.{append_assoc}
use Rattle.std.specs.List.{All, list_any, swap}
use Rattle.std.specs.List.Sorted.{IsPermutation}
use Rattle.std.proofs.lemmas.Bool.{cases_eq, cases_lt, eq-eqb, eqb-true}
use Rattle.std.proofs.lemmas.List.{length-append, length-map, length-set, map-set, get_or-map, get_or-set_same, get_or-set_other, map-append}
use Rattle.std.proofs.lemmas.List.{take-map, drop-map, take_at, same_lists, get_or_append_left, get_or_at}
use Rattle.std.proofs.lemmas.List.Folds.{list_any-append, list_any_at, list_any_none}
use Rattle.std.proofs.lemmas.List.Sorted.{list_any-IsPermutation, IsPermutation-append_comm, IsPermutation-append_left, IsPermutation-append_right}
use Rattle.play_queue.specs.declared.entry.Entry.{Entry}
use Rattle.play_queue.specs.declared.song.Song.{Song}
use Rattle.play_queue.specs.Entries.{Uris, new_entries, with_priority}
use Rattle.play_queue.specs.Queue.{AllDiffer, ids_of, with_stamp}
use Rattle.play_queue.specs.Restamp.{exchanged}
use Rattle.play_queue.specs.Songs.{Songs, song_of, unstamped_entry, entry_of, in_order, unstamped, AreInOrder}
use Rattle.play_queue.proofs.Added.{new_entries-push}
use Rattle.play_queue.proofs.Blocks.{in_parts}
use Rattle.play_queue.proofs.OwnIds.{all_differ-permutation, all_differ-front, differ_at}
use Rattle.play_queue.proofs.Where.{not_eq}

-- an id is one of these
abbrev pub has : List ℕ → ℕ → Bool
has ids id = list_any (λ other. other == id) ids

-- the ids
pub id-unstamped : (id : ℕ) (song : Option Song) → (unstamped_entry id song).id ≡ id
id-unstamped id None = refl
id-unstamped id (Some song) = refl

pub ids-in_order : (songs : Songs) (ids : List ℕ) → ids_of (in_order songs ids) ≡ ids
ids-in_order songs [] = refl
ids-in_order songs (id ∷ ids) =
    ap (λ first. first ∷ ids_of (in_order songs ids)) (id-unstamped id (song_of songs id)) ∙ ap (λ l. id ∷ l) (ids-in_order songs ids)

pub has-ids : (entries : List Entry) (id : ℕ) → list_any (λ (entry : Entry). entry.id == id) entries ≡ has (ids_of entries) id
has-ids [] id = refl
has-ids (entry ∷ entries) id = ap (λ b. (entry.id == id) || b) (has-ids entries id)

pub has-in_order : (songs : Songs) (ids : List ℕ) (id : ℕ)
    → list_any (λ (entry : Entry). entry.id == id) (in_order songs ids) ≡ has ids id
has-in_order songs ids id = has-ids (in_order songs ids) id ∙ ap (λ l. has l id) (ids-in_order songs ids)

-- blocks of a list whose elements are mapped
pub exchanged-map : {A B : Type 0} (f : A → B) (xs : List A) (low middle high : ℕ)
    → exchanged (map f xs) low middle high ≡ map f (exchanged xs low middle high)
exchanged-map f xs low middle high = simp (map-append, take-map, drop-map)

pub exchanged-permutes : {T : Type 0} (xs : List T) (low middle high : ℕ) → low ≤ middle → middle ≤ high
    → IsPermutation xs (exchanged xs low middle high)
exchanged-permutes xs low middle high below above =
    let front = take low xs in
    let first = slice_range xs low middle in
    let second = slice_range xs middle high in
    let back = drop high xs in
    let split : xs ≡ front ++ ((first ++ second) ++ back) = in_parts xs low middle high below above in
    let turned : IsPermutation (front ++ ((first ++ second) ++ back)) (front ++ ((second ++ first) ++ back)) =
    IsPermutation-append_right front _ _ (IsPermutation-append_left back _ _ (IsPermutation-append_comm first second)) in
    rw (← split) at turned

-- ids in another order
pub in_order-permuted : (songs : Songs) (order others : List ℕ) → IsPermutation order others → AreInOrder songs order
    → AreInOrder songs others
in_order-permuted songs order others moved kept = record {
  own_ids = all_differ-permutation order others moved kept.own_ids;
  same = λ id. kept.same id ∙ list_any-IsPermutation (λ other. other == id) order others moved;
}

-- songs that agree at the ids
pub in_order-same : (songs others : Songs) (ids : List ℕ) → ((id : ℕ) → has ids id ≡ true → song_of songs id ≡ song_of others id)
    → in_order songs ids ≡ in_order others ids
in_order-same songs others [] same = refl
in_order-same songs others (id ∷ ids) same =
    ap (λ song. unstamped_entry id song ∷ in_order songs ids) (same id (ap (λ b. b || has ids id) (eq-eqb id id refl)))
    ∙ ap (λ l. entry_of others id ∷ l) (in_order-same songs others ids (λ other there. same other (or_right (id == other) (has ids other) there)))
  where
    or_right : (a b : Bool) → b ≡ true → (a || b) ≡ true
    or_right true b is = refl
    or_right false b is = is

-- the last id leaves
pub last_alone : (ids : List ℕ) (id : ℕ) → AllDiffer (ids ++ id ∷ []) → has ids id ≡ false
last_alone ids id own = list_any_none (λ other. other == id) ids (λ k d within.
    let last : get_or (ids ++ id ∷ []) (length ids) d ≡ id = get_or_at ids id [] d (length ids) refl in
    let here : get_or (ids ++ id ∷ []) k d ≡ get_or ids k d = get_or_append_left ids (id ∷ []) d k within in
    not_eq (get_or ids k d) id
    (λ same. own k (length ids) d within (omega (arith, length-append ids (id ∷ []))) (here ∙ same ∙ sym last)))

abbrev pub Without : Songs → Songs → ℕ → Type 0
Without songs others id = (other : ℕ) → song_of others other ≡ cond (nat_eq id other) None (song_of songs other)

left-same : (songs others : Songs) (id other : ℕ) → Without songs others id → other ≢ id → song_of songs other ≡ song_of others other
left-same songs others id other left apart =
    sym (left other ∙ ap (λ b. cond b None (song_of songs other)) (not_eq id other (λ same. apart (sym same))))

pub in_order-less : (songs others : Songs) (ids : List ℕ) (id : ℕ) → AreInOrder songs (ids ++ id ∷ []) → Without songs others id
    → AreInOrder others ids
in_order-less songs others ids id kept left = record {
  own_ids = all_differ-front ids (id ∷ []) kept.own_ids;
  same = λ other. ap is_some (left other) ∙ of other (nat_eq id other) refl;
}
  where
    of : (other : ℕ) (b : Bool) → nat_eq id other ≡ b → is_some (cond b None (song_of songs other)) ≡ has ids other
    of other true same =
        let is : id ≡ other = eqb-true id other same in
        sym (ap (has ids) (sym is) ∙ last_alone ids id kept.own_ids)
    of other false apart =
        kept.same other ∙ list_any-append (λ o. o == other) ids (id ∷ []) ∙ ap (λ b. has ids other || (b || false)) apart
        ∙ or_false (has ids other)
      where
        or_false : (b : Bool) → (b || (false || false)) ≡ b
        or_false true = refl
        or_false false = refl

pub entries-less : (songs others : Songs) (ids : List ℕ) (id : ℕ) → AreInOrder songs (ids ++ id ∷ []) → Without songs others id
    → in_order others ids ≡ take (length (in_order songs (ids ++ id ∷ [])) - 1) (in_order songs (ids ++ id ∷ []))
entries-less songs others ids id kept left =
    let alone = last_alone ids id kept.own_ids in
    let whole : in_order songs (ids ++ id ∷ []) ≡ in_order songs ids ++ (entry_of songs id ∷ []) = map-append (entry_of songs) ids (id ∷ []) in
    let long : length (in_order songs (ids ++ id ∷ [])) ≡ length (in_order songs ids) + 1 =
    ap length whole ∙ length-append (in_order songs ids) (entry_of songs id ∷ []) in
    let count : length (in_order songs (ids ++ id ∷ [])) - 1 ≡ length (in_order songs ids) = omega arith in
    sym (in_order-same songs others ids (λ other there. left-same songs others id other left
    (λ same. absurd (let both : true ≡ false = sym there ∙ ap (has ids) same ∙ alone in cc))))
    ∙ sym (rw (count, whole) (take_at (in_order songs ids) (entry_of songs id ∷ []) (length (in_order songs ids)) refl))

-- a song gets another priority
pub prioritized-at : (songs others : Songs) (ids : List ℕ) (at priority : ℕ) (song changed : Song) (d : Entry) → AreInOrder songs ids
    → at < length ids → song_of songs (get_or ids at 0) ≡ Some song → changed.uri ≡ song.uri → changed.priority ≡ priority
    → ((id : ℕ) → song_of others id ≡ cond (nat_eq (get_or ids at 0) id) (Some changed) (song_of songs id))
    → in_order others ids ≡ set (in_order songs ids) at (with_priority priority (get_or (in_order songs ids) at d))
prioritized-at songs others ids at priority song changed d kept within has_song uri is updates =
    let long : length (in_order others ids) ≡ length ids = length-map ids (entry_of others) in
    let also : length (in_order songs ids) ≡ length ids = length-map ids (entry_of songs) in
    let there : get_or (in_order songs ids) at d ≡ entry_of songs (get_or ids at 0) = get_or-map (entry_of songs) ids at 0 d within in
    let new : Entry = with_priority priority (get_or (in_order songs ids) at d) in
    same_lists (in_order others ids) (set (in_order songs ids) at new)
    (omega (arith, length-set (in_order songs ids) at new))
    (λ k e inside.
    let here : get_or (in_order others ids) k e ≡ entry_of others (get_or ids k 0) = get_or-map (entry_of others) ids k 0 e (omega arith) in
    here ∙ of k e (omega arith) (cases_eq k at))
  where
    new_entry : unstamped_entry (get_or ids at 0) (Some changed) ≡ with_priority priority (unstamped_entry (get_or ids at 0) (Some song))
    new_entry = rw (uri, is) refl

    of : (k : ℕ) (e : Entry) → k < length ids → (k ≡ at) ⊎ (k ≢ at)
        → entry_of others (get_or ids k 0) ≡ get_or (set (in_order songs ids) at (with_priority priority (get_or (in_order songs ids) at d))) k e
    of k e inside (inl same) =
        let there : get_or (in_order songs ids) at d ≡ entry_of songs (get_or ids at 0) = get_or-map (entry_of songs) ids at 0 d within in
        let also : length (in_order songs ids) ≡ length ids = length-map ids (entry_of songs) in
        let in_both : at < length (in_order songs ids) = omega arith in
        rw (
          same,
          get_or-set_same (in_order songs ids) at (with_priority priority (get_or (in_order songs ids) at d)) e in_both,
          there,
          updates (get_or ids at 0),
          eq-eqb (get_or ids at 0) (get_or ids at 0) refl,
          has_song,
        ) new_entry
    of k e inside (inr apart) =
        let other : get_or ids at 0 ≢ get_or ids k 0 = differ_at ids at k kept.own_ids within inside (λ same. apart (sym same)) in
        rw (
          get_or-set_other (in_order songs ids) at k (with_priority priority (get_or (in_order songs ids) at d)) e apart,
          updates (get_or ids k 0),
          not_eq (get_or ids at 0) (get_or ids k 0) other,
        )
        (sym (get_or-map (entry_of songs) ids k 0 e inside))

pub song_at : (songs : Songs) (ids : List ℕ) (at : ℕ) → AreInOrder songs ids → at < length ids
    → (song : Song) × (song_of songs (get_or ids at 0) ≡ Some song)
song_at songs ids at kept within =
    of (song_of songs (get_or ids at 0))
    (kept.same (get_or ids at 0) ∙ list_any_at (λ other. other == get_or ids at 0) ids at 0 within
    (eq-eqb (get_or ids at 0) (get_or ids at 0) refl))
  where
    of : (r : Option Song) → is_some r ≡ true → (song : Song) × (r ≡ Some song)
    of None some = absurd (cc)
    of (Some song) some = (song, refl)

pub in_order-prioritized : (songs others : Songs) (ids : List ℕ) (one : ℕ) (song changed : Song) → AreInOrder songs ids
    → song_of songs one ≡ Some song
    → ((id : ℕ) → song_of others id ≡ cond (nat_eq one id) (Some changed) (song_of songs id)) → AreInOrder others ids
in_order-prioritized songs others ids one song changed kept has_song updates = record {
  own_ids = kept.own_ids;
  same = λ id. ap is_some (updates id) ∙ of id (nat_eq one id) refl;
}
  where
    of : (id : ℕ) (b : Bool) → nat_eq one id ≡ b → is_some (cond b (Some changed) (song_of songs id)) ≡ has ids id
    of id true same = sym (ap is_some has_song) ∙ ap (λ n. is_some (song_of songs n)) (eqb-true one id same) ∙ kept.same id
    of id false apart = kept.same id

pub swap-map : {A B : Type 0} (f : A → B) (xs : List A) (i j : ℕ) → i < length xs → j < length xs
    → swap (map f xs) i j ≡ map f (swap xs i j)
swap-map f [] i j in_i in_j = refl
swap-map f (x ∷ xs) i j in_i in_j =
    let first : get_or (map f (x ∷ xs)) i (f x) ≡ f (get_or (x ∷ xs) i x) = get_or-map f (x ∷ xs) i x (f x) in_i in
    let second : get_or (map f (x ∷ xs)) j (f x) ≡ f (get_or (x ∷ xs) j x) = get_or-map f (x ∷ xs) j x (f x) in_j in
    rw (map-set f (set (x ∷ xs) i (get_or (x ∷ xs) j x)) j (get_or (x ∷ xs) i x), map-set f (x ∷ xs) i (get_or (x ∷ xs) j x), first, second)
    refl

-- a new id at the end
absent : (songs : Songs) (ids : List ℕ) (id : ℕ) → AreInOrder songs ids → has ids id ≡ false → song_of songs id ≡ None
absent songs ids id kept none = of (song_of songs id) (kept.same id ∙ none)
  where
    of : (r : Option Song) → is_some r ≡ false → r ≡ None
    of None is = refl
    of (Some song) is = absurd (cc)

pub absent-new : (songs : Songs) (ids : List ℕ) (first id : ℕ) → AreInOrder songs ids
    → All (λ (entry : Entry). entry.id < first) (in_order songs ids) → first ≤ id → song_of songs id ≡ None
absent-new songs ids first id kept below above =
    absent songs ids id kept (sym (has-in_order songs ids id)
    ∙ list_any_none (λ (entry : Entry). entry.id == id) (in_order songs ids)
    (λ k d within. not_eq (get_or (in_order songs ids) k d).id id (λ same. absurd (omega (arith, below k d within)))))

pub absent-other : (songs : Songs) (ids : List ℕ) (id : ℕ) → AreInOrder songs ids
    → list_any (λ (entry : Entry). entry.id == id) (in_order songs ids) ≡ false → song_of songs id ≡ None
absent-other songs ids id kept none = absent songs ids id kept (sym (has-in_order songs ids id) ∙ none)

abbrev pub With : Songs → Songs → ℕ → Song → Type 0
With songs others id song = (other : ℕ) → song_of others other ≡ cond (nat_eq id other) (Some song) (song_of songs other)

not_there : (songs : Songs) (ids : List ℕ) (id : ℕ) → AreInOrder songs ids → song_of songs id ≡ None → has ids id ≡ false
not_there songs ids id kept none = sym (kept.same id) ∙ ap is_some none

apart-from : (ids : List ℕ) (id k : ℕ) (d : ℕ) → has ids id ≡ false → k < length ids → get_or ids k d ≢ id
apart-from ids id k d none within same =
    absurd (let found : has ids id ≡ true = list_any_at (λ other. other == id) ids k d within (eq-eqb (get_or ids k d) id same) in
    let both : true ≡ false = sym found ∙ none in cc)

pub in_order-more : (songs others : Songs) (ids : List ℕ) (id : ℕ) (song : Song) → AreInOrder songs ids → song_of songs id ≡ None
    → With songs others id song → AreInOrder others (ids ++ id ∷ [])
in_order-more songs others ids id song kept none updates = record {
  own_ids = λ i j d below within. differ i j d below within (cases_lt j (length ids));
  same = λ other. ap is_some (updates other) ∙ of other (nat_eq id other) refl
      ∙ sym (list_any-append (λ o. o == other) ids (id ∷ []));
}
  where
    alone : has ids id ≡ false
    alone = not_there songs ids id kept none

    differ : (i j d : ℕ) → i < j → j < length (ids ++ id ∷ []) → (j < length ids) ⊎ (length ids ≤ j)
        → get_or (ids ++ id ∷ []) i d ≢ get_or (ids ++ id ∷ []) j d
    differ i j d below within (inl inside) =
        rw (get_or_append_left ids (id ∷ []) d i (omega arith), get_or_append_left ids (id ∷ []) d j inside) (kept.own_ids i j d below inside)
    differ i j d below within (inr last) =
        let long = length-append ids (id ∷ []) in
        let at : length ids ≡ j = omega arith in
        rw (get_or_append_left ids (id ∷ []) d i (omega arith), get_or_at ids id [] d j at) (apart-from ids id i d alone (omega arith))

    of : (other : ℕ) (b : Bool) → nat_eq id other ≡ b
        → is_some (cond b (Some song) (song_of songs other)) ≡ (has ids other || ((id == other) || false))
    of other true same = sym (ap (λ b. has ids other || (b || false)) same ∙ or_true (has ids other))
      where
        or_true : (b : Bool) → (b || (true || false)) ≡ true
        or_true true = refl
        or_true false = refl
    of other false apart = kept.same other ∙ sym (ap (λ b. has ids other || (b || false)) apart ∙ or_false (has ids other))
      where
        or_false : (b : Bool) → (b || (false || false)) ≡ b
        or_false true = refl
        or_false false = refl

pub entries-more : (songs others : Songs) (ids : List ℕ) (id : ℕ) (song : Song) → AreInOrder songs ids → song_of songs id ≡ None
    → With songs others id song → in_order others (ids ++ id ∷ []) ≡ in_order songs ids ++ unstamped_entry id (Some song) ∷ []
entries-more songs others ids id song kept none updates =
    let alone = not_there songs ids id kept none in
    let last : entry_of others id ≡ unstamped_entry id (Some song) =
    ap (unstamped_entry id) (updates id ∙ ap (λ b. cond b (Some song) (song_of songs id)) (eq-eqb id id refl)) in
    map-append (entry_of others) ids (id ∷ [])
    ∙ ap (λ l. in_order others ids ++ (l ∷ [])) last
    ∙ ap (λ l. l ++ (unstamped_entry id (Some song) ∷ [])) (sym (in_order-same songs others ids (λ other there.
    sym (updates other ∙ ap (λ b. cond b (Some song) (song_of songs other))
    (not_eq id other (λ same. absurd (let both : true ≡ false = sym there ∙ ap (has ids) (sym same) ∙ alone in cc)))))))

pub step_entries : (now before : List Entry) (first : ℕ) (uris : Uris) (uri : List ℕ) (id : ℕ) (song : Song)
    → now ≡ before ++ unstamped (new_entries first uris) → id ≡ first + length uris → song.uri ≡ uri → song.priority ≡ 0
    → now ++ unstamped_entry id (Some song) ∷ [] ≡ before ++ unstamped (new_entries first (uris ++ uri ∷ []))
step_entries now before first uris uri id song is at same none =
    rw (is, at, same, none, new_entries-push first uris uri)
    (append_assoc before (unstamped (new_entries first uris)) _
    ∙ ap (λ l. before ++ l) (sym (map-append (with_stamp 0) (new_entries first uris) _)))

pub none_later : (songs others : Songs) (id : ℕ) (song : Song) → With songs others id song
    → ((other : ℕ) → id ≤ other → song_of songs other ≡ None) → (other : ℕ) → id + 1 ≤ other → song_of others other ≡ None
none_later songs others id song updates none other above =
    updates other ∙ ap (λ b. cond b (Some song) (song_of songs other)) (not_eq id other (λ same. absurd (omega arith)))
    ∙ none other (omega arith)
