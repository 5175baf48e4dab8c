-- Blocks that change places, and what moves and additions make of them.
use Rattle.std.proofs.Common.{◌≡◌, ℕ, ◌+◌, ◌-◌, ◌<◌, ◌≤◌, List, ◌++◌, length, take, drop, slice_range, refl, sym, ap, ◌∙◌, arith}
use borrow.Rule.Slice.PartMut.{put_mid}
use Rattle.std.proofs.lemmas.List.{append_assoc, take-take, take-append-le, drop-append-le, drop-drop, drop-take, take_at, drop_at}
use Rattle.std.proofs.lemmas.List.{take-append-drop, length-take-le, length-append}
use Rattle.std.proofs.lemmas.List.Edits.{split_between, between_none, length-between}
use Rattle.std.proofs.lemmas.Slice.{between_is}
use Rattle.play_queue.specs.declared.entry.Entry.{Entry}
use Rattle.play_queue.specs.Entries.{deleted, moved}
use Rattle.play_queue.specs.Restamp.{exchanged}

-- two ranges that follow each other
pub block-block : {T : Type 0} (xs : List T) (low middle high : ℕ) → low ≤ middle → middle ≤ high
    → slice_range xs low high ≡ slice_range xs low middle ++ slice_range xs middle high
block-block xs low middle high first second =
    let n : ℕ = middle - low in
    let m : ℕ = high - middle in
    let whole : high - low ≡ n + m = omega arith in
    let to_middle : low + n ≡ middle = omega arith in
    let front : take n (take (n + m) (drop low xs)) ≡ take n (drop low xs) = take-take n (n + m) (drop low xs) (omega arith) in
    let back : drop n (take (n + m) (drop low xs)) ≡ take m (drop middle xs) =
    drop-take n m (drop low xs) ∙ ap (take m) (drop-drop n low xs ∙ ap (λ k. drop k xs) to_middle) in
    rw whole (sym (take-append-drop n (take (n + m) (drop low xs))) ∙ ap (λ l. l ++ drop n (take (n + m) (drop low xs))) front
    ∙ ap (λ l. take n (drop low xs) ++ l) back)

pub exchanged-made : {T : Type 0} (xs : List T) (low middle high : ℕ) (ys : List T) → low ≤ middle → middle ≤ high → high ≤ length xs
    → ys ≡ drop (middle - low) (slice_range xs low high) ++ take (middle - low) (slice_range xs low high)
    → put_mid low (high - low) xs ys ≡ exchanged xs low middle high
exchanged-made xs low middle high ys first second within made =
    let both = block-block xs low middle high first second in
    let long : length (slice_range xs low middle) ≡ middle - low = length-between xs low middle (omega arith) in
    let to_high : low + (high - low) ≡ high = omega arith in
    let turned : ys ≡ slice_range xs middle high ++ slice_range xs low middle =
    made ∙ rw (
      both,
      drop_at (slice_range xs low middle) (slice_range xs middle high) (middle - low) long,
      take_at (slice_range xs low middle) (slice_range xs middle high) (middle - low) long,
    ) refl in
    let rest : drop (high - low) (drop low xs) ≡ drop high xs = drop-drop (high - low) low xs ∙ ap (λ k. drop k xs) to_high in
    rw (turned, rest) (refl)

-- the list in four parts
pub in_parts : {T : Type 0} (xs : List T) (low middle high : ℕ) → low ≤ middle → middle ≤ high
    → xs ≡ take low xs ++ ((slice_range xs low middle ++ slice_range xs middle high) ++ drop high xs)
in_parts xs low middle high first second = split_between xs low high (omega arith)
    ∙ ap (λ l. take low xs ++ (l ++ drop high xs)) (block-block xs low middle high first second)

-- a block moves up
pub moved-up : (xs : List Entry) (start end to : ℕ) → to < start → start ≤ end → end ≤ length xs
    → moved xs start end to ≡ exchanged xs to start end
moved-up xs start end to below forward within =
    let front : length (take start xs) ≡ start = length-take-le start xs (omega arith) in
    let short : to ≤ length (take start xs) = omega arith in
    let first : take to (deleted xs start end) ≡ take to xs = take-append-le to (take start xs) (drop end xs) short
    ∙ take-take to start xs (omega arith) in
    let second : drop to (deleted xs start end) ≡ slice_range xs to start ++ drop end xs =
    drop-append-le to (take start xs) (drop end xs) short ∙ ap (λ l. l ++ drop end xs) (sym (between_is xs to start)) in
    rw (first, second) (ap (λ l. take to xs ++ l) (sym (append_assoc (slice_range xs start end) (slice_range xs to start) (drop end xs))))

-- a block moves down
pub moved-down : (xs : List Entry) (start end to : ℕ) → start < to → start ≤ end → end ≤ length xs → to ≤ length xs - (end - start)
    → moved xs start end to ≡ exchanged xs start end (to + (end - start))
moved-down xs start end to below forward within rest =
    let high : ℕ = to + (end - start) in
    let front : length (take start xs) ≡ start = length-take-le start xs (omega arith) in
    let between_long : length (slice_range xs end high) ≡ high - end = length-between xs end high (omega arith) in
    let back : drop end xs ≡ slice_range xs end high ++ drop high xs = sym (take-append-drop (high - end) (drop end xs))
    ∙ ap (λ l. slice_range xs end high ++ l) (drop-drop (high - end) end xs ∙ ap (λ k. drop k xs) (omega arith)) in
    let whole : deleted xs start end ≡ (take start xs ++ slice_range xs end high) ++ drop high xs =
    ap (λ l. take start xs ++ l) back ∙ sym (append_assoc (take start xs) (slice_range xs end high) (drop high xs)) in
    let long : length (take start xs ++ slice_range xs end high) ≡ to =
    omega (arith, length-append (take start xs) (slice_range xs end high)) in
    rw (
      whole,
      take_at (take start xs ++ slice_range xs end high) (drop high xs) to long,
      drop_at (take start xs ++ slice_range xs end high) (drop high xs) to long,
    )
    (append_assoc (take start xs) (slice_range xs end high) (slice_range xs start end ++ drop high xs)
    ∙ ap (λ l. take start xs ++ l) (sym (append_assoc (slice_range xs end high) (slice_range xs start end) (drop high xs))))

-- an empty block, and a block that stays
pub moved-none : (xs : List Entry) (start to : ℕ) → moved xs start start to ≡ xs
moved-none xs start to = rw (take-append-drop start xs, between_none xs start) (take-append-drop to xs)

pub moved-back : (xs : List Entry) (start end : ℕ) → start ≤ end → end ≤ length xs → moved xs start end start ≡ xs
moved-back xs start end forward within =
    let front : length (take start xs) ≡ start = length-take-le start xs (omega arith) in
    rw (take_at (take start xs) (drop end xs) start front, drop_at (take start xs) (drop end xs) start front)
    (sym (split_between xs start end forward))
