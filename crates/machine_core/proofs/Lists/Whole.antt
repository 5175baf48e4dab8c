-- Where the songs of a playlist stand, once some of them have moved.
use Rattle.std.proofs.Common.{◌≡◌, ℕ, zero, suc, ◌+◌, ◌-◌, ◌<◌, ◌≤◌, Bool, true, false, nat_lt, List, [], ◌∷◌, ◌++◌, length, take, drop, slice_range}
use Rattle.std.proofs.Common.{Some, refl, sym, ap, subst, ◌∙◌, arith}
use Rattle.std.proofs.lemmas.Bool.Decides.{nat_tests}
use Rattle.std.proofs.lemmas.List.{append_assoc, append-nil, drop-append-le, drop-drop, drop-take, length-take-le, take-append-drop, take-append-le}
use Rattle.std.proofs.lemmas.List.{length-drop, take-take}
use Rattle.std.proofs.lemmas.Bool.{le-ltb}
use Rattle.std.specs.Prelude.{if◌then◌else◌}
use Rattle.state_codec.specs.SavedState.{SavedState}
use Rattle.state_codec.specs.declared.op.list_op.ListOp.{ListOp}
use Rattle.stored_lists.specs.Lists.{songs_of}
use Rattle.stored_lists.specs.Name.{is_good_name}
use Rattle.stored_lists.specs.Songs.{Uris, without_range}
use Rattle.machine_core.specs.ListMoves.{block_moves, moves_back, moves_on, song_moves, with_block_at, with_songs_at}
use Rattle.machine_core.specs.Spans.{count_of}
use Rattle.machine_core.specs.declared.span.Span.{Span}
use Rattle.machine_core.proofs.Lists.Blocks.{block_up}
use Rattle.machine_core.proofs.Lists.Moves.{Brings, moved_all, moves_bring}
use Rattle.machine_core.proofs.Lists.Stays.{turned_back, turned_in, turned_on}

take_past : (p q : Uris) (m : ℕ) → take (length p + m) (p ++ q) ≡ p ++ take m q
take_past [] q m = let none : 0 + m ≡ m = omega arith in ap (λ k. take k q) none
take_past (x ∷ p) q m =
    let more : suc (length p) + m ≡ suc (length p + m) = omega arith in
    ap (λ k. take k (x ∷ (p ++ q))) more ∙ ap (λ l. x ∷ l) (take_past p q m)

drop_past : (p q : Uris) (m : ℕ) → drop (length p + m) (p ++ q) ≡ drop m q
drop_past [] q m = let none : 0 + m ≡ m = omega arith in ap (λ k. drop k q) none
drop_past (x ∷ p) q m =
    let more : suc (length p) + m ≡ suc (length p + m) = omega arith in
    ap (λ k. drop k (x ∷ (p ++ q))) more ∙ drop_past p q m

module _ (songs : Uris) (start end to : ℕ) (forward : start ≤ end) (inside : end ≤ length songs) where
  abbrev k : ℕ
  k = end - start

  abbrev block : Uris
  block = slice_range songs start end

  front_long : length (take start songs) ≡ start
  front_long = length-take-le start songs (omega (arith, forward, inside))

  -- a block that went back
  pub back_is : to ≤ start → turned_in songs to end (start - to) ≡ with_songs_at (without_range songs start end) block to
  back_is back =
      let run : Uris = slice_range songs to end in
      let long : end - to ≡ start - to + (end - start) = omega (arith, forward, back) in
      let there : to + (start - to) ≡ start = omega (arith, back) in
      let second : drop (start - to) run ≡ block =
      ap (λ j. drop (start - to) (take j (drop to songs))) long ∙ drop-take (start - to) (end - start) (drop to songs)
      ∙ ap (take (end - start)) (drop-drop (start - to) to songs) ∙ ap (λ j. take (end - start) (drop j songs)) there in
      let first : take (start - to) run ≡ drop to (take start songs) =
      take-take (start - to) (end - to) (drop to songs) (omega (arith, forward, back))
      ∙ sym (ap (λ j. drop to (take j songs)) (sym there) ∙ drop-take to (start - to) songs) in
      let before : take to songs ≡ take to (without_range songs start end) =
      sym (take-append-le to (take start songs) (drop end songs) (omega (arith, front_long, back)) ∙ take-take to start songs back) in
      let behind : drop to (take start songs) ++ drop end songs ≡ drop to (without_range songs start end) =
      sym (drop-append-le to (take start songs) (drop end songs) (omega (arith, front_long, back))) in
      (λ i. before i ++ (second i ++ (first i ++ drop end songs)))
      ∙ ap (λ l. take to (without_range songs start end) ++ (block ++ l)) behind

  -- and one that went on
  pub on_is : start < to → to + (end - start) ≤ length songs
      → turned_in songs start (to + (end - start)) (end - start) ≡ with_songs_at (without_range songs start end) block to
  on_is on fits =
      let run : Uris = slice_range songs start (to + k) in
      let long : to + k - start ≡ k + (to - start) = omega (arith, on) in
      let there : start + k ≡ end = omega (arith, forward) in
      let second : drop k run ≡ take (to - start) (drop end songs) =
      ap (λ j. drop k (take j (drop start songs))) long ∙ drop-take k (to - start) (drop start songs)
      ∙ ap (take (to - start)) (drop-drop k start songs) ∙ ap (λ j. take (to - start) (drop j songs)) there in
      let first : take k run ≡ block = take-take k (to + k - start) (drop start songs) (omega (arith, on)) in
      let place : to ≡ length (take start songs) + (to - start) = omega (arith, front_long, on) in
      let before : take to (without_range songs start end) ≡ take start songs ++ take (to - start) (drop end songs) =
      ap (λ j. take j (without_range songs start end)) place ∙ take_past (take start songs) (drop end songs) (to - start) in
      let far : end + (to - start) ≡ to + k = omega (arith, forward, on) in
      let behind : drop to (without_range songs start end) ≡ drop (to + k) songs =
      ap (λ j. drop j (without_range songs start end)) place ∙ drop_past (take start songs) (drop end songs) (to - start)
      ∙ drop-drop (to - start) end songs ∙ ap (λ j. drop j songs) far in
      (λ i. take start songs ++ (second i ++ (first i ++ drop (to + k) songs)))
      ∙ sym (append_assoc (take start songs) (take (to - start) (drop end songs)) (block ++ drop (to + k) songs))
      ∙ (λ i. sym before i ++ (block ++ sym behind i))

-- the ops of a block, or of the songs that it passes, bring it to its place of the rest
pub block_brings : (name : List ℕ) (block : Span) (to : ℕ) (s : SavedState) (songs : Uris) → is_good_name name ≡ true
    → songs_of s.lists name ≡ Some songs → block.start ≤ block.end → block.end ≤ length songs → to + count_of block ≤ length songs
    → Brings (block_moves name block to) name s (with_block_at songs block to)
block_brings name block to s songs good found forward inside fits = of (nat_lt block.start to) refl
  where
    on : nat_lt block.start to ≡ true → (fewer : Bool) → nat_lt (to - block.start) (count_of block) ≡ fewer
        → Brings (if fewer then song_moves false name block.end block.start (to - block.start) else song_moves true name block.start to (count_of block))
        name s (with_block_at songs block to)
    on is true less =
        let ahead : block.start < to = grind (arith, nat_tests, is) in
        let count : to - block.start ≡ to + count_of block - block.end = omega (arith, forward, ahead) in
        subst (Brings (song_moves false name block.end block.start (to - block.start)) name s)
        (ap (moved_all false songs block.end block.start) count
        ∙ turned_back songs block.end (to + count_of block) block.start (omega (arith, forward, ahead)) forward fits
        ∙ on_is songs block.start block.end to forward inside ahead fits)
        (moves_bring false name block.end block.start (to - block.start) s songs good found (omega (arith, forward, ahead, fits))
        (omega (arith, ahead, fits)))
    on is false more =
        let ahead : block.start < to = grind (arith, nat_tests, is) in
        subst (Brings (song_moves true name block.start to (count_of block)) name s)
        (turned_on songs block.start block.end to forward ahead fits ∙ on_is songs block.start block.end to forward inside ahead fits)
        (moves_bring true name block.start to (count_of block) s songs good found (omega (arith, forward, inside)) fits)

    back : nat_lt block.start to ≡ false → (fewer : Bool) → nat_lt (block.start - to) (count_of block) ≡ fewer
        → Brings (if fewer then song_moves true name to (to + count_of block) (block.start - to) else song_moves false name block.start to (count_of block))
        name s (with_block_at songs block to)
    back is true less =
        let behind : to ≤ block.start = grind (arith, nat_tests, is) in
        let few : block.start - to < count_of block = grind (arith, nat_tests, less) in
        let high : to + count_of block + (block.start - to) ≡ block.end = omega (arith, forward, behind) in
        subst (Brings (song_moves true name to (to + count_of block) (block.start - to)) name s)
        (turned_on songs to block.start (to + count_of block) behind (omega (arith, few)) (omega (arith, high, inside))
        ∙ ap (λ n. turned_in songs to n (block.start - to)) high
        ∙ back_is songs block.start block.end to forward inside behind)
        (moves_bring true name to (to + count_of block) (block.start - to) s songs good found (omega (arith, behind, forward, inside))
        (omega (arith, high, inside)))
    back is false more =
        let behind : to ≤ block.start = grind (arith, nat_tests, is) in
        subst (Brings (song_moves false name block.start to (count_of block)) name s)
        (turned_back songs block.start block.end to forward behind inside
        ∙ back_is songs block.start block.end to forward inside behind)
        (moves_bring false name block.start to (count_of block) s songs good found (omega (arith, forward, inside)) fits)

    of : (b : Bool) → nat_lt block.start to ≡ b
        → Brings (if b then moves_on name block to else moves_back name block to) name s (with_block_at songs block to)
    of true is = on is (nat_lt (to - block.start) (count_of block)) refl
    of false is = back is (nat_lt (block.start - to) (count_of block)) refl

-- an empty block has none
pub no_moves : (name : List ℕ) (block : Span) (to : ℕ) → count_of block ≡ 0 → block_moves name block to ≡ []
no_moves name block to empty = of (nat_lt block.start to)
  where
    none : (last_first : Bool) (from there n : ℕ) → n ≡ 0 → song_moves last_first name from there n ≡ []
    none true from there zero is = refl
    none false from there zero is = refl
    none last_first from there (suc n) is = let no : ⊥ = omega (arith, is) in absurd no

    of : (b : Bool) → (if b then moves_on name block to else moves_back name block to) ≡ []
    of true =
        ap (λ b. if b then song_moves false name block.end block.start (to - block.start) else song_moves true name block.start to (count_of block))
        (le-ltb (to - block.start) (count_of block) (omega (arith, empty)))
        ∙ none true block.start to (count_of block) empty
    of false =
        ap (λ b. if b then song_moves true name to (to + count_of block) (block.start - to) else song_moves false name block.start to (count_of block))
        (le-ltb (block.start - to) (count_of block) (omega (arith, empty)))
        ∙ none false block.start to (count_of block) empty

-- songs from the end go to a place
pub added_go : (old new : Uris) (at : ℕ) → at ≤ length old
    → moved_all false (old ++ new) (length old) at (length new) ≡ with_songs_at old new at
added_go old new at within =
    let front : length (take at old) ≡ at = length-take-le at old within in
    let both : length (take at old) + length (drop at old) ≡ length old = omega (arith, front, length-drop at old, within) in
    let whole : old ++ new ≡ take at old ++ (drop at old ++ (new ++ [])) =
    ap (λ l. l ++ new) (sym (take-append-drop at old)) ∙ append_assoc (take at old) (drop at old) new
    ∙ ap (λ l. take at old ++ (drop at old ++ l)) (sym (append-nil new)) in
    (λ i. moved_all false (whole i) (sym both i) (sym front i) (length new))
    ∙ block_up (take at old) (drop at old) new []
    ∙ ap (λ l. take at old ++ (new ++ l)) (append-nil (drop at old))
