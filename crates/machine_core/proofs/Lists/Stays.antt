-- Whether a block of a playlist stays as it is where it goes.
use Rattle.std.proofs.Common.{◌≡◌, ℕ, ◌+◌, ◌-◌, ◌<◌, ◌≤◌, Bool, true, false, List, [], ◌∷◌, ◌++◌, length, take, drop, slice_range, Decides, Some}
use Rattle.std.proofs.Common.{refl, sym, ap, ◌∙◌, arith}
use Rattle.std.proofs.lemmas.Bool.{false≢true}
use Rattle.std.proofs.lemmas.List.{append_assoc, append_cancel_left, append_cancel_right, length-drop, length-take-le, take-append-drop}
use Rattle.std.proofs.lemmas.List.Folds.{drop_split}
use Rattle.state_codec.specs.OpsLists.{same_uris}
use Rattle.stored_lists.proofs.Absent.{with_songs_same}
use Rattle.stored_lists.specs.Lists.{Stored, songs_of, with_songs}
use Rattle.stored_lists.specs.Songs.{Uris}
use Rattle.machine_core.specs.Changed.{same_lists}
use Rattle.machine_core.proofs.Lists.Blocks.{block_down, block_up}
use Rattle.machine_core.proofs.Lists.Moves.{found_with, moved_all}
use Rattle.machine_core.proofs.SameParts.{lists_decide, uris_decide}

-- two tests of one thing
one_test : {P Q : Type 0} (a b : Bool) → Decides a P → Decides b Q → (P → Q) → (Q → P) → a ≡ b
one_test true true of_a of_b there back = refl
one_test false false of_a of_b there back = refl
one_test true false of_a of_b there back = absurd (false≢true (of_b.1 (there (of_a.0 refl))))
one_test false true of_a of_b there back = absurd (false≢true (of_a.1 (back (of_b.0 refl))))

-- two runs that stand together change their places
abbrev pub turned_in : Uris → ℕ → ℕ → ℕ → Uris
turned_in songs low high at = let run = slice_range songs low high in take low songs ++ (drop at run ++ (take at run ++ drop high songs))

-- the songs in front of two runs, the runs, and those behind them
module _ (songs : Uris) (low high at : ℕ) (forward : low ≤ high) (inside : high ≤ length songs) (middle : at ≤ high - low) where
  abbrev run : Uris
  run = slice_range songs low high

  parts : songs ≡ take low songs ++ (take at run ++ (drop at run ++ drop high songs))
  parts =
      sym (take-append-drop low songs)
      ∙ ap (λ l. take low songs ++ l) (drop_split songs low high forward)
      ∙ ap (λ l. take low songs ++ (l ++ drop high songs)) (sym (take-append-drop at run))
      ∙ ap (λ l. take low songs ++ l) (append_assoc (take at run) (drop at run) (drop high songs))

  front_long : length (take low songs) ≡ low
  front_long = length-take-le low songs (omega (arith, forward, inside))

  run_long : length run ≡ high - low
  run_long = length-take-le (high - low) (drop low songs) (omega (arith, length-drop low songs, inside))

  first_long : length (take at run) ≡ at
  first_long = length-take-le at run (omega (arith, run_long, middle))

  second_long : length (drop at run) ≡ high - low - at
  second_long = omega (arith, length-drop at run, run_long)

  abbrev turned : Uris
  turned = turned_in songs low high at

  -- behind it the songs are as before just where the runs are the same in this order
  pub turned_test : (lists : Stored) (name : List ℕ) (result : Uris) → songs_of lists name ≡ Some songs → result ≡ turned
      → same_uris (drop at run ++ take at run) run ≡ same_lists lists (with_songs lists name result)
  turned_test lists name result found is =
      one_test _ _ (uris_decide (drop at run ++ take at run) run) (lists_decide lists (with_songs lists name result))
      (λ same. sym (ap (with_songs lists name) (is ∙ back same) ∙ with_songs_same lists name songs found))
      (λ same. let both : Some songs ≡ Some result =
      sym found ∙ ap (λ l. songs_of l name) same ∙ found_with lists name songs result found in
      let equal : songs ≡ result = cc in there (equal ∙ is))
    where
      back : drop at run ++ take at run ≡ run → turned ≡ songs
      back same =
          ap (λ l. take low songs ++ l) (sym (append_assoc (drop at run) (take at run) (drop high songs)))
          ∙ ap (λ l. take low songs ++ (l ++ drop high songs)) same
          ∙ ap (λ l. take low songs ++ l) (sym (drop_split songs low high forward)) ∙ take-append-drop low songs

      there : songs ≡ turned → drop at run ++ take at run ≡ run
      there equal =
          let runs : take at run ++ (drop at run ++ drop high songs) ≡ drop at run ++ (take at run ++ drop high songs) =
          append_cancel_left (take low songs) _ _ (sym parts ∙ equal) in
          let joined : (take at run ++ drop at run) ++ drop high songs ≡ (drop at run ++ take at run) ++ drop high songs =
          append_assoc (take at run) (drop at run) (drop high songs) ∙ runs
          ∙ sym (append_assoc (drop at run) (take at run) (drop high songs)) in
          sym (append_cancel_right _ _ (drop high songs) joined) ∙ take-append-drop at run

-- a block that goes on
pub turned_on : (songs : Uris) (start end to : ℕ) → start ≤ end → start < to → to + (end - start) ≤ length songs
    → moved_all true songs start to (end - start) ≡ turned_in songs start (to + (end - start)) (end - start)
turned_on songs start end to forward on fits =
    let k : ℕ = end - start in
    let low_high : start ≤ to + k = omega (arith, on) in
    let middle : k ≤ to + k - start = omega (arith, on) in
    let p : Uris = take start songs in
    let a : Uris = take k (run songs start (to + k) k low_high fits middle) in
    let b : Uris = drop k (run songs start (to + k) k low_high fits middle) in
    let p_long : length p ≡ start = front_long songs start (to + k) k low_high fits middle in
    let a_long : length a ≡ k = first_long songs start (to + k) k low_high fits middle in
    let b_long : start + (to + k - start - k) ≡ to = omega (arith, on) in
    let place : length p + length b ≡ to =
    (λ i. p_long i + second_long songs start (to + k) k low_high fits middle i) ∙ b_long in
    (λ i. moved_all true (parts songs start (to + k) k low_high fits middle i) (sym p_long i) (sym place i) (sym a_long i))
    ∙ block_down p a b (drop (to + k) songs)

-- and one that goes back
pub turned_back : (songs : Uris) (start end to : ℕ) → start ≤ end → to ≤ start → end ≤ length songs
    → moved_all false songs start to (end - start) ≡ turned_in songs to end (start - to)
turned_back songs start end to forward back inside =
    let k : ℕ = start - to in
    let low_high : to ≤ end = omega (arith, forward, back) in
    let middle : k ≤ end - to = omega (arith, forward, back) in
    let p : Uris = take to songs in
    let a : Uris = take k (run songs to end k low_high inside middle) in
    let b : Uris = drop k (run songs to end k low_high inside middle) in
    let p_long : length p ≡ to = front_long songs to end k low_high inside middle in
    let place : length p + length a ≡ start =
    (λ i. p_long i + first_long songs to end k low_high inside middle i) ∙ (omega (arith, back)) in
    let b_long : length b ≡ end - start =
    second_long songs to end k low_high inside middle ∙ (omega (arith, forward, back)) in
    (λ i. moved_all false (parts songs to end k low_high inside middle i) (sym place i) (sym p_long i) (sym b_long i))
    ∙ block_up p a b (drop end songs)
