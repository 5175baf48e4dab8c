-- Whether a block stays where it is, told by the songs that it passes.
use Rattle.std.proofs.Common.{◌≡◌, ℕ, ◌+◌, ◌-◌, ◌<◌, ◌≤◌, Bool, true, false, nat_lt, List, [], ◌++◌, length, take, drop, slice_range, Option, Some}
use Rattle.std.proofs.Common.{None, refl, sym, ap, ◌∙◌, arith}
use Rattle.std.proofs.lemmas.Bool.Decides.{nat_tests}
use Rattle.std.specs.Prelude.{if◌then◌else◌, max, min}
use Rattle.state_codec.specs.Applied.{after_all}
use Rattle.state_codec.specs.OpsLists.{same_uris}
use Rattle.state_codec.specs.SavedState.{SavedState}
use Rattle.stored_lists.specs.Lists.{songs_of, songs_or_none, with_songs}
use Rattle.stored_lists.specs.Name.{is_good_name}
use Rattle.stored_lists.specs.Songs.{Uris}
use Rattle.machine_core.specs.Changed.{same_lists}
use Rattle.machine_core.specs.ListMoves.{block_moves, of_lists, with_block_at}
use Rattle.machine_core.specs.Spans.{count_of}
use Rattle.machine_core.specs.declared.span.Span.{Span}
use Rattle.machine_core.proofs.Lists.Moves.{Brings}
use Rattle.machine_core.proofs.Lists.Stays.{turned_test}
use Rattle.machine_core.proofs.Lists.Whole.{back_is, block_brings, no_moves, on_is}
use Rattle.machine_core.proofs.SameParts.{lists_decide}

module _ (name : List ℕ) (block : Span) (to : ℕ) (songs : Uris) (s : SavedState) (good : is_good_name name ≡ true)
    (found : songs_of s.lists name ≡ Some songs) (forward : block.start ≤ block.end) (inside : block.end ≤ length songs)
    (fits : to + count_of block ≤ length songs) where
  abbrev k : ℕ
  k = count_of block

  abbrev result : Uris
  result = with_block_at songs block to

  -- what its moves make of the playlists
  made : (after_all (of_lists (block_moves name block to)) s).lists ≡ with_songs s.lists name result
  made = (let brought : Brings (block_moves name block to) name s result = block_brings name block to s songs good found forward inside fits in
      brought.lists)

  pub block_test : (low high at : ℕ) → low ≡ min block.start to → high ≡ max block.end (to + k)
      → at ≡ (if nat_lt block.start to then block.end else block.start) - low
      → (let run = slice_range songs low high in same_uris (drop at run ++ take at run) run)
      ≡ same_lists s.lists (after_all (of_lists (block_moves name block to)) s).lists
  block_test low high at low_is high_is at_is = of (nat_lt block.start to) refl at_is ∙ ap (same_lists s.lists) (sym made)
    where
      of : (on : Bool) → nat_lt block.start to ≡ on → at ≡ (if on then block.end else block.start) - low
          → (let run = slice_range songs low high in same_uris (drop at run ++ take at run) run)
          ≡ same_lists s.lists (with_songs s.lists name result)
      of true is place =
          let ahead : block.start < to = grind (arith, nat_tests, is) in
          let from : low ≡ block.start = omega (arith, low_is, ahead) in
          let end : high ≡ to + k = omega (arith, high_is, ahead, forward) in
          let middle : at ≡ k = omega (arith, place, from, forward) in
          (λ i. let run = slice_range songs (from i) (end i) in same_uris (drop (middle i) run ++ take (middle i) run) run)
          ∙ turned_test songs block.start (to + k) k (omega (arith, ahead)) fits (omega (arith, ahead)) s.lists name result found
          (sym (on_is songs block.start block.end to forward inside ahead fits))
      of false is place =
          let back : to ≤ block.start = grind (arith, nat_tests, is) in
          let from : low ≡ to = omega (arith, low_is, back) in
          let end : high ≡ block.end = omega (arith, high_is, back, forward) in
          let middle : at ≡ block.start - to = omega (arith, place, from) in
          (λ i. let run = slice_range songs (from i) (end i) in same_uris (drop (middle i) run ++ take (middle i) run) run)
          ∙ turned_test songs to block.end (block.start - to) (omega (arith, back, forward)) inside (omega (arith, back, forward)) s.lists name
          result found (sym (back_is songs block.start block.end to forward inside back))

-- of a missing playlist nothing moves
pub none_test : (name : List ℕ) (block : Span) (to : ℕ) (s : SavedState) → songs_of s.lists name ≡ None
    → block.end ≤ length (songs_or_none s.lists name)
    → true ≡ same_lists s.lists (after_all (of_lists (block_moves name block to)) s).lists
none_test name block to s missing inside =
    let long : length (songs_or_none s.lists name) ≡ 0 = rw missing refl in
    let none : block_moves name block to ≡ [] = no_moves name block to (omega (arith, long, inside)) in
    sym (ap (λ ops. same_lists s.lists (after_all (of_lists ops) s).lists) none ∙ (lists_decide s.lists s.lists).1 refl)
