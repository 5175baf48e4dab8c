-- Songs that come into a playlist in front of its end.
use Rattle.std.proofs.Common.{◌≡◌, ℕ, ◌+◌, ◌<◌, ◌≤◌, Bool, true, false, List, [], ◌∷◌, ◌++◌, length, is_some, Option, Some, None, Ok, Err}
use Rattle.std.proofs.Common.{refl, sym, ap, ◌∙◌, arith}
use Rattle.std.proofs.lemmas.List.{length-append}
use Rattle.std.specs.Option.{option_or}
use Rattle.std.specs.Prelude.{if◌then◌else◌}
use Rattle.state_codec.proofs.Edits.{length-uris_at}
use Rattle.state_codec.proofs.KeptOps.{cond_none, found_songs, map_none, named_none, not_none}
use Rattle.state_codec.specs.Applied.{after, after_all, refusal_of}
use Rattle.state_codec.specs.OpsSongs.{have_rows, uris_at}
use Rattle.state_codec.specs.SavedState.{SavedState}
use Rattle.state_codec.specs.declared.op.Op.TheVariants.{List as Lists}
use Rattle.state_codec.specs.declared.op.list_op.ListOp.{ListOp}
use Rattle.state_codec.specs.declared.op.list_op.ListOp.TheVariants.{Add}
use Rattle.state_codec.specs.declared.refusal.OpRefusal.{OpRefusal}
use Rattle.stored_lists.specs.Lists.{added_to, songs_of, songs_or_none, with_songs}
use Rattle.stored_lists.specs.Name.{is_good_name}
use Rattle.stored_lists.specs.Songs.{Uris}
use Rattle.machine_core.specs.Changed.{same_lists}
use Rattle.machine_core.specs.ListMoves.{of_lists, puts_in, song_moves, together}
use Rattle.machine_core.specs.Meaning.{Meant, does, refusal_of_all, stands, unless_refused}
use Rattle.machine_core.specs.State.{MachineState}
use Rattle.machine_core.specs.Told.{op_told, told}
use Rattle.machine_core.proofs.Lists.Moves.{Brings, found_with, length-moved_all, moved_all, moves_bring, with_again}
use Rattle.machine_core.proofs.SameParts.{lists_decide}

-- the ops: the songs are added, and go to their place
abbrev pub placed_ops : List ℕ → List ℕ → ℕ → ℕ → List ListOp
placed_ops name rows at end = Add name rows ∷ song_moves false name end at (length rows)

pub placed_is : (name rows : List ℕ) (at end : ℕ) (m : MachineState) → 0 < length rows
    → puts_in name rows at end m ≡ together (placed_ops name rows at end) m
placed_is name [] at end m some = let no : ⊥ = omega (arith, some) in absurd no
placed_is name (row ∷ rows) at end m some = refl

module _ (name rows : List ℕ) (at end : ℕ) (m : MachineState) (is : end ≡ length (songs_or_none m.saved.lists name)) (front : at < end)
    (some : 0 < length rows) where
  abbrev s : SavedState
  s = m.saved

  abbrev old : Uris
  old = songs_or_none s.lists name

  abbrev new : Uris
  new = uris_at s.songs rows

  abbrev moves : List ListOp
  moves = song_moves false name end at (length rows)

  abbrev result : Uris
  result = moved_all false (old ++ new) end at (length rows)

  there : songs_of s.lists name ≡ Some old
  there = found_songs s.lists name (of (songs_of s.lists name) refl)
    where
      of : (o : Option Uris) → songs_of s.lists name ≡ o → is_some o ≡ true
      of (Some songs) found = refl
      of None found =
          let none : length (songs_or_none s.lists name) ≡ 0 = rw found refl in
          let no : ⊥ = omega (arith, is, none, front) in absurd no

  grown : (after (Lists (Add name rows)) s).lists ≡ with_songs s.lists name (old ++ new)
  grown = ap (λ o. added_to o s.lists name new) there

  module _ (free : refusal_of (Lists (Add name rows)) s ≡ None) where
    abbrev t : SavedState
    t = after (Lists (Add name rows)) s

    has : have_rows s.songs rows ≡ true
    has = (named_none (have_rows s.songs rows) _ free).0

    good : is_good_name name ≡ true
    good = not_none (is_good_name name) (cond_none _ _ _ (map_none _ _ (named_none (have_rows s.songs rows) _ free).1)).0

    long : length (old ++ new) ≡ end + length rows
    long = omega (arith, length-append old new, length-uris_at s.songs rows has, is)

    brought : Brings moves name t result
    brought = moves_bring false name end at (length rows) t (old ++ new) good
        (ap (λ l. songs_of l name) grown ∙ found_with s.lists name old (old ++ new) there) (omega (arith, long))
        (omega (arith, long, front))

    pub placed_free : refusal_of_all (of_lists (placed_ops name rows at end)) s ≡ None
    placed_free = ap (λ o. option_or o (refusal_of_all (of_lists moves) t)) free ∙ brought.free

    pub placed_lists : (after_all (of_lists (placed_ops name rows at end)) s).lists ≡ with_songs s.lists name result
    placed_lists = brought.lists ∙ ap (λ l. with_songs l name result) grown ∙ with_again s.lists name (old ++ new) result

    differs : same_lists s.lists (after_all (of_lists (placed_ops name rows at end)) s).lists ≡ false
    differs = of (same_lists s.lists (after_all (of_lists (placed_ops name rows at end)) s).lists) refl
      where
        of : (b : Bool) → same_lists s.lists (after_all (of_lists (placed_ops name rows at end)) s).lists ≡ b → b ≡ false
        of false same = refl
        of true same =
            let equal : s.lists ≡ (after_all (of_lists (placed_ops name rows at end)) s).lists = (lists_decide _ _).0 same in
            let both : Some old ≡ Some result =
            sym there ∙ ap (λ l. songs_of l name) (equal ∙ placed_lists) ∙ found_with s.lists name old result there in
            let songs : old ≡ result = cc in
            let longer : length result ≡ length (old ++ new) =
            length-moved_all false (old ++ new) end at (length rows) (omega (arith, long)) (omega (arith, long, front)) in
            let no : ⊥ = omega (arith, ap length songs, longer, long, is, some) in absurd no

    pub placed_means : puts_in name rows at end m ≡ Ok (does [] (of_lists (placed_ops name rows at end)) m.player m)
    placed_means = placed_is name rows at end m some
        ∙ ap (λ o. unless_refused (told o) (if same_lists s.lists (after_all (of_lists (placed_ops name rows at end)) s).lists
        then stands [] m else does [] (of_lists (placed_ops name rows at end)) m.player m)) placed_free
        ∙ ap (λ b. Ok (if b then stands [] m else does [] (of_lists (placed_ops name rows at end)) m.player m)) differs

  pub placed_refused : (e : OpRefusal) → refusal_of (Lists (Add name rows)) s ≡ Some e → puts_in name rows at end m ≡ Err (op_told e)
  placed_refused e refused = placed_is name rows at end m some
      ∙ ap (λ o. unless_refused (told (option_or o (refusal_of_all (of_lists moves) (after (Lists (Add name rows)) s))))
      (if same_lists s.lists (after_all (of_lists (placed_ops name rows at end)) s).lists
      then stands [] m else does [] (of_lists (placed_ops name rows at end)) m.player m)) refused
