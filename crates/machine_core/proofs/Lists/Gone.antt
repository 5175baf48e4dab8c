-- What a command leaves of a playlist in which songs move.
use Rattle.std.proofs.Common.{◌≡◌, ℕ, ◌+◌, ◌-◌, ◌<◌, ◌≤◌, Bool, true, false, nat_lt, nat_le, List, [], ◌∷◌, ◌++◌, length, Option}
use Rattle.std.proofs.Common.{Some, None, Ok, Err, refl, sym, ap, ◌∙◌, arith}
use Rattle.std.proofs.lemmas.Bool.Decides.{nat_tests}
use Rattle.std.proofs.lemmas.List.{take-append-drop}
use Rattle.std.specs.Prelude.{if◌then◌else◌}
use Rattle.command_text.specs.declared.refusal.CommandRefusal.TheVariants.{BadIndex}
use Rattle.state_codec.proofs.Edits.{length-uris_at}
use Rattle.state_codec.proofs.KeptOps.{named_none}
use Rattle.state_codec.specs.Applied.{after_all, refusal_of}
use Rattle.state_codec.specs.OpsSongs.{have_rows, uris_at}
use Rattle.state_codec.specs.SavedState.{SavedState}
use Rattle.state_codec.specs.declared.op.Op.TheVariants.{List as Lists}
use Rattle.state_codec.specs.declared.op.list_op.ListOp.{ListOp}
use Rattle.state_codec.specs.declared.op.list_op.ListOp.TheVariants.{Add}
use Rattle.state_codec.specs.declared.refusal.OpRefusal.{OpRefusal}
use Rattle.stored_lists.specs.Lists.{songs_of, songs_or_none}
use Rattle.stored_lists.specs.Name.{is_good_name}
use Rattle.stored_lists.specs.Songs.{Uris}
use Rattle.stored_lists.proofs.Absent.{songs_or_none_present}
use Rattle.machine_core.specs.Changed.{same_lists}
use Rattle.machine_core.specs.ListMoves.{block_moves, moves_songs, of_lists, puts_in, together, with_block_at, with_songs_at}
use Rattle.machine_core.specs.Meaning.{Meaning, does, refusal_of_all, stands, unless_refused}
use Rattle.machine_core.specs.Spans.{count_of}
use Rattle.machine_core.specs.State.{MachineState}
use Rattle.machine_core.specs.Told.{told}
use Rattle.machine_core.specs.declared.span.Span.{Span}
use Rattle.machine_core.proofs.Lists.Moves.{Brings, found_with, moved_all}
use Rattle.machine_core.proofs.Lists.Placed.{placed_free, placed_is, placed_lists, placed_ops, placed_refused}
use Rattle.machine_core.proofs.Lists.Whole.{added_go, block_brings}
use Rattle.machine_core.proofs.SameParts.{lists_decide}

-- ops of which none is refused leave the playlists that they make, also where they aren't made
together_leaves : (ops : List ListOp) (m : MachineState) (x : Meaning) → refusal_of_all (of_lists ops) m.saved ≡ None
    → together ops m ≡ Ok x → x.after.saved.lists ≡ (after_all (of_lists ops) m.saved).lists
together_leaves ops m x free is =
    of (same_lists m.saved.lists (after_all (of_lists ops) m.saved).lists) refl
    (sym (ap (λ o. unless_refused (told o) (if same_lists m.saved.lists (after_all (of_lists ops) m.saved).lists
    then stands [] m else does [] (of_lists ops) m.player m)) free) ∙ is)
  where
    of : (same : Bool) → same_lists m.saved.lists (after_all (of_lists ops) m.saved).lists ≡ same
        → unless_refused None (if same then stands [] m else does [] (of_lists ops) m.player m) ≡ Ok x
        → x.after.saved.lists ≡ (after_all (of_lists ops) m.saved).lists
    of true same e =
        let equal : stands [] m ≡ x = cc in
        ap (λ (y : Meaning). y.after.saved.lists) (sym equal) ∙ (lists_decide m.saved.lists (after_all (of_lists ops) m.saved).lists).0 same
    of false other e =
        let equal : does [] (of_lists ops) m.player m ≡ x = cc in ap (λ (y : Meaning). y.after.saved.lists) (sym equal)

-- a block stands at its place of the rest
pub block_stands : (name : List ℕ) (block : Span) (to : ℕ) (songs : Uris) (m : MachineState) (x : Meaning) → is_good_name name ≡ true
    → songs_of m.saved.lists name ≡ Some songs → block.start ≤ block.end → block.end ≤ length songs
    → moves_songs name block to (length songs) m ≡ Ok x → songs_of x.after.saved.lists name ≡ Some (with_block_at songs block to)
block_stands name block to songs m x good found forward inside = of (nat_le to (length songs - count_of block)) refl
  where
    of : (fits : Bool) → nat_le to (length songs - count_of block) ≡ fits
        → (if fits then together (block_moves name block to) m else Err BadIndex) ≡ Ok x
        → songs_of x.after.saved.lists name ≡ Some (with_block_at songs block to)
    of false past is = absurd (cc)
    of true fits is =
        let small : to ≤ length songs - count_of block = grind (arith, nat_tests, fits) in
        let within : to + count_of block ≤ length songs = omega (arith, small, forward, inside) in
        let brought : Brings (block_moves name block to) name m.saved (with_block_at songs block to) =
        block_brings name block to m.saved songs good found forward inside within in
        ap (λ l. songs_of l name) (together_leaves (block_moves name block to) m x brought.free is ∙ brought.lists)
        ∙ found_with m.saved.lists name songs (with_block_at songs block to) found

-- songs that are added stand at their place
module _ (name : List ℕ) (at : ℕ) (old : Uris) (m : MachineState) (x : Meaning) (found : songs_of m.saved.lists name ≡ Some old)
    (front : at < length old) where
  same_end : length old ≡ length (songs_or_none m.saved.lists name)
  same_end = ap length (sym (songs_or_none_present m.saved.lists name old found))

  some_stand : (rows : List ℕ) → 0 < length rows → (o : Option OpRefusal) → refusal_of (Lists (Add name rows)) m.saved ≡ o
      → puts_in name rows at (length old) m ≡ Ok x
      → songs_of x.after.saved.lists name ≡ Some (with_songs_at old (uris_at m.saved.songs rows) at)
  some_stand rows some (Some e) refused is =
      absurd (let clash = sym (placed_refused name rows at (length old) m same_end front some e refused) ∙ is in cc)
  some_stand rows some None free is =
      let kept : songs_or_none m.saved.lists name ≡ old = songs_or_none_present m.saved.lists name old found in
      let new : Uris = uris_at m.saved.songs rows in
      let many : length new ≡ length rows =
      length-uris_at m.saved.songs rows (named_none (have_rows m.saved.songs rows) _ free).0 in
      let result : Uris = moved_all false (songs_or_none m.saved.lists name ++ new) (length old) at (length rows) in
      ap (λ l. songs_of l name) (together_leaves (placed_ops name rows at (length old)) m x
      (placed_free name rows at (length old) m same_end front some free)
      (sym (placed_is name rows at (length old) m some) ∙ is)
      ∙ placed_lists name rows at (length old) m same_end front some free)
      ∙ found_with m.saved.lists name old result found
      ∙ ap Some ((λ i. moved_all false (kept i ++ new) (length old) at (sym many i)) ∙ added_go old new at (omega (arith, front)))

  pub songs_stand : (rows : List ℕ) → puts_in name rows at (length old) m ≡ Ok x
      → songs_of x.after.saved.lists name ≡ Some (with_songs_at old (uris_at m.saved.songs rows) at)
  songs_stand [] is =
      let equal : stands [] m ≡ x = cc in
      ap (λ (y : Meaning). songs_of y.after.saved.lists name) (sym equal) ∙ found ∙ ap Some (sym (take-append-drop at old))
  songs_stand (row ∷ rows) is = some_stand (row ∷ rows) (omega arith) (refusal_of (Lists (Add name (row ∷ rows))) m.saved) refl is
