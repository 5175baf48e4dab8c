-- Songs of a block that are still to go.
use Rattle.std.proofs.Common.{◌≡◌, ℕ, zero, suc, ◌+◌, ◌-◌, ◌<◌, ◌≤◌, Bool, true, false, List, [], ◌∷◌, ◌++◌, Option, Some, None, refl, sym, ap, ◌∙◌, arith}
use Rattle.std.proofs.lemmas.List.{append_assoc}
use Rattle.std.specs.Option.{option_or}
use Rattle.std.specs.Prelude.{if◌then◌else◌}
use Rattle.state_codec.specs.Applied.{after, refusal_of}
use Rattle.state_codec.specs.OpsLists.{lists_edited}
use Rattle.state_codec.specs.SavedState.{SavedState}
use Rattle.state_codec.specs.declared.op.Op.{Op}
use Rattle.state_codec.specs.declared.op.Op.TheVariants.{List as Lists}
use Rattle.state_codec.specs.declared.op.list_op.ListOp.{ListOp}
use Rattle.state_codec.specs.declared.op.list_op.ListOp.TheVariants.{Move}
use Rattle.state_codec.specs.declared.refusal.OpRefusal.{OpRefusal}
use Rattle.machine_core.specs.ListMoves.{of_lists, song_moves}
use Rattle.machine_core.specs.ListMovesLeft.{all_edited, moves_of, rest_of}
use Rattle.machine_core.specs.declared.commands.lists.moving.SongMoves.{SongMoves}
use Rattle.machine_core.specs.Meaning.{refusal_of_all}

-- the first op, and those behind it
pub last_goes : (name : List ℕ) (from to n : ℕ) → 0 < n
    → song_moves true name from to n ≡ Move name (from + (n - 1)) (to + (n - 1)) ∷ song_moves true name from to (n - 1)
last_goes name from to zero some = let no : ⊥ = omega (arith, some) in absurd no
last_goes name from to (suc n) some =
    let e : suc n - 1 ≡ n = omega arith in
    sym (ap (λ k. Move name (from + k) (to + k) ∷ song_moves true name from to k) e)

pub first_goes : (name : List ℕ) (from to n : ℕ) → 0 < n
    → song_moves false name from to n ≡ Move name from to ∷ song_moves false name (from + 1) (to + 1) (n - 1)
first_goes name from to zero some = let no : ⊥ = omega (arith, some) in absurd no
first_goes name from to (suc n) some =
    let e : suc n - 1 ≡ n = omega arith in
    sym (ap (λ k. Move name from to ∷ song_moves false name (from + 1) (to + 1) k) e)

-- where none of them is refused, the first isn't, nor are those behind it
pub one_free_then : (op : ListOp) (ops : List ListOp) (s : SavedState) → refusal_of_all (of_lists (op ∷ ops)) s ≡ None
    → (refusal_of (Lists op) s ≡ None) × (refusal_of_all (of_lists ops) (after (Lists op) s) ≡ None)
one_free_then op ops s none = of (refusal_of (Lists op) s) refl none
  where
    of : (o : Option OpRefusal) → refusal_of (Lists op) s ≡ o → option_or o (refusal_of_all (of_lists ops) (after (Lists op) s)) ≡ None
        → (refusal_of (Lists op) s ≡ None) × (refusal_of_all (of_lists ops) (after (Lists op) s) ≡ None)
    of None is none = (is, none)
    of (Some e) is none = absurd (cc)

-- the op of one song more
pub one_pushed : (old new begun : List Op) (op : ListOp) (ops all rest : List ListOp) → new ≡ old ++ (Lists op ∷ []) → ops ≡ op ∷ rest
    → old ++ of_lists ops ≡ begun ++ of_lists all → new ++ of_lists rest ≡ begun ++ of_lists all
one_pushed old new begun op ops all rest is first before =
    ap (λ l. l ++ of_lists rest) is ∙ append_assoc old (Lists op ∷ []) (of_lists rest)
    ∙ ap (λ l. old ++ of_lists l) (sym first) ∙ before

-- the same by which of them goes first
abbrev pub step_of : Bool → ℕ
step_of last_first = if last_first then 0 else 1

-- no song is left
pub none_goes : (name : List ℕ) (moves : SongMoves) → moves.count ≡ 0 → moves_of name moves ≡ []
none_goes name moves none = of moves.last_first moves.count none
  where
    of : (last_first : Bool) (n : ℕ) → n ≡ 0 → song_moves last_first name moves.from moves.to n ≡ []
    of true zero none = refl
    of false zero none = refl
    of last_first (suc n) none = absurd (cc)

-- those behind the first stay within numbers
pub rest_few : (moves rest : SongMoves) → rest ≡ rest_of moves → 0 < moves.count
    → (moves.from + moves.count < 4294967296) × (moves.to + moves.count < 4294967296)
    → (rest.from + rest.count < 4294967296) × (rest.to + rest.count < 4294967296)
rest_few moves rest is some few = rw is (of (step_of moves.last_first) (small moves.last_first))
  where
    small : (last_first : Bool) → step_of last_first ≤ 1
    small true = omega arith
    small false = omega arith

    of : (step : ℕ) → step ≤ 1
        → (moves.from + step + (moves.count - 1) < 4294967296) × (moves.to + step + (moves.count - 1) < 4294967296)
    of step less = (omega (arith, few.0, some, less), omega (arith, few.1, some, less))

-- the first of those that are left, of which none is refused
pub first_free : (op : ListOp) (ops all : List ListOp) (s : SavedState) → all ≡ op ∷ ops → refusal_of_all (of_lists all) s ≡ None
    → (refusal_of (Lists op) s ≡ None) × (refusal_of_all (of_lists ops) (after (Lists op) s) ≡ None)
first_free op ops all s is free = one_free_then op ops s (ap (λ l. refusal_of_all (of_lists l) s) (sym is) ∙ free)

-- what is made of the playlists, once the first has gone
pub first_edited : (op : ListOp) (ops all begun : List ListOp) (s t first : SavedState) → all ≡ op ∷ ops → t ≡ lists_edited op s
    → all_edited all s ≡ all_edited begun first → all_edited ops t ≡ all_edited begun first
first_edited op ops all begun s t first is went before = ap (all_edited ops) went ∙ ap (λ l. all_edited l s) (sym is) ∙ before
