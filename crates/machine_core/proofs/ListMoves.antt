-- Several ops of playlists: what every command keeps.
use Rattle.std.proofs.Common.{◌≡◌, ℕ, Bool, true, false, not, [], ◌∷◌, None, refl, sym, ap, subst, ◌∙◌}
use Rattle.std.proofs.Common.{List}
use Rattle.std.specs.List.{list_any}
use Rattle.std.specs.Result.{result_ok}
use Rattle.state_codec.specs.Applied.{after, after_all}
use Rattle.state_codec.specs.SavedState.{SavedState}
use Rattle.state_codec.specs.declared.op.Op.TheVariants.{List as Lists}
use Rattle.state_codec.specs.declared.op.list_op.ListOp.{ListOp}
use Rattle.machine_core.specs.Before.{is_of_lists, is_of_stickers}
use Rattle.machine_core.specs.Changed.{same_lists}
use Rattle.machine_core.specs.ListMoves.{of_lists}
use Rattle.machine_core.specs.Meaning.{does, refusal_of_all}
use Rattle.machine_core.specs.Sound.{IsSound, IsSoundMachine}
use Rattle.machine_core.specs.State.{MachineState}
use Rattle.machine_core.proofs.FormLaws.{IsLawful, TellsChanges, same_stickers_told}
use Rattle.machine_core.proofs.InTurn.{all_apply, none_refused}
use Rattle.machine_core.proofs.SameParts.{lists_decide}

-- the playlists and their times of another state
abbrev pub with_lists_of : SavedState → SavedState → SavedState
with_lists_of s t = record s { lists = t.lists; changed = t.changed }

-- the playlists and their times alone change
pub lists_only : (ops : List ListOp) (s : SavedState) → after_all (of_lists ops) s ≡ with_lists_of s (after_all (of_lists ops) s)
lists_only [] s = refl
lists_only (op ∷ ops) s = lists_only ops (after (Lists op) s)

none_of_stickers : (ops : List ListOp) → list_any is_of_stickers (of_lists ops) ≡ false
none_of_stickers [] = refl
none_of_stickers (op ∷ ops) = none_of_stickers ops

lists_told : (ops : List ListOp) (s : SavedState) → same_lists s.lists (after_all (of_lists ops) s).lists ≡ false
    → list_any is_of_lists (of_lists ops) ≡ not (same_lists s.lists (after_all (of_lists ops) s).lists)
lists_told [] s other = let same : same_lists s.lists s.lists ≡ true = (lists_decide s.lists s.lists).1 refl in absurd (cc)
lists_told (op ∷ ops) s other = sym (ap not other)

together_tells : (ops : List ListOp) (m : MachineState) → same_lists m.saved.lists (after_all (of_lists ops) m.saved).lists ≡ false
    → TellsChanges m (does [] (of_lists ops) m.player m)
together_tells ops m other =
    let s : SavedState = m.saved in
    let t : SavedState = after_all (of_lists ops) s in
    record {
      none = λ place same. absurd (let equal : same_lists s.lists t.lists ≡ true =
          (lists_decide s.lists t.lists).1 (sym (ap (λ (u : SavedState). u.lists) same)) in cc);
      lists = lists_told ops s other;
      stickers = none_of_stickers ops ∙ same_stickers_told s t (ap (λ (u : SavedState). u.stickers) (lists_only ops s));
    }

pub together_lawful : (ops : List ListOp) (m : MachineState) → refusal_of_all (of_lists ops) m.saved ≡ None
    → same_lists m.saved.lists (after_all (of_lists ops) m.saved).lists ≡ false → IsLawful m (does [] (of_lists ops) m.player m)
together_lawful ops m none other = record {
  rebuilt = ap result_ok (all_apply 0 (of_lists ops) m.saved (none_refused (of_lists ops) m.saved none));
  tells = λ kept. together_tells ops m other;
  place = λ e. refl;
  room = refl;
}

pub together_sound : (ops : List ListOp) (m : MachineState) → IsSound m
    → let x = does [] (of_lists ops) m.player m in IsSound x.after
together_sound ops m sound = subst (λ (s : SavedState). IsSound (record m { saved = s })) (sym (lists_only ops m.saved)) sound

pub together_holds : (ops : List ListOp) (m : MachineState) → IsSoundMachine m
    → let x = does [] (of_lists ops) m.player m in IsSoundMachine x.after
together_holds ops m holds =
    subst (λ (s : SavedState). IsSoundMachine (record m { saved = s })) (sym (lists_only ops m.saved))
    (record { queue = holds.queue; sound = holds.sound; frame = holds.frame })
