-- A playlist that gets the songs of the queue in place of its own.
use Rattle.std.proofs.Common.{◌≡◌, ℕ, ◌+◌, ◌≤◌, Bool, true, false, not, List, [], ◌∷◌, length, is_some, nat_le}
use Rattle.std.proofs.Common.{refl, sym, ap, subst, ◌∙◌, arith}
use Rattle.std.proofs.Common.{Some, None, Result, Ok, Err}
use Rattle.std.proofs.lemmas.Bool.Decides.{nat_tests}
use Rattle.std.specs.Prelude.{IfErr, if◌then◌else◌}
use Rattle.std.specs.Result.{IsErrAnd, result_ok}
use Rattle.command_text.specs.declared.refusal.CommandRefusal.{CommandRefusal}
use Rattle.command_text.specs.declared.refusal.CommandRefusal.TheVariants.{RequestTooLarge}
use Rattle.state_codec.specs.Applied.{after_all}
use Rattle.state_codec.specs.Editing.{AnswersCheck}
use Rattle.state_codec.specs.Replacing.{replace_ops, replace_refusal, replaces_nothing}
use Rattle.profile.specs.declared.profile.Profile.{Profile}
use Rattle.state_codec.specs.SavedState.{SavedState, IsSavedState, AreSavedLists}
use Rattle.state_codec.specs.Spelling.{ops_bytes}
use Rattle.state_codec.specs.declared.op.Op.TheVariants.{List as Lists}
use Rattle.state_codec.specs.declared.op.list_op.ListOp.TheVariants.{Save, Drop}
use Rattle.state_codec.specs.declared.refusal.OpRefusal.{OpRefusal}
use Rattle.state_codec.proofs.KeptOps.{found_songs}
use Rattle.state_codec.proofs.ListsUnchanged.{length-without_list}
use Rattle.state_codec.proofs.ReplaceLaws.{nothing_replaced}
use Rattle.stored_lists.specs.Limits.{MAX_LISTS}
use Rattle.stored_lists.specs.Lists.{Stored, songs_of, songs_or_none, without_list, is_full_for}
use Rattle.stored_lists.specs.Name.{is_good_name}
use Rattle.stored_lists.proofs.Replaced.{without_free}
use Rattle.machine_core.specs.Lists.{replaced, replaces}
use Rattle.machine_core.specs.Meaning.{Meant, stands, unless_refused, refusal_of_all}
use Rattle.machine_core.specs.Size.{max_request_bytes, within}
use Rattle.machine_core.specs.State.{MachineState}
use Rattle.machine_core.specs.Told.{op_told, told}
use Rattle.machine_core.specs.Work.{AddsNothing, IsRefusalOf, IsTooMuch, Performs}
use Rattle.machine_core.specs.declared.work.Failure.{Failure}
use Rattle.machine_core.specs.declared.work.Failure.TheVariants.{Refused, NoMemory}
use Rattle.machine_core.specs.declared.work.Work.{Work}
use Rattle.machine_core.proofs.Edits.{allowed_by, refused_by}
use Rattle.machine_core.proofs.FormLaws.{TellsChanges, IsLawful, same_stickers_told}
use Rattle.machine_core.proofs.InTurn.{all_apply, none_refused}
use Rattle.machine_core.proofs.SameParts.{lists_decide, told_apart}

-- without a playlist there is room for one
room_without : (lists : Stored) (name : List ℕ) → AreSavedLists lists → is_some (songs_of lists name) ≡ true →
    nat_le MAX_LISTS (length (without_list lists name)) ≡ false
room_without lists name saved present =
    let shorter = length-without_list lists name (songs_or_none lists name) (found_songs lists name present) in
    let few : length lists ≤ MAX_LISTS = saved.within.few_lists in
    grind (arith, nat_tests, shorter, few)

abbrev refused : CommandRefusal → Meant
refused refusal = Err refusal

-- what refuses it, of a saved state, is the first refusal of its two ops
pub refused_in_turn : (name : List ℕ) (s : SavedState) → IsSavedState s → replace_refusal name s ≡ refusal_of_all (replace_ops name) s
refused_in_turn name s saved = by_name (is_good_name name) refl (is_some (songs_of s.lists name)) refl
  where
    by_name : (good : Bool) → is_good_name name ≡ good → (there : Bool) → is_some (songs_of s.lists name) ≡ there →
        replace_refusal name s ≡ refusal_of_all (replace_ops name) s
    by_name false good there found = rw good refl
    by_name true good false found = rw (good, found) refl
    by_name true good true found = by_room (is_full_for (without_list s.lists name) (length s.queue.entries)) refl
      where
        by_room : (full : Bool) → is_full_for (without_list s.lists name) (length s.queue.entries) ≡ full →
            replace_refusal name s ≡ refusal_of_all (replace_ops name) s
        by_room true room =
            rw (good, found, without_free s.lists name saved.lists.rising, room_without s.lists name saved.lists found, room) refl
        by_room false room =
            rw (good, found, without_free s.lists name saved.lists.rising, room_without s.lists name saved.lists found, room) refl

-- one that is refused refuses the command
pub refused_replaces : (name : List ℕ) (m : MachineState) (e : OpRefusal) (r : Result Bool Failure) → IsSavedState m.saved →
    AnswersCheck {T = Unit {0}} (replace_refusal name m.saved) (Err e) → IsErrAnd r (λ failure. failure ≡ Refused (op_told e)) →
    (profile : Profile) (size : ℕ) → IfErr r (IsRefusalOf profile (replaces name m) size)
refused_replaces name m e (Ok x) saved answer told_so profile size = tt
refused_replaces name m e (Err failure) saved answer told_so profile size =
    let refused : refusal_of_all (replace_ops name) m.saved ≡ Some e =
    sym (refused_in_turn name m.saved saved) ∙ refused_by (Unit {0}) (replace_refusal name m.saved) e answer in
    subst (IsRefusalOf profile (replaces name m) size) (sym told_so)
    (ap (λ o. within profile size (unless_refused (told o) (if replaces_nothing name m.saved then stands [] m else replaced name m)))
    refused)

-- one that isn't is made, unless it changes nothing
abbrev pub replaced_if : List ℕ → MachineState → Bool → Meant
replaced_if name m changes = Ok (if changes then replaced name m else stands [] m)

pub replaces_if : (name : List ℕ) (m : MachineState) (x : Unit {0}) (nothing : Bool) → IsSavedState m.saved →
    AnswersCheck (replace_refusal name m.saved) (Ok x) →
    (replace_refusal name m.saved ≡ None → nothing ≡ replaces_nothing name m.saved) → replaces name m ≡ replaced_if name m (not nothing)
replaces_if name m x nothing saved answer is =
    let fits : replace_refusal name m.saved ≡ None = allowed_by (replace_refusal name m.saved) x answer in
    ap (λ o. unless_refused (told o) (if replaces_nothing name m.saved then stands [] m else replaced name m))
    (sym (refused_in_turn name m.saved saved) ∙ fits)
    ∙ ap (λ b. Ok (if b then stands [] m else replaced name m)) (sym (is fits))
    ∙ turned nothing
  where
    turned : (b : Bool) → Ok (if b then stands [] m else replaced name m) ≡ replaced_if name m (not b)
    turned true = refl
    turned false = refl

-- its ops are past the limit on a request, or no memory was found for them
pub too_large : (profile : Profile) (name text first second : List ℕ) (m : MachineState) (changes : Bool) (work done : Work)
    (failure : Failure) (r : Result (Unit {0}) Failure) → profile ≡ m.saved.profile → text ≡ name → changes ≡ true → replaces text m ≡ replaced_if text m changes → first ≡ name →
    second ≡ name → AddsNothing work done →
    IsTooMuch (work.size + length (ops_bytes profile (Lists (Drop first) ∷ Lists (Save second) ∷ []))) failure → IsErrAnd r (λ e. e ≡ failure) →
    Performs (replaces name m) m m work done r
too_large profile name text first second m changes work done failure (Ok x) under named is means one two nothing large so = absurd so
too_large profile name text first second m false work done failure (Err e) under named is means one two nothing large so = absurd (cc)
too_large profile name text first second m true work done failure (Err e) under named is means one two nothing large so = record {
  state = refl;
  nothing = nothing;
  refusal = subst (IsRefusalOf m.saved.profile (replaces name m) work.size) (sym so) (of failure large);
}
  where
    bytes : ℕ
    bytes = length (ops_bytes profile (Lists (Drop first) ∷ Lists (Save second) ∷ []))

    same : bytes ≡ length (ops_bytes m.saved.profile (replace_ops name))
    same = λ i. length (ops_bytes (under i) (Lists (Drop (one i)) ∷ Lists (Save (two i)) ∷ []))

    meant : replaces name m ≡ replaced_if name m true
    meant = subst (λ n. replaces n m ≡ replaced_if n m true) named means

    of : (failure : Failure) → IsTooMuch (work.size + bytes) failure → IsRefusalOf m.saved.profile (replaces name m) work.size failure
    of (Refused refusal) large =
        let above : nat_le (work.size + length (ops_bytes m.saved.profile (replace_ops name))) max_request_bytes ≡ false =
        grind (arith, nat_tests, large.1, same) in
        ap (within m.saved.profile work.size) meant ∙ ap (λ b. if b then Ok (replaced name m) else Err RequestTooLarge) above ∙ ap refused (sym large.0)
    of NoMemory large = tt

-- it tells what changed
replaced_tells : (name : List ℕ) (m : MachineState) → refusal_of_all (replace_ops name) m.saved ≡ None →
    replaces_nothing name m.saved ≡ false → IsSavedState m.saved → TellsChanges m (replaced name m)
replaced_tells name m none changes kept =
    let s : SavedState = m.saved in
    let t : SavedState = after_all (replace_ops name) s in
    let free : replace_refusal name s ≡ None = refused_in_turn name s kept ∙ none in
    let other : t.lists ≡ s.lists → ⊥ = λ same. let nothing : replaces_nothing name s ≡ true = (nothing_replaced name s kept free).1 same in cc in
    record {
      none = λ place same. absurd (other (ap (λ (u : SavedState). u.lists) same));
      lists = sym (told_apart s.lists t.lists _ (lists_decide s.lists t.lists)
          (λ e. other (sym e)));
      stickers = same_stickers_told s t refl;
    }

-- and is lawful
pub replaced_lawful : (name : List ℕ) (m : MachineState) → refusal_of_all (replace_ops name) m.saved ≡ None →
    replaces_nothing name m.saved ≡ false → IsLawful m (replaced name m)
replaced_lawful name m none changes = record {
  rebuilt = ap result_ok (all_apply 0 (replace_ops name) m.saved (none_refused (replace_ops name) m.saved none));
  tells = replaced_tells name m none changes;
  place = λ e. refl;
  room = refl;
}
