-- What a command and an event tell to have changed, and that an event happened as it must, with what is kept of the player behind it.
use Rattle.std.proofs.Common.{◌≡◌, ℕ, ◌+◌, ◌-◌, ◌≤◌, Bool, true, false, not, ◌||◌, List, [], ◌∷◌, ◌++◌, length, take, drop}
use Rattle.std.proofs.Common.{Option, Some, None, Result, Ok, Err, refl, sym, ap, subst, ◌∙◌, arith}
use Rattle.std.specs.List.{list_any}
use Rattle.std.specs.Result.{is_err}
use Rattle.std.specs.Vec.{vec_len}
use Rattle.std.proofs.lemmas.Grind.{flat_map-append}
use Rattle.std.proofs.lemmas.List.{length-append}
use Rattle.std.proofs.lemmas.List.Folds.{list_any-append}
use Rattle.command_text.specs.declared.command.Command.{Command}
use Rattle.command_text.specs.declared.tag_mask.TagMask.{TagMask}
use Rattle.player_core.specs.Player.{Step}
use Rattle.profile.specs.declared.profile.Profile.{Profile}
use Rattle.profile.specs.declared.profile.Profile.TheVariants.{Named, Wide}
use Rattle.state_codec.specs.SavedState.{SavedState, IsSavedState}
use Rattle.state_codec.specs.Sealed.{checksum_len}
use Rattle.state_codec.specs.Spelling.{body_bytes, ops_bytes}
use Rattle.state_codec.specs.SpellingOps.{op_bytes}
use Rattle.state_codec.specs.declared.op.Op.{Op}
use Rattle.stickers.specs.Sticker.{Sticker as Stuck}
use Rattle.stored_lists.specs.Lists.{Stored}
use Rattle.machine_core.specs.Before.{before_of, changed_since, is_of_lists, is_of_stickers}
use Rattle.machine_core.specs.Changed.{changed, same_lists, same_stickers}
use Rattle.machine_core.specs.Command.{meaning}
use Rattle.machine_core.specs.Happening.{HasHappened}
use Rattle.machine_core.specs.Keeping.{if_kept, keep_ops, keep_ops_since, keeps, kept_event, times, with_ops}
use Rattle.machine_core.specs.Meaning.{Meaning, Meant, order_ops}
use Rattle.machine_core.specs.Reports.{happens}
use Rattle.machine_core.specs.Size.{max_request_bytes}
use Rattle.machine_core.specs.State.{keeping, MachineState}
use Rattle.machine_core.specs.Steps.{consume_ops, moves, removal_ops, single_ops, steps}
use Rattle.machine_core.specs.Work.{Performs, Went}
use Rattle.machine_core.specs.declared.changed.Before.{Before}
use Rattle.machine_core.specs.declared.happened.Happened.{Happened}
use Rattle.machine_core.specs.declared.work.Failure.{Failure}
use Rattle.machine_core.specs.declared.work.Work.{Work}
use Rattle.machine_core.proofs.ChangedLaws.{since_gained, since_told}
use Rattle.machine_core.proofs.CommandLaws.{command_lawful}
use Rattle.machine_core.proofs.FormLaws.{IsLawful, Lawful, TellsChanges}
use Rattle.machine_core.proofs.KeepingLaws.{IsPlaced, keep_no_lists, keep_no_stickers, keep_placed, keep_short}
use Rattle.machine_core.proofs.KeptLaws.{joined_rebuilt}
use Rattle.machine_core.proofs.KeptTimes.{time_op, times_keep}
use Rattle.machine_core.proofs.Sizes.{body_short}

-- ---- what is told to have changed

or_false : (b : Bool) → (b || false) ≡ b
or_false true = refl
or_false false = refl

-- ops that pass no test tell nothing behind others
pub told_no_more : (test : Op → Bool) (ops more : List Op) → list_any test more ≡ false → list_any test (ops ++ more) ≡ list_any test ops
told_no_more test ops more none =
    list_any-append test ops more ∙ ap (λ (b : Bool). list_any test ops || b) none ∙ or_false (list_any test ops)

pub keeps_since : (m : MachineState) (x : Meaning) → IsLawful m x → IsSavedState m.saved
    → changed_since (before_of m) (keeps m x).ops (keeps m x).after ≡ changed m (keeps m x).after
keeps_since m x lawful saved =
    let tells : TellsChanges m x = lawful.tells saved in
    let placed = keep_placed m x.after in
    since_told m (keeps m x)
    (told_no_more is_of_lists x.ops (keep_ops m x.after) (keep_no_lists m x.after) ∙ tells.lists
    ∙ ap (λ (l : Stored). not (same_lists m.saved.lists l)) (ap (λ (s : SavedState). s.lists) (sym placed.same)))
    (told_no_more is_of_stickers x.ops (keep_ops m x.after) (keep_no_stickers m x.after) ∙ tells.stickers
    ∙ ap (λ (l : List Stuck). not (same_stickers m.saved.stickers l)) (ap (λ (s : SavedState). s.stickers) (sym placed.same)))
    lawful.place

-- the place tells nothing
placed_same : (m n : MachineState) (s : SavedState) → IsPlaced n.saved s → changed m (record n { saved = s }) ≡ changed m n
unfolding changed
placed_same m n s placed = ap (λ (t : SavedState). changed m (record n { saved = t })) placed.same

pub kept_same : (m n : MachineState) → changed m (with_ops (keep_ops m n) n) ≡ changed m n
kept_same m n = let placed = keep_placed m n in placed_same m n _ placed

-- told by what is kept of the machine before
pub keep_ops_are : (m n : MachineState) (profile : Profile) (before : Before) → profile ≡ keeping m → before ≡ before_of m
    → if_kept profile (keep_ops_since before n) ≡ keep_ops m n
keep_ops_are m n profile before under is = λ i. if_kept (under i) (keep_ops_since (is i) n)

-- ---- a command

-- the time tells nothing
times_since : (m : MachineState) (z : Meaning) → changed_since (before_of m) z.ops z.after ≡ changed m z.after
    → changed_since (before_of m) (times m z).ops (times m z).after ≡ changed m (times m z).after
unfolding changed
times_since m z told =
    times_keep (λ x. changed_since (before_of m) x.ops x.after ≡ changed m x.after) m z told (λ wide lists changes.
    (λ i. record (changed_since (before_of m) z.ops z.after) {
      stored_playlist = told_no_more is_of_lists z.ops (time_op z ∷ []) refl i;
      sticker = told_no_more is_of_stickers z.ops (time_op z ∷ []) refl i;
    })
    ∙ told)

pub since_timed : (mask : TagMask) (command : Command) (m l : MachineState) (x : Meaning) (work all_done : Work) (before : Before)
    (made : ℕ) (all : List Op) → meaning mask command m ≡ Ok x → IsSavedState m.saved → l ≡ (times m (keeps m x)).after
    → all_done.ops.items ≡ work.ops.items ++ (times m (keeps m x)).ops → before ≡ before_of m → made ≡ vec_len work.ops
    → all ≡ all_done.ops.items → changed_since before (take (length all - made) (drop made all)) l ≡ changed m l
since_timed mask command m l x work all_done before made all means saved machine gained is count same =
    let lawful : IsLawful m x = subst (Lawful m) means (command_lawful mask command m) in
    since_gained m l (times m (keeps m x)) work all_done before made all (times_since m (keeps m x) (keeps_since m x lawful saved)) machine
    gained is count same

-- ---- an event

pub kept_happened : (x : Meaning) (m n : MachineState) (happened : Happened) (before : Before) (made : List Op) → IsLawful m x
    → IsSavedState m.saved → length (body_bytes m.saved.profile (keeps m x).ops) ≤ max_request_bytes → n ≡ (keeps m x).after
    → happened.ops.items ≡ (keeps m x).ops → made ≡ (keeps m x).ops → before ≡ before_of m
    → happened.changed ≡ changed_since before made n → HasHappened (kept_event m (happens x m)) m n happened
kept_happened x m n happened before made lawful saved fits stands ops gained is told = record {
  state = stands;
  ops = ops;
  changed =
      told
      ∙ ap (λ (b : Before). changed_since b made n) is
      ∙ ap (λ (ops : List Op). changed_since (before_of m) ops n) gained
      ∙ ap (changed_since (before_of m) (keeps m x).ops) stands
      ∙ keeps_since m x lawful saved
      ∙ kept_same m x.after;
  rebuilt = joined_rebuilt m x.after x.ops lawful.rebuilt;
  fits = fits;
}

-- how many bytes a step takes at most
step_room : (profile : Profile) (order removed : Option ℕ) (single consume : Bool)
    → length (ops_bytes profile (order_ops order ++ (removal_ops removed ++ (single_ops single ++ consume_ops consume)))) ≤ 24
step_room profile None None true true = omega arith
step_room profile None None true false = omega arith
step_room profile None None false true = omega arith
step_room profile None None false false = omega arith
step_room profile None (Some at) true true = omega arith
step_room profile None (Some at) true false = omega arith
step_room profile None (Some at) false true = omega arith
step_room profile None (Some at) false false = omega arith
step_room profile (Some g) None true true = omega arith
step_room profile (Some g) None true false = omega arith
step_room profile (Some g) None false true = omega arith
step_room profile (Some g) None false false = omega arith
step_room profile (Some g) (Some at) true true = omega arith
step_room profile (Some g) (Some at) true false = omega arith
step_room profile (Some g) (Some at) false true = omega arith
step_room profile (Some g) (Some at) false false = omega arith

pub step_short : (profile : Profile) (made : Step) (m : MachineState) → length (ops_bytes profile (steps made m).ops) ≤ 24
step_short profile made m =
    step_room profile made.changes.order made.changes.removed made.changes.single_off made.changes.consume_off

sum_short : (profile : Profile) → checksum_len profile ≤ 4
sum_short Named = omega arith
sum_short Wide = omega arith

abbrev the_meaning : Meaning → Meant
the_meaning x = Ok x

ok_is : (x y : Meaning) → the_meaning x ≡ the_meaning y → x ≡ y
ok_is x y e = cc

-- a step of the player was made, and where the player is then is kept
pub kept_step_happened : (s : Step) (m n k : MachineState) (w d e : Work) (r : Result (Unit {0}) Failure) (profile : Profile)
    (happened : Happened) (before : Before) (made : List Op) → IsLawful m (steps s m) → IsSavedState m.saved → w.ops.items ≡ []
    → is_err r ≡ false → Performs (moves (Ok s) m) m n w d r → profile ≡ keeping m → before ≡ before_of m
    → k ≡ with_ops (if_kept profile (keep_ops_since before n)) n
    → e.ops.items ≡ d.ops.items ++ if_kept profile (keep_ops_since before n) → happened.ops.items ≡ e.ops.items → made ≡ e.ops.items
    → happened.changed ≡ changed_since before made k → HasHappened (kept_event m (happens (steps s m) m)) m k happened
kept_step_happened s m n k w d e (Err f) profile happened before made lawful saved empty fine went under is stands gains ops gained told =
    absurd (cc)
kept_step_happened s m n k w d e (Ok u) profile happened before made lawful saved empty fine went under is stands gains ops gained told =
    let x : Meaning = steps s m in
    let same : went.meaning ≡ x = sym (ok_is x went.meaning went.means) in
    let after : n ≡ x.after = went.stands ∙ ap (λ (y : Meaning). y.after) same in
    let kept : if_kept profile (keep_ops_since before n) ≡ keep_ops m x.after =
    keep_ops_are m n profile before under is ∙ ap (keep_ops m) after in
    let all : e.ops.items ≡ (keeps m x).ops =
    gains ∙ (λ i. (went.ops.ops ∙ (λ j. empty j ++ (same j).ops)) i ++ kept i) in
    let machine : k ≡ (keeps m x).after = stands ∙ (λ i. with_ops (kept i) (after i)) in
    let p = m.saved.profile in
    let bytes : length (ops_bytes p (keeps m x).ops) ≡ length (ops_bytes p x.ops) + length (ops_bytes p (keep_ops m x.after)) =
    ap length (flat_map-append (op_bytes p) x.ops (keep_ops m x.after))
    ∙ length-append (ops_bytes p x.ops) (ops_bytes p (keep_ops m x.after)) in
    let fits : length (body_bytes p (keeps m x).ops) ≤ max_request_bytes =
    body_short p (keeps m x).ops (omega (arith, bytes, step_short p s m, keep_short p m x.after, sum_short p)) in
    kept_happened x m k happened before made lawful saved fits machine (ops ∙ all) (gained ∙ all) is told
