-- A command that leaves room free to keep the player's place and the playlists' time, and what is kept of both behind it.
use Rattle.std.proofs.Common.{◌≡◌, ℕ, ◌+◌, ◌-◌, ◌<◌, ◌≤◌, Bool, true, false, cond, List, [], ◌++◌, length, Result, Ok, Err}
use Rattle.std.proofs.Common.{refl, sym, ap, subst, ◌∙◌, nat_le, le-leb, drop, append_assoc, arith}
use borrow.Author.Tests.{lt-leb}
use Rattle.std.proofs.lemmas.Grind.{flat_map-append}
use Rattle.std.proofs.Math.Seq.{drop-append_seam}
use Rattle.std.proofs.lemmas.List.{length-append}
use Rattle.std.specs.Global.{Vec}
use Rattle.std.specs.Result.{IsErrAnd, is_err}
use Rattle.std.specs.Vec.{vec_capacity, vec_len}
use Rattle.command_text.specs.declared.refusal.CommandRefusal.{CommandRefusal}
use Rattle.command_text.specs.declared.refusal.CommandRefusal.TheVariants.{RequestTooLarge}
use Rattle.player_core.specs.Player.{Step}
use Rattle.profile.specs.declared.profile.Profile.{Profile}
use Rattle.profile.specs.declared.profile.Profile.TheVariants.{Named, Wide}
use Rattle.state_codec.specs.Sealed.{checksum_len}
use Rattle.state_codec.specs.Spelling.{ops_bytes}
use Rattle.state_codec.specs.SpellingOps.{op_bytes}
use Rattle.state_codec.specs.declared.op.Op.{Op}
use Rattle.machine_core.specs.Before.{before_of}
use Rattle.machine_core.specs.Front.{SameFront, front_of}
use Rattle.machine_core.specs.Keeping.{if_kept, keep_ops, keep_ops_since, keeps, kept, time_ops, times, with_ops}
use Rattle.machine_core.specs.Looks.{may_look, weighed}
use Rattle.machine_core.specs.Meaning.{Meaning, Meant}
use Rattle.machine_core.specs.Size.{longest_keep, max_request_bytes, room_by, within, within_room}
use Rattle.machine_core.specs.State.{keeping, lacks_room, MachineState}
use Rattle.machine_core.specs.Steps.{moves, steps}
use Rattle.machine_core.specs.Work.{AddsOps, CanKeep, CanKeepBy, Failed, FailedKept, HasRoom, IsKeptRefusalOf, IsRefusalOf, Performs}
use Rattle.machine_core.specs.Work.{PerformsAside, PerformsKept, Went, WentKept, command_room, keep_count}
use Rattle.machine_core.specs.declared.changed.Before.{Before}
use Rattle.machine_core.specs.declared.work.Failure.{Failure}
use Rattle.machine_core.specs.declared.work.Failure.TheVariants.{Refused, NoMemory}
use Rattle.machine_core.specs.declared.work.Work.{Work}
use Rattle.machine_core.proofs.FullLaws.{keeping_none, keeps_none}
use Rattle.machine_core.proofs.KeepingLaws.{keeping_room}
use Rattle.machine_core.proofs.KeptReports.{keep_ops_are, step_short}

-- ---- room

-- the same text leaves the same room, and the same ops do
pub same_room : (w x : Work) → x.text ≡ w.text → HasRoom command_room w → HasRoom command_room x
same_room w x same room = subst (λ (text : Vec ℕ). vec_len text + command_room ≤ vec_capacity text) (sym same) room

pub same_keep : (w x : Work) → x.ops ≡ w.ops → CanKeep w → CanKeep x
same_keep w x same can = subst (λ (ops : Vec Op). vec_len ops + keep_count ≤ vec_capacity ops) (sym same) can

pub can_keep_by : (profile : Profile) (w x : Work) → (CanKeep w → CanKeep x) → CanKeepBy profile w → CanKeepBy profile x
can_keep_by Named w x keeps can = tt
can_keep_by Wide w x keeps can = keeps can

-- a command that was performed has taken nothing back
pub performed_more : {T : Type 0} (r : Result T Failure) (meant : Meant) (m n : MachineState) (w d : Work) → Performs meant m n w d r
    → w.size ≤ d.size
performed_more (Ok x) meant m n w d went = omega (arith, went.ops.size)
performed_more (Err failure) meant m n w d failed = omega (arith, failed.nothing.size)

-- a step of the player that was made leaves the room that it found, and it leaves bytes free
pub step_keeps : (meant : Meant) (m n : MachineState) (w d : Work) (r : Result (Unit {0}) Failure) → is_err r ≡ false
    → Performs meant m n w d r → CanKeep w → CanKeep d
step_keeps meant m n w d (Ok u) fine went = went.keeps
step_keeps meant m n w d (Err failure) fine went = absurd (cc)

sum_short : (profile : Profile) → checksum_len profile ≤ 4
sum_short Named = omega arith
sum_short Wide = omega arith

abbrev the_meaning : Meaning → Meant
the_meaning x = Ok x

ok_is : (x y : Meaning) → the_meaning x ≡ the_meaning y → x ≡ y
ok_is x y e = cc

pub step_leaves : (s : Step) (m n : MachineState) (w d : Work) (r : Result (Unit {0}) Failure) (profile : Profile) → is_err r ≡ false
    → Performs (moves (Ok s) m) m n w d r → w.size ≡ checksum_len profile → d.size + longest_keep ≤ max_request_bytes
step_leaves s m n w d (Err failure) profile fine went size = absurd (cc)
step_leaves s m n w d (Ok u) profile fine went size =
    let same : steps s m ≡ went.meaning = ok_is (steps s m) went.meaning went.means in
    let bytes : length (ops_bytes m.saved.profile went.meaning.ops) ≤ 24 =
    subst (λ (x : Meaning). length (ops_bytes m.saved.profile x.ops) ≤ 24) same (step_short m.saved.profile s m) in
    omega (arith, size, went.ops.size, bytes, sum_short profile)

-- ---- refusals

-- a number within the limit, and one past it
fits_so : (n : ℕ) → n ≤ max_request_bytes → nat_le n max_request_bytes ≡ true
fits_so n fits = le-leb n max_request_bytes fits

too_much : (n : ℕ) → max_request_bytes < n → nat_le n max_request_bytes ≡ false
too_much n more = lt-leb n max_request_bytes more

abbrev too_large : Meant
too_large = Err RequestTooLarge

refused_within : (profile : Profile) (meant : Meant) (size more : ℕ) (refusal : CommandRefusal) → more ≡ size + room_by profile
    → more ≤ max_request_bytes → within profile more meant ≡ Err refusal → within_room profile size meant ≡ Err refusal
refused_within Named meant size more refusal is fits refused =
    let same : size ≡ more = omega arith in ap (λ (n : ℕ). within Named n meant) same ∙ refused
refused_within Wide meant size more refusal is fits refused =
    ap (λ (b : Bool). cond b (within Wide (size + longest_keep) meant) (Err RequestTooLarge))
    (fits_so (size + longest_keep) (omega arith))
    ∙ ap (λ (n : ℕ). within Wide n meant) (sym is) ∙ refused

kept_refusal : (profile : Profile) (meant : Meant) (size more : ℕ) (failure : Failure) → more ≡ size + room_by profile
    → more ≤ max_request_bytes → IsRefusalOf profile meant more failure → IsKeptRefusalOf profile meant size failure
kept_refusal profile meant size more (Refused refusal) is fits refused = refused_within profile meant size more refusal is fits refused
kept_refusal profile meant size more NoMemory is fits refused = tt

-- without room nothing is performed
no_room : (profile : Profile) (meant : Meant) (size : ℕ) → size ≤ max_request_bytes → max_request_bytes < size + room_by profile
    → within_room profile size meant ≡ Err RequestTooLarge
no_room Named meant size fits more = absurd (omega arith)
no_room Wide meant size fits more =
    ap (λ (b : Bool). cond b (within Wide (size + longest_keep) meant) (Err RequestTooLarge)) (too_much (size + longest_keep) more)

none_failed : (meant : Meant) (m : MachineState) (w x : Work) (failure : Failure) (profile : Profile) → x ≡ w
    → profile ≡ m.saved.profile
    → (failure ≡ Refused RequestTooLarge) × (max_request_bytes < w.size + room_by profile) → FailedKept meant m m w x failure
none_failed meant m w x failure profile same under too = record {
  state = refl;
  nothing = record {
    text = ap (λ (v : Work). v.text.items) same;
    room = subst (λ (v : Work). vec_capacity w.text ≤ vec_capacity v.text) (sym same) (omega arith);
    ops = ap (λ (v : Work). v.ops.items) same;
    size = ap (λ (v : Work). v.size) same;
  };
  refusal = subst (IsKeptRefusalOf m.saved.profile meant w.size) (sym too.0)
      (no_room m.saved.profile meant w.size w.fits
      (subst (λ (p : Profile). max_request_bytes < w.size + room_by p) under too.1));
}

pub none_performed : (meant : Meant) (m : MachineState) (w x : Work) (failure : Failure) (r : Result (Unit {0}) Failure)
    (profile : Profile) → x ≡ w → profile ≡ m.saved.profile
    → (failure ≡ Refused RequestTooLarge) × (max_request_bytes < w.size + room_by profile) → IsErrAnd r (λ e. e ≡ failure)
    → PerformsAside meant m m w x r
none_performed meant m w x failure (Ok y) profile same under too is = absurd is
none_performed meant m w x failure (Err e) profile same under too is =
    subst (λ (f : Failure). FailedKept meant m m w x f) (sym is) (none_failed meant m w x failure profile same under too)

-- ---- performed between the taking of room and its giving back

module _ (meant : Meant) (m n : MachineState) (w aside made back : Work) (profile : Profile) (under : profile ≡ m.saved.profile)
    (aside_text : aside.text ≡ w.text) (aside_ops : aside.ops ≡ w.ops) (aside_size : aside.size ≡ w.size + room_by profile)
    (back_text : back.text ≡ made.text) (back_ops : back.ops ≡ made.ops) (back_size : back.size ≡ made.size - room_by profile) where
  size_under : aside.size ≡ w.size + room_by m.saved.profile
  size_under = aside_size ∙ ap (λ (p : Profile). w.size + room_by p) under

  back_under : back.size ≡ made.size - room_by m.saved.profile
  back_under = back_size ∙ ap (λ (p : Profile). made.size - room_by p) under

  went_aside : Went m.saved.profile meant n aside made
      → Went m.saved.profile meant n w back × (back.size + room_by m.saved.profile ≤ max_request_bytes)
  went_aside went = (
    record {
      meaning = went.meaning;
      means = went.means;
      stands = went.stands;
      text = ap (λ (v : Vec ℕ). front_of v.items) back_text ∙ went.text
          ∙ ap (λ (v : Vec ℕ). front_of (v.items ++ went.meaning.text)) aside_text;
      ops = record {
        ops = ap (λ (v : Vec Op). v.items) back_ops ∙ went.ops.ops ∙ ap (λ (v : Vec Op). v.items ++ went.meaning.ops) aside_ops;
        size = omega (arith, size_under, back_under, went.ops.size);
        fits = back.fits;
      };
      room = same_room made back back_text went.room;
      keeps = λ can. same_keep made back back_ops (went.keeps (same_keep w aside aside_ops can));
    },
    omega (arith, size_under, back_under, went.ops.size, made.fits),
  )

  failed_aside : (failure : Failure) → Failed meant m n aside made failure → FailedKept meant m n w back failure
  failed_aside failure failed = record {
    state = failed.state;
    nothing = record {
      text = ap (λ (v : Vec ℕ). v.items) back_text ∙ failed.nothing.text ∙ ap (λ (v : Vec ℕ). v.items) aside_text;
      room = subst (λ (v : Vec ℕ). vec_capacity w.text ≤ vec_capacity v) (sym back_text)
          (subst (λ (v : Vec ℕ). vec_capacity v ≤ vec_capacity made.text) aside_text failed.nothing.room);
      ops = ap (λ (v : Vec Op). v.items) back_ops ∙ failed.nothing.ops ∙ ap (λ (v : Vec Op). v.items) aside_ops;
      size = omega (arith, size_under, back_under, failed.nothing.size);
    };
    refusal = kept_refusal m.saved.profile meant w.size aside.size failure size_under aside.fits failed.refusal;
  }

  pub performed_aside : (r : Result (Unit {0}) Failure) → Performs meant m n aside made r → PerformsAside meant m n w back r
  performed_aside (Ok u) went = went_aside went
  performed_aside (Err failure) failed = failed_aside failure failed

-- ---- what is kept behind it

fits_within : (profile : Profile) (size : ℕ) (x : Meaning) → size + length (ops_bytes profile x.ops) ≤ max_request_bytes
    → within profile size (Ok x) ≡ Ok x
fits_within profile size x fits = ap (λ (b : Bool). cond b (the_meaning x) too_large) (fits_so (size + length (ops_bytes profile x.ops)) fits)

went_within : (profile : Profile) (size : ℕ) (x : Meaning)
    → size + length (ops_bytes profile x.ops) + room_by profile ≤ max_request_bytes → within_room profile size (Ok x) ≡ Ok x
went_within Named size x fits = fits_within Named size x (omega (arith, fits))
went_within Wide size x fits =
    ap (λ (b : Bool). cond b (within Wide (size + longest_keep) (Ok x)) (Err RequestTooLarge))
    (fits_so (size + longest_keep) (omega (arith, fits)))
    ∙ fits_within Wide (size + longest_keep) x (omega (arith, fits))

-- the command did what it means, and what plays then is kept, but not yet the time of what it changed of playlists
pub record WentPlaced (m : MachineState) (x : Meaning) (after : MachineState) (work done : Work) : Type 0 where
  pub stands : after ≡ (keeps m x).after
  pub text : SameFront done.text.items (work.text.items ++ x.text)
  pub ops : AddsOps (keeps m x).ops (length (ops_bytes m.saved.profile (keeps m x).ops)) work done
  pub room : HasRoom command_room done

-- and that time too
pub record WentTimed (m : MachineState) (x : Meaning) (after : MachineState) (work done : Work) : Type 0 where
  pub stands : after ≡ (times m (keeps m x)).after
  pub text : SameFront done.text.items (work.text.items ++ x.text)
  pub ops : AddsOps (times m (keeps m x)).ops (length (ops_bytes m.saved.profile (times m (keeps m x)).ops)) work done
  pub room : HasRoom command_room done

pub went_means : (meant : Meant) (m n : MachineState) (w d : Work) (went : Went m.saved.profile meant n w d)
    → d.size + room_by m.saved.profile ≤ max_request_bytes → within_room m.saved.profile w.size meant ≡ Ok went.meaning
went_means meant m n w d went leaves =
    ap (within_room m.saved.profile w.size) went.means
    ∙ went_within m.saved.profile w.size went.meaning (omega (arith, went.ops.size, leaves))

-- what is kept takes as many bytes under the profile by which it is kept as under the machine's: without room it is nothing
bytes_kept : (m : MachineState) (profile : Profile) → profile ≡ keeping m → (ops : List Op) → (lacks_room m ≡ true → ops ≡ [])
    → length (ops_bytes profile ops) ≡ length (ops_bytes m.saved.profile ops)
bytes_kept m profile under ops none = of (lacks_room m) refl
  where
    of : (b : Bool) → lacks_room m ≡ b → length (ops_bytes profile ops) ≡ length (ops_bytes m.saved.profile ops)
    of true lacks =
        ap (λ (l : List Op). length (ops_bytes profile l)) (none lacks)
        ∙ sym (ap (λ (l : List Op). length (ops_bytes m.saved.profile l)) (none lacks))
    of false room = ap (λ (q : Profile). length (ops_bytes q ops)) (under ∙ keeping_room m room)

-- what can be kept under the machine's profile can be by the way it is kept
pub can_keep_in : (m : MachineState) (profile : Profile) (w : Work) → profile ≡ keeping m → CanKeepBy m.saved.profile w → CanKeepBy profile w
can_keep_in m profile w under can = subst (λ (q : Profile). CanKeepBy q w) (sym under) (of (lacks_room m))
  where
    of : (b : Bool) → CanKeepBy (cond b Named m.saved.profile) w
    of true = tt
    of false = can

pub went_kept : (meant : Meant) (m n k : MachineState) (w d e : Work) (profile : Profile) (before : Before)
    (went : Went m.saved.profile meant n w d) → profile ≡ keeping m → before ≡ before_of m
    → k ≡ with_ops (if_kept profile (keep_ops_since before n)) n
    → (let ops = if_kept profile (keep_ops_since before n) in AddsOps ops (length (ops_bytes profile ops)) d e)
    → e.text ≡ d.text → WentPlaced m went.meaning k w e
went_kept meant m n k w d e profile before went under is stands gains text = record {
  stands = stands ∙ (λ i. with_ops (kept_so i) (went.stands i));
  text = ap (λ (v : Vec ℕ). front_of v.items) text ∙ went.text;
  ops = record {
    ops = gains.ops ∙ (λ i. went.ops.ops i ++ kept_so i) ∙ append_assoc w.ops.items x.ops (keep_ops m x.after);
    size = omega (arith, gains.size, went.ops.size, bytes, few);
    fits = e.fits;
  };
  room = same_room d e text went.room;
}
  where
    p : Profile
    p = m.saved.profile

    x : Meaning
    x = went.meaning

    kept_so : if_kept profile (keep_ops_since before n) ≡ keep_ops m x.after
    kept_so = keep_ops_are m n profile before under is ∙ ap (keep_ops m) went.stands

    few : length (ops_bytes profile (if_kept profile (keep_ops_since before n))) ≡ length (ops_bytes p (keep_ops m x.after))
    few = (λ i. length (ops_bytes profile (kept_so i))) ∙ bytes_kept m profile under (keep_ops m x.after) (λ lacks. keeps_none m x.after lacks)

    bytes : length (ops_bytes p (x.ops ++ keep_ops m x.after)) ≡ length (ops_bytes p x.ops) + length (ops_bytes p (keep_ops m x.after))
    bytes = ap length (flat_map-append (op_bytes p) x.ops (keep_ops m x.after))
        ∙ length-append (ops_bytes p x.ops) (ops_bytes p (keep_ops m x.after))

-- the ops from the command's own on are some of all
pub made_within : (w d e : Work) (x y : List Op) (made : ℕ) → made ≡ vec_len w.ops → d.ops.items ≡ w.ops.items ++ x
    → e.ops.items ≡ d.ops.items ++ y → made ≤ vec_len e.ops
made_within w d e x y made count first second =
    omega (
      arith,
      count,
      w.ops.ok.0,
      e.ops.ok.0,
      ap length (second ∙ ap (λ (l : List Op). l ++ y) first),
      length-append (w.ops.items ++ x) y,
      length-append w.ops.items x,
    )

pub went_timed : (m : MachineState) (x : Meaning) (k l : MachineState) (w e f : Work) (profile : Profile) (made : ℕ)
    → WentPlaced m x k w e → profile ≡ keeping m → made ≡ vec_len w.ops
    → l ≡ with_ops (if_kept profile (time_ops (drop made e.ops.items) k)) k
    → (let ops = if_kept profile (time_ops (drop made e.ops.items) k) in AddsOps ops (length (ops_bytes profile ops)) e f)
    → f.text ≡ e.text → WentTimed m x l w f
went_timed m x k l w e f profile made went under count stands gains text = record {
  stands = stands ∙ (λ i. with_ops (so i) (went.stands i));
  text = ap (λ (v : Vec ℕ). front_of v.items) text ∙ went.text;
  ops = record {
    ops = gains.ops ∙ (λ i. went.ops.ops i ++ so i) ∙ append_assoc w.ops.items (keeps m x).ops more;
    size = omega (arith, gains.size, went.ops.size, few, bytes);
    fits = f.fits;
  };
  room = same_room e f text went.room;
}
  where
    p : Profile
    p = m.saved.profile

    more : List Op
    more = if_kept (keeping m) (time_ops (keeps m x).ops (keeps m x).after)

    counted : made ≡ length w.ops.items
    counted = omega (arith, count, w.ops.ok.0)

    made_since : drop made e.ops.items ≡ (keeps m x).ops
    made_since = (λ i. drop (counted i) (went.ops.ops i)) ∙ drop-append_seam w.ops.items (keeps m x).ops

    so : if_kept profile (time_ops (drop made e.ops.items) k) ≡ more
    so = λ i. if_kept (under i) (time_ops (made_since i) (went.stands i))

    few : length (ops_bytes profile (if_kept profile (time_ops (drop made e.ops.items) k))) ≡ length (ops_bytes p more)
    few = (λ i. length (ops_bytes profile (so i))) ∙ bytes_kept m profile under more (λ lacks.
        ap (λ (q : Profile). if_kept q (time_ops (keeps m x).ops (keeps m x).after)) (keeping_none m lacks))

    bytes : length (ops_bytes p ((keeps m x).ops ++ more)) ≡ length (ops_bytes p (keeps m x).ops) + length (ops_bytes p more)
    bytes = ap length (flat_map-append (op_bytes p) (keeps m x).ops more)
        ∙ length-append (ops_bytes p (keeps m x).ops) (ops_bytes p more)

pub went_all : (meant : Meant) (m l : MachineState) (x : Meaning) (w f : Work) → meant ≡ Ok x → WentTimed m x l w f
    → WentKept m.saved.profile (kept m meant) l w f
went_all meant m l x w f means timed = record {
  meaning = times m (keeps m x);
  means = ap (kept m) means;
  stands = timed.stands;
  text = timed.text;
  ops = timed.ops;
  room = timed.room;
}

-- ---- the limit on what is looked at

pub weighed_is : (profile : Profile) (before looks : ℕ) (meant : Meant) → may_look profile before looks ≡ true
    → weighed profile before looks meant ≡ meant
weighed_is profile before looks meant may = ap (λ (b : Bool). cond b meant too_large) may

weighed_too_much : (profile : Profile) (before looks : ℕ) (meant : Meant) → may_look profile before looks ≡ false
    → weighed profile before looks meant ≡ too_large
weighed_too_much profile before looks meant may = ap (λ (b : Bool). cond b meant too_large) may

refused_anyway : (profile : Profile) (size : ℕ) → within_room profile size too_large ≡ Err RequestTooLarge
refused_anyway Named size = refl
refused_anyway Wide size = of (nat_le (size + longest_keep) max_request_bytes)
  where
    of : (b : Bool) → cond b too_large too_large ≡ Err RequestTooLarge
    of true = refl
    of false = refl

-- so much isn't looked at
looks_fail : (profile : Profile) (before looks : ℕ) (meant : Meant) (m : MachineState) (w : Work) (failure : Failure)
    → may_look profile before looks ≡ false → failure ≡ Refused RequestTooLarge → FailedKept (weighed profile before looks meant) m m w w failure
looks_fail profile before looks meant m w failure may is = record {
  state = refl;
  nothing = record { text = refl; room = omega arith; ops = refl; size = refl };
  refusal = subst (IsKeptRefusalOf m.saved.profile (weighed profile before looks meant) w.size) (sym is)
      (ap (within_room m.saved.profile w.size) (weighed_too_much profile before looks meant may) ∙ refused_anyway m.saved.profile w.size);
}

pub looks_refused : {T : Type 0} (profile : Profile) (before looks : ℕ) (meant : Meant) (m : MachineState) (w : Work) (r : Result T Failure)
    (refusal : CommandRefusal) → may_look profile before looks ≡ false → refusal ≡ RequestTooLarge → IsErrAnd r (λ e. e ≡ Refused refusal)
    → PerformsKept (weighed profile before looks meant) m m w w r
looks_refused profile before looks meant m w (Ok x) refusal may so is = absurd is
looks_refused profile before looks meant m w (Err e) refusal may so is =
    looks_fail profile before looks meant m w e may (is ∙ ap (λ (it : CommandRefusal). Refused it) so)

pub looks_within : {T : Type 0} (profile : Profile) (before looks : ℕ) (meant : Meant) (m k : MachineState) (w e : Work) (r : Result T Failure)
    → may_look profile before looks ≡ true → PerformsKept meant m k w e r → PerformsKept (weighed profile before looks meant) m k w e r
looks_within profile before looks meant m k w e r may performs =
    subst (λ (t : Meant). PerformsKept t m k w e r) (sym (weighed_is profile before looks meant may)) performs
