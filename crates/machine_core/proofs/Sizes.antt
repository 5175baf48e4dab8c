-- How long a record of ops is, and the profile of the state that they leave.
use Rattle.std.proofs.Common.{◌≡◌, ℕ, suc, ◌+◌, ◌≤◌, List, [], ◌∷◌, length, Option, Some, None, refl, sym, ap, ◌∙◌, arith}
use Rattle.std.proofs.lemmas.List.{length-append}
use Rattle.std.specs.Option.{ok_or}
use Rattle.std.specs.Result.{result_ok}
use Rattle.profile.specs.declared.profile.Profile.{Profile}
use Rattle.profile.specs.declared.profile.Profile.TheVariants.{Named, Wide}
use Rattle.state_codec.specs.Applied.{refusal_of, after, unless_refused, applied, applied_from, all_applied}
use Rattle.state_codec.specs.Checksum.{checksum_of}
use Rattle.state_codec.specs.SavedState.{SavedState}
use Rattle.state_codec.specs.Sealed.{checksum_len}
use Rattle.state_codec.specs.Spelling.{body_bytes, ops_bytes}
use Rattle.state_codec.specs.SpellingFields.{u32_bytes}
use Rattle.state_codec.specs.Steps.{◌>>=◌}
use Rattle.state_codec.specs.declared.op.Op.{Op}
use Rattle.state_codec.specs.declared.op.Op.TheVariants.{SetOption, SetVolume, SetOrder, Queue, List as Lists, Sticker, Batch, Place, Timed}
use Rattle.state_codec.specs.declared.op.queue_op.QueueOp.{QueueOp}
use Rattle.state_codec.specs.declared.op.queue_op.QueueOp.TheVariants as queue
use Rattle.state_codec.specs.OpsQueue.{after_queue}
use Rattle.state_codec.specs.declared.refusal.OpRefusal.{OpRefusal}
use Rattle.machine_core.specs.Size.{max_request_bytes}

-- the ops, and what stands behind them
pub body_len : (profile : Profile) (ops : List Op) → length (body_bytes profile ops) ≡ checksum_len profile + length (ops_bytes profile ops)
body_len Named ops = omega arith
body_len Wide ops =
    let bytes = ops_bytes Wide ops in omega (arith, length-append bytes (u32_bytes (checksum_of bytes)))

pub checksum_fits : (profile : Profile) → checksum_len profile ≤ max_request_bytes
checksum_fits Named = omega arith
checksum_fits Wide = omega arith

pub body_short : (profile : Profile) (ops : List Op) → checksum_len profile + length (ops_bytes profile ops) ≤ max_request_bytes
    → length (body_bytes profile ops) ≤ max_request_bytes
body_short profile ops short = omega (arith, short, body_len profile ops)

pub none_short : (profile : Profile) → length (body_bytes profile []) ≤ max_request_bytes
none_short profile = omega (arith, body_len profile [], checksum_fits profile)

queue_stays : (op : QueueOp) (s : SavedState) → (after_queue op s).profile ≡ s.profile
queue_stays (queue.Add at rows) s = refl
queue_stays (queue.Delete start end) s = refl
queue_stays (queue.Move start end to) s = refl
queue_stays (queue.Swap one other) s = refl
queue_stays (queue.Shuffle start end) s = refl
queue_stays (queue.Prio priority ranges) s = refl

-- no op changes the profile
pub profile_after : (op : Op) (s : SavedState) → (after op s).profile ≡ s.profile
profile_after (SetOption setting) s = refl
profile_after (SetVolume volume) s = refl
profile_after (SetOrder order) s = refl
profile_after (Queue op) s = queue_stays op s
profile_after (Lists op) s = refl
profile_after (Sticker op) s = refl
profile_after (Batch changes) s = refl
profile_after (Place op) s = refl
profile_after (Timed seconds) s = refl

-- nor do ops one after the other
first_stays : (i : ℕ) (op : Op) (ops : List Op) (s t : SavedState) (o : Option OpRefusal)
    → ((u : SavedState) → result_ok (applied_from (suc i) ops u) ≡ Some t → t.profile ≡ u.profile)
    → result_ok (ok_or (unless_refused o (after op s)) i >>= λ u. applied_from (suc i) ops u) ≡ Some t → t.profile ≡ s.profile
first_stays i op ops s t None rest done = rest (after op s) done ∙ profile_after op s
first_stays i op ops s t (Some refusal) rest done = absurd (cc)

profile_from : (i : ℕ) (ops : List Op) (s t : SavedState) → result_ok (applied_from i ops s) ≡ Some t → t.profile ≡ s.profile
profile_from i [] s t done = let same : s ≡ t = cc in sym (ap (λ (u : SavedState). u.profile) same)
profile_from i (op ∷ ops) s t done =
    first_stays i op ops s t (refusal_of op s) (λ u later. profile_from (suc i) ops u t later) done

pub profile_stays : (ops : List Op) (s t : SavedState) → all_applied ops s ≡ Some t → t.profile ≡ s.profile
profile_stays ops s t done = profile_from 0 ops s t done
