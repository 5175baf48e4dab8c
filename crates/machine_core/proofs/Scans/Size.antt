-- A batch fits into one record, whatever it puts and drops.
use Rattle.std.proofs.Common.{◌≡◌, ℕ, ◌+◌, ◌≤◌, Bool, true, false, List, [], ◌∷◌, ◌++◌, length, Option, Some, None, refl, ap, ◌∙◌, arith}
use Rattle.std.specs.Prelude.{option_map}
use Rattle.std.proofs.lemmas.Grind.{flat_map-append}
use Rattle.std.proofs.lemmas.List.{length-append}
use Rattle.profile.specs.declared.profile.Profile.{Profile}
use Rattle.profile.specs.declared.profile.Profile.TheVariants.{Named, Wide}
use Rattle.song_db.specs.Effect.{effects_of}
use Rattle.song_db.specs.Refusal.{refusal_of as batch_refusal}
use Rattle.song_db.specs.declared.change.RowChange.{RowChange}
use Rattle.state_codec.specs.Applied.{refusal_of}
use Rattle.state_codec.specs.Changes.{AreChanges, are_kept}
use Rattle.state_codec.specs.Longest.{longest_batch}
use Rattle.state_codec.specs.OpsRows.{if_kept}
use Rattle.state_codec.specs.SavedState.{SavedState}
use Rattle.state_codec.specs.Sealed.{checksum_len}
use Rattle.state_codec.specs.Spelling.{body_bytes, ops_bytes}
use Rattle.state_codec.specs.SpellingOps.{op_bytes}
use Rattle.state_codec.specs.declared.op.Op.{Op}
use Rattle.state_codec.specs.declared.op.Op.TheVariants.{SetOrder, Batch}
use Rattle.state_codec.specs.declared.refusal.OpRefusal.{OpRefusal}
use Rattle.state_codec.specs.declared.refusal.OpRefusal.TheVariants.{Songs}
use Rattle.machine_core.specs.Meaning.{order_ops}
use Rattle.machine_core.specs.Size.{longest_keep, max_request_bytes}
use Rattle.machine_core.proofs.Sizes.{body_short}

-- what a batch takes at most
abbrev pub BatchesAreShort : Type 0
BatchesAreShort =
    (profile : Profile) (changes : List RowChange) → AreChanges changes → are_kept profile changes ≡ true
    → length (op_bytes profile (Batch changes)) ≤ longest_batch profile

-- one that isn't refused puts rows that are kept
pub fits_kept : (changes : List RowChange) (s : SavedState) → refusal_of (Batch changes) s ≡ None → are_kept s.profile changes ≡ true
fits_kept changes s free = of (are_kept s.profile changes) free
  where
    of : (b : Bool) → if_kept b (option_map Songs (batch_refusal (effects_of s.songs changes))) ≡ None → b ≡ true
    of true h = refl
    of false h = absurd (cc)

ops_short : (profile : Profile) (changes : List RowChange) (order : Option ℕ)
    → length (op_bytes profile (Batch changes)) ≤ 1988226
    → checksum_len profile ≤ 4
    → checksum_len profile + length (ops_bytes profile (order_ops order ++ Batch changes ∷ [])) ≤ max_request_bytes
ops_short profile changes None short sum = omega (arith, short, sum, length-append (op_bytes profile (Batch changes)) [])
ops_short profile changes (Some g) short sum =
    omega (
      arith,
      short,
      sum,
      length-append (op_bytes profile (Batch changes)) [],
      length-append (op_bytes profile (SetOrder g)) (op_bytes profile (Batch changes) ++ []),
    )

ops_len : (profile : Profile) (changes : List RowChange) (order : Option ℕ) → length (op_bytes profile (Batch changes)) ≤ 1988226
    → length (ops_bytes profile (order_ops order ++ Batch changes ∷ [])) ≤ 1988235
ops_len profile changes None short = omega (arith, short, length-append (op_bytes profile (Batch changes)) [])
ops_len profile changes (Some g) short =
    omega (
      arith,
      short,
      length-append (op_bytes profile (Batch changes)) [],
      length-append (op_bytes profile (SetOrder g)) (op_bytes profile (Batch changes) ++ []),
    )

-- and with what is kept of the player behind it
pub batch_fits_with : (law : BatchesAreShort) (profile : Profile) (changes : List RowChange) (order : Option ℕ) (more : List Op)
    → AreChanges changes → are_kept profile changes ≡ true → length (ops_bytes profile more) ≤ longest_keep
    → length (body_bytes profile ((order_ops order ++ Batch changes ∷ []) ++ more)) ≤ max_request_bytes
batch_fits_with law profile changes order more good kept few =
    let ops = order_ops order ++ Batch changes ∷ [] in
    let bytes : length (ops_bytes profile (ops ++ more)) ≡ length (ops_bytes profile ops) + length (ops_bytes profile more) =
    ap length (flat_map-append (op_bytes profile) ops more) ∙ length-append (ops_bytes profile ops) (ops_bytes profile more) in
    body_short profile (ops ++ more) (omega (arith, bytes, ops_len profile changes order (short profile kept), few, sum profile))
  where
    short : (p : Profile) → are_kept p changes ≡ true → length (op_bytes p (Batch changes)) ≤ 1988226
    short Named kept = omega (arith, law Named changes good kept)
    short Wide kept = omega (arith, law Wide changes good kept)

    sum : (p : Profile) → checksum_len p ≤ 4
    sum Named = omega arith
    sum Wide = omega arith

pub batch_fits : (law : BatchesAreShort) (profile : Profile) (changes : List RowChange) (order : Option ℕ) → AreChanges changes
    → are_kept profile changes ≡ true → length (body_bytes profile (order_ops order ++ Batch changes ∷ [])) ≤ max_request_bytes
batch_fits law Named changes order good kept =
    body_short Named (order_ops order ++ Batch changes ∷ [])
    (ops_short Named changes order (omega (arith, law Named changes good kept)) (omega arith))
batch_fits law Wide changes order good kept =
    body_short Wide (order_ops order ++ Batch changes ∷ [])
    (ops_short Wide changes order (omega (arith, law Wide changes good kept)) (omega arith))
