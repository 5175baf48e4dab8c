-- A command behind a look-up: what it means where the look-up fails, and where it finds something.
use Rattle.std.proofs.Common.{◌≡◌, ℕ, Bool, true, false, List, Result, Ok, Err, refl, ap}
use Rattle.std.specs.Prelude.{if◌then◌else◌}
use Rattle.std.specs.Result.{IsErrAnd}
use Rattle.command_text.specs.declared.refusal.CommandRefusal.{CommandRefusal}
use Rattle.command_text.specs.declared.refusal.CommandRefusal.TheVariants.{NoSuchUri}
use Rattle.profile.specs.declared.profile.Profile.{Profile}
use Rattle.song_db.specs.Change.{has_uri}
use Rattle.song_db.specs.Row.{Row}
use Rattle.state_codec.specs.Steps.{◌>>=◌}
use Rattle.machine_core.specs.Meaning.{Meant}
use Rattle.machine_core.specs.Named.{IsNotFound, song_named}
use Rattle.machine_core.specs.Size.{within}
use Rattle.machine_core.specs.State.{MachineState}
use Rattle.machine_core.specs.Work.{IsRefusalOf, Performs}
use Rattle.machine_core.specs.declared.work.Failure.{Failure}
use Rattle.machine_core.specs.declared.work.Failure.TheVariants.{Refused, NoMemory}
use Rattle.machine_core.specs.declared.work.Work.{Work}
use Rattle.machine_core.proofs.Edits.{refused_failed}

-- a look-up refuses the command that it refuses
refuses : {A : Type 0} (looked : Result A CommandRefusal) (meant : Meant) (failure : Failure) → IsNotFound looked failure
    → ((refusal : CommandRefusal) → looked ≡ Err refusal → meant ≡ Err refusal) → (profile : Profile) (size : ℕ) →
    IsRefusalOf profile meant size failure
refuses looked meant (Refused refusal) is means profile size = ap (within profile size) (means refusal is)
refuses looked meant NoMemory is means profile size = tt

pub fails : {A : Type 0} (looked : Result A CommandRefusal) (meant : Meant) (m : MachineState) (work : Work) (failure : Failure)
    (r : Result (Unit {0}) Failure) → IsNotFound looked failure
    → ((refusal : CommandRefusal) → looked ≡ Err refusal → meant ≡ Err refusal) → IsErrAnd r (λ e. e ≡ failure)
    → Performs meant m m work work r
fails looked meant m work failure r is means told = refused_failed meant m work failure r (refuses looked meant failure is means) told

-- the first look-up of a command
pub not_found : {A : Type 0} (looked : Result A CommandRefusal) (rest : A → Meant) (m : MachineState) (work : Work) (failure : Failure)
    (r : Result (Unit {0}) Failure) → IsNotFound looked failure → IsErrAnd r (λ e. e ≡ failure)
    → Performs (looked >>= rest) m m work work r
not_found looked rest m work failure r is told =
    fails looked (looked >>= rest) m work failure r is (λ refusal e. ap (λ l. l >>= rest) e) told

pub found : {A : Type 0} (looked : Result A CommandRefusal) (rest : A → Meant) (x : A) → looked ≡ Ok x → (looked >>= rest) ≡ rest x
found looked rest x is = ap (λ l. l >>= rest) is

-- a song that has no row, and one that has
pub no_song : (songs : List Row) (uri : List ℕ) (refusal : CommandRefusal) → song_named songs uri ≡ Err refusal
    → (has_uri songs uri ≡ false) × (refusal ≡ NoSuchUri)
no_song songs uri refusal is = of (has_uri songs uri) refl is where
  of : (b : Bool) → has_uri songs uri ≡ b → (if b then Ok uri else Err NoSuchUri) ≡ Err refusal
      → (has_uri songs uri ≡ false) × (refusal ≡ NoSuchUri)
  of true has is = absurd (cc)
  of false has is = (has, cc)

pub a_song : (songs : List Row) (uri text : List ℕ) → song_named songs uri ≡ Ok text → (has_uri songs uri ≡ true) × (text ≡ uri)
a_song songs uri text is = of (has_uri songs uri) refl is where
  of : (b : Bool) → has_uri songs uri ≡ b → (if b then Ok uri else Err NoSuchUri) ≡ Ok text
      → (has_uri songs uri ≡ true) × (text ≡ uri)
  of true has is = (has, cc)
  of false has is = absurd (cc)
