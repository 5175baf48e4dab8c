-- What a command means: the lines that it answers, the ops that it makes, and the machine after it. The saved half after it is the one
-- that its ops make.
use Rattle.std.specs.Prelude.{ℕ, List, [], ◌∷◌, ◌++◌, Bool, Option, Some, None, Result, Ok, Err, if◌then◌else◌}
use Rattle.std.specs.Option.{option_or}
use Rattle.command_text.specs.declared.refusal.CommandRefusal.{CommandRefusal}
use Rattle.player_core.specs.Player.{PlayerState}
use Rattle.state_codec.specs.Applied.{refusal_of, changes_nothing, after, after_all}
use Rattle.state_codec.specs.SavedState.{SavedState}
use Rattle.state_codec.specs.Steps.{◌>>=◌}
use Rattle.state_codec.specs.declared.op.Op.{Op}
use Rattle.state_codec.specs.declared.op.Op.TheVariants.{SetOrder}
use Rattle.state_codec.specs.declared.refusal.OpRefusal.{OpRefusal}
use Rattle.machine_core.specs.State.{MachineState}
use Rattle.machine_core.specs.declared.job.Job.{Job}
use Rattle.machine_core.specs.declared.job.WaitingJob.{WaitingJob}
use Rattle.machine_core.specs.Told.{told}
use Rattle.machine_core.specs.Followed.{Following, followed}

pub record Meaning : Type 0 where
  pub text : List ℕ
  pub ops : List Op
  pub after : MachineState

-- what a command means, or the first refusal of it
abbrev pub Meant : Type 0
Meant = Result Meaning CommandRefusal

-- these ops, and this player after them
abbrev pub does : List ℕ → List Op → PlayerState → MachineState → Meaning
does text ops player m = record { text = text; ops = ops; after = record m { saved = after_all ops m.saved; player = player } }

-- lines, and nothing changes
abbrev pub stands : List ℕ → MachineState → Meaning
stands text m = record { text = text; ops = []; after = m }

abbrev pub says : List ℕ → MachineState → Result Meaning CommandRefusal
says text m = Ok (stands text m)

-- lines that may be refused
abbrev pub answers : Result (List ℕ) CommandRefusal → MachineState → Result Meaning CommandRefusal
answers lines m = lines >>= λ text. says text m

-- the player alone changes
abbrev pub turns : PlayerState → MachineState → Result Meaning CommandRefusal
turns player m = Ok (record { text = []; ops = []; after = record m { player = player } })

-- the job alone changes
abbrev pub begins : Job → List ℕ → MachineState → Result Meaning CommandRefusal
begins job text m = Ok (record { text = text; ops = []; after = record m { job = job } })

-- a job waits behind those that wait already
abbrev pub waits : WaitingJob → List ℕ → MachineState → Result Meaning CommandRefusal
waits job text m = Ok (record { text = text; ops = []; after = record m { waiting = m.waiting ++ job ∷ [] } })

-- a new random order
abbrev pub order_ops : Option ℕ → List Op
order_ops None = []
order_ops (Some order) = SetOrder order ∷ []

-- The shared form of edits: an op that is refused refuses the command; one that changes nothing isn't made; any other is made, behind the
-- new random order that begins before it, if one does, and the player follows.
abbrev pub edited : Op → List ℕ → Following → MachineState → Meaning
edited op text next m = does text (order_ops next.order ++ op ∷ []) next.player m

abbrev pub made : Op → List ℕ → MachineState → Meaning
made op text m = if changes_nothing op m.saved then stands text m else edited op text (followed op m) m

abbrev pub unless_refused : {A : Type 0} → Option CommandRefusal → A → Result A CommandRefusal
unless_refused None answer = Ok answer
unless_refused (Some refusal) answer = Err refusal

unfoldable pub edits : Op → List ℕ → MachineState → Result Meaning CommandRefusal
edits op text m = unless_refused (told (refusal_of op m.saved)) (made op text m)

-- the first refusal of ops one after the other, each at its turn
abbrev pub refusal_of_all : List Op → SavedState → Option OpRefusal
refusal_of_all [] s = None
refusal_of_all (op ∷ ops) s = option_or (refusal_of op s) (refusal_of_all ops (after op s))

-- what is named must be there
abbrev pub must : Bool → CommandRefusal → Result (Unit {0}) CommandRefusal
must is_there refusal = if is_there then Ok tt else Err refusal
