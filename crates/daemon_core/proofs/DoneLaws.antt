-- What holds of all that a command may do holds of what it did.
use Rattle.std.proofs.Common.{◌≡◌, ℕ, ◌+◌, ◌≤◌, Bool, true, false, List, [], ◌∷◌, ◌++◌, length, Option, Some, None, cond, Result, Ok, Err, refl, subst}
use Rattle.std.proofs.Common.{◌∙◌, ap, length-append, arith}
use Rattle.std.proofs.lemmas.Grind.{flat_map-append}
use Rattle.std.specs.Prelude.{nat_le}
use Rattle.std.proofs.lemmas.Bool.{leb-true}
use Rattle.client_messages.specs.declared.listener.Listener.{Listener}
use Rattle.command_text.specs.Reading.{line_reading}
use Rattle.command_text.specs.declared.command.Command.{Command}
use Rattle.command_text.specs.declared.command.NamedCommand.{NamedCommand}
use Rattle.command_text.specs.declared.name.CommandName.{CommandName}
use Rattle.command_text.specs.declared.place.Place.{Place}
use Rattle.command_text.specs.declared.refusal.CommandRefusal.{CommandRefusal}
use Rattle.command_text.specs.declared.refusal.CommandRefusal.TheVariants.{RequestTooLarge}
use Rattle.command_text.specs.declared.refusal.Refusal.{Refusal}
use Rattle.command_text.specs.declared.refusal.Refusal.TheVariants.{OfCommand}
use Rattle.machine_core.specs.Command.{meaning}
use Rattle.machine_core.specs.Keeping.{keep_ops, keeps, kept, times}
use Rattle.machine_core.specs.Looks.{looks_of, may_look, weighed}
use Rattle.machine_core.specs.Meaning.{Meaning, Meant}
use Rattle.machine_core.specs.Room.{under_room}
use Rattle.machine_core.specs.Size.{longest_keep, max_request_bytes, room_by, within, within_room, time_room}
use Rattle.machine_core.specs.State.{MachineState}
use Rattle.machine_core.proofs.KeepingLaws.{keep_room}
use Rattle.machine_core.proofs.KeptLaws.{kept_is}
use Rattle.machine_core.proofs.KeptTimes.{time_op, times_keep}
use Rattle.profile.specs.declared.profile.Profile.{Profile}
use Rattle.profile.specs.declared.profile.Profile.TheVariants.{Named, Wide}
use Rattle.state_codec.specs.Spelling.{ops_bytes}
use Rattle.state_codec.specs.SpellingOps.{op_bytes}
use Rattle.daemon_core.specs.Run.{Asker, Did, Goes, Refuses, Ends, Spent, attempted, did_of, done_of, either_does, ending_of, machine_does}
use Rattle.daemon_core.specs.Run.{done_by, own_of, performed, read_and_performed, talk_does, talk_done, unless_it_ends, within_both}
use Rattle.daemon_core.specs.Talk.{Talk}
use Rattle.daemon_core.specs.declared.outcome.Ending.{Ending}

-- A command that goes well within the limits means what it does, and its ops fit.
abbrev meaning_in : Meaning → Meant → Meaning
meaning_in y (Ok x) = x
meaning_in y (Err refusal) = y

abbrev says_so : Meaning → Meant
says_so x = Ok x

abbrev Fits : Profile → ℕ → Meaning → Type 0
Fits profile size x = size + length (ops_bytes profile x.ops) ≤ max_request_bytes

fitting : (profile : Profile) (size : ℕ) (y x : Meaning) (fits : Bool) →
    nat_le (size + length (ops_bytes profile y.ops)) max_request_bytes ≡ fits → cond fits (Ok y) (Err RequestTooLarge) ≡ says_so x →
    (says_so y ≡ says_so x) × Fits profile size x
fitting profile size y x true is h = (h, subst (Fits profile size) (ap (meaning_in y) h) (leb-true _ _ is))
fitting profile size y x false is h = cc

within_ok : (profile : Profile) (size : ℕ) (meant : Meant) (x : Meaning) → within profile size meant ≡ Ok x →
    (meant ≡ Ok x) × Fits profile size x
within_ok profile size (Ok y) x h =
    fitting profile size y x (nat_le (size + length (ops_bytes profile y.ops)) max_request_bytes) refl h
within_ok profile size (Err refusal) x h = cc

light : (meant : Meant) (x : Meaning) (few : Bool) → cond few meant (Err RequestTooLarge) ≡ Ok x → meant ≡ Ok x
light meant x true h = h
light meant x false h = cc

-- with room to keep the player's place
room_ok : (profile : Profile) (size : ℕ) (meant : Meant) (x : Meaning) → within_room profile size meant ≡ Ok x →
    (meant ≡ Ok x) × Fits profile (size + room_by profile) x
room_ok Named size meant x h =
    let parts = within_ok Named size meant x h in
    let fits : size + length (ops_bytes Named x.ops) ≤ max_request_bytes = parts.1 in (parts.0, omega (arith, fits))
room_ok Wide size meant x h = within_ok Wide (size + longest_keep) meant x
    (light (within Wide (size + longest_keep) meant) x (nat_le (size + longest_keep) max_request_bytes) h)

keeps_fit : (size : ℕ) (m : MachineState) (x : Meaning) → Fits m.saved.profile (size + room_by m.saved.profile) x →
    Fits m.saved.profile (size + time_room m.saved.profile) (keeps m x)
keeps_fit size m x fits =
    let p = m.saved.profile in
    let bytes : length (ops_bytes p (x.ops ++ keep_ops m x.after)) ≡ length (ops_bytes p x.ops) + length (ops_bytes p (keep_ops m x.after)) =
    ap length (flat_map-append (op_bytes p) x.ops (keep_ops m x.after))
    ∙ length-append (ops_bytes p x.ops) (ops_bytes p (keep_ops m x.after)) in
    omega (arith, bytes, keep_room m x.after, fits)

-- and with the time behind it
times_fit : (size : ℕ) (m : MachineState) (z : Meaning) → Fits m.saved.profile (size + time_room m.saved.profile) z →
    Fits m.saved.profile size (times m z)
times_fit size m z fits =
    let p = m.saved.profile in
    times_keep (λ x. Fits m.saved.profile size x) m z (omega (arith, fits)) (λ wide lists changes.
    let room : time_room p ≡ 9 = ap time_room wide in
    let bytes : length (ops_bytes p (z.ops ++ time_op z ∷ [])) ≡ length (ops_bytes p z.ops) + length (ops_bytes p (time_op z ∷ [])) =
    ap length (flat_map-append (op_bytes p) z.ops (time_op z ∷ [])) ∙ length-append (ops_bytes p z.ops) (ops_bytes p (time_op z ∷ [])) in
    omega (arith, fits, room, bytes, length-append (op_bytes p (time_op z)) []))

both_ok : (spent : Spent) (command : Command) (m : MachineState) (x : Meaning) → within_both spent command m ≡ Ok x →
    (kept m (under_room m (meaning spent.view.tags command m)) ≡ Ok x) × Fits m.saved.profile spent.size x
both_ok spent command m x h =
    let meant : Meant = meaning spent.view.tags command m in
    let light_of : Meant = weighed m.saved.profile spent.looks (looks_of command m) (under_room m meant) in
    let y = kept_is m (within_room m.saved.profile spent.size light_of) x h in
    let parts = room_ok m.saved.profile spent.size light_of y.0 y.1 in (
      ap (kept m) (light (under_room m meant) y.0 (may_look m.saved.profile spent.looks (looks_of command m)) parts.0) ∙ ap says_so y.2,
      subst (Fits m.saved.profile spent.size) y.2 (times_fit spent.size m (keeps m y.0) (keeps_fit spent.size m y.0 parts.1)),
    )

-- a command of the machine, and one of the daemon's own
machine_way : (Q : Did → Type 0) (name : CommandName) (m : MachineState) (messages : List Listener) (meant : Meant) →
    ((refusal : Refusal) → Q (Refuses refusal)) → ((x : Meaning) → meant ≡ Ok x → Q (Goes (done_of m messages x))) →
    Q (did_of name (machine_does m messages meant))
machine_way Q name m messages (Ok x) refused goes = goes x refl
machine_way Q name m messages (Err refusal) refused goes = refused (OfCommand name refusal)

-- what is known of what a command of the daemon's own does, if it is one
abbrev OnTalk : (Did → Type 0) → MachineState → Option (Result Talk CommandRefusal) → Type 0
OnTalk Q m None = Unit {0}
OnTalk Q m (Some (Ok talk)) = Q (Goes (talk_done m talk))
OnTalk Q m (Some (Err refusal)) = Unit {0}

talk_way : (Q : Did → Type 0) (name : CommandName) (m : MachineState) (does : Result Talk CommandRefusal) →
    ((refusal : Refusal) → Q (Refuses refusal)) → OnTalk Q m (Some does) → Q (did_of name (talk_does m does))
talk_way Q name m (Ok talk) refused talks = talks
talk_way Q name m (Err refusal) refused talks = refused (OfCommand name refusal)

either_way : (Q : Did → Type 0) (name : CommandName) (m : MachineState) (messages : List Listener)
    (does : Option (Result Talk CommandRefusal)) (meant : Meant) → ((refusal : Refusal) → Q (Refuses refusal)) → OnTalk Q m does →
    ((x : Meaning) → meant ≡ Ok x → Q (Goes (done_of m messages x))) → Q (did_of name (either_does m messages does meant))
either_way Q name m messages None meant refused talks goes = machine_way Q name m messages meant refused goes
either_way Q name m messages (Some does) meant refused talks goes = talk_way Q name m does refused talks

unless_way : (Q : Did → Type 0) (ending : Option Ending) (did : Did) → ((ends : Ending) → Q (Ends ends)) → Q did →
    Q (unless_it_ends ending did)
unless_way Q None did ends h = h
unless_way Q (Some ending) did ends h = ends ending

-- what is known of a command that goes well
abbrev pub OfMeaning : (Did → Type 0) → Spent → MachineState → Type 0
OfMeaning Q spent m = (command : Command) (x : Meaning) → kept m (under_room m (meaning spent.view.tags command m)) ≡ Ok x →
    Fits m.saved.profile spent.size x →
    Q (Goes (done_of m spent.messages x))

abbrev pub OfTalk : (Did → Type 0) → Asker → Spent → MachineState → Type 0
OfTalk Q c spent m = (command : Command) (talk : Talk) → own_of c spent command m ≡ Some (Ok talk) → Q (Goes (talk_done m talk))

on_talk : (Q : Did → Type 0) (c : Asker) (spent : Spent) (m : MachineState) (command : Command)
    (own : Option (Result Talk CommandRefusal)) → own_of c spent command m ≡ own → OfTalk Q c spent m → OnTalk Q m own
on_talk Q c spent m command None is talks = tt
on_talk Q c spent m command (Some (Ok talk)) is talks = talks command talk is
on_talk Q c spent m command (Some (Err refusal)) is talks = tt

reading_is : (Q : Did → Type 0) (c : Asker) (spent : Spent) (m : MachineState) (reading : Result NamedCommand Refusal) →
    ((ends : Ending) → Q (Ends ends)) → ((refusal : Refusal) → Q (Refuses refusal)) → OfTalk Q c spent m → OfMeaning Q spent m →
    Q (read_and_performed c spent m reading)
unfolding performed done_by
reading_is Q c spent m (Err refusal) ends refused talks goes = refused refusal
reading_is Q c spent m (Ok named) ends refused talks goes =
    unless_way Q (ending_of named.command) _ ends
    (either_way Q named.name m spent.messages (own_of c spent named.command m) (within_both spent named.command m) refused
    (on_talk Q c spent m named.command (own_of c spent named.command m) refl talks)
    (λ x is. let parts = both_ok spent named.command m x is in goes named.command x parts.0 parts.1))

-- so it is with a line
pub line_is : (Q : Did → Type 0) (c : Asker) (place : Place) (spent : Spent) (line : List ℕ) (m : MachineState) →
    ((ends : Ending) → Q (Ends ends)) → ((refusal : Refusal) → Q (Refuses refusal)) → OfTalk Q c spent m → OfMeaning Q spent m →
    Q (attempted c place spent line m)
unfolding attempted
line_is Q c place spent line m ends refused talks goes =
    reading_is Q c spent m (line_reading m.saved.profile place line) ends refused talks goes
