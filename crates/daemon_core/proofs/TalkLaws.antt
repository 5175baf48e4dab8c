-- The commands of messages from client to client.
use Rattle.std.proofs.Common.{◌≡◌, ℕ, suc, ◌<◌, ◌≤◌, Bool, true, false, List, [], ◌∷◌, length, Option, Some, None, Result, Ok, Err, cond}
use Rattle.std.proofs.Common.{refl, sym, ap, subst, ◌∙◌, arith}
use Rattle.std.proofs.lemmas.Bool.{false≢true}
use Rattle.std.proofs.lemmas.List.{take_all}
use Rattle.std.specs.List.{cons_option}
use Rattle.std.specs.Prelude.{◌&&◌, ◌==◌, MatchBool, vec_len}
use Rattle.client_messages.specs.Listeners.{notified, subscribed, takes}
use Rattle.client_messages.specs.Refusal.{AnswersIfMemory, subscribe_refusal}
use Rattle.client_messages.specs.declared.listener.Listener.{Listener}
use Rattle.client_messages.specs.declared.message.Message.{Message}
use Rattle.client_messages.specs.declared.refusal.MessagesError.{MessagesError}
use Rattle.client_messages.specs.declared.refusal.MessagesError.TheVariants as errors
use Rattle.command_text.specs.declared.command.Command.{Command}
use Rattle.command_text.specs.declared.command.Command.TheVariants as topics
use Rattle.command_text.specs.declared.command.messages.MessagesCommand.{MessagesCommand}
use Rattle.command_text.specs.declared.command.messages.MessagesCommand.TheVariants as commands
use Rattle.idle_masks.specs.Subsystems.{only}
use Rattle.idle_masks.specs.declared.subsystem.Subsystem.TheVariants.{Subscription}
use Rattle.machine_core.proofs.Fronts.{nothing_told}
use Rattle.machine_core.specs.Front.{front_of, longest_answer}
use Rattle.machine_core.specs.Work.{Keeps}
use Rattle.machine_core.specs.declared.work.Failure.{Failure}
use Rattle.machine_core.specs.declared.work.Work.{Work}
use Rattle.machine_core.specs.State.{MachineState}
use Rattle.command_text.specs.declared.command.pictures.PicturesCommand.{PicturesCommand}
use Rattle.daemon_core.specs.Run.{Asker, Spent, own_of}
use Rattle.daemon_core.specs.Talk.{Talk, refusal_of, silent, talk_of, talked, unless_refused}
use Rattle.daemon_core.specs.Talking.{IsTalkRefusal, TellsTalk, failure_of}

-- a command that the machine performs
pub no_own : (a : Asker) (spent : Spent) (command : Command) (m : MachineState) → ((x : MessagesCommand) → command ≡ topics.Messages x → ⊥)
    → ((x : PicturesCommand) → command ≡ topics.Pictures x → ⊥) → own_of a spent command m ≡ None
unfolding own_of talk_of
no_own a spent (topics.Messages x) m other more = absurd (other x refl)
no_own a spent (topics.Pictures x) m other more = absurd (more x refl)
no_own a spent command m other more = refl

-- a message notifies some of the listeners
one_more : (c : ℕ) (rest : List ℕ) (notices : Bool) →
    length (cons_option (cond notices (Some c) None) rest) ≤ suc (length rest)
one_more c rest true = omega arith
one_more c rest false = omega arith

pub notified_fits : (ls : List Listener) (m : Message) → length (notified ls m) ≤ length ls
notified_fits [] m = omega arith
notified_fits (l ∷ ls) m =
    omega (arith, one_more l.client (notified ls m) (takes m l && (length l.unread == 0)), notified_fits ls m)

-- behind an answer that is too long nothing is told
tells_so : (lines : List ℕ) (w y : Work) (r : Result (Unit {0}) Failure) → longest_answer < vec_len w.text
    → Keeps (vec_len w.text) (Ok tt) w y r → TellsTalk lines w y r
tells_so lines w y (Ok u) long k = (
  record {
    text = ap front_of k.kept.1.0 ∙ nothing_told w.text.items lines (omega (arith, long, w.text.ok.0));
    ops = k.ops;
    size = k.size;
  },
  k.kept.1.1,
)
tells_so lines w y (Err failure) long k = (
  record { text = k.cut ∙ take_all (vec_len w.text) w.text.items (omega (arith, w.text.ok.0)); room = k.room; ops = k.ops; size = k.size },
  k.memory,
)

pub tells_none : (lines : List ℕ) (w y : Work) (long : Bool) (r : Result (Unit {0}) Failure) → long ≡ true
    → MatchBool long (longest_answer < vec_len w.text) (vec_len w.text ≤ longest_answer) → Keeps (vec_len w.text) (Ok tt) w y r
    → TellsTalk lines w y r
tells_none lines w y true r is long k = tells_so lines w y r long k
tells_none lines w y false r is long k = absurd (false≢true is)

-- a call that failed is a command that is refused
refused_so : (e : MessagesError) → IsTalkRefusal (Err (refusal_of e)) (failure_of e)
refused_so errors.BadChannelName = refl
refused_so errors.TooManyChannels = refl
refused_so errors.AlreadySubscribed = refl
refused_so errors.NotSubscribed = refl
refused_so errors.NobodySubscribed = refl
refused_so errors.NobodyHasRoom = refl
refused_so errors.NoMemory = tt

abbrev error_in : MessagesError → Result (Unit {0}) MessagesError → MessagesError
error_in e (Ok u) = e
error_in e (Err f) = f

fails_as : (refusal : Option MessagesError) (talk : Talk) (error : MessagesError) → AnswersIfMemory {T = Unit {0}} refusal (Err error) →
    IsTalkRefusal (unless_refused refusal talk) (failure_of error)
fails_as None talk error is = subst (λ e. IsTalkRefusal (Ok talk) (failure_of e)) (sym is) tt
fails_as (Some e) talk error is =
    subst (λ x. IsTalkRefusal (Err (refusal_of e)) (failure_of x)) (sym (ap (error_in error) is)) (refused_so e)

pub subscribe_fails : (c : ℕ) (ms : List Listener) (command : MessagesCommand) (channel said : List ℕ) (error : MessagesError)
    (failure : Failure) → command ≡ commands.Subscribe channel → said ≡ channel →
    AnswersIfMemory {T = Unit {0}} (subscribe_refusal ms c said) (Err error) → failure ≡ failure_of error →
    IsTalkRefusal (talked c ms command) failure
unfolding talked
subscribe_fails c ms command channel said error failure is same answer told =
    let talk : Talk = record (silent (subscribed ms c channel)) { changed = only Subscription } in
    subst (λ k. IsTalkRefusal (talked c ms k) failure) (sym is)
    (subst (IsTalkRefusal (unless_refused (subscribe_refusal ms c channel) talk)) (sym told)
    (fails_as (subscribe_refusal ms c channel) talk error
    (subst (λ s. AnswersIfMemory {T = Unit {0}} (subscribe_refusal ms c s) (Err error)) same answer)))
