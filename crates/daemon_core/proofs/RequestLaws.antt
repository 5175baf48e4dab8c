-- The commands of a request, one after the other.
use Rattle.std.proofs.Common.{◌≡◌, ℕ, suc, ◌+◌, ◌≤◌, ◌<◌, Bool, true, false, ◌||◌, List, [], ◌∷◌, ◌++◌, length, Option, Some, None, cond}
use Rattle.std.proofs.Common.{refl, sym, ◌∙◌, ap, subst, arith, append_assoc, eq-eqb}
use Rattle.std.specs.Prelude.{Result, Ok, Err, IfOk, IfSome, nat_le}
use Rattle.std.proofs.lemmas.Bool.{ne_eqb}
use Rattle.std.proofs.lemmas.List.{append-nil}
use Rattle.command_text.specs.Answer.{ok, ack}
use Rattle.command_text.specs.Reading.{line_words, command_of, line_reading, command_in, name_of_line, want_of_memory, Gives, GivesWords}
use Rattle.command_text.specs.declared.command.Command.{Command}
use Rattle.command_text.specs.declared.command.Command.TheVariants as commands
use Rattle.client_messages.specs.declared.listener.Listener.{Listener}
use Rattle.command_text.specs.declared.command.messages.MessagesCommand.{MessagesCommand}
use Rattle.command_text.specs.declared.command.pictures.PicturesCommand.{PicturesCommand}
use Rattle.daemon_core.specs.Pictures.{shown, IsShownRefusal, WentShowing}
use Rattle.daemon_core.specs.Run.{shows}
use Rattle.daemon_core.specs.Talk.{silent}
use Rattle.command_text.specs.declared.command.NamedCommand.{NamedCommand}
use Rattle.command_text.specs.declared.command.session.SessionCommand.{SessionCommand}
use Rattle.command_text.specs.declared.command.session.SessionCommand.TheVariants as session
use Rattle.command_text.specs.declared.command.settings.SettingsCommand.{SettingsCommand}
use Rattle.command_text.specs.declared.command.settings.SettingsCommand.TheVariants as settings
use Rattle.command_text.specs.declared.place.Place.{Place}
use Rattle.command_text.specs.declared.refusal.CommandRefusal.{CommandRefusal}
use Rattle.command_text.specs.declared.refusal.ReadError.{ReadError}
use Rattle.command_text.specs.declared.refusal.ReadError.TheVariants as errors
use Rattle.command_text.specs.declared.refusal.Refusal.{Refusal}
use Rattle.command_text.specs.declared.refusal.Refusal.TheVariants.{OfCommand}
use Rattle.daemon_core.specs.declared.view.View.{View}
use Rattle.idle_masks.specs.Subsystems.{contains, none, union}
use Rattle.idle_masks.specs.declared.subsystem.Subsystems.{Subsystems}
use Rattle.machine_core.proofs.Fronts.{cut_shorter, cut_told, more_told}
use Rattle.machine_core.specs.Changed.{changed}
use Rattle.machine_core.specs.Command.{meaning}
use Rattle.machine_core.specs.Front.{SameFront, front_of}
use Rattle.machine_core.specs.Looks.{looked, looks_of, max_looks, settings_looks, weighed}
use Rattle.machine_core.specs.Meaning.{Meaning, Meant}
use Rattle.machine_core.specs.Keeping.{kept}
use Rattle.machine_core.specs.Room.{under_room}
use Rattle.machine_core.specs.Size.{within_room}
use Rattle.machine_core.specs.State.{MachineState}
use Rattle.machine_core.specs.Work.{AddsNothing, AddsText, FailedKept, HasRoom, IsCut, IsKeptRefusalOf, PerformsKept, TellsText, WentKept, ack_room}
use Rattle.machine_core.specs.declared.work.Failure.{Failure}
use Rattle.machine_core.specs.declared.work.Failure.TheVariants as failures
use Rattle.machine_core.specs.declared.work.Work.{Work}
use Rattle.profile.specs.declared.profile.Profile.{Profile}
use Rattle.profile.specs.declared.profile.Profile.TheVariants.{Named, Wide}
use Rattle.state_codec.specs.Sealed.{checksum_len}
use Rattle.state_codec.specs.Spelling.{ops_bytes}
use Rattle.state_codec.specs.declared.op.Op.{Op}
use Rattle.daemon_core.specs.Handled.{Does}
use Rattle.daemon_core.specs.Parts.{state_of}
use Rattle.daemon_core.specs.Request.{stop_of_reading, ran_of, IsPerformed, IsNotPerformed, IsRefusalBy, RunsCommand, WentOn, IsStop}
use Rattle.daemon_core.specs.Request.{Stopped, RunsLine, AnswersStop, TellsNothing}
use Rattle.daemon_core.specs.Request.{CountsLooks, RunsLines, HasView, looks_at_end, view_at_end}
use Rattle.daemon_core.specs.Session.{of_ran, output, ran_silently, runs, seeing, talked_in, untold}
use Rattle.daemon_core.specs.Run.{Asker, own_of, Did, Done, Goes, Refuses, Ends, ending_of, did_of, unless_it_ends, performed, read_and_performed}
use Rattle.daemon_core.specs.Run.{attempted, done_by, done_of, either_does, machine_does, talk_does, talk_done}
use Rattle.daemon_core.specs.Run.{Ran, ends, wants_memory, preceded, follow, is_refused_at, ran, session_ending, settings_ending}
use Rattle.daemon_core.specs.Run.{Spent, looks_of_line, looks_read, spent_behind, spent_of, spent_on, view_of_line, view_read}
use Rattle.daemon_core.specs.Views.{view_behind}
use Rattle.daemon_core.specs.declared.picture.ClientPicture.{ClientPicture}
use Rattle.daemon_core.specs.Run.{within_both}
use Rattle.daemon_core.specs.Seen.{view_of}
use Rattle.daemon_core.specs.State.{State}
use Rattle.daemon_core.specs.Step.{asking, begun}
use Rattle.daemon_core.specs.Talk.{Talk, talk_of, talked}
use Rattle.daemon_core.specs.Talking.{IsSame, IsTalkRefusal, RunsTalk}
use Rattle.daemon_core.specs.declared.views.ClientView.{ClientView}
use Rattle.daemon_core.specs.declared.outcome.Ending.{Ending}
use Rattle.daemon_core.specs.declared.handled.Handled.{Handled}
use Rattle.daemon_core.specs.declared.outcome.Ending.TheVariants.{Answered, Closed, Killed, Waits}
use Rattle.daemon_core.specs.declared.parts.CoreParts.{CoreParts}
use Rattle.daemon_core.specs.declared.request.RequestEnd.{RequestEnd}
use Rattle.daemon_core.specs.declared.request.Stop.{Stop}
use Rattle.daemon_core.specs.declared.talk.Talks.{Talks}
use Rattle.idle_masks.specs.declared.watch.Watched.{Watched}
use Rattle.daemon_core.specs.declared.request.Stop.TheVariants as stops
use Rattle.daemon_core.proofs.PendingLaws.{contains-set_of, set_ext, union_assoc}
use Rattle.daemon_core.proofs.ReachedLaws.{of_ran_place}

-- what adds nothing tells nothing, and neither does a cut
pub nothing_told_of : (before after : Work) → AddsNothing before after → TellsNothing before after
nothing_told_of before after nothing = record {
  text = ap front_of nothing.text;
  shorter = omega (arith, ap length nothing.text, before.text.ok.0, after.text.ok.0);
  room = nothing.room;
  ops = nothing.ops;
  size = nothing.size;
}

pub cut_tells_nothing : (before after : Work) → IsCut before after → TellsNothing before after
cut_tells_nothing before after cut = record {
  text = ap front_of cut.text ∙ cut_told before.text.items;
  shorter = omega (arith, ap length cut.text, cut_shorter before.text.items, before.text.ok.0, after.text.ok.0);
  room = cut.room;
  ops = cut.ops;
  size = cut.size;
}

-- Room that was taken before tells nothing.
nothing_from : (before mid after : Work) → TellsNothing before mid → TellsNothing mid after → TellsNothing before after
nothing_from before mid after first second = record {
  text = second.text ∙ first.text;
  shorter = omega (arith, first.shorter, second.shorter);
  room = omega (arith, first.room, second.room);
  ops = second.ops ∙ first.ops;
  size = second.size ∙ first.size;
}

pub runs_from : (between : List ℕ) (did : Did) (s t : MachineState) (talks talked : Talks) (before mid after : Work)
    (r : Result Subsystems Stop) → TellsNothing before mid → RunsLine between did s t talks talked mid after r →
    RunsLine between did s t talks talked before after r
runs_from between did s t talks talked before mid after (Ok set) nothing h = let x : Done = h.what in record {
  what = x;
  is = h.is;
  stands = h.stands;
  messages = h.messages;
  notified = h.notified;
  text = h.text ∙ more_told mid.text.items before.text.items (x.text ++ between) nothing.text;
  ops = h.ops ∙ ap (λ y. y ++ x.ops) nothing.ops;
  size = h.size ∙ ap (λ n. n + length (ops_bytes s.saved.profile x.ops)) nothing.size;
  changed = h.changed;
  room = h.room;
}
runs_from between did s t talks talked before mid after (Err stop) nothing h =
    record { stands = h.stands; same = h.same; nothing = nothing_from before mid after nothing h.nothing; why = h.why }

-- what is read under the profile of a machine
pub read_under : {p q : Profile} (place : Place) (words : List (List ℕ)) (r : Result NamedCommand ReadError) → p ≡ q
    → Gives r (command_of p place words) → Gives r (command_of q place words)
read_under place words r same h = subst (λ (x : Profile). Gives r (command_of x place words)) same h

-- a line that was read
pub read_performed : (c : Asker) (place : Place) (spent : Spent) (line : List ℕ) (words : List (List ℕ)) (m : MachineState) (named : NamedCommand) →
    line_words line ≡ Ok words → command_of m.saved.profile place words ≡ Ok named → performed c spent named m ≡ attempted c place spent line m
unfolding attempted line_reading
read_performed c place spent line words m named parted read =
    sym (ap (λ w. read_and_performed c spent m (command_in m.saved.profile place w)) parted ∙ ap (read_and_performed c spent m) read)

-- a line whose words were refused, or that no command is read from
pub words_refused : (c : Asker) (place : Place) (spent : Spent) (line : List ℕ) (m : MachineState) (refusal : Refusal) → line_words line ≡ Err refusal →
    attempted c place spent line m ≡ Refuses refusal
unfolding attempted line_reading
words_refused c place spent line m refusal parted = ap (λ w. read_and_performed c spent m (command_in m.saved.profile place w)) parted

pub command_refused : (c : Asker) (place : Place) (spent : Spent) (line : List ℕ) (words : List (List ℕ)) (m : MachineState) (refusal : Refusal) →
    line_words line ≡ Ok words → command_of m.saved.profile place words ≡ Err refusal → attempted c place spent line m ≡ Refuses refusal
unfolding attempted line_reading
command_refused c place spent line words m refusal parted read =
    ap (λ w. read_and_performed c spent m (command_in m.saved.profile place w)) parted ∙ ap (read_and_performed c spent m) read

-- a command that ends its request, and one that means something
pub performed_ends : (c : Asker) (spent : Spent) (named : NamedCommand) (m : MachineState) (ending : Ending) →
    ending_of named.command ≡ Some ending → performed c spent named m ≡ Ends ending
unfolding performed
performed_ends c spent named m ending is = ap (λ e. unless_it_ends e (did_of named.name (done_by c spent named.command m))) is

performed_did : (c : Asker) (spent : Spent) (named : NamedCommand) (m : MachineState) (does : Result Done CommandRefusal) →
    ending_of named.command ≡ None → done_by c spent named.command m ≡ does → performed c spent named m ≡ did_of named.name does
unfolding performed
performed_did c spent named m does is same =
    ap (λ e. unless_it_ends e (did_of named.name (done_by c spent named.command m))) is ∙ ap (did_of named.name) same

pub performed_refuses : (c : Asker) (spent : Spent) (named : NamedCommand) (m : MachineState) (refusal : CommandRefusal) →
    ending_of named.command ≡ None → done_by c spent named.command m ≡ Err refusal →
    performed c spent named m ≡ Refuses (OfCommand named.name refusal)
performed_refuses c spent named m refusal is same = performed_did c spent named m (Err refusal) is same

-- a command that is none of the daemon's own does what it means
machine_is : (c : Asker) (spent : Spent) (command : Command) (m : MachineState) (meant : Meant) → own_of c spent command m ≡ None →
    within_both spent command m ≡ meant → done_by c spent command m ≡ machine_does m spent.messages meant
unfolding done_by
machine_is c spent command m meant other same =
    ap (λ o. either_does m spent.messages o (within_both spent command m)) other ∙ ap (machine_does m spent.messages) same

pub machine_performs : (c : Asker) (command : Command) (s t : MachineState) (talks : Talks) (before after : Work) (looks : ℕ) (view : View)
    (set : Subsystems) → own_of c (spent_of before.size looks view talks.messages) command s ≡ None →
    WentKept s.saved.profile (kept s (within_room s.saved.profile before.size (weighed s.saved.profile looks (looks_of command s)
    (under_room s (meaning view.tags command s))))) t before after → set ≡ changed s t →
    IsPerformed (done_by c (spent_of before.size looks view talks.messages) command s) s t talks talks before after set
machine_performs c command s t talks before after looks view set other went same =
    let x : Meaning = went.meaning in
    let a = went.ops in
    record {
      what = done_of s talks.messages x;
      is = machine_is c (spent_of before.size looks view talks.messages) command s (Ok x) other went.means;
      stands = went.stands;
      messages = refl;
      notified = sym (append-nil talks.notified.items);
      text = went.text;
      ops = a.ops;
      size = a.size;
      changed = same ∙ ap (changed s) went.stands;
      room = went.room;
    }

machine_refused : (c : Asker) (command : Command) (s : MachineState) (talks : Talks) (size looks : ℕ) (view : View) (failure : Failure) →
    own_of c (spent_of size looks view talks.messages) command s ≡ None →
    IsKeptRefusalOf s.saved.profile (weighed s.saved.profile looks (looks_of command s) (under_room s (meaning view.tags command s))) size failure →
    IsRefusalBy (done_by c (spent_of size looks view talks.messages) command s) failure
machine_refused c command s talks size looks view (failures.Refused refusal) other h =
    machine_is c (spent_of size looks view talks.messages) command s (Err refusal) other (ap (kept s) h)
machine_refused c command s talks size looks view failures.NoMemory other h = tt

pub machine_fails : (c : Asker) (command : Command) (s t : MachineState) (talks : Talks) (before after : Work) (looks : ℕ) (view : View)
    (failure : Failure) → own_of c (spent_of before.size looks view talks.messages) command s ≡ None →
    FailedKept (weighed s.saved.profile looks (looks_of command s) (under_room s (meaning view.tags command s))) s t before after failure →
    IsNotPerformed (done_by c (spent_of before.size looks view talks.messages) command s) s t talks talks before after failure
machine_fails c command s t talks before after looks view failure other failed = record {
  stands = failed.state;
  same = record { messages = refl; notified = refl };
  nothing = failed.nothing;
  refusal = machine_refused c command s talks before.size looks view failure other failed.refusal;
}

pub machine_runs : (c : Asker) (command : Command) (s t : MachineState) (talks : Talks) (before after : Work) (looks : ℕ) (view : View)
    (r : Result Subsystems Failure) → own_of c (spent_of before.size looks view talks.messages) command s ≡ None →
    PerformsKept (weighed s.saved.profile looks (looks_of command s) (under_room s (meaning view.tags command s))) s t before after r →
    IfOk r (λ set. set ≡ changed s t) →
    RunsCommand (done_by c (spent_of before.size looks view talks.messages) command s) s t talks talks before after r
machine_runs c command s t talks before after looks view (Ok set) other went same =
    machine_performs c command s t talks before after looks view set other went same
machine_runs c command s t talks before after looks view (Err failure) other failed same =
    machine_fails c command s t talks before after looks view failure other failed

-- so does one of messages
talk_refused : (c : Asker) (command : MessagesCommand) (s : MachineState) (talks : Talks) (size looks : ℕ) (view : View) (failure : Failure) →
    IsTalkRefusal (talked c.client talks.messages command) failure →
    IsRefusalBy (done_by c (spent_of size looks view talks.messages) (commands.Messages command) s) failure
unfolding done_by own_of talk_of
talk_refused c command s talks size looks view (failures.Refused refusal) h = ap (talk_does s) h
talk_refused c command s talks size looks view failures.NoMemory h = tt

pub talk_runs : (c : Asker) (command : MessagesCommand) (s : MachineState) (talks after_it : Talks) (before after : Work) (looks : ℕ)
    (view : View) (r : Result Subsystems Failure) →
    RunsTalk (talked c.client talks.messages command) talks after_it before after r →
    RunsCommand (done_by c (spent_of before.size looks view talks.messages) (commands.Messages command) s) s s talks after_it before after r
unfolding done_by own_of talk_of
talk_runs c command s talks after_it before after looks view (Ok set) h =
    let x : Talk = h.talk in
    let a = h.text in
    record {
      what = talk_done s x;
      is = ap (talk_does s) h.does;
      stands = refl;
      messages = h.messages;
      notified = h.notified;
      text = a.text;
      ops = a.ops ∙ sym (append-nil before.ops.items);
      size = omega (arith, a.size);
      changed = h.changed;
      room = h.room;
    }
talk_runs c command s talks after_it before after looks view (Err failure) h = record {
  stands = refl;
  same = h.same;
  nothing = h.nothing;
  refusal = talk_refused c command s talks before.size looks view failure h.refusal;
}

-- and one of pictures
show_refused : (a : Asker) (command : PicturesCommand) (s : MachineState) (talks : Talks) (size looks : ℕ) (view : View) (failure : Failure) →
    IsShownRefusal (shown view.limit a.told s.saved.songs command) failure →
    IsRefusalBy (done_by a (spent_of size looks view talks.messages) (commands.Pictures command) s) failure
unfolding done_by own_of
show_refused a command s talks size looks view (failures.Refused refusal) h = ap (λ r. talk_does s (shows talks.messages r)) h
show_refused a command s talks size looks view failures.NoMemory h = tt

pub show_fails : (a : Asker) (command : PicturesCommand) (s : MachineState) (talks : Talks) (before after : Work) (looks : ℕ) (view : View)
    (failure : Failure) → AddsNothing before after → IsShownRefusal (shown view.limit a.told s.saved.songs command) failure →
    IsNotPerformed (done_by a (spent_of before.size looks view talks.messages) (commands.Pictures command) s) s s talks talks before after
    failure
show_fails a command s talks before after looks view failure nothing h = record {
  stands = refl;
  same = record { messages = refl; notified = refl };
  nothing = nothing;
  refusal = show_refused a command s talks before.size looks view failure h;
}

pub show_goes : (a : Asker) (command : PicturesCommand) (s : MachineState) (talks : Talks) (before after : Work) (looks : ℕ) (view : View)
    (set : Subsystems) → WentShowing (shown view.limit a.told s.saved.songs command) before after → set ≡ none →
    IsPerformed (done_by a (spent_of before.size looks view talks.messages) (commands.Pictures command) s) s s talks talks before after set
unfolding done_by own_of
show_goes a command s talks before after looks view set h same =
    let added = h.adds in
    record {
      what = talk_done s (record (silent talks.messages) { text = h.text });
      is = ap (λ r. talk_does s (shows talks.messages r)) h.is;
      stands = refl;
      messages = refl;
      notified = sym (append-nil talks.notified.items);
      text = added.text;
      ops = added.ops ∙ sym (append-nil before.ops.items);
      size = omega (arith, added.size);
      changed = same;
      room = h.room;
    }

union-none : (a : Subsystems) → union none a ≡ a
union-none a = set_ext _ _ (λ x.
    contains-set_of (λ y. contains none y || contains a y) x
    ∙ ap (λ v. v || contains a x) (contains-set_of (λ _. false) x))

or_false : (a : Bool) → (a || false) ≡ a
or_false true = refl
or_false false = refl

pub union_none_right : (a : Subsystems) → union a none ≡ a
union_none_right a = set_ext _ _ (λ x.
    contains-set_of (λ y. contains a y || contains none y) x
    ∙ ap (λ v. contains a x || v) (contains-set_of (λ _. false) x) ∙ or_false (contains a x))

preceded_twice : (t u : List ℕ) (a b : Subsystems) (os ps : List Op) (n m : List ℕ) (r : Ran) →
    preceded t a os n (preceded u b ps m r) ≡ preceded (t ++ u) (union a b) (os ++ ps) (n ++ m) r
preceded_twice t u a b os ps n m r = λ i. record {
  after = r.after;
  text = sym (append_assoc t u r.text) i;
  changed = sym (union_assoc a b r.changed) i;
  ops = sym (append_assoc os ps r.ops) i;
  ending = r.ending;
  refused_at = r.refused_at;
  looks = r.looks;
  view = r.view;
  messages = r.messages;
  notified = sym (append_assoc n m r.notified) i;
}

preceded_none : (r : Ran) → preceded [] none [] [] r ≡ r
preceded_none r = λ i. record {
  after = r.after;
  text = r.text;
  changed = union-none r.changed i;
  ops = r.ops;
  ending = r.ending;
  refused_at = r.refused_at;
  looks = r.looks;
  view = r.view;
  messages = r.messages;
  notified = r.notified;
}

-- memory was not refused before this command
abbrev pub NotBefore : ℕ → Option ℕ → Type 0
NotBefore index refused = IfSome refused (λ place. index ≤ place)

-- What was done so far: what is left of the request, done from here, makes it whole.
pub record SoFar
    (c : Asker) (place : Place) (between : List ℕ) (lines rest : List (List ℕ)) (index : ℕ) (first m : MachineState) (talks talked : Talks)
    (before now : Work) (looks : ℕ) (start view : View) (changes : Subsystems)
    : Type 0 where
  pub text : List ℕ
  pub made : List Op
  pub told : List ℕ
  pub written : SameFront now.text.items (before.text.items ++ text)
  pub ops : now.ops.items ≡ before.ops.items ++ made
  pub notified : talked.notified.items ≡ talks.notified.items ++ told
  pub room : HasRoom ack_room now
  pub left : index + length rest ≡ length lines
  pub whole : (refused : Option ℕ) → NotBefore index refused →
      ran c place between refused 0 (spent_of before.size 0 start talks.messages) lines first
      ≡ preceded text changes made told (ran c place between refused index (spent_of now.size looks view talked.messages) rest m)

pub so_far_begins : (c : Asker) (place : Place) (between : List ℕ) (lines : List (List ℕ)) (first : MachineState) (talks : Talks)
    (before : Work) (start : View) → HasRoom ack_room before →
    SoFar c place between lines lines 0 first first talks talks before before 0 start start none
so_far_begins c place between lines first talks before start room = record {
  text = [];
  made = [];
  told = [];
  written = ap front_of (sym (append-nil before.text.items));
  ops = sym (append-nil before.ops.items);
  notified = sym (append-nil talks.notified.items);
  room = room;
  left = omega arith;
  whole = λ refused _.
      sym (preceded_none (ran c place between refused 0 (spent_of before.size 0 start talks.messages) lines first));
}

later_is_not : (index : ℕ) (refused : Option ℕ) → NotBefore (suc index) refused → is_refused_at refused index ≡ false
later_is_not index None h = refl
later_is_not index (Some place) h = ne_eqb place index (λ e. omega (arith, h, e))

later_before : (index : ℕ) (refused : Option ℕ) → NotBefore (suc index) refused → NotBefore index refused
later_before index None h = tt
later_before index (Some place) h = omega (arith, h)

-- the rest of a request behind its next command, which goes well
next_goes : (c : Asker) (place : Place) (between line : List ℕ) (rest : List (List ℕ)) (index : ℕ) (spent : Spent) (refused : Option ℕ)
    (s : MachineState) (x : Done) → is_refused_at refused index ≡ false → attempted c place spent line s ≡ Goes x →
    ran c place between refused index spent (line ∷ rest) s
    ≡ preceded (x.text ++ between) x.changed x.ops x.notified
    (ran c place between refused (suc index) (spent_on (spent_behind place line s spent) x) rest x.after)
unfolding ran
next_goes c place between line rest index spent refused s x here did =
    ap (λ b. cond b (wants_memory s spent index line)
    (follow between index (spent_behind place line s spent) s (λ n u. ran c place between refused (suc index) n rest u)
    (attempted c place spent line s))) here
    ∙ ap (follow between index (spent_behind place line s spent) s (λ n u. ran c place between refused (suc index) n rest u)) did

-- one command went well
pub so_far_goes : (c : Asker) (place : Place) (between : List ℕ) (lines rest : List (List ℕ)) (line : List ℕ) (index : ℕ)
    (first s t : MachineState) (talks talked done : Talks) (before now after : Work) (looks more : ℕ) (start view behind : View)
    (changes set : Subsystems) →
    SoFar c place between lines (line ∷ rest) index first s talks talked before now looks start view changes →
    WentOn between (attempted c place (spent_of now.size looks view talked.messages) line s) s t talked done now after set →
    more ≡ looked s.saved.profile looks (looks_of_line place line s) → behind ≡ view_of_line place line s view →
    SoFar c place between lines rest (suc index) first t talks done before after more start behind (union changes set)
so_far_goes c place between lines rest line index first s t talks talked done before now after looks more start view behind changes set far
    went counted seen =
    let x : Done = went.what in
    let spent = spent_of now.size looks view talked.messages in
    record {
      text = far.text ++ (x.text ++ between);
      made = far.made ++ x.ops;
      told = far.told ++ x.notified;
      written = went.text ∙ more_told now.text.items (before.text.items ++ far.text) (x.text ++ between) far.written
          ∙ ap front_of (append_assoc before.text.items far.text (x.text ++ between));
      ops = went.ops ∙ ap (λ y. y ++ x.ops) far.ops ∙ append_assoc before.ops.items far.made x.ops;
      notified = went.notified ∙ ap (λ y. y ++ x.notified) far.notified ∙ append_assoc talks.notified.items far.told x.notified;
      room = went.room;
      left = omega (arith, far.left);
      whole = λ refused later.
          far.whole refused (later_before index refused later)
          ∙ ap (preceded far.text changes far.made far.told)
          (next_goes c place between line rest index spent refused s x (later_is_not index refused later) went.is)
          ∙ preceded_twice far.text (x.text ++ between) changes x.changed far.made x.ops far.told x.notified
          (ran c place between refused (suc index) (spent_on (spent_behind place line s spent) x) rest x.after)
          ∙ (λ i. preceded (far.text ++ (x.text ++ between)) (union changes (sym went.changed i)) (far.made ++ x.ops)
          (far.told ++ x.notified)
          (ran c place between refused (suc index) (spent_of (sym went.size i) (sym counted i) (sym seen i) (sym went.messages i)) rest
          (sym went.stands i)));
    }

-- what the answer to a stop makes of the rest of a request
pub record StopsIt
    (c : Asker) (place : Place) (between line : List ℕ) (rest : List (List ℕ)) (index : ℕ) (spent : Spent) (s : MachineState) (refused : Option ℕ)
    (ending : Ending) (looks : ℕ) (view : View) (work done : Work) : Type 0 where
  pub text : List ℕ
  pub same : ran c place between refused index spent (line ∷ rest) s
      ≡ record (ends s (spent_of 0 looks view spent.messages) text ending) { refused_at = refused }
  pub adds : AddsText text work done
  pub later : NotBefore index refused
  pub within : IfSome refused (λ at. at ≡ index)

pub stops_it : (c : Asker) (place : Place) (between line : List ℕ) (rest : List (List ℕ)) (index : ℕ) (spent : Spent) (s : MachineState)
    (stop : Stop) (refused : Option ℕ) (ending : Ending) (looks : ℕ) (view : View) (work done : Work)
    → IsStop (attempted c place spent line s) stop
    → CountsLooks (looked s.saved.profile spent.looks (looks_of_line place line s)) looks (Err stop)
    → HasView (view_of_line place line s spent.view) view (Err stop)
    → AnswersStop s.saved.profile stop index line refused ending work done
    → StopsIt c place between line rest index spent s refused ending (looks_at_end refused looks)
    (view_at_end refused spent.view view) work done
unfolding ran
stops_it c place between line rest index spent s (stops.Ends it) None ending looks view work done did counted seen answer = record {
  text = [];
  same = ap (follow between index (spent_behind place line s spent) s (λ n u. ran c place between None (suc index) n rest u)) did
      ∙ (λ i. ends s (spent_of 0 (sym counted i) (sym seen i) spent.messages) [] (sym answer.0 i));
  adds = answer.1;
  later = tt;
  within = tt;
}
stops_it c place between line rest index spent s (stops.Refused refusal) None ending looks view work done did counted seen answer = record {
  text = ack index refusal;
  same = ap (follow between index (spent_behind place line s spent) s (λ n u. ran c place between None (suc index) n rest u)) did
      ∙ (λ i. ends s (spent_of 0 (sym counted i) (sym seen i) spent.messages) (ack index refusal) (sym answer.0 i));
  adds = answer.1;
  later = tt;
  within = tt;
}
stops_it c place between line rest index spent s stops.NoMemory None ending looks view work done did counted seen answer = absurd answer
stops_it c place between line rest index spent s stop (Some at) ending looks view work done did counted seen answer =
    let wants = answer.1 in
    record {
      text = ack index (want_of_memory (name_of_line s.saved.profile line));
      same = ap (λ b. cond b (wants_memory s spent index line)
          (follow between index (spent_behind place line s spent) s (λ n u. ran c place between (Some at) (suc index) n rest u)
          (attempted c place spent line s)))
          (eq-eqb at index answer.0)
          ∙ (λ i. record (ends s (spent_of 0 max_looks spent.view spent.messages) (ack index (want_of_memory (name_of_line s.saved.profile line)))
          (sym wants.0 i))
          { refused_at = Some (sym answer.0 i) });
      adds = wants.1;
      later = omega (arith, answer.0);
      within = answer.0;
    }

abbrev end_of : Ending → Subsystems → Option ℕ → ℕ → View → RequestEnd
end_of ending changes refused looks view =
    record { ending = ending; changed = changes; refused_at = refused; looks = looks; view = view }

-- what was added is told
told_of_adds : (more : List ℕ) (before after : Work) → AddsText more before after → TellsText more before after
told_of_adds more before after adds = record { text = ap front_of adds.text; ops = adds.ops; size = adds.size }

-- the request has ended
ran_ends : (c : Asker) (place : Place) (between : List ℕ) (lines rest : List (List ℕ)) (index : ℕ) (first s : MachineState)
    (talks talked : Talks) (before now after : Work) (looks all : ℕ) (start view seen : View) (changes : Subsystems)
    (refused : Option ℕ) (text : List ℕ) (ending : Ending) →
    SoFar c place between lines rest index first s talks talked before now looks start view changes → NotBefore index refused →
    ran c place between refused index (spent_of now.size looks view talked.messages) rest s
    ≡ record (ends s (spent_of 0 all seen talked.messages) text ending) { refused_at = refused } → TellsText text now after →
    IfSome refused (λ at. at < length lines) →
    RunsLines c place between start lines first s talks talked before after (end_of ending changes refused all seen)
ran_ends c place between lines rest index first s talks talked before now after looks all start view seen changes refused text ending far
    later ended adds within =
    let whole : ran c place between refused 0 (spent_of before.size 0 start talks.messages) lines first
    ≡ preceded far.text changes far.made far.told
    (record (ends s (spent_of 0 all seen talked.messages) text ending) { refused_at = refused }) =
    far.whole refused later ∙ ap (preceded far.text changes far.made far.told) ended in
    record {
      stands = sym (ap (λ r. r.after) whole);
      text = adds.text ∙ more_told now.text.items (before.text.items ++ far.text) text far.written
          ∙ ap front_of (append_assoc before.text.items far.text text ∙ sym (ap (λ r. before.text.items ++ r.text) whole));
      ops = adds.ops ∙ far.ops
          ∙ sym (ap (λ r. before.ops.items ++ r.ops) whole ∙ ap (λ x. before.ops.items ++ x) (append-nil far.made));
      changed = sym (ap (λ r. r.changed) whole ∙ union_none_right changes);
      ending = sym (ap (λ r. r.ending) whole);
      refused_at = sym (ap (λ r. r.refused_at) whole);
      looks = sym (ap (λ r. r.looks) whole);
      sees = sym (ap (λ r. r.view) whole);
      messages = sym (ap (λ r. r.messages) whole);
      notified = far.notified
          ∙ sym (ap (λ r. talks.notified.items ++ r.notified) whole ∙ ap (λ x. talks.notified.items ++ x) (append-nil far.told));
      within = within;
    }

-- memory that was taken changes nothing of what was sent
same_talks : (c : Asker) (place : Place) (between : List ℕ) (view : View) (lines : List (List ℕ)) (first s : MachineState)
    (talks talked last : Talks) (before after : Work) (end : RequestEnd) → IsSame talked last →
    RunsLines c place between view lines first s talks talked before after end →
    RunsLines c place between view lines first s talks last before after end
same_talks c place between view lines first s talks talked last before after end same runs = record {
  stands = runs.stands;
  text = runs.text;
  ops = runs.ops;
  changed = runs.changed;
  ending = runs.ending;
  refused_at = runs.refused_at;
  looks = runs.looks;
  sees = runs.sees;
  messages = same.messages ∙ runs.messages;
  notified = same.notified ∙ runs.notified;
  within = runs.within;
}

at_within : (index count : ℕ) (refused : Option ℕ) → index < count → IfSome refused (λ at. at ≡ index) → IfSome refused (λ at. at < count)
at_within index count None below h = tt
at_within index count (Some at) below h = omega (arith, below, h)

-- the next command stopped it
pub ran_stops : (c : Asker) (place : Place) (between : List ℕ) (lines whole rest : List (List ℕ)) (bytes : List ℕ) (index : ℕ)
    (first s t : MachineState) (talks talked last : Talks) (before now mid after : Work) (looks more all : ℕ)
    (start view behind seen : View) (changes : Subsystems) (stop : Stop) (refused : Option ℕ) (ending : Ending) → whole ≡ bytes ∷ rest
    → SoFar c place between lines whole index first s talks talked before now looks start view changes →
    Stopped (attempted c place (spent_of now.size looks view talked.messages) bytes s) s t talked last now mid stop →
    CountsLooks (looked s.saved.profile looks (looks_of_line place bytes s)) more (Err stop) → all ≡ looks_at_end refused more →
    HasView (view_of_line place bytes s view) behind (Err stop) → seen ≡ view_at_end refused view behind →
    AnswersStop t.saved.profile stop index bytes refused ending mid after →
    RunsLines c place between start lines first t talks last before after (end_of ending changes refused all seen)
ran_stops c place between lines whole rest bytes index first s t talks talked last before now mid after looks more all start view behind seen
    changes stop refused ending parts whole_far stopped counted is sees at_end answer =
    let far : SoFar c place between lines (bytes ∷ rest) index first s talks talked before now looks start view changes =
    subst (λ r. SoFar c place between lines r index first s talks talked before now looks start view changes) parts whole_far in
    let it = stops_it c place between bytes rest index (spent_of now.size looks view talked.messages) s stop refused ending more behind mid
    after stopped.why counted sees
    (subst (λ (u : MachineState). AnswersStop u.saved.profile stop index bytes refused ending mid after) stopped.stands answer) in
    let nothing = stopped.nothing in
    let adds = it.adds in
    subst (λ u. RunsLines c place between start lines first u talks last before after (end_of ending changes refused all seen))
    (sym stopped.stands)
    (same_talks c place between start lines first s talks talked last before after (end_of ending changes refused all seen) stopped.same
    (ran_ends c place between lines (bytes ∷ rest) index first s talks talked before now after looks all start view seen changes refused
    it.text ending far it.later
    (it.same ∙ (λ i. record (ends s (spent_of 0 (sym is i) (sym at_end i) talked.messages) it.text ending) { refused_at = refused }))
    (record {
      text = ap front_of adds.text ∙ more_told mid.text.items now.text.items it.text nothing.text;
      ops = adds.ops ∙ nothing.ops;
      size = adds.size ∙ nothing.size;
    })
    (at_within index (length lines) refused (omega (arith, far.left)) it.within)))

pub ran_goes : (c : Asker) (place : Place) (between : List ℕ) (lines whole rest : List (List ℕ)) (bytes : List ℕ) (index : ℕ)
    (first s t : MachineState) (talks talked done : Talks) (before now after : Work) (looks more : ℕ) (start view behind : View)
    (changes set : Subsystems) → whole ≡ bytes ∷ rest →
    SoFar c place between lines whole index first s talks talked before now looks start view changes →
    WentOn between (attempted c place (spent_of now.size looks view talked.messages) bytes s) s t talked done now after set →
    more ≡ looked s.saved.profile looks (looks_of_line place bytes s) → behind ≡ view_of_line place bytes s view →
    SoFar c place between lines rest (index + 1) first t talks done before after more start behind (union changes set)
ran_goes c place between lines whole rest bytes index first s t talks talked done before now after looks more start view behind changes set
    parts far h counted seen =
    subst (λ n. SoFar c place between lines rest n first t talks done before after more start behind (union changes set)) (omega arith)
    (so_far_goes c place between lines rest bytes index first s t talks talked done before now after looks more start view behind changes set
    (subst (λ r. SoFar c place between lines r index first s talks talked before now looks start view changes) parts far) h counted seen)

next_none : (c : Asker) (place : Place) (between : List ℕ) (index : ℕ) (spent : Spent) (s : MachineState) →
    ran c place between None index spent [] s ≡ ends s spent ok Answered
unfolding ran
next_none c place between index spent s = refl

pub ran_all : (c : Asker) (place : Place) (between : List ℕ) (lines rest : List (List ℕ)) (index : ℕ) (first s : MachineState)
    (talks talked : Talks) (before now after : Work) (looks all : ℕ) (start view : View) (changes : Subsystems) → rest ≡ [] →
    SoFar c place between lines rest index first s talks talked before now looks start view changes → all ≡ looks → AddsText ok now after →
    RunsLines c place between start lines first s talks talked before after (end_of Answered changes None all view)
ran_all c place between lines [] index first s talks talked before now after looks all start view changes empty far is h =
    ran_ends c place between lines [] index first s talks talked before now after looks all start view view changes None ok Answered far tt
    (next_none c place between index (spent_of now.size looks view talked.messages) s
    ∙ (λ i. ends s (spent_of 0 (sym is i) view talked.messages) ok Answered)) (told_of_adds ok now after h) tt
ran_all c place between lines (r ∷ rest) index first s talks talked before now after looks all start view changes empty far is h = cc

-- a command that went well, and what stands behind it
pub went_on : (c : Asker) (spent : Spent) (named : NamedCommand) (separator : List ℕ) (s t : MachineState) (talks talked : Talks)
    (before mid after : Work) (set : Subsystems) →
    IsPerformed (done_by c spent named.command s) s t talks talked before mid set → ending_of named.command ≡ None →
    AddsText separator mid after → HasRoom ack_room after →
    WentOn separator (performed c spent named s) s t talks talked before after set
went_on c spent named separator s t talks talked before mid after set went is adds room =
    let x : Done = went.what in
    record {
      what = x;
      is = performed_did c spent named s (Ok x) is went.is;
      stands = went.stands;
      messages = went.messages;
      notified = went.notified;
      text = ap front_of adds.text ∙ more_told mid.text.items (before.text.items ++ x.text) separator went.text
          ∙ ap front_of (append_assoc before.text.items x.text separator);
      ops = adds.ops ∙ went.ops;
      size = adds.size ∙ went.size;
      changed = went.changed;
      room = room;
    }

-- a line of which no words, or no command, were read
pub words_stop : (c : Asker) (place : Place) (spent : Spent) (line : List ℕ) (m : MachineState) (error : ReadError) (stop : Stop) →
    GivesWords (Err error) (line_words line) → stop ≡ stop_of_reading error → IsStop (attempted c place spent line m) stop
words_stop c place spent line m (errors.Refused refusal) stop read is =
    subst (IsStop (attempted c place spent line m)) (sym is) (words_refused c place spent line m refusal read)
words_stop c place spent line m errors.NoMemory stop read is = subst (IsStop (attempted c place spent line m)) (sym is) tt

pub command_stop : (c : Asker) (place : Place) (spent : Spent) (line : List ℕ) (words slice : List (List ℕ)) (m : MachineState) (error : ReadError)
    (stop : Stop) → line_words line ≡ Ok words → slice ≡ words → Gives {A = NamedCommand} (Err error)
    (command_of m.saved.profile place slice) →
    stop ≡ stop_of_reading error → IsStop (attempted c place spent line m) stop
command_stop c place spent line words slice m (errors.Refused refusal) stop parted same read is =
    subst (IsStop (attempted c place spent line m)) (sym is)
    (command_refused c place spent line slice m refusal (parted ∙ ap Ok (sym same)) read)
command_stop c place spent line words slice m errors.NoMemory stop parted same read is =
    subst (IsStop (attempted c place spent line m)) (sym is) tt

-- a command that was read runs as its line does, and looks at what its line looks at
pub line_runs : (c : Asker) (place : Place) (between line : List ℕ) (words slice : List (List ℕ)) (named : NamedCommand) (s t : MachineState)
    (talks talked : Talks) (before mid after : Work) (looks : ℕ) (view : View) (r : Result Subsystems Stop) →
    line_words line ≡ Ok words → slice ≡ words → command_of s.saved.profile place slice ≡ Ok named → IsCut before mid →
    RunsLine between (performed c (spent_of mid.size looks view talks.messages) named s) s t talks talked mid after r →
    RunsLine between (attempted c place (spent_of before.size looks view talks.messages) line s) s t talks talked before after r
line_runs c place between line words slice named s t talks talked before mid after looks view r parted same read cut h =
    runs_from between (attempted c place (spent_of before.size looks view talks.messages) line s) s t talks talked before mid after r
    (cut_tells_nothing before mid cut)
    (subst (λ did. RunsLine between did s t talks talked mid after r)
    (ap (λ n. performed c (spent_of n looks view talks.messages) named s) cut.size
    ∙ read_performed c place (spent_of before.size looks view talks.messages) line slice s named (parted ∙ ap Ok (sym same)) read) h)

pub line_looks : (place : Place) (line : List ℕ) (words slice : List (List ℕ)) (named : NamedCommand) (m : MachineState) →
    line_words line ≡ Ok words → slice ≡ words → command_of m.saved.profile place slice ≡ Ok named →
    looks_of named.command m ≡ looks_of_line place line m
unfolding looks_of_line line_reading
line_looks place line words slice named m parted same read =
    sym (ap (λ w. looks_read (command_in m.saved.profile place w) m) (parted ∙ ap Ok (sym same)) ∙ ap (λ r. looks_read r m) read)

pub looks_counted : {n m : ℕ} (profile : Profile) (r : Result Subsystems Stop) (looks more : ℕ) → n ≡ m → more ≡ looked profile looks n →
    CountsLooks (looked profile looks m) more r
looks_counted profile (Ok set) looks more same h = h ∙ ap (looked profile looks) same
looks_counted profile (Err (stops.Ends ending)) looks more same h = h ∙ ap (looked profile looks) same
looks_counted profile (Err (stops.Refused refusal)) looks more same h = h ∙ ap (looked profile looks) same
looks_counted profile (Err stops.NoMemory) looks more same h = tt

-- the same of the view that its client sees behind it
pub line_view : (place : Place) (line : List ℕ) (words slice : List (List ℕ)) (named : NamedCommand) (m : MachineState) (view : View) →
    line_words line ≡ Ok words → slice ≡ words → command_of m.saved.profile place slice ≡ Ok named →
    view_behind named.command view ≡ view_of_line place line m view
unfolding view_of_line line_reading
line_view place line words slice named m view parted same read =
    sym (ap (λ w. view_read (command_in m.saved.profile place w) view) (parted ∙ ap Ok (sym same)) ∙ ap (λ r. view_read r view) read)

pub view_of_so : (r : Result Subsystems Stop) (all view : View) → view ≡ all → HasView all view r
view_of_so (Ok set) all view is = is
view_of_so (Err (stops.Ends ending)) all view is = is
view_of_so (Err (stops.Refused refusal)) all view is = is
view_of_so (Err stops.NoMemory) all view is = tt

-- What ends a request, and a line of which no command was read, looks at nothing.
cond_same : (b : Bool) (n m : ℕ) → m ≡ n → m ≡ cond b n m
cond_same true n m same = same
cond_same false n m same = refl

pub looked_none : (profile : Profile) (looks n : ℕ) → n ≡ 0 → looks ≡ looked profile looks n
looked_none Named looks n none = omega (arith, none)
looked_none Wide looks n none = cond_same (nat_le (looks + n) max_looks) (looks + n) looks (omega (arith, none))

abbrev LooksIfEnding : Option Ending → ℕ → Type 0
LooksIfEnding None looks = Unit {0}
LooksIfEnding (Some ending) looks = looks ≡ 0

settings_end : (command : SettingsCommand) (m : MachineState) → LooksIfEnding (settings_ending command) (settings_looks command m)
settings_end settings.Close m = refl
settings_end settings.Kill m = refl
settings_end other m = tt

session_end : (command : SessionCommand) → LooksIfEnding (session_ending command) 0
session_end (session.Idle mask) = refl
session_end other = tt

command_end : (command : Command) (m : MachineState) → LooksIfEnding (ending_of command) (looks_of command m)
unfolding ending_of
command_end (commands.Settings command) m = settings_end command m
command_end (commands.Session command) m = session_end command
command_end other m = tt

pub end_counts : (command : Command) (m : MachineState) (ending : Ending) (looks : ℕ) → ending_of command ≡ Some ending →
    looks ≡ looked m.saved.profile looks (looks_of command m)
end_counts command m ending looks is =
    looked_none m.saved.profile looks (looks_of command m) (subst (λ o. LooksIfEnding o (looks_of command m)) is (command_end command m))

unread_counts : (place : Place) (line : List ℕ) (m : MachineState) (refusal : Refusal) (looks : ℕ) →
    line_reading m.saved.profile place line ≡ Err refusal → looks ≡ looked m.saved.profile looks (looks_of_line place line m)
unfolding looks_of_line
unread_counts place line m refusal looks read =
    looked_none m.saved.profile looks (looks_of_line place line m) (ap (λ r. looks_read r m) read)

words_unread : (profile : Profile) (place : Place) (line : List ℕ) (refusal : Refusal) → line_words line ≡ Err refusal
    → line_reading profile place line ≡ Err refusal
unfolding line_reading
words_unread profile place line refusal parted = ap (command_in profile place) parted

command_unread : (profile : Profile) (place : Place) (line : List ℕ) (words : List (List ℕ)) (refusal : Refusal) →
    line_words line ≡ Ok words → command_of profile place words ≡ Err refusal → line_reading profile place line ≡ Err refusal
unfolding line_reading
command_unread profile place line words refusal parted read = ap (command_in profile place) parted ∙ read

stop_counts : (place : Place) (line : List ℕ) (m : MachineState) (refusal : Refusal) (stop : Stop) (looks : ℕ) →
    line_reading m.saved.profile place line ≡ Err refusal → stop ≡ stops.Refused refusal →
    CountsLooks (looked m.saved.profile looks (looks_of_line place line m)) looks (Err stop)
stop_counts place line m refusal stop looks read is =
    subst (λ (it : Stop). CountsLooks (looked m.saved.profile looks (looks_of_line place line m)) looks (Err it)) (sym is)
    (unread_counts place line m refusal looks read)

unread_view : (place : Place) (line : List ℕ) (m : MachineState) (refusal : Refusal) (view : View) →
    line_reading m.saved.profile place line ≡ Err refusal → view ≡ view_of_line place line m view
unfolding view_of_line
unread_view place line m refusal view read = sym (ap (λ r. view_read r view) read)

-- a line of which no command was read leaves the view that its client sees
pub words_view : (place : Place) (line : List ℕ) (m : MachineState) (error : ReadError) (stop : Stop) (view : View) →
    GivesWords (Err error) (line_words line) → stop ≡ stop_of_reading error → HasView (view_of_line place line m view) view (Err stop)
words_view place line m (errors.Refused refusal) stop view read is =
    view_of_so (Err stop) (view_of_line place line m view) view
    (unread_view place line m refusal view (words_unread m.saved.profile place line refusal read))
words_view place line m errors.NoMemory stop view read is =
    subst (λ (it : Stop). HasView (view_of_line place line m view) view (Err it)) (sym is) tt

pub command_view : (place : Place) (line : List ℕ) (words slice : List (List ℕ)) (m : MachineState) (error : ReadError) (stop : Stop)
    (view : View) → line_words line ≡ Ok words → slice ≡ words
    → Gives {A = NamedCommand} (Err error) (command_of m.saved.profile place slice) → stop ≡ stop_of_reading error
    → HasView (view_of_line place line m view) view (Err stop)
command_view place line words slice m (errors.Refused refusal) stop view parted same read is =
    view_of_so (Err stop) (view_of_line place line m view) view
    (unread_view place line m refusal view (command_unread m.saved.profile place line slice refusal (parted ∙ ap Ok (sym same)) read))
command_view place line words slice m errors.NoMemory stop view parted same read is =
    subst (λ (it : Stop). HasView (view_of_line place line m view) view (Err it)) (sym is) tt

pub words_count : (place : Place) (line : List ℕ) (m : MachineState) (error : ReadError) (stop : Stop) (looks : ℕ) →
    GivesWords (Err error) (line_words line) → stop ≡ stop_of_reading error →
    CountsLooks (looked m.saved.profile looks (looks_of_line place line m)) looks (Err stop)
words_count place line m (errors.Refused refusal) stop looks read is =
    stop_counts place line m refusal stop looks (words_unread m.saved.profile place line refusal read) is
words_count place line m errors.NoMemory stop looks read is =
    subst (λ (it : Stop). CountsLooks (looked m.saved.profile looks (looks_of_line place line m)) looks (Err it)) (sym is) tt

pub command_counts : (place : Place) (line : List ℕ) (words slice : List (List ℕ)) (m : MachineState) (error : ReadError) (stop : Stop)
    (looks : ℕ) → line_words line ≡ Ok words → slice ≡ words → Gives {A = NamedCommand} (Err error)
    (command_of m.saved.profile place slice) →
    stop ≡ stop_of_reading error → CountsLooks (looked m.saved.profile looks (looks_of_line place line m)) looks (Err stop)
command_counts place line words slice m (errors.Refused refusal) stop looks parted same read is =
    stop_counts place line m refusal stop looks (command_unread m.saved.profile place line slice refusal (parted
    ∙ ap Ok (sym same)) read) is
command_counts place line words slice m errors.NoMemory stop looks parted same read is =
    subst (λ (it : Stop). CountsLooks (looked m.saved.profile looks (looks_of_line place line m)) looks (Err it)) (sym is) tt

-- What a request that ran makes of the clients doesn't hang on the machine and the messages before it.
of_ran_same : (c : ℕ) (clients : List Watched) (views : List ClientView) (messages others : List Listener)
    (pictures : List ClientPicture) (m n : MachineState) (r : Ran) (ending : Ending)
    → of_ran c (record { machine = m; clients = clients; views = views; messages = messages; pictures = pictures }) r ending
    ≡ of_ran c (record { machine = n; clients = clients; views = views; messages = others; pictures = pictures }) r ending
of_ran_same c clients views messages others pictures m n r Answered = refl
of_ran_same c clients views messages others pictures m n r Closed = refl
of_ran_same c clients views messages others pictures m n r Killed = refl
of_ran_same c clients views messages others pictures m n r (Waits mask) = refl

-- of its answer it makes what is given out
of_ran_told : (c : ℕ) (s : State) (r : Ran) (text : List ℕ) (ending : Ending) → SameFront r.text text
    → of_ran c s r ending ≡ of_ran c s (record r { text = text }) ending
of_ran_told c s r text Answered same =
    λ i. record (ran_silently (untold c (seeing c r.view (talked_in r s))) r) { answer = output c (same i) ∷ [] }
of_ran_told c s r text Closed same = refl
of_ran_told c s r text Killed same = refl
of_ran_told c s r text (Waits mask) same = refl

-- the lines of a request were run, and its end was made
pub lines_do : (c : ℕ) (place : Place) (between : List ℕ) (lines : List (List ℕ)) (before mid after : CoreParts) (fresh work : Work)
    (view : View) (end : RequestEnd) (handled : Handled) → fresh.text.items ≡ [] → fresh.ops.items ≡ [] →
    fresh.size ≡ checksum_len before.machine.saved.profile → before.talks.notified.items ≡ [] →
    RunsLines (asking c (state_of before)) place between view lines before.machine mid.machine before.talks mid.talks fresh work end → mid.watch ≡ before.watch →
    mid.views.list.items ≡ before.views.list.items → mid.pictures.list.items ≡ before.pictures.list.items → view ≡ view_of before.views.list.items c →
    Does (of_ran c (state_of mid) (ran_of mid.machine mid.talks work end) end.ending) after handled →
    Does (runs c (state_of before) (ran (asking c (state_of before)) place between handled.outcome.refused_at 0 (begun c (state_of before)) lines before.machine))
    after handled
lines_do c place between lines before mid after fresh work view end handled text ops size nobody ran_so watch views pictures seen does =
    let r : Ran = ran (asking c (state_of before)) place between end.refused_at 0 (begun c (state_of before)) lines before.machine in
    let mine : Ran = ran (asking c (state_of before)) place between end.refused_at 0 (spent_of fresh.size 0 view before.talks.messages) lines before.machine in
    let here : mine ≡ r =
    (λ i. ran (asking c (state_of before)) place between end.refused_at 0 (spent_of (size i) 0 (seen i) before.talks.messages) lines before.machine) in
    let told : SameFront work.text.items r.text =
    ran_so.text ∙ ap (λ t. front_of (t ++ mine.text)) text ∙ ap (λ x. front_of x.text) here in
    let same : record (ran_of mid.machine mid.talks work end) { text = r.text } ≡ r = λ i. record {
      after = (ran_so.stands ∙ ap (λ x. x.after) here) i;
      text = r.text;
      changed = (ran_so.changed ∙ ap (λ x. x.changed) here) i;
      ops = (ran_so.ops ∙ ap (λ t. t ++ mine.ops) ops ∙ ap (λ x. x.ops) here) i;
      ending = (ran_so.ending ∙ ap (λ x. x.ending) here) i;
      refused_at = (ran_so.refused_at ∙ ap (λ x. x.refused_at) here) i;
      looks = (ran_so.looks ∙ ap (λ x. x.looks) here) i;
      view = (ran_so.sees ∙ ap (λ x. x.view) here) i;
      messages = (ran_so.messages ∙ ap (λ x. x.messages) here) i;
      notified = (ran_so.notified ∙ ap (λ t. t ++ mine.notified) nobody ∙ ap (λ x. x.notified) here) i;
    } in
    let at : handled.outcome.refused_at ≡ end.refused_at =
    does.refused_at ∙ of_ran_place c (state_of mid) (ran_of mid.machine mid.talks work end) end.ending in
    subst (λ place_at. Does (runs c (state_of before)
    (ran (asking c (state_of before)) place between place_at 0 (begun c (state_of before)) lines before.machine)) after handled) (sym at)
    (subst (λ a. Does a after handled)
    (of_ran_told c (state_of mid) (ran_of mid.machine mid.talks work end) r.text end.ending told
    ∙ (λ i. of_ran c (record { machine = mid.machine; clients = watch i; views = views i; messages = mid.talks.messages; pictures = pictures i }) (same i)
    (same i).ending)
    ∙ of_ran_same c before.watch before.views.list.items mid.talks.messages before.talks.messages before.pictures.list.items mid.machine
    before.machine r r.ending)
    does)

pub lines_place : (c : ℕ) (a : Asker) (place : Place) (between : List ℕ) (lines : List (List ℕ)) (first t : MachineState) (talks : Talks)
    (mid after : CoreParts) (fresh work : Work) (view : View) (end : RequestEnd) (handled : Handled) →
    RunsLines a place between view lines first t talks mid.talks fresh work end →
    Does (of_ran c (state_of mid) (ran_of mid.machine mid.talks work end) end.ending) after handled →
    IfSome handled.outcome.refused_at (λ k. k < length lines)
lines_place c a place between lines first t talks mid after fresh work view end handled ran_so does =
    subst (λ at. IfSome at (λ k. k < length lines))
    (sym (does.refused_at ∙ of_ran_place c (state_of mid) (ran_of mid.machine mid.talks work end) end.ending)) ran_so.within
