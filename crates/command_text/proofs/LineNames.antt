-- Whether a line is read or refused, its command is named in the same way.
use Rattle.std.proofs.Common.{◌≡◌, ℕ, Bool, true, false, if◌then◌else◌, List, [], ◌∷◌, Option, Some, None, Result, Ok, Err, refl, sym, ◌∙◌}
use Rattle.std.proofs.Common.{ap}
use Rattle.command_text.specs.declared.command.Command.{Command}
use Rattle.command_text.specs.declared.command.NamedCommand.{NamedCommand}
use Rattle.command_text.specs.declared.name.CommandName.{CommandName}
use Rattle.command_text.specs.declared.place.Place.{Place}
use Rattle.command_text.specs.declared.refusal.CommandRefusal.{CommandRefusal}
use Rattle.command_text.specs.declared.refusal.Refusal.{Refusal}
use Rattle.command_text.specs.declared.refusal.Refusal.TheVariants.{InvalidUtf8, BadQuoting, NoCommand, UnknownCommand, OfCommand}
use Rattle.command_text.specs.Counts.{Word}
use Rattle.command_text.specs.Names.{named}
use Rattle.command_text.specs.Refusals.{name_of_refusal}
use Rattle.profile.specs.declared.profile.Profile.{Profile}
use Rattle.command_text.specs.Reading.{line_reading, line_words, name_of_line, first_name, command_in, command_of, known_command}
use Rattle.command_text.specs.Reading.{of_command, in_place, quoted}
use Rattle.command_text.specs.Words.{words_of}
use Rattle.std.specs.Str.{is_utf8}

same_ok : {A E : Type 0} (x y : A) → ◌≡◌ {A = Result A E} (Ok x) (Ok y) → x ≡ y
same_ok x y e = cc

same_err : {A E : Type 0} (x y : E) → ◌≡◌ {A = Result A E} (Err x) (Err y) → x ≡ y
same_err x y e = cc

of_name : (name : CommandName) (r : Result Command CommandRefusal) (read : NamedCommand) → of_command name r ≡ Ok read
    → Some name ≡ Some read.name
of_name name (Ok command) read e = ap (λ (r : NamedCommand). Some r.name)
    (same_ok {E = Refusal} (record { name = name; command = command }) read e)
of_name name (Err d) read e = cc

of_refused : (name : CommandName) (r : Result Command CommandRefusal) (refusal : Refusal) → of_command name r ≡ Err refusal
    → name_of_refusal refusal ≡ Some name
of_refused name (Ok made) refusal e = cc
of_refused name (Err d) refusal e = ap name_of_refusal (sym (same_err {A = NamedCommand} (OfCommand name d) refusal e))

known_name : (profile : Profile) (place : Place) (word : Word) (arguments : List Word) (known : Option CommandName) (read : NamedCommand)
    → known_command profile place word arguments known ≡ Ok read → known ≡ Some read.name
known_name profile place word arguments None read e = cc
known_name profile place word arguments (Some name) read e = of_name name (in_place profile place name arguments) read e

known_refused : (profile : Profile) (place : Place) (word : Word) (arguments : List Word) (known : Option CommandName) (refusal : Refusal)
    → known_command profile place word arguments known ≡ Err refusal → name_of_refusal refusal ≡ known
known_refused profile place word arguments None refusal e =
    ap name_of_refusal (sym (same_err {A = NamedCommand} (UnknownCommand word) refusal e))
known_refused profile place word arguments (Some name) refusal e = of_refused name (in_place profile place name arguments) refusal e

in_name : (profile : Profile) (place : Place) (words : Result (List Word) Refusal) (read : NamedCommand)
    → command_in profile place words ≡ Ok read
    → first_name profile words ≡ Some read.name
unfolding command_of
in_name profile place (Err refusal) read e = cc
in_name profile place (Ok []) read e = cc
in_name profile place (Ok (word ∷ arguments)) read e = known_name profile place word arguments (named profile word) read e

-- why a line has no words names no command
names_none : (bytes : Bool) (words : Option (List Word)) (refusal : Refusal)
    → (if bytes then quoted words else Err InvalidUtf8) ≡ Err refusal → name_of_refusal refusal ≡ None
names_none true None refusal e = ap name_of_refusal (sym (same_err {A = List Word} BadQuoting refusal e))
names_none true (Some words) refusal e = cc
names_none false words refusal e = ap name_of_refusal (sym (same_err {A = List Word} InvalidUtf8 refusal e))

in_refused : (profile : Profile) (place : Place) (words : Result (List Word) Refusal) (refusal : Refusal)
    → ((r : Refusal) → words ≡ Err r → name_of_refusal r ≡ None) → command_in profile place words ≡ Err refusal
    → name_of_refusal refusal ≡ first_name profile words
unfolding command_of
in_refused profile place (Err r) refusal none e = ap name_of_refusal (sym (same_err {A = NamedCommand} r refusal e)) ∙ none r refl
in_refused profile place (Ok []) refusal none e = ap name_of_refusal (sym (same_err {A = NamedCommand} NoCommand refusal e))
in_refused profile place (Ok (word ∷ arguments)) refusal none e = known_refused profile place word arguments (named profile word) refusal e

pub read_name : (profile : Profile) (place : Place) (line : List ℕ) (read : NamedCommand) → line_reading profile place line ≡ Ok read
    → name_of_line profile line ≡ Some read.name
unfolding line_reading name_of_line
read_name profile place line read e = in_name profile place (line_words line) read e

line_names_none : (line : List ℕ) (r : Refusal) → line_words line ≡ Err r → name_of_refusal r ≡ None
unfolding line_words
line_names_none line r e = names_none (is_utf8 line) (words_of line) r e

pub refusal_name : (profile : Profile) (place : Place) (line : List ℕ) (refusal : Refusal) → line_reading profile place line ≡ Err refusal
    → name_of_refusal refusal ≡ name_of_line profile line
unfolding line_reading name_of_line
refusal_name profile place line refusal e = in_refused profile place (line_words line) refusal (line_names_none line) e
