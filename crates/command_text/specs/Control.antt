-- The lines that begin or end a command list, or end a client's waiting.
use Rattle.std.specs.Prelude.{ℕ, List, [], ◌∷◌, Bool, Option, Some, None, Result, Ok, Err, if◌then◌else◌}
use Rattle.std.specs.Str.{bytes_eq}
use Rattle.command_text.specs.declared.control.ControlLine.{ControlLine}
use Rattle.command_text.specs.declared.control.ControlLine.TheVariants.{ListBegin, OkListBegin, ListEnd, Noidle}
use Rattle.command_text.specs.declared.name.CommandName.{CommandName}
use Rattle.command_text.specs.declared.name.CommandName.TheVariants as names
use Rattle.command_text.specs.declared.refusal.Refusal.{Refusal}
use Rattle.command_text.specs.Counts.{Word}
use Rattle.command_text.specs.Names.{name_text}
use Rattle.command_text.specs.Reading.{line_words}

abbrev pub is_name : Word → CommandName → Bool
is_name word name = bytes_eq word (name_text name)

-- which of these lines the word makes alone
abbrev pub control_of_word : Word → Option ControlLine
control_of_word word =
    if is_name word names.CommandListBegin then Some ListBegin
    else (if is_name word names.CommandListOkBegin then Some OkListBegin
    else (if is_name word names.CommandListEnd then Some ListEnd
    else (if is_name word names.NoIdle then Some Noidle else None)))

-- which of these lines has these words; none where the line is refused for its bytes or its quoting
abbrev pub control_of_words : Result (List Word) Refusal → Option ControlLine
control_of_words (Err refusal) = None
control_of_words (Ok []) = None
control_of_words (Ok (word ∷ [])) = control_of_word word
control_of_words (Ok (word ∷ other ∷ words)) = None

-- which of these lines a line is
unfoldable pub control_of_line : List ℕ → Option ControlLine
control_of_line line = control_of_words (line_words line)
