-- Command lists: what a line does to a list that has begun, and the request that it makes.
use Rattle.std.specs.Prelude.{ℕ, ◌+◌, ◌≤◌, nat_le, nat_lt, Bool, true, false, ◌&&◌, List, [], ◌∷◌, ◌++◌, length}
use Rattle.std.specs.Prelude.{Option, Some, None, if◌then◌else◌}
use Rattle.std.specs.List.{concat}
use Rattle.command_text.specs.declared.control.ControlLine.{ControlLine}
use Rattle.command_text.specs.declared.control.ControlLine.TheVariants.{ListBegin, OkListBegin, ListEnd, Noidle}
use Rattle.command_text.specs.declared.request.Request.{Request}
use Rattle.command_text.specs.declared.request.Request.TheVariants as requests
use Rattle.command_text.specs.Control.{control_of_line}
use Rattle.client_session.specs.declared.listing.Listing.{Listing}
use Rattle.client_session.specs.declared.listing.Listing.TheVariants.{Outside, Inside, Overlong}

-- how many commands a list may have, and how many bytes they may have together, without their newlines
abbrev pub command_limit : ℕ
command_limit = 16384

abbrev pub list_limit : ℕ
list_limit = 2097152

-- whether a list of these commands has room for one more
abbrev pub has_room : List (List ℕ) → List ℕ → Bool
has_room lines line = nat_lt (length lines) command_limit && nat_le (length (concat lines) + length line) list_limit

-- a list with its commands
abbrev pub list_of : Bool → List (List ℕ) → Request
list_of false lines = requests.List lines
list_of true lines = requests.OkList lines

-- the list that a line begins
abbrev pub begun : Option ControlLine → Listing
begun None = Outside
begun (Some ListBegin) = Inside false []
begun (Some OkListBegin) = Inside true []
begun (Some ListEnd) = Outside
begun (Some Noidle) = Outside

-- the request of a line that stands in no list: the lines that begin one make none
abbrev pub alone : List ℕ → Option ControlLine → Option Request
alone line None = Some (requests.Single line)
alone line (Some ListBegin) = None
alone line (Some OkListBegin) = None
alone line (Some ListEnd) = Some (requests.Single line)
alone line (Some Noidle) = Some requests.Noidle

abbrev pub ends_list : Option ControlLine → Bool
ends_list None = false
ends_list (Some ListBegin) = false
ends_list (Some OkListBegin) = false
ends_list (Some ListEnd) = true
ends_list (Some Noidle) = false

-- a list with one command more, if it has room for it
abbrev pub with_command : Bool → List (List ℕ) → List ℕ → Listing
with_command separated lines line = if has_room lines line then Inside separated (lines ++ line ∷ []) else Overlong

-- what a line makes of the list that stands: inside a list every other line is a command of it, and of one that is too long nothing is kept
abbrev pub after_line : Listing → List ℕ → Listing
after_line Outside line = begun (control_of_line line)
after_line (Inside separated lines) line =
    if ends_list (control_of_line line) then Outside else with_command separated lines line
after_line Overlong line = Overlong

-- the request that a line makes whole
abbrev pub made_whole : Listing → List ℕ → Option Request
made_whole Outside line = alone line (control_of_line line)
made_whole (Inside separated lines) line = if ends_list (control_of_line line) then Some (list_of separated lines) else None
made_whole Overlong line = None

-- the commands of a list within its limits
pub record IsList (lines : List (List ℕ)) : Type 0 where
  pub count : length lines ≤ command_limit
  pub bytes : length (concat lines) ≤ list_limit

abbrev pub IsWithinLimits : Listing → Type 0
IsWithinLimits Outside = Unit {0}
IsWithinLimits (Inside separated lines) = IsList lines
IsWithinLimits Overlong = Unit {0}
