-- What lines ask for, as a relation between lines, requests and what is left: each request stands on lines of its own, one behind another.
use Rattle.std.specs.Prelude.{◌≡◌, ◌≢◌, ◌⊎◌, ℕ, Bool, true, false, List, [], ◌∷◌, ◌++◌, Some}
use Rattle.std.specs.List.{AllByRecursion}
use Rattle.command_text.specs.declared.control.ControlLine.TheVariants.{ListBegin, OkListBegin, ListEnd, Noidle}
use Rattle.command_text.specs.declared.request.Request.{Request}
use Rattle.command_text.specs.declared.request.Request.TheVariants as requests
use Rattle.command_text.specs.Control.{control_of_line}
use Rattle.client_session.specs.declared.listing.Listing.{Listing}
use Rattle.client_session.specs.declared.listing.Listing.TheVariants.{Outside, Inside, Overlong}
use Rattle.client_session.specs.Lists.{list_of, IsList}

-- a line begins a list, each command of which is answered by `list_OK` or is not
abbrev pub Begins : Bool → List ℕ → Type 0
Begins false line = control_of_line line ≡ Some ListBegin
Begins true line = control_of_line line ≡ Some OkListBegin

abbrev pub Ends : List ℕ → Type 0
Ends line = control_of_line line ≡ Some ListEnd

-- any line but the end of a list is a command within one, a further begin too
abbrev pub AreCommands : List (List ℕ) → Type 0
AreCommands lines = AllByRecursion (λ line. control_of_line line ≢ Some ListEnd) lines

-- a line that is a request by itself: `noidle`, or any other one that begins no list
abbrev pub IsLineOf : Request → List ℕ → Type 0
IsLineOf request line =
    ((request ≡ requests.Noidle) × (control_of_line line ≡ Some Noidle))
    ⊎ ((request ≡ requests.Single line) × (control_of_line line ≢ Some Noidle) × (control_of_line line ≢ Some ListBegin)
    × (control_of_line line ≢ Some OkListBegin))

-- a list that has begun: its begin, and commands
pub record IsOpened (separated : Bool) (commands lines : List (List ℕ)) : Type 0 where
  pub begin : List ℕ
  pub whole : lines ≡ begin ∷ commands
  pub begins : Begins separated begin
  pub each : AreCommands commands

-- a list from its begin to its end, within the limits
pub record IsWholeList (request : Request) (lines : List (List ℕ)) : Type 0 where
  pub separated : Bool
  pub commands : List (List ℕ)
  pub front : List (List ℕ)
  pub end : List ℕ
  pub opened : IsOpened separated commands front
  pub whole : lines ≡ front ++ end ∷ []
  pub ends : Ends end
  pub within : IsList commands
  pub asked : request ≡ list_of separated commands

-- the lines of one request
abbrev pub IsAsked : Request → List (List ℕ) → Type 0
IsAsked request lines = ((line : List ℕ) × (lines ≡ line ∷ []) × IsLineOf request line) ⊎ IsWholeList request lines

-- a request as lines make it: of a single line that neither begins a list nor is `noidle`; or of a list within its limits, none of whose lines ends one
abbrev pub IsOfLines : Request → Type 0
IsOfLines (requests.Single line) =
    (control_of_line line ≢ Some Noidle) × (control_of_line line ≢ Some ListBegin) × (control_of_line line ≢ Some OkListBegin)
IsOfLines (requests.List lines) = AreCommands lines × IsList lines
IsOfLines (requests.OkList lines) = AreCommands lines × IsList lines
IsOfLines requests.Noidle = Unit {0}

-- lines that are whole requests, in their order
abbrev pub AreAsked : List Request → List (List ℕ) → Type 0
AreAsked [] lines = lines ≡ []
AreAsked (request ∷ asked) lines =
    (own more : List (List ℕ)) × (lines ≡ own ++ more) × IsAsked request own × AreAsked asked more

-- what the last lines leave: nothing; a list that is open and within the limits; or one that passed them before its end, and all behind it
abbrev pub IsLeft : Listing → List (List ℕ) → Type 0
IsLeft Outside lines = lines ≡ []
IsLeft (Inside separated commands) lines = IsOpened separated commands lines × IsList commands
IsLeft Overlong lines = (separated : Bool) × (commands front more : List (List ℕ)) × IsOpened separated commands front
    × (lines ≡ front ++ more) × (IsList commands → ⊥)

-- lines are whole requests, and what is left
abbrev pub AreRead : List (List ℕ) → List Request → Listing → Type 0
AreRead lines asked left = (front rest : List (List ℕ)) × (lines ≡ front ++ rest) × AreAsked asked front × IsLeft left rest
