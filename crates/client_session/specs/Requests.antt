-- The requests of a stream of bytes, and what of it is no whole request.
use Rattle.std.specs.Prelude.{◌≡◌, ◌≢◌, ℕ, nat_lt, List, [], ◌∷◌, ◌++◌, length, drop}
use Rattle.std.specs.Prelude.{Bool, if◌then◌else◌, Option, Some, None, IfSome, Result, Ok, Err}
use Rattle.std.specs.Option.{option_to_list}
use Rattle.std.specs.List.{flat_map, AllByRecursion}
use Rattle.command_text.specs.declared.request.Request.{Request}
use Rattle.client_session.specs.declared.listing.Listing.{Listing}
use Rattle.client_session.specs.declared.listing.Listing.TheVariants.{Outside, Inside, Overlong}
use Rattle.client_session.specs.declared.refusal.SessionError.{SessionError}
use Rattle.client_session.specs.declared.refusal.SessionError.TheVariants.{NoMemory, LineTooLong, ListTooLong, OutputTooLong}
use Rattle.client_session.specs.Lines.{ended, line_limit, taken_lines, HasNoNewline, IsLine}
use Rattle.client_session.specs.Lists.{after_line, made_whole}

-- what stands behind lines, of a list that stood before them
abbrev pub after_lines : Listing → List (List ℕ) → Listing
after_lines listing [] = listing
after_lines listing (line ∷ lines) = after_lines (after_line listing line) lines

-- the requests that lines make whole
abbrev pub requests_in : Listing → List (List ℕ) → List Request
requests_in listing [] = []
requests_in listing (line ∷ lines) = option_to_list (made_whole listing line) ++ requests_in (after_line listing line) lines

-- what the stream has behind the lines that are taken
unfoldable pub rest_of : List ℕ → List ℕ
rest_of stream = drop (length (flat_map ended (taken_lines stream))) stream

-- what was read and is no whole request: a list that has begun, and the bytes behind the last line
pub record Unread : Type 0 where
  pub listing : Listing
  pub pending : List ℕ

abbrev pub unread : Listing → List ℕ → Unread
unread listing pending = record { listing = listing; pending = pending }

abbrev pub nothing : Unread
nothing = unread Outside []

-- the requests that a piece brings behind it
unfoldable pub brought : Unread → List ℕ → List Request
brought left piece = requests_in left.listing (taken_lines (left.pending ++ piece))

-- what is left then
unfoldable pub left_by : Unread → List ℕ → Unread
left_by left piece =
    unread (after_lines left.listing (taken_lines (left.pending ++ piece))) (rest_of (left.pending ++ piece))

-- the requests of a stream from its beginning on, and what it leaves
abbrev pub requests_of : List ℕ → List Request
requests_of stream = brought nothing stream

abbrev pub left_of : List ℕ → Unread
left_of stream = left_by nothing stream

-- why nothing more is taken: a list or a line that is too long
abbrev pub fault_behind : Listing → ℕ → Option SessionError
fault_behind Outside length = if nat_lt line_limit length then Some LineTooLong else None
fault_behind (Inside separated lines) length = if nat_lt line_limit length then Some LineTooLong else None
fault_behind Overlong length = Some ListTooLong

abbrev pub fault_of : Unread → Option SessionError
fault_of left = fault_behind left.listing (length left.pending)

-- the fault that a piece meets: requests before it are given first
abbrev pub fault_before : List Request → Unread → Option SessionError
fault_before [] left = fault_of left
fault_before (request ∷ requests) left = None

unfoldable pub fault_at : Unread → List ℕ → Option SessionError
fault_at left piece = fault_before (brought left piece) (left_by left piece)

-- an answer where this fault, or none, was met: it is refused with it, or memory was
abbrev pub Meets : {A : Type 0} → Option SessionError → Result A SessionError → Type 0
Meets fault (Ok value) = fault ≡ None
Meets fault (Err NoMemory) = Unit {0}
Meets fault (Err LineTooLong) = fault ≡ Some LineTooLong
Meets fault (Err ListTooLong) = fault ≡ Some ListTooLong
Meets fault (Err OutputTooLong) = ⊥

-- a piece that ends no line is refused with the fault, if there is one, and with nothing else
abbrev pub RefusesExactly : {A : Type 0} → Option SessionError → List ℕ → Result A SessionError → Type 0
RefusesExactly fault piece result = HasNoNewline piece → IfSome fault (λ refusal. result ≡ Err refusal)

-- behind any stream that left this, the piece brings these requests and leaves that
pub record Continues (left : Unread) (piece : List ℕ) (requests : List Request) (next : Unread) : Type 0 where
  pub brings : (before : List ℕ) → left_of before ≡ left → requests_of (before ++ piece) ≡ requests_of before ++ requests
  pub leaves : (before : List ℕ) → left_of before ≡ left → left_of (before ++ piece) ≡ next

-- the requests of each piece in turn, what each leaves before the next
abbrev pub requests_in_pieces : Unread → List (List ℕ) → List Request
requests_in_pieces left [] = []
requests_in_pieces left (piece ∷ pieces) = brought left piece ++ requests_in_pieces (left_by left piece) pieces

-- the stream is these lines, and a rest that begins with no further one
pub record IsParted (stream : List ℕ) (lines : List (List ℕ)) (rest : List ℕ) : Type 0 where
  pub whole : stream ≡ flat_map ended lines ++ rest
  pub each : AllByRecursion IsLine lines
  pub partial : (line more : List ℕ) → IsLine line → rest ≢ ended line ++ more
