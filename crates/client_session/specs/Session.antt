-- What a session holds.
use Rattle.std.specs.Prelude.{◌≡◌, ℕ, ◌+◌, ◌≤◌, List, [], length, Option, None, Some, IsSome}
use Rattle.client_session.specs.Lines.{line_limit, IsUnended}
use Rattle.client_session.specs.Lists.{IsWithinLimits}
use Rattle.client_session.specs.Requests.{Unread, nothing}
use Rattle.client_session.specs.declared.refusal.SessionError.{SessionError}

pub record SessionState : Type 0 where
  -- what has come of the next request
  pub left : Unread
  -- what is still to be sent
  pub queued : List ℕ
  -- the refusal that closed the session
  pub closed : Option SessionError

-- how many bytes may be queued
abbrev pub output_limit : ℕ
output_limit = 8388608

abbrev pub fresh : SessionState
fresh = record { left = nothing; queued = []; closed = None }

-- a session that this refusal closed
abbrev pub closed_by : SessionError → SessionState
closed_by refusal = record { left = nothing; queued = []; closed = Some refusal }

-- what holds of every session
pub record IsSession (s : SessionState) : Type 0 where
  pub unended : IsUnended s.left.pending
  pub within : IsWithinLimits s.left.listing
  pub spent : IsSome s.closed → (s.left ≡ nothing) × (s.queued ≡ [])

-- what is held between two calls: a list within its limits, and at most one line and the last piece
pub record IsHeld (left : Unread) (piece : List ℕ) : Type 0 where
  pub listing : IsWithinLimits left.listing
  pub pending : length left.pending ≤ line_limit + length piece
