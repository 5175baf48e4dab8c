-- How many lines of one kind the log has.
use Rattle.std.specs.Prelude.{◌≡◌, ℕ, ◌+◌, ◌-◌, ◌^◌, min, nat_le, nat_lt, Option, Some, None, if◌then◌else◌}
use Rattle.mpd_server.specs.declared.line_limit.LineLimit.{LineLimit}

-- What becomes of a line at this time: where a span is over it is the first of another; else it is one more of that span, unless it has as
-- many as it may: then it is left out. The answer is how many were left out before it.
abbrev pub answer_at : ℕ → LineLimit → Option ℕ
answer_at now limit =
    if nat_le (limit.since + limit.span) now then Some limit.left_out
    else if nat_lt limit.told limit.most then Some limit.left_out
    else None

-- the limit behind that line
abbrev pub limit_behind : ℕ → LineLimit → LineLimit
limit_behind now limit =
    if nat_le (limit.since + limit.span) now then record limit { since = now; told = 1; left_out = 0 }
    else if nat_lt limit.told limit.most then record limit { told = limit.told + 1; left_out = 0 }
    else record limit { left_out = min (limit.left_out + 1) (2 ^ 64 - 1) }

-- the same at some time of a clock
pub record IsTakenSometime (old new : LineLimit) (answer : Option ℕ) : Type 0 where
  pub now : ℕ
  pub told : answer ≡ answer_at now old
  pub behind : new ≡ limit_behind now old
