-- The numbers of the refusals.
use Rattle.std.specs.Prelude.{ℕ}
use Rattle.client_session.specs.declared.refusal.SessionError.{SessionError}
use Rattle.client_session.specs.declared.refusal.SessionError.TheVariants.{NoMemory, LineTooLong, ListTooLong, OutputTooLong}

abbrev pub number_of : SessionError → ℕ
number_of NoMemory = 7
number_of LineTooLong = 39
number_of ListTooLong = 40
number_of OutputTooLong = 41
