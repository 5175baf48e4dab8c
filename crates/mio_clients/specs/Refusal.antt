-- The numbers of the refusals.
use Rattle.std.specs.Prelude.{ℕ}
use Rattle.mio_clients.specs.declared.refusal.ClientsError.{ClientsError}
use Rattle.mio_clients.specs.declared.refusal.ClientsError.TheVariants.{NoMemory, TooManyClients, NetFault}

abbrev pub number_of : ClientsError → ℕ
number_of NoMemory = 43
number_of TooManyClients = 47
number_of (NetFault client) = 48
