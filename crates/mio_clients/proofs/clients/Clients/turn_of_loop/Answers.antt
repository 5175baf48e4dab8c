use Rattle.std.specs.Prelude.{Result, Ok, Err, IfOk}
use Rattle.mio_clients.proofs.clients.Clients.turn_of_loop.Goals as goal

-- where nothing is wanted for it
of_none : {A E : Type 0} (P : A → Type 0) (r : Result A E) → IfOk r (λ a. Unit {0} → P a) → IfOk r P
of_none P (Ok a) h = h tt
of_none P (Err e) h = tt

pub returns-clause-all : goal.returns-clause-all
returns-clause-all g c = of_none _ c.turn_within.result c.turn_within.ensures.all
