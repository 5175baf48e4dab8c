use Rattle.std.proofs.Common.{refl}
use Rattle.command_text.proofs.Naming.{are_rising, is_found_known, is_listed, only_its_known_name}
use Rattle.command_text.proofs.laws.names_are_found.Goals as goal

pub returns-clause-rising : goal.returns-clause-rising
returns-clause-rising c = λ k d low lt. are_rising k d lt

pub returns-clause-listed : goal.returns-clause-listed
returns-clause-listed c = is_listed

pub returns-clause-found : goal.returns-clause-found
returns-clause-found c = is_found_known

pub returns-clause-only : goal.returns-clause-only
returns-clause-only c = only_its_known_name

pub returns-clause-all : goal.returns-clause-all
returns-clause-all c = λ name. refl
