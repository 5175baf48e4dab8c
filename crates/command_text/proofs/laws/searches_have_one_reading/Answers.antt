use Rattle.std.proofs.Common.{sym, ◌∙◌}
use Rattle.command_text.proofs.SearchCounts.{found_so, added_so}
use Rattle.command_text.proofs.SearchParts.{parted_once}
use Rattle.command_text.proofs.laws.searches_have_one_reading.Goals as goal

pub returns-clause-once : goal.returns-clause-once
returns-clause-once c = λ profile adds words p q one other.
    sym (parted_once profile adds words p one) ∙ parted_once profile adds words q other

pub returns-clause-found : goal.returns-clause-found
returns-clause-found c = found_so

pub returns-clause-added : goal.returns-clause-added
returns-clause-added c = added_so
