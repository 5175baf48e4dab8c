use Rattle.machine_core.proofs.Scans.Turns.{found_leaves, last_of_jobs, next_of_jobs}
use Rattle.machine_core.proofs.laws.jobs_are_done_in_turn.Goals as goal

pub returns-clause-waits : goal.returns-clause-waits
returns-clause-waits c = last_of_jobs

pub returns-clause-ended : goal.returns-clause-ended
returns-clause-ended c = next_of_jobs

pub returns-clause-found : goal.returns-clause-found
returns-clause-found c = found_leaves
