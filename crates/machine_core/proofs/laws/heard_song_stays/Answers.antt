use Rattle.machine_core.proofs.Scans.Heard.{all_spared, heard_still}
use Rattle.machine_core.proofs.laws.heard_song_stays.Goals as goal

pub returns-clause-current : goal.returns-clause-current
returns-clause-current c = λ job changes m heard. let still = heard_still job changes m heard in still.current

pub returns-clause-state : goal.returns-clause-state
returns-clause-state c = λ job changes m heard. let still = heard_still job changes m heard in still.state

pub returns-clause-ticket : goal.returns-clause-ticket
returns-clause-ticket c = λ job changes m heard. let still = heard_still job changes m heard in still.ticket

pub returns-clause-all : goal.returns-clause-all
returns-clause-all c = λ changes m none. all_spared changes m none
