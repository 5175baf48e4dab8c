use Rattle.play_journal.proofs.PairLaws.{pair-found, found-pair}
use Rattle.play_journal.proofs.RecordLaws.{bytes_fit}
use Rattle.play_journal.proofs.laws.found_is_said.Goals as goal

pub returns : goal.returns
returns c = λ a b content first second. (pair-found a b content (bytes_fit a first) (bytes_fit b second), found-pair a b content)
