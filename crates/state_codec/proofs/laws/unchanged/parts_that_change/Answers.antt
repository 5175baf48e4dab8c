use Rattle.state_codec.proofs.ListsUnchanged.{lists_stay, lists_only}
use Rattle.state_codec.proofs.OpsUnchanged.{op_alone, op_version}
use Rattle.state_codec.proofs.QueueUnchanged.{queue_entries}
use Rattle.state_codec.proofs.StickersUnchanged.{stickers_stay, stickers_only}
use Rattle.state_codec.proofs.laws.unchanged.parts_that_change.Goals as goal

pub returns-clause-alone : goal.returns-clause-alone
returns-clause-alone c = op_alone

pub returns-clause-lists : goal.returns-clause-lists
returns-clause-lists c = λ op s saved none. (lists_stay op s none, lists_only op s none)

pub returns-clause-stickers : goal.returns-clause-stickers
returns-clause-stickers c = λ op s saved none. (stickers_stay op s saved, stickers_only op s saved none)

pub returns-clause-queue : goal.returns-clause-queue
returns-clause-queue c = λ op s saved none. op_version op s

pub returns-clause-entries : goal.returns-clause-entries
returns-clause-entries c = λ op s saved none. queue_entries op s
