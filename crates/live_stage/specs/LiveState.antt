-- A live stage, as contracts see it.
use Rattle.std.specs.Prelude.{Bool, ℕ}
use Rattle.daemon_core.specs.State.{State}
use Rattle.play_journal.specs.Content.{Content}
use Rattle.live_stage.specs.Numbers.{Numbers, FileNumbers}

-- The two disks, the state, the numbers by which it counts, those of the file to which records go, how much the events of its records
-- looked at, what that file says (as long as the disks are honest and the stage isn't broken), whether it is file b, whether a disk fault
-- broke the stage, and whether its opening brought files of an old layout to the one that is written. After a fault the state is not to be
-- used: what the files give decides.
pub record LiveState (D : Type 0) : Type 0 where
  pub a : D
  pub b : D
  pub state : State
  pub numbers : Numbers
  pub file : FileNumbers
  pub work : ℕ
  pub content : Content
  pub is_in_b : Bool
  pub is_broken : Bool
  pub was_migrated : Bool
