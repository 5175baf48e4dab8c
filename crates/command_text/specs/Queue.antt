-- The commands of the queue.
use Rattle.std.specs.Prelude.{ℕ, Bool, true, false, List, Option, Result, Ok}
use Rattle.play_queue.specs.declared.target.Target.{Target}
use Rattle.profile.specs.declared.profile.Profile.{Profile}
use Rattle.profile.specs.declared.profile.Profile.TheVariants.{Named, Wide}
use Rattle.command_text.specs.declared.command.queue.QueueCommand.{QueueCommand}
use Rattle.command_text.specs.declared.command.queue.QueueCommand.TheVariants as commands
use Rattle.command_text.specs.declared.range.PositionRange.{PositionRange}
use Rattle.command_text.specs.declared.refusal.CommandRefusal.{CommandRefusal}
use Rattle.command_text.specs.declared.topic.QueueName.{QueueName}
use Rattle.command_text.specs.declared.topic.QueueName.TheVariants as names
use Rattle.command_text.specs.Arguments.{number_of, number_to, range_of, target_of, text_of}
use Rattle.command_text.specs.Counts.{◌>>=◌, Word, no_argument, optional_argument, one_argument, one_or_two, two_arguments, one_and_more}
use Rattle.command_text.specs.Counts.{argument, optional, unless_minus_one, each}

-- a URI, and where its songs go
unfoldable pub added : List Word → Result (Word × Option Target) CommandRefusal
added words = do
  given ← one_or_two words
  uri ← argument 1 (text_of given.0)
  to ← optional 2 target_of given.1
  Ok (uri, to)

unfoldable pub two_numbers : List Word → Result (ℕ × ℕ) CommandRefusal
two_numbers words = do
  given ← two_arguments words
  first ← argument 1 (number_of given.0)
  second ← argument 2 (number_of given.1)
  Ok (first, second)

-- a version, and the range of positions that is looked at
unfoldable pub changes_since : List Word → Result (ℕ × Option PositionRange) CommandRefusal
changes_since words = do
  given ← one_or_two words
  version ← argument 1 (number_of given.0)
  range ← optional 2 range_of given.1
  Ok (version, range)

-- an id or a range of positions, and `-1` for all
abbrev pub shown_id : List Word → Result (Option ℕ) CommandRefusal
shown_id words = optional_argument words >>= λ word. optional 1 number_of (unless_minus_one word)

abbrev pub shown_range : List Word → Result (Option PositionRange) CommandRefusal
shown_range words = optional_argument words >>= λ word. optional 1 range_of (unless_minus_one word)

-- to the wide profile `-1` is all there
abbrev pub shuffled_range : Profile → Option Word → Result (Option PositionRange) CommandRefusal
shuffled_range Named word = optional 1 range_of word
shuffled_range Wide word = optional 1 range_of (unless_minus_one word)

unfoldable pub move_of : List Word → Result QueueCommand CommandRefusal
move_of words = do
  given ← two_arguments words
  range ← argument 1 (range_of given.0)
  to ← argument 2 (target_of given.1)
  Ok (commands.Move range to)

unfoldable pub move_id_of : List Word → Result QueueCommand CommandRefusal
move_id_of words = do
  given ← two_arguments words
  id ← argument 1 (number_of given.0)
  to ← argument 2 (target_of given.1)
  Ok (commands.MoveId id to)

-- a priority, and each range from the second argument on
unfoldable pub priority_of : List Word → Result QueueCommand CommandRefusal
priority_of words = do
  given ← one_and_more words
  priority ← argument 1 (number_to 255 given.0)
  ranges ← each range_of 2 given.1
  Ok (commands.Priority priority ranges)

unfoldable pub priority_id_of : List Word → Result QueueCommand CommandRefusal
priority_id_of words = do
  given ← one_and_more words
  priority ← argument 1 (number_to 255 given.0)
  ids ← each number_of 2 given.1
  Ok (commands.PriorityId priority ids)

-- the commands that keep as many ranges or ids as are given
abbrev pub keeps_many : QueueName → Bool
keeps_many names.Add = false
keeps_many names.AddId = false
keeps_many names.Clear = false
keeps_many names.Delete = false
keeps_many names.DeleteId = false
keeps_many names.Move = false
keeps_many names.MoveId = false
keeps_many names.QueueChanges = false
keeps_many names.QueueChangesPositions = false
keeps_many names.QueueFiles = false
keeps_many names.QueueId = false
keeps_many names.QueueInfo = false
keeps_many names.Priority = true
keeps_many names.PriorityId = true
keeps_many names.Shuffle = false
keeps_many names.Swap = false
keeps_many names.SwapId = false

unfoldable pub queue_of : Profile → QueueName → List Word → Result QueueCommand CommandRefusal
queue_of profile names.Add words = added words >>= λ x. Ok (commands.Add x.0 x.1)
queue_of profile names.AddId words = added words >>= λ x. Ok (commands.AddId x.0 x.1)
queue_of profile names.Clear words = no_argument commands.Clear words
queue_of profile names.Delete words = do
  word ← one_argument words
  range ← argument 1 (range_of word)
  Ok (commands.Delete range)
queue_of profile names.DeleteId words = do
  word ← one_argument words
  id ← argument 1 (number_of word)
  Ok (commands.DeleteId id)
queue_of profile names.Move words = move_of words
queue_of profile names.MoveId words = move_id_of words
queue_of profile names.QueueChanges words = changes_since words >>= λ x. Ok (commands.Changes x.0 x.1)
queue_of profile names.QueueChangesPositions words = changes_since words >>= λ x. Ok (commands.ChangesPositions x.0 x.1)
queue_of profile names.QueueFiles words = no_argument commands.Files words
queue_of profile names.QueueId words = shown_id words >>= λ id. Ok (commands.InfoId id)
queue_of profile names.QueueInfo words = shown_range words >>= λ range. Ok (commands.Info range)
queue_of profile names.Priority words = priority_of words
queue_of profile names.PriorityId words = priority_id_of words
queue_of profile names.Shuffle words = do
  word ← optional_argument words
  range ← shuffled_range profile word
  Ok (commands.Shuffle range)
queue_of profile names.Swap words = two_numbers words >>= λ x. Ok (commands.Swap x.0 x.1)
queue_of profile names.SwapId words = two_numbers words >>= λ x. Ok (commands.SwapId x.0 x.1)
