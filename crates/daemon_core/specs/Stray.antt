-- Events that come too late, or to which nobody belongs any more.
use Rattle.std.specs.Prelude.{ℕ, Bool, true, false, not, ◌||◌, ◌==◌, [], is_some, is_none, None}
use Rattle.idle_masks.specs.Subsystems.{none}
use Rattle.idle_masks.specs.Watched.{watched}
use Rattle.machine_core.specs.declared.job.Job.{Job}
use Rattle.player_core.specs.Player.{PlayerState}
use Rattle.player_core.specs.declared.playing.PlayState.{PlayState}
use Rattle.player_core.specs.declared.playing.PlayState.TheVariants.{Stop, Play, Pause}
use Rattle.daemon_core.specs.State.{State}
use Rattle.daemon_core.specs.Step.{Stepped}
use Rattle.daemon_core.specs.declared.event.Event.{Event}
use Rattle.daemon_core.specs.declared.event.Event.TheVariants as events

abbrev pub is_stop : PlayState → Bool
is_stop Stop = true
is_stop Play = false
is_stop Pause = false

-- the report is of another start or seek than the last, or the player has stopped since
abbrev pub is_late : ℕ → PlayerState → Bool
is_late ticket player = is_stop player.state || not (player.ticket == ticket)

-- another job runs, or none
abbrev pub is_over : ℕ → Job → Bool
is_over number job = not job.runs || not (job.number == number)

-- A second connect, an event of a client that is not connected, a report of the output that is late, one of a job that is over, and
-- a player that is to go on where something was started already.
abbrev pub is_stray : State → Event → Bool
is_stray s (events.Connect c) = is_some (watched s.clients c)
is_stray s (events.Request c request) = is_none (watched s.clients c)
is_stray s (events.Gone c) = is_none (watched s.clients c)
is_stray s (events.Fed ticket frames) = is_late ticket s.machine.player
is_stray s (events.Ended ticket) = is_late ticket s.machine.player
is_stray s (events.Broken ticket cause) = is_late ticket s.machine.player
is_stray s (events.Batch job changes) = is_over job s.machine.job
is_stray s (events.Missing job songs) = is_over job s.machine.job
is_stray s (events.ScanDone job) = is_over job s.machine.job
is_stray s (events.Clock time) = false
is_stray s (events.Keep ticket) = is_late ticket s.machine.player
is_stray s (events.Resume plays) = not (s.machine.player.ticket == 0)
is_stray s (events.Room is_there) = false
is_stray s (events.Picture c told) = is_none (watched s.clients c)

-- the state stays, and nothing is given out
abbrev pub stays : State → Stepped
stays s = record {
  after = s;
  outputs = [];
  closes = [];
  ops = [];
  refused_at = None;
  looks = 0;
  ended = false;
  moment = record { connected = None; changed = none; notified = []; reports = [] };
}
