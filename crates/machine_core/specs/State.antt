-- The daemon without its clients: of it alone commands speak.
use Rattle.std.specs.Prelude.{List, [], Bool, true, false, not, Option, None, if◌then◌else◌}
use Rattle.player_core.specs.declared.manners.Manners.{Manners}
use Rattle.player_core.specs.declared.manners.Manners.TheVariants as manners
use Rattle.player_core.specs.declared.playing.PlayState.TheVariants.{Stop}
use Rattle.player_core.specs.declared.settings.PlaySettings.{PlaySettings}
use Rattle.player_core.specs.declared.shown.Shown.{Shown}
use Rattle.player_core.specs.Player.{PlayerState}
use Rattle.player_core.specs.Shown.{shown}
use Rattle.profile.specs.declared.profile.Profile.{Profile}
use Rattle.profile.specs.declared.profile.Profile.TheVariants.{Named, Wide}
use Rattle.state_codec.specs.SavedState.{SavedState}
use Rattle.machine_core.specs.declared.clock.ClockTime.{ClockTime}
use Rattle.machine_core.specs.declared.job.Job.{Job}
use Rattle.machine_core.specs.declared.job.WaitingJob.{WaitingJob}
use Rattle.machine_core.specs.declared.job.WithheldJob.{WithheldJob}

-- the saved half; the player, the job of the database, those that wait behind it, the last one that dropped nothing because it missed too
-- many songs, until another goes on, what a clock told last and whether the journal's disk has room for what changes, which begin anew
-- with each start
pub record MachineState : Type 0 where
  pub saved : SavedState
  pub player : PlayerState
  pub job : Job
  pub waiting : List WaitingJob
  pub withheld : Option WithheldJob
  pub clock : ClockTime
  pub has_room : Bool

abbrev pub idle_player : PlayerState
idle_player = record { state = Stop; current = None; ticket = 0; frame = 0; played = []; error = None; failures = 0 }

-- no job has begun yet
abbrev pub no_job : Job
no_job = record { number = 0; place = None; opens_all = false; runs = false; has_changed_a_row = false; read = 0 }

-- no clock has told anything
abbrev pub untold : ClockTime
untold = record { began = 0; uptime = 0; now = 0; is_unread = false }

-- a machine that has just begun with what was kept
abbrev pub started : SavedState → MachineState
started saved = record {
  saved = saved;
  player = idle_player;
  job = no_job;
  waiting = [];
  withheld = None;
  clock = untold;
  has_room = true;
}

-- a clock tells the time
abbrev pub told_time : ClockTime → MachineState → MachineState
told_time time m = record m { clock = time }

-- it is told whether the journal's disk has room
abbrev pub told_room : Bool → MachineState → MachineState
told_room is_there m = record m { has_room = is_there }

abbrev pub lacks_under : Profile → Bool → Bool
lacks_under Named has_room = false
lacks_under Wide has_room = not has_room

-- what is saved can't change for want of room: under the named profile that is never so
abbrev pub lacks_room : MachineState → Bool
lacks_room m = lacks_under m.saved.profile m.has_room

-- what is kept behind a change is kept as under this profile: without room nothing is, as under the named one
abbrev pub keeping : MachineState → Profile
keeping m = if lacks_room m then Named else m.saved.profile

-- how the player goes on under a profile
abbrev pub manners_of : Profile → Manners
manners_of Named = manners.Named
manners_of Wide = manners.Mpd

-- what of the saved half the player goes by
abbrev pub settings_of : SavedState → PlaySettings
settings_of s = record { options = s.options; manners = manners_of s.profile; key = s.key; order = s.order }

-- the current song and the next one
abbrev pub shown_of : MachineState → Shown
shown_of m = shown m.saved.queue.entries (settings_of m.saved) m.player
