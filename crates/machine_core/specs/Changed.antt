-- Which subsystems differ between the machine before and after one command, player step, batch or end of a scan.
use Rattle.std.specs.Prelude.{ℕ, Bool, true, false, not, ◌&&◌, ◌==◌, List, nat_eq}
use Rattle.std.specs.Cmp.Lexicographic.{pointwise}
use Rattle.std.specs.Option.{option_eq}
use Rattle.std.specs.Str.{bytes_eq}
use Rattle.idle_masks.specs.declared.subsystem.Subsystems.{Subsystems}
use Rattle.player_core.specs.declared.options.Options.{Options}
use Rattle.player_core.specs.declared.playing.PlayState.{PlayState}
use Rattle.player_core.specs.declared.playing.PlayState.TheVariants.{Stop, Play, Pause}
use Rattle.player_core.specs.Player.{PlayerState}
use Rattle.state_codec.specs.OpsLists.{same_uris}
use Rattle.state_codec.specs.OpsSettings.{same_flag, same_single}
use Rattle.stickers.specs.Sticker.{Sticker}
use Rattle.stored_lists.specs.Lists.{Stored}
use Rattle.stored_lists.specs.Songs.{Uris}
use Rattle.machine_core.specs.State.{MachineState}
use Rattle.machine_core.specs.declared.job.Job.{Job}

abbrev pub same_options : Options → Options → Bool
same_options a b =
    same_flag a.repeat b.repeat && (same_flag a.random b.random && (same_single a.single b.single && same_single a.consume b.consume))

abbrev pub same_state : PlayState → PlayState → Bool
same_state Stop Stop = true
same_state Stop Play = false
same_state Stop Pause = false
same_state Play Stop = false
same_state Play Play = true
same_state Play Pause = false
same_state Pause Stop = false
same_state Pause Play = false
same_state Pause Pause = true

-- what plays: the state, the current id and the ticket
abbrev pub same_playing : PlayerState → PlayerState → Bool
same_playing a b = same_state a.state b.state && (option_eq nat_eq a.current b.current && a.ticket == b.ticket)

-- that a change of it changed a row is told at its end alone
abbrev pub same_job : Job → Job → Bool
same_job a b = a.number == b.number && (option_eq bytes_eq a.place b.place && same_flag a.runs b.runs)

abbrev pub same_list : List ℕ × Uris → List ℕ × Uris → Bool
same_list a b = bytes_eq a.0 b.0 && same_uris a.1 b.1

abbrev pub same_lists : Stored → Stored → Bool
same_lists a b = pointwise same_list a b

abbrev pub same_sticker : Sticker → Sticker → Bool
same_sticker a b = bytes_eq a.uri b.uri && (bytes_eq a.name b.name && bytes_eq a.value b.value)

abbrev pub same_stickers : List Sticker → List Sticker → Bool
same_stickers a b = pointwise same_sticker a b

-- `database` changes at the end of a scan alone, which says so itself; `subscription` and `message` are none of the machine's
unfoldable pub changed : MachineState → MachineState → Subsystems
changed m n = record {
  database = false;
  update = not (same_job m.job n.job);
  stored_playlist = not (same_lists m.saved.lists n.saved.lists);
  playlist = not (m.saved.queue.version == n.saved.queue.version);
  player = not (same_playing m.player n.player);
  mixer = not (m.saved.volume == n.saved.volume);
  options = not (same_options m.saved.options n.saved.options);
  sticker = not (same_stickers m.saved.stickers n.saved.stickers);
  subscription = false;
  message = false;
}
