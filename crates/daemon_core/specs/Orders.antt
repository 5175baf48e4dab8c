-- What the player and the scans are to do.
use Rattle.std.specs.Prelude.{Bool, List, map, Option, Some, None, if◌then◌else◌}
use Rattle.machine_core.specs.State.{MachineState}
use Rattle.player_core.specs.Order.{order_of}
use Rattle.player_core.specs.declared.order.Order.{Order}
use Rattle.song_db.specs.Known.{known_in}
use Rattle.song_db.specs.Order.{Order as ScanOrder, without_stamp}
use Rattle.song_db.specs.Rules.{rules_of}
use Rattle.song_db.specs.declared.known_song.KnownSong.{KnownSong}

-- what the output is to do
abbrev pub play_order : MachineState → Order
play_order m = order_of m.saved.queue.entries m.saved.volume m.player

-- what is known of songs: no stamp for a job that opens every file
abbrev pub known_to : Bool → List KnownSong → List KnownSong
known_to opens_all known = if opens_all then map without_stamp known else known

-- what is to be read for the job: its place, by the rules of the profile, and the songs that have rows there
abbrev pub job_order : MachineState → ScanOrder
job_order m =
    let rules = rules_of m.saved.profile in
    record {
      job = m.job.number;
      uri = m.job.place;
      rules = rules;
      known = known_to m.job.opens_all (known_in rules m.saved.songs m.job.place);
    }

-- the order of the job that runs, if one does
abbrev pub scan_order : MachineState → Option ScanOrder
scan_order m = if m.job.runs then Some (job_order m) else None
